use Rattle.std.proofs.Common.{◌++◌, ◌∷◌, [], ◌∙◌, ap, refl, subst, sym, arith}
use Rattle.type_suffixes.specs.code.Spans.{lists_of, AreBegun}
use Rattle.type_suffixes.proofs.Spans.{on_err, begun_same, lists_same, begun_kept, lists_kept, begun_push, lists_push}
use Rattle.type_suffixes.proofs.endings.Endings.add.Goals as goal

pub invariant_of-self : goal.invariant_of-self
invariant_of-self c = begun_same _ _ _ _ c.self.invariant c.spell.ensures.kept

pub returns-in_err-spell-clause-refused : goal.returns-in_err-spell-clause-refused
returns-in_err-spell-clause-refused c = on_err _ _ (lists_same _ _ _ _ c.self.invariant c.spell.ensures.kept ∙ c.self.view_is)

pub invariant_of-self-in_err-extend_from_slice : goal.invariant_of-self-in_err-extend_from_slice
invariant_of-self-in_err-extend_from_slice c =
    subst (λ ns. AreBegun c.spell.new.self ns c.self.inside.spans.items) (sym c.in_err-extend_from_slice.ensures.items) (begun_same _ _ _ _ c.self.invariant c.spell.ensures.kept)

pub returns-in_err-extend_from_slice-clause-refused : goal.returns-in_err-extend_from_slice-clause-refused
returns-in_err-extend_from_slice-clause-refused c =
    on_err _ _ (ap (λ ns. lists_of c.spell.new.self ns c.self.inside.spans.items) c.in_err-extend_from_slice.ensures.items ∙ lists_same _ _ _ _ c.self.invariant c.spell.ensures.kept ∙ c.self.view_is)

pub invariant_of-self-in_err-push : goal.invariant_of-self-in_err-push
invariant_of-self-in_err-push c =
    subst (λ spans. AreBegun c.spell.new.self c.extend_from_slice.new.self.items spans) (sym c.in_err-push.ensures.items)
    (begun_kept _ _ _ _ _ _ c.self.invariant c.spell.ensures.kept c.in_ok-extend_from_slice.ensures.items)

pub returns-in_err-push-clause-refused : goal.returns-in_err-push-clause-refused
returns-in_err-push-clause-refused c =
    on_err _ _ (ap (λ spans. lists_of c.spell.new.self c.extend_from_slice.new.self.items spans) c.in_err-push.ensures.items ∙
    lists_kept _ _ _ _ _ _ c.self.invariant c.spell.ensures.kept c.in_ok-extend_from_slice.ensures.items ∙ c.self.view_is)

pub invariant_of-self-2 : goal.invariant_of-self-2
invariant_of-self-2 c =
    begun_push _ _ _ _ _ _ _ _ _ _ c.self.invariant c.spell.ensures.kept c.clear.ensures.items c.in_ok-spell.ensures.spelled (omega arith) refl
    (c.in_ok-extend_from_slice.ensures.items ∙ ap (λ ns. c.self.inside.numbers.items ++ ns) c.as_slice.ensures.value) c.in_ok-push.ensures.items

pub returns-clause-added : goal.returns-clause-added
returns-clause-added c =
    lists_push _ _ _ _ _ _ _ _ _ _ c.self.invariant c.spell.ensures.kept c.clear.ensures.items c.in_ok-spell.ensures.spelled (omega arith) refl
    (c.in_ok-extend_from_slice.ensures.items ∙ ap (λ ns. c.self.inside.numbers.items ++ ns) c.as_slice.ensures.value) c.in_ok-push.ensures.items ∙
    ap (λ lists. lists ++ c.args.types.now ∷ []) c.self.view_is
