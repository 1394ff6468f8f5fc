use Rattle.std.proofs.Common.{◌≡◌, ◌∷◌, ◌++◌, [], false, length, arith, sym, ap, ◌∙◌, subst}
use Rattle.refute_check.specs.Resolution.{has}
use Rattle.clause_solver.specs.code.Literals.{IsStored, present}
use Rattle.clause_solver.proofs.Storing.{stored_longer, stored_push, present_push}
use Rattle.clause_solver.proofs.literals.Literals.put.Goals as goal

pub invariant_of-self : goal.invariant_of-self
invariant_of-self c = stored_longer c.self.inside.slots.items c.self.inside.places.items c.make_long.new.places.items c.self.inside.many c.self.invariant c.make_long.ensures.kept

pub invariant_of-self-in_err-push : goal.invariant_of-self-in_err-push
invariant_of-self-in_err-push c = subst (λ ss. IsStored ss c.make_long.new.places.items c.self.inside.many) (sym c.in_err-push.ensures.items)
    (stored_longer c.self.inside.slots.items c.self.inside.places.items c.make_long.new.places.items c.self.inside.many c.self.invariant c.make_long.ensures.kept)

pub invariant_of-self-2 : goal.invariant_of-self-2
invariant_of-self-2 c =
    let free : has (present c.self.inside.slots.items) c.args.literal ≡ false = ap (λ xs. has xs c.args.literal) c.self.view_is ∙ c.requires in
    let stored = stored_longer c.self.inside.slots.items c.self.inside.places.items c.make_long.new.places.items c.self.inside.many c.self.invariant c.make_long.ensures.kept in
    let place : c.len-place.result ≡ length c.self.inside.slots.items = omega (arith, c.len-place.ensures, c.self.inside.slots.ok.0) in
    rw (c.in_ok-push.ensures.items, place) (stored_push c.self.inside.slots.items c.make_long.new.places.items c.self.inside.many c.args.literal stored free c.in_ok-make_long.ensures.long)

pub returns : goal.returns
returns c = ap (λ ss. present ss) c.in_ok-push.ensures.items ∙ present_push c.self.inside.slots.items c.args.literal ∙ ap (λ xs. xs ++ c.args.literal ∷ []) c.self.view_is
