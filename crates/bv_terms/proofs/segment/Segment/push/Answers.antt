use Rattle.std.proofs.Common.{◌≡◌, ℕ, Some, cond, length, sym, subst, arith}
use Rattle.std.specs.Prelude.{List, slice_get}
use Rattle.std.specs.declared.cmp.Reverse.{Reverse}
use Rattle.std.specs.BTreeMap.{get, is_at, Updates}
use Rattle.bv_terms.specs.declared.words.Form.{Form}
use Rattle.bv_terms.specs.declared.key.Key.{Key}
use Rattle.bv_terms.specs.code.Index.{key_cmp, IsIndexed}
use Rattle.bv_terms.proofs.IndexLemmas.{indexed-push, where_ok}
use Rattle.bv_terms.proofs.segment.Segment.push.Goals as goal

pub invariant_of-self-else-is_err : goal.invariant_of-self-else-is_err
invariant_of-self-else-is_err c =
    let place : c.len-place.result ≡ length c.self.inside.forms.items = omega (arith, c.len-place.ensures) in
    let updates : Updates key_cmp c.self.inside.places c.insert.new.self c.args.key (Some c.len-place.result) =
    where_ok c.insert.result (Updates key_cmp c.self.inside.places c.insert.new.self c.args.key (Some c.len-place.result)) (sym c.if-is_err.ensures.value) c.insert.ensures.updates in
    subst (λ (items : List Form). IsIndexed items c.insert.new.self) (sym c.in_ok-push.ensures.items)
    (indexed-push c.self.inside.forms.items c.args.form c.args.key c.self.inside.places c.insert.new.self c.self.invariant c.requires.key
    (subst (λ (forms : List Form). (i : ℕ) → slice_get forms i ≡ Some c.args.form → ⊥) (sym c.self.view_is) c.requires.absent)
    (subst (λ (n : ℕ). (q : Reverse Key) → get key_cmp c.insert.new.self q ≡ cond (is_at (key_cmp c.args.key) q) (Some n) (get key_cmp c.self.inside.places q)) place updates.0))
