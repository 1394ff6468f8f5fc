use Rattle.std.proofs.Common.{◌≡◌, Some, None, ap, sym, ◌∙◌, subst, length, cond, ℕ, arith, false}
use Rattle.std.specs.Prelude.{nat_eq, is_some}
use Rattle.std.specs.HashMap.{get, Updates}
use Rattle.bit_blast.specs.code.Tasks.{IsPlaced, place_of}
use Rattle.bit_blast.proofs.WalkLemmas.{placed-last, where_ok, none_where}
use Rattle.bit_blast.proofs.order.Order.put.Goals as goal

pub invariant_of-self-else-is_err : goal.invariant_of-self-else-is_err
invariant_of-self-else-is_err c =
    let terms = c.self.inside.terms.items in
    let there : is_some c.place.result ≡ false = sym c.is_some.ensures ∙ c.if-is_some.false in
    let absent : place_of terms c.args.t ≡ None =
    none_where (place_of terms c.args.t) (ap (λ xs. is_some (place_of xs c.args.t)) c.self.view_is ∙ ap (λ p. is_some p) (sym c.place.ensures.place) ∙ there) in
    let place : c.len-place.result ≡ length terms = omega (arith, c.len-place.ensures) in
    let updates : Updates nat_eq c.self.inside.places c.insert.new.self c.args.t (Some c.len-place.result) =
    where_ok c.insert.result (Updates nat_eq c.self.inside.places c.insert.new.self c.args.t (Some c.len-place.result)) (sym c.if-is_err.ensures.value) c.insert.ensures.updates in
    subst (λ items. IsPlaced items c.insert.new.self) (sym c.in_ok-push.ensures.items)
    (placed-last terms c.args.t c.self.inside.places c.insert.new.self c.self.invariant absent
    (subst (λ m. (other : ℕ) → get nat_eq c.insert.new.self other ≡ cond (nat_eq c.args.t other) (Some m) (get nat_eq c.self.inside.places other)) place updates.0))
