use Rattle.std.proofs.Common.{◌≡◌, ◌/◌, ap, arith}
use Rattle.std.specs.Prelude.{reverse}
use Rattle.refute_check.specs.Clauses.{variable_of}
use Rattle.clause_solver.proofs.Places.{placed_last, placed_within, placed_off}
use Rattle.clause_solver.proofs.trail.Trail.take_off.Goals as goal

pub index_mut-requires : goal.index_mut-requires
index_mut-requires c =
    let placed = placed_last c.self.inside.entries.items c.pop.new.self.items c.in-Some.entry c.self.inside.places.items c.in-Some.ensures.items c.self.invariant in
    let same : c.entry.inside.literal / 2 ≡ variable_of c.in-Some.entry.literal = ap (λ e. variable_of e.literal) c.entry.view_is in
    omega (arith, placed_within (reverse c.pop.new.self.items) c.self.inside.places.items c.in-Some.entry placed, same, c.self.inside.places.ok.0)

pub invariant_of-self : goal.invariant_of-self
invariant_of-self c =
    let placed = placed_last c.self.inside.entries.items c.pop.new.self.items c.in-Some.entry c.self.inside.places.items c.in-Some.ensures.items c.self.invariant in
    let same : c.entry.inside.literal / 2 ≡ variable_of c.in-Some.entry.literal = ap (λ e. variable_of e.literal) c.entry.view_is in
    let within = placed_within (reverse c.pop.new.self.items) c.self.inside.places.items c.in-Some.entry placed in
    placed_off (reverse c.pop.new.self.items) c.self.inside.places.items c.in-Some.entry (c.entry.inside.literal / 2) placed same (omega (arith, within, same))
