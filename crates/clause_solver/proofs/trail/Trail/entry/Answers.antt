use Rattle.std.proofs.Common.{◌∙◌, sym, ap, arith}
use Rattle.std.specs.Prelude.{reverse}
use Rattle.std.proofs.lemmas.List.{length-reverse}
use Rattle.refute_check.specs.Machine.{entry_of}
use Rattle.clause_solver.proofs.Places.{entry_none, entry_some, place_small}
use Rattle.clause_solver.proofs.trail.Trail.entry.Goals as goal

pub returns-then-place-eq0 : goal.returns-then-place-eq0
returns-then-place-eq0 c =
    sym (entry_none (reverse c.self.inside.entries.items) c.args.variable (sym (c.self.invariant.found c.args.variable) ∙ sym c.place_in-place.ensures ∙ c.if-place-eq0.true))
    ∙ ap (λ t. entry_of t c.args.variable) c.self.view_is

pub index-requires : goal.index-requires
index-requires c = omega (arith, place_small (reverse c.self.inside.entries.items) c.args.variable, c.self.invariant.found c.args.variable, c.place_in-place.ensures, length-reverse c.self.inside.entries.items, c.self.inside.entries.ok.0)

pub returns : goal.returns
returns c =
    entry_some c.self.inside.entries.items c.args.variable c.place_in-place.result c.index.result.now (c.place_in-place.ensures ∙ c.self.invariant.found c.args.variable) c.if-place-eq0.false c.index.ensures
    ∙ ap (λ t. entry_of t c.args.variable) c.self.view_is
