use Rattle.std.specs.Prelude.{slice_get}
use Rattle.std.proofs.Common.{ap, sym, ◌∙◌}
use Rattle.type_suffixes.proofs.Trees.{first_get}
use Rattle.type_suffixes.proofs.words.Words.empty.Goals as goal

pub returns : goal.returns
returns c = ap (λ all. slice_get all 0) (sym c.self.view_is) ∙ first_get _ c.self.invariant
