use Rattle.std.proofs.Common.{◌∙◌}
use Rattle.wasm_start.proofs.StartLemmas.{values_kept}
use Rattle.wasm_start.proofs.start.machine_of.Goals as goal

pub returns-clause-operands : goal.returns-clause-operands
returns-clause-operands g c =
    (values_kept g.A.Algebra.holds g.A.Algebra.means c.words_of.new.a c.words_of-2.new.a c.in_ok-globals.ensures.kept c.in_ok-operands.operands.items c.in_ok-operands.ensures.held).1
    ∙ c.in_ok-operands.ensures.means

pub returns-clause-operands_held : goal.returns-clause-operands_held
returns-clause-operands_held g c =
    (values_kept g.A.Algebra.holds g.A.Algebra.means c.words_of.new.a c.words_of-2.new.a c.in_ok-globals.ensures.kept c.in_ok-operands.operands.items c.in_ok-operands.ensures.held).0
