use Rattle.std.proofs.Common.{◌≡◌, take, ◌+◌}
use Rattle.clause_solver.specs.Answers.{assignment_of}
use Rattle.bit_blast.specs.Formulas.{symbols_end}
use Rattle.bit_blast.specs.Meanings.{input_of}
use Rattle.path_ask.proofs.inputs.input.Given as goal

abbrev pub invariant-loop-wide : goal.invariant-loop-wide
invariant-loop-wide l = record {
  place : l.at + 1 ≡ symbols_end 2 (take l.wide-index l.draws);
  so_far : l.input ≡ input_of (assignment_of l.values) (take l.wide-index l.draws);
}
