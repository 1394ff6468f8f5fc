use Rattle.std.proofs.Common.{map}
use Rattle.wasm_reduction.specs.Instantiation.{argument}
use Rattle.wasm_start.specs.code.Evaluations.{stack_of}
use Rattle.wasm_start.proofs.EvaluationLemmas.{LeadsTo}
use Rattle.wasm_start.proofs.constants.evaluate.Given as goal

abbrev pub invariant-loop-i : goal.invariant-loop-i
invariant-loop-i l = LeadsTo (map argument l.globals) l.instrs l.i-index (stack_of l.initial.stack.items) (stack_of l.stack.items)
