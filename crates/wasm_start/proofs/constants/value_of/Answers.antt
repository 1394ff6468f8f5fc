use Rattle.std.proofs.Common.{map}
use Rattle.wasm_reduction.specs.Instantiation.{argument}
use Rattle.wasm_start.specs.code.Evaluations.{stack_of}
use Rattle.wasm_start.proofs.EvaluationLemmas.{value-lacks, value-only}
use Rattle.wasm_start.proofs.constants.value_of.Goals as goal

pub returns-then-not-branch : goal.returns-then-not-branch
returns-then-not-branch c =
    value-lacks (map argument c.args.globals.now) c.args.e.now c.in-Some.instrs.now c.as_slice.result.now c.new-stack.result.items c.in-Some.ensures c.as_slice.ensures c.new-stack.ensures.items
    c.in_ok-evaluate.field-0 (stack_of c.evaluate.new.stack.items) c.in_ok-evaluate.ensures c.if-not-branch.true

pub returns : goal.returns
returns c =
    value-only (map argument c.args.globals.now) c.args.e.now c.in-Some.instrs.now c.as_slice.result.now c.new-stack.result.items c.in-Some.ensures c.as_slice.ensures c.new-stack.ensures.items
    c.in_ok-evaluate.field-0 c.evaluate.new.stack.items c.as_slice-2.result.now c.only_value.result c.in_ok-evaluate.ensures c.if-not-branch.false c.as_slice-2.ensures.value c.only_value.ensures
