use Rattle.std.proofs.Common.{arith}
use Rattle.wasm_ast.specs.declared.types.ValType.TheVariants.{I32}
use Rattle.type_suffixes.proofs.NamedLists.{same-on, same-all}
use Rattle.type_suffixes.proofs.lists.same_list.Goals as goal

pub loop-i-preserved : goal.loop-i-preserved
loop-i-preserved c = (
  c.loop-i.invariant.0,
  same-on c.args.ts.now c.args.us.now c.loop-i.i I32 I32 c.loop-i.invariant.1 c.loop-i-test.true (omega (arith, c.loop-i-test.true, c.loop-i.invariant.0)) (c.same.ensures c.if-not-same.false),
)

pub returns : goal.returns
returns c = λ _. same-all c.args.ts.now c.args.us.now c.loop-i.i c.loop-i.invariant.0 c.loop-i.invariant.1 c.loop-i-test.false
