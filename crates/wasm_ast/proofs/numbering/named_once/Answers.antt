use Rattle.std.proofs.Common.{arith}
use Rattle.std.proofs.lemmas.Bool.Decides.{nat_tests}
use Rattle.wasm_ast.proofs.NamedOnce.{times_named-is}
use Rattle.wasm_ast.proofs.numbering.named_once.Goals as goal

pub returns-clause-once : goal.returns-clause-once
returns-clause-once c = λ n above within. let is = times_named-is c.args.seqs.now n c.requires in grind (arith, nat_tests)

pub returns-clause-outermost : goal.returns-clause-outermost
returns-clause-outermost c = let is = times_named-is c.args.seqs.now 0 c.requires in grind (arith, nat_tests)

pub returns-clause-no_other : goal.returns-clause-no_other
returns-clause-no_other c = λ n beyond. let is = times_named-is c.args.seqs.now n c.requires in grind (arith, nat_tests)
