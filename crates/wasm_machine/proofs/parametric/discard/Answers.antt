use Rattle.std.proofs.Common.{sym, arith}
use Rattle.std.proofs.lemmas.Option.{slice_get_within}
use Rattle.wasm_machine.specs.States.{own}
use Rattle.wasm_machine.proofs.NumericLaws.{own-within}
use Rattle.wasm_machine.proofs.ParametricLaws.{discard-stuck, discard-goes}
use Rattle.wasm_machine.proofs.parametric.discard.Goals as goal

pub discard-requires : goal.discard-requires
discard-requires g c = own-within c.args.s.now c.pass.new.self 1 c.pass.ensures (omega (arith, slice_get_within (own c.args.s.now) 0 c.in-Some.field-0 (sym c.in-Some.ensures)))

pub returns-in-None : goal.returns-in-None
returns-in-None g c = λ m. discard-stuck g.A.Algebra.holds g.A.Algebra.means g.A.Algebra.kind m c.args.a.now c.args.s.now c.in-None.ensures

pub returns-in-Some : goal.returns-in-Some
returns-in-Some g c = λ m. discard-goes g.A.Algebra.holds g.A.Algebra.means g.A.Algebra.kind m c.args.a.now c.args.s.now c.pass.new.self c.discard.new.self c.in-Some.field-0 c.requires.sane c.in-Some.ensures c.pass.ensures c.discard.ensures
