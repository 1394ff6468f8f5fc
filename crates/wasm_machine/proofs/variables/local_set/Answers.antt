use Rattle.std.proofs.Common.{sym, ap, ◌∙◌, arith}
use Rattle.std.proofs.lemmas.Option.{slice_get_within}
use Rattle.wasm_machine.specs.States.{own}
use Rattle.wasm_machine.proofs.NumericLaws.{own-within}
use Rattle.wasm_machine.proofs.VariableLaws.{set-lacks-local, set-lacks-value, set-goes, local-within}
use Rattle.wasm_machine.proofs.variables.local_set.Goals as goal

pub discard-requires : goal.discard-requires
discard-requires g c = own-within c.args.s.now c.pass.new.self 1 c.pass.ensures (omega (arith, slice_get_within (own c.args.s.now) 0 c.in-Some-operand.v (sym c.in-Some-operand.ensures)))

pub set_local-requires : goal.set_local-requires
set_local-requires g c = local-within c.args.s.now c.discard.new.self c.args.x c.in-Some.field-0 c.in-Some.ensures
    (ap (λ s. s.locals) c.discard.ensures ∙ ap (λ s. s.locals) c.pass.ensures) (ap (λ s. s.frame.base) c.discard.ensures ∙ ap (λ s. s.frame.base) c.pass.ensures)

pub returns-in-None : goal.returns-in-None
returns-in-None g c = λ m. set-lacks-local g.A.Algebra.holds g.A.Algebra.means g.A.Algebra.kind m c.args.a.now c.args.s.now c.args.x c.in-None.ensures

pub returns-in-None-operand : goal.returns-in-None-operand
returns-in-None-operand g c = λ m. set-lacks-value g.A.Algebra.holds g.A.Algebra.means g.A.Algebra.kind m c.args.a.now c.args.s.now c.args.x c.in-Some.field-0 c.in-Some.ensures c.in-None-operand.ensures

pub returns-in-Some-operand : goal.returns-in-Some-operand
returns-in-Some-operand g c = λ m. set-goes g.A.Algebra.holds g.A.Algebra.means g.A.Algebra.kind m c.args.a.now c.args.s.now c.pass.new.self c.discard.new.self c.set_local.new.self c.args.x c.in-Some.field-0 c.in-Some-operand.v c.requires.sane c.in-Some.ensures c.in-Some-operand.ensures
    c.pass.ensures c.discard.ensures c.set_local.ensures
