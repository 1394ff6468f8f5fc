use Rattle.std.proofs.Common.{sym, ap, ◌∙◌, arith, subst}
use Rattle.std.specs.Prelude.{◌<◌, length}
use Rattle.std.proofs.lemmas.Option.{slice_get_within}
use Rattle.wasm_machine.specs.States.{own}
use Rattle.wasm_machine.proofs.NumericLaws.{own-within}
use Rattle.wasm_machine.proofs.VariableLaws.{set-lacks-global, global-lacks-value, global-set-goes}
use Rattle.wasm_machine.proofs.variables.global_set.Goals as goal

pub discard-requires : goal.discard-requires
discard-requires g c = own-within c.args.s.now c.pass.new.self 1 c.pass.ensures (omega (arith, slice_get_within (own c.args.s.now) 0 c.in-Some-operand.v (sym c.in-Some-operand.ensures)))

pub set_global-requires : goal.set_global-requires
set_global-requires g c = subst (λ l. c.args.x < length l) (sym (ap (λ s. s.globals) c.discard.ensures ∙ ap (λ s. s.globals) c.pass.ensures)) (slice_get_within c.args.s.now.globals c.args.x c.in-Some.field-0 (sym c.in-Some.ensures))

pub returns-in-None : goal.returns-in-None
returns-in-None g c = λ m. set-lacks-global g.A.Algebra.holds g.A.Algebra.means g.A.Algebra.kind m c.args.a.now c.args.s.now c.args.x c.in-None.ensures

pub returns-in-None-operand : goal.returns-in-None-operand
returns-in-None-operand g c = λ m. global-lacks-value g.A.Algebra.holds g.A.Algebra.means g.A.Algebra.kind m c.args.a.now c.args.s.now c.args.x c.in-Some.field-0 c.in-Some.ensures c.in-None-operand.ensures

pub returns-in-Some-operand : goal.returns-in-Some-operand
returns-in-Some-operand g c = λ m. global-set-goes g.A.Algebra.holds g.A.Algebra.means g.A.Algebra.kind m c.args.a.now c.args.s.now c.pass.new.self c.discard.new.self c.set_global.new.self c.args.x c.in-Some.field-0 c.in-Some-operand.v c.requires.sane c.in-Some.ensures c.in-Some-operand.ensures
    c.pass.ensures c.discard.ensures c.set_global.ensures
