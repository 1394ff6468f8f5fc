use Rattle.std.proofs.Common.{◌≡◌, ◌≤◌, ◌<◌, Bool, Ok, Err, IfSome, sym, subst, arith}
use Rattle.std.proofs.lemmas.Result.{err_from_is_err_and, IfOk-weaker}
use Rattle.grammar_forms.specs.Forms.{checked}
use Rattle.wasm_binary.specs.Instructions.{Around, opcode, allowed}
use Rattle.wasm_read.specs.Refusals.{fault_of}
use Rattle.wasm_read.specs.Nests.{Answer, LeadsTo, around, rest, after}
use Rattle.wasm_read.proofs.NestLaws.{next_opcode, led_before, gone_on, opcode_later}
use Rattle.wasm_read.proofs.expressions.read_turn.Goals as goal

-- where the opcode is read, as the code holds it
abbrev context : Bool → Bool → Around
context has_data_count else_may_follow = record { has_data_count = has_data_count; else_may_follow = else_may_follow }

pub returns-in_err-op-clause-leads : goal.returns-in_err-op-clause-leads
returns-in_err-op-clause-leads c =
    let w = c.args.view.now in
    let n = c.args.nest.now in
    let has_data_count = c.args.has_data_count in
    let p = err_from_is_err_and c.from_residual.result c.from_residual.ensures.1 in
    let P : Bool → Type 0 = λ b. IfSome (fault_of c.in_err-op.field-0.0) (λ fault. (checked opcode (allowed (context has_data_count b))).read w c.args.at ≡ Err fault) in
    led_before (rest w has_data_count n c.args.at) ((checked opcode (allowed (around has_data_count n))).read w c.args.at) (λ op next. after w has_data_count n op next) w has_data_count n c.in_err-op.field-0.0 p.0 c.from_residual.result p.1 p.2
    (next_opcode w has_data_count n c.args.at) (subst P c.else_may_follow.ensures c.in_err-op.ensures.agrees)

pub returns-clause-leads : goal.returns-clause-leads
returns-clause-leads c =
    let w = c.args.view.now in
    let n = c.args.nest.now in
    let has_data_count = c.args.has_data_count in
    let P : Answer → Type 0 = λ given. LeadsTo given w has_data_count c.follow.new.nest c.follow.result in
    let Q : Bool → Type 0 = λ b. (checked opcode (allowed (context has_data_count b))).read w c.args.at ≡ Ok (c.in_ok-op.op, c.in_ok-op.next) in
    let e = gone_on (rest w has_data_count n c.args.at) ((checked opcode (allowed (around has_data_count n))).read w c.args.at) (λ op next. after w has_data_count n op next) c.in_ok-op.op c.in_ok-op.next (next_opcode w has_data_count n c.args.at) (subst Q c.else_may_follow.ensures c.in_ok-op.ensures.agrees) in
    subst P (sym e) c.follow.ensures.leads

pub returns-clause-further : goal.returns-clause-further
returns-clause-further c =
    let lt = opcode_later c.args.view.now (context c.args.has_data_count c.else_may_follow.result) c.args.at c.in_ok-op.op c.in_ok-op.next c.in_ok-op.ensures.agrees in
    IfOk-weaker c.follow.result (λ x. c.in_ok-op.next ≤ x.1) (λ x. c.args.at < x.1) (λ x le. omega (arith, lt, le)) c.follow.ensures.from
