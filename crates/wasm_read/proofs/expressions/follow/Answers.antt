use Rattle.std.proofs.Common.{◌≡◌, true, false, ℕ, ap, sym, subst, ◌∙◌}
use Rattle.std.specs.Prelude.{◌==◌}
use Rattle.std.proofs.lemmas.Result.{err_from_is_err_and}
use Rattle.wasm_ast.specs.Opcodes.{is_from}
use Rattle.wasm_ast.specs.declared.types.BlockType.{BlockType}
use Rattle.wasm_ast.specs.declared.instructions.Instr.{Instr}
use Rattle.wasm_binary.specs.Types.{block_type}
use Rattle.wasm_binary.specs.Instructions.{Opcode, plain}
use Rattle.wasm_binary.proofs.GrammarLaws.{plain_lawful}
use Rattle.wasm_read.specs.declared.enclosing.Opener.{Opener}
use Rattle.wasm_read.specs.Nests.{Nest, IsNest, Answer, opener_for, opened, pushed, closed, rest, after, turned}
use Rattle.wasm_read.proofs.NestLaws.{enters, plains, leaves, led_before, gone_on, not_before, closed_is_nest}
use Rattle.wasm_read.proofs.expressions.follow.Goals as goal

pub returns-in_err-ty-clause-leads : goal.returns-in_err-ty-clause-leads
returns-in_err-ty-clause-leads c =
    let w = c.args.view.now in
    let n = c.args.nest.now in
    let op = c.args.op.now in
    let p = err_from_is_err_and c.from_residual.result c.from_residual.ensures.1 in
    let opens : is_from 2 4 op.first ≡ true = ap (λ (o : Opcode). is_from 2 4 o.first) (sym c.op.view_is) ∙ sym c.if-opens_sequence.ensures in
    let then_on : BlockType → ℕ → Answer = λ ty next. rest w c.args.has_data_count (opened (opener_for op.first ty) n) next in
    led_before (after w c.args.has_data_count n op c.args.at) (block_type.read w c.args.at) then_on w c.args.has_data_count n c.in_err-ty.field-0.0 p.0 c.from_residual.result p.1 p.2
    (enters w c.args.has_data_count n op c.args.at c.requires.nest.inner opens) c.in_err-ty.ensures.agrees

pub returns-then-opens_sequence-clause-leads : goal.returns-then-opens_sequence-clause-leads
returns-then-opens_sequence-clause-leads c =
    let w = c.args.view.now in
    let n = c.args.nest.now in
    let op = c.args.op.now in
    let ty = c.in_ok-ty.ty in
    let next = c.in_ok-ty.at in
    let first_is : c.op.inside.first ≡ op.first = ap (λ (o : Opcode). o.first) c.op.view_is in
    let opens : is_from 2 4 op.first ≡ true = ap (λ (o : Opcode). is_from 2 4 o.first) (sym c.op.view_is) ∙ sym c.if-opens_sequence.ensures in
    let then_on : BlockType → ℕ → Answer = λ ty next. rest w c.args.has_data_count (opened (opener_for op.first ty) n) next in
    let opener_is = c.opener.ensures ∙ ap (λ b. opener_for b ty) first_is in
    let new_is = c.in_ok-open.ensures.opened ∙ ap (λ (o : Opener). opened o n) opener_is in
    gone_on (after w c.args.has_data_count n op c.args.at) (block_type.read w c.args.at) then_on ty next
    (enters w c.args.has_data_count n op c.args.at c.requires.nest.inner opens) c.in_ok-ty.ensures.agrees
    ∙ ap (λ (m : Nest). rest w c.args.has_data_count m next) (sym new_is)

pub returns-then-ends_sequence-clause-leads : goal.returns-then-ends_sequence-clause-leads
returns-then-ends_sequence-clause-leads c =
    let w = c.args.view.now in
    let n = c.args.nest.now in
    let op = c.args.op.now in
    let new_is = c.in_ok-over.ensures.closed ∙ ap (λ (o : Opcode). closed (o.first == 0x05) n) c.op.view_is in
    leaves w c.args.has_data_count n op c.args.at (sym c.if-ends_sequence.ensures)
    ∙ ap (λ b. turned w c.args.has_data_count (closed (op.first == 0x05) n) b c.args.at) (sym c.in_ok-over.ensures.over)
    ∙ ap (λ (m : Nest). turned w c.args.has_data_count m c.in_ok-over.over c.args.at) (sym new_is)

pub returns-then-ends_sequence-clause-nest : goal.returns-then-ends_sequence-clause-nest
returns-then-ends_sequence-clause-nest c = subst IsNest (sym c.in_ok-over.ensures.closed) (closed_is_nest (c.op.inside.first == 0x05) c.args.nest.now c.requires.nest)

pub returns-in_err-instr-clause-leads : goal.returns-in_err-instr-clause-leads
returns-in_err-instr-clause-leads c =
    let w = c.args.view.now in
    let n = c.args.nest.now in
    let op = c.args.op.now in
    let p = err_from_is_err_and c.from_residual-in_err-instr.result c.from_residual-in_err-instr.ensures.1 in
    let not_opens : is_from 2 4 op.first ≡ false = ap (λ (o : Opcode). is_from 2 4 o.first) (sym c.op.view_is) ∙ sym c.if-opens_sequence.ensures in
    let then_on : Instr → ℕ → Answer = λ instr next. rest w c.args.has_data_count (pushed instr n) next in
    led_before (after w c.args.has_data_count n op c.args.at) ((plain op).read w c.args.at) then_on w c.args.has_data_count n c.in_err-instr.field-0.0 p.0 c.from_residual-in_err-instr.result p.1 p.2
    (plains w c.args.has_data_count n op c.args.at c.requires.nest.inner not_opens (sym c.if-ends_sequence.ensures)) c.in_err-instr.ensures.agrees

pub returns-clause-leads : goal.returns-clause-leads
returns-clause-leads c =
    let w = c.args.view.now in
    let n = c.args.nest.now in
    let op = c.args.op.now in
    let not_opens : is_from 2 4 op.first ≡ false = ap (λ (o : Opcode). is_from 2 4 o.first) (sym c.op.view_is) ∙ sym c.if-opens_sequence.ensures in
    let then_on : Instr → ℕ → Answer = λ instr next. rest w c.args.has_data_count (pushed instr n) next in
    gone_on (after w c.args.has_data_count n op c.args.at) ((plain op).read w c.args.at) then_on c.in_ok-instr.instr c.in_ok-instr.at
    (plains w c.args.has_data_count n op c.args.at c.requires.nest.inner not_opens (sym c.if-ends_sequence.ensures)) c.in_ok-instr.ensures.agrees
    ∙ ap (λ (m : Nest). rest w c.args.has_data_count m c.in_ok-instr.at) (sym c.in_ok-push.ensures)

pub returns-clause-from : goal.returns-clause-from
returns-clause-from c = not_before (plain c.args.op.now) (λ k. plain_lawful k c.args.op.now) c.args.view.now c.args.at c.in_ok-instr.instr c.in_ok-instr.at c.in_ok-instr.ensures.agrees
