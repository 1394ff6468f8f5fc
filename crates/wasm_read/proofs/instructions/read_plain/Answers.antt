use Rattle.std.proofs.Common.{ℕ, Result, ap, sym, subst, ◌∙◌, rules}
use Rattle.wasm_ast.specs.declared.instructions.Instr.{Instr}
use Rattle.wasm_binary.specs.Faults.{Fault}
use Rattle.wasm_binary.specs.Instructions.{plain}
use Rattle.wasm_read.specs.Views.{Agrees}
use Rattle.wasm_read.proofs.AccessLaws.{IsElsewhere, plain_access}
use Rattle.wasm_read.proofs.instructions.read_plain.Goals as goal

pub returns-in_default-clause-agrees : goal.returns-in_default-clause-agrees
returns-in_default-clause-agrees c =
    let h : IsElsewhere c.op.inside.first = record {
      not_unreachable = search rules;
      not_nop = search rules;
      no_branch = sym c.if-is_from.ensures;
      not_parametric = sym c.if-is_from-2.ensures;
      no_variable = sym c.if-is_from-3.ensures;
      no_constant = sym c.if-is_from-4.ensures;
      no_reference = sym c.if-is_from-5.ensures;
      not_more = search rules;
    } in
    let P : Result (Instr × ℕ) Fault → Type 0 = λ given. Agrees given c.read_access.result in
    let e = ap (λ op. (plain op).read c.args.view.now c.args.at) (sym c.op.view_is) ∙ plain_access c.op.inside.first c.op.inside.second c.args.view.now c.args.at h in
    subst P (sym e) c.read_access.ensures.agrees
