use Rattle.std.proofs.Common.{◌∙◌, ap, ℕ, arith}
use Rattle.wasm_ast.specs.declared.modules.Custom.{Custom}
use Rattle.wasm_read.proofs.AssemblyLaws.{last_of_any}
use Rattle.wasm_read.proofs.assembly.settled.Goals as goal

pub returns : goal.returns
returns c =
    ap (λ (slot : ℕ). let x : Custom = record { after = slot; name = c.args.custom.name; bytes = c.args.custom.bytes } in x)
    (c.requires c.min.result (omega (arith, c.min.ensures)) ∙ last_of_any c.args.m.now c.args.custom.after c.min.result c.min.ensures)
