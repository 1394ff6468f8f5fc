use Rattle.std.proofs.Common.{◌∙◌}
use Rattle.wasm_read.proofs.AssemblyLaws.{funcs_are}
use Rattle.wasm_read.proofs.assembly.funcs_of.Goals as goal

pub returns : goal.returns
returns c = c.new.ensures ∙ c.in_ok-funcs.ensures ∙ funcs_are c.args.types.now c.args.codes.items
