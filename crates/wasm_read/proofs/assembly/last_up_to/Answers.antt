use Rattle.std.proofs.Common.{◌∙◌, sym}
use Rattle.wasm_read.proofs.AssemblyLaws.{written_before}
use Rattle.wasm_read.proofs.assembly.last_up_to.Goals as goal

pub returns-else-is_written : goal.returns-else-is_written
returns-else-is_written c = written_before c.args.m.now c.args.slot c.args.before c.requires.some (sym c.is_written.ensures ∙ c.if-is_written.false) c.requires.known
