use Rattle.std.proofs.Common.{◌≡◌, length, take}
use Rattle.wasm_run.specs.code.Pages.{Writes}
use Rattle.wasm_run.proofs.bytes.write_words.Given as goal

abbrev pub invariant-loop-i : goal.invariant-loop-i
invariant-loop-i l = (length l.pages ≡ length l.initial.pages) × Writes l.initial.pages l.at (take l.i l.words) l.pages
