use Rattle.std.proofs.Common.{◌≡◌, take, map}
use Rattle.wasm_text.specs.declared.bad.TextBad.TheVariants.{Twice}
use Rattle.wat_resolve.specs.code.Noting.{noted}
use Rattle.wat_resolve.proofs.modules.note_starts.Given as goal

abbrev pub invariant-loop-start : goal.invariant-loop-start
invariant-loop-start l = l.found ≡ noted (map (λ x. Twice x.at) (take l.start-index l.starts)) l.initial.found
