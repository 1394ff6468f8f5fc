use Rattle.std.proofs.Common.{◌≡◌, ◌++◌, replicate}
use Rattle.wasm_run.specs.code.Pages.{fresh}
use Rattle.wasm_run.proofs.bytes.add_pages.Given as goal

abbrev pub invariant-loop : goal.invariant-loop
invariant-loop l = l.pages.items ≡ l.initial.pages.items ++ replicate l.counter fresh
