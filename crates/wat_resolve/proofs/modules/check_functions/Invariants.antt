use Rattle.std.proofs.Common.{◌≡◌, take}
use Rattle.std.specs.Prelude.{flat_map}
use Rattle.wasm_text.specs.NameTroubles.{unknown}
use Rattle.wat_resolve.specs.code.Noting.{noted}
use Rattle.wat_resolve.proofs.modules.check_functions.Given as goal

abbrev pub invariant-loop-start : goal.invariant-loop-start
invariant-loop-start l = l.found ≡ noted (flat_map (λ x. unknown l.scope.types.text l.scope.names.funcs x.func) (take l.start-index l.starts)) l.initial.found
