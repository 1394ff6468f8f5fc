use Rattle.std.proofs.Common.{◌≡◌, take}
use Rattle.std.specs.Prelude.{flat_map}
use Rattle.wasm_text.specs.NameTroubles.{use_troubles}
use Rattle.wat_resolve.specs.code.Noting.{noted}
use Rattle.wat_resolve.proofs.modules.check_uses.Given as goal

abbrev pub invariant-loop-u : goal.invariant-loop-u
invariant-loop-u l = l.found ≡ noted (flat_map (use_troubles l.scope.types) (take l.u-index l.uses)) l.initial.found
