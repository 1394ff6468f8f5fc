use Rattle.std.proofs.Common.{◌≡◌, drop}
use Rattle.wasm_text.specs.Uses.{types_with}
use Rattle.wat_resolve.proofs.modules.types_of.Given as goal

-- what is left appends to the types so far what all append
abbrev pub invariant-loop-u : goal.invariant-loop-u
invariant-loop-u l = types_with l.types (drop l.u-index l.uses) ≡ types_with l.written l.uses
