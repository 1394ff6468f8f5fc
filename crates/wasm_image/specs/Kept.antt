-- What an image keeps beside its module, and what an export says. No public contract speaks of these.
use Rattle.std.specs.Prelude.{◌≡◌, ℕ, List, Option, MatchOption}
use Rattle.std.specs.List.{AllZip}
use Rattle.wasm_ast.specs.declared.modules.Space.TheVariants.{Func as FuncSpace}
use Rattle.wasm_ast.specs.declared.modules.Export.{Export}
use Rattle.wasm_ast.specs.declared.modules.Import.{Import}
use Rattle.wasm_ast.specs.declared.modules.Module.{Module}
use Rattle.wasm_image.specs.declared.hosts.Host.{Host}
use Rattle.wasm_image.specs.Functions.{imported_functions}
use Rattle.wasm_image.specs.Hosts.{IsHost, IsLinked}

-- which host function the import is, if any
abbrev pub IsHostOf : Module → Import → Option Host → Type 0
IsHostOf m i found = MatchOption found (¬ IsLinked m i) (IsHost m i)

-- for each imported function, which host function it is
abbrev pub AreHosts : Module → List (Option Host) → Type 0
AreHosts m hosts = AllZip (IsHostOf m) (imported_functions m) hosts

-- the export is of a function, by this name
pub record ExportsFunction (text : List ℕ) (e : Export) : Type 0 where
  pub name : e.name ≡ text
  pub space : e.space ≡ FuncSpace
