-- Modules that are told without their custom sections, and custom sections that are passed over.
use Rattle.std.specs.Prelude.{◌≡◌, ℕ, List, [], ◌∷◌, ◌++◌, Bool, true, false, Result, Ok, Err, MatchResult, IfSome}
use Rattle.wasm_ast.specs.declared.modules.Custom.{Custom}
use Rattle.wasm_ast.specs.declared.modules.Module.{Module}
use Rattle.wasm_binary.specs.Faults.{Fault}
use Rattle.wasm_binary.specs.Modules.{Sections}
use Rattle.wasm_read.specs.declared.bad.ReadBad.{ReadBad}
use Rattle.wasm_read.specs.Refusals.{fault_of}

-- the module without its custom sections
abbrev pub stripped : Module → Module
stripped m = record m { customs = [] }

-- the module as it is told, where its custom sections are kept and where they aren't
abbrev pub told : Bool → Module → Module
told true m = m
told false m = stripped m

-- of all custom sections these were kept
abbrev pub Keeps : Bool → List Custom → List Custom → Type 0
Keeps true all kept = kept ≡ all
Keeps false all kept = kept ≡ []

-- A custom section more was passed over: it is there, and only the place after it is told; or its trouble is.
abbrev pub Passes : Sections → Result (Sections × ℕ) Fault → Result ℕ ReadBad → Type 0
Passes s given answer =
    MatchResult answer (λ next. (c : Custom) × (given ≡ Ok (record s { customs = s.customs ++ c ∷ [] }, next)))
    (λ bad. IfSome (fault_of bad) (λ fault. given ≡ Err fault))
