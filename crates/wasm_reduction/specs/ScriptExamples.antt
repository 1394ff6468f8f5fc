-- Scripts of small modules.
use Rattle.std.specs.Prelude.{ℕ, List, [], ◌∷◌, Option, Some, None}
use Rattle.wasm_ast.specs.declared.types.ValType.TheVariants.{FuncRef as FuncRefType}
use Rattle.wasm_ast.specs.declared.instructions.Instr.{Instr}
use Rattle.wasm_ast.specs.declared.instructions.Instr.TheVariants.{Call, Const32, Num, TableGet, RefIsNull}
use Rattle.wasm_ast.specs.declared.modules.Module.{Module}
use Rattle.wasm_ast.specs.declared.runs.Cause.TheVariants.{Table}
use Rattle.wasm_ast.specs.declared.runs.Outcome.TheVariants.{Returns, Traps, Assumes, Bound}
use Rattle.wasm_ast.specs.declared.runs.Value.TheVariants.{I32}
use Rattle.wasm_reduction.specs.Configurations.{Test, Pick, Assume}
use Rattle.wasm_reduction.specs.Scripts.{Script, Finished, Asked, IsScript, After, Past, Alike, SameFirst}
use Rattle.wasm_reduction.specs.Examples.{limits, with_hosts, draw32, generated}

-- the module of host functions, with a table of two nulls
abbrev pub with_table : List Instr → Module
with_table code = record (with_hosts code) { tables = record { kind = FuncRefType; limits = limits 2 None } ∷ [] }

-- takes the element at the place that a symbol says, and answers whether it is null
abbrev pub looks_up : Module
looks_up = with_table (Call 0 ∷ TableGet 0 ∷ RefIsNull ∷ [])

-- assumes that a symbol isn't 0, and gives another
abbrev pub assumes : Module
assumes = with_hosts (Call 0 ∷ Call 2 ∷ Call 0 ∷ [])

abbrev pub HasScript : Module → List ℕ → Script → Type 0
HasScript m input s = IsScript m 4 [] input 100 s

-- at the input 1: the place is tested to be past the end, which it isn't, and picked
abbrev pub looked_up : Script
looked_up = Asked Test 0 (draw32 1 ∷ []) (Asked Pick 1 (draw32 1 ∷ []) (Finished (Returns (I32 1 ∷ [])) (draw32 1 ∷ [])))

-- at the input 5, 8
abbrev pub assumed : Script
assumed = Asked Assume 5 (draw32 5 ∷ []) (Finished (Returns (I32 8 ∷ [])) (draw32 5 ∷ draw32 8 ∷ []))

pub record ScriptExamples : Type 0 where
  pub place_within : HasScript looks_up (1 ∷ []) looked_up
  pub place_past_the_end : HasScript looks_up (5 ∷ []) (Asked Test 1 (draw32 5 ∷ []) (Finished (Traps Table) (draw32 5 ∷ [])))
  pub assumption_holds : HasScript assumes (5 ∷ 8 ∷ []) assumed
  pub assumption_fails : HasScript assumes (0 ∷ 8 ∷ []) (Asked Assume 0 (draw32 0 ∷ []) (Finished Assumes (draw32 0 ∷ [])))
  pub no_unit_left : IsScript looks_up 4 [] (1 ∷ []) 2 (Asked Test 0 (draw32 1 ∷ []) (Asked Pick 1 (draw32 1 ∷ []) (Finished Bound (draw32 1 ∷ []))))
  pub branch : IsScript generated 1 [] (5 ∷ []) 1000 (Asked Test 0 (draw32 5 ∷ []) (Finished (Returns (I32 0 ∷ [])) (draw32 5 ∷ [])))
  pub past_two_answers : Past (0 ∷ 1 ∷ []) looked_up (Finished (Returns (I32 1 ∷ [])) (draw32 1 ∷ []))
  pub past_an_assumption : Past (1 ∷ []) assumed (Finished (Returns (I32 8 ∷ [])) (draw32 5 ∷ draw32 8 ∷ []))
  pub after_other_answers : (left : Script) → After (1 ∷ []) looked_up left → ⊥
  pub after_no_assumption : (left : Script) → Past (0 ∷ []) (Asked Assume 0 (draw32 0 ∷ []) (Finished Assumes (draw32 0 ∷ []))) left → ⊥
  pub alike : Alike assumed (Asked Assume 6 (draw32 6 ∷ []) (Finished Bound (draw32 6 ∷ [])))
  pub unlike : Alike looked_up assumed → ⊥
  pub other_number : SameFirst assumed (Asked Assume 6 (draw32 6 ∷ []) (Finished Bound (draw32 6 ∷ []))) → ⊥
