-- Laws of bounds: what the state of the machine tells of the configuration that it stands for.
use Rattle.std.proofs.Common.{◌≡◌, ℕ, zero, suc, ◌<◌, ◌≤◌, List, [], ◌∷◌, drop, length, reverse, refl, sym, ap, ◌∙◌, arith}
use Rattle.std.specs.Prelude.{Bool, true, false, ◌&&◌, nat_lt, nat_le, slice_get, is_some, MatchOption, Option, Some, None}
use Rattle.std.proofs.lemmas.List.{length-reverse}
use Rattle.std.proofs.lemmas.Bool.Decides.{nat_tests}
use Rattle.wasm_ast.specs.declared.instructions.Instr.{Instr}
use Rattle.wasm_ast.specs.declared.modules.Module.{Module}
use Rattle.wasm_reduction.specs.Configurations.{Value, Frame}
use Rattle.wasm_reduction.specs.Runs.{is_due}
use Rattle.wasm_machine.specs.declared.machine.Label.{Label as CodeLabel}
use Rattle.wasm_machine.specs.declared.machine.Frame.{Frame as CodeFrame}
use Rattle.wasm_machine.specs.declared.values.Value.{Value as CodeValue}
use Rattle.wasm_machine.specs.Configurations.{frames_of, configuration}
use Rattle.wasm_machine.specs.States.{State}

frames-count : {W : Type 0} (m : Module) (entry : ℕ) (ps : List CodeFrame) (labels : List CodeLabel) (ops locals : List (Value W)) → length (frames_of m entry ps labels ops locals) ≡ length ps
frames-count m entry [] labels ops locals = refl
frames-count m entry (p ∷ ps) labels ops locals = ap suc (frames-count m entry ps _ _ _)

-- as many frames wait
pub depth-is : {V W : Type 0} (h : V → W) (m : Module) (bytes : List W) (s : State (CodeValue V)) → length (configuration h m bytes s).callers ≡ length s.callers
depth-is h m bytes s = frames-count m s.entry (reverse s.callers) _ _ _ ∙ length-reverse s.callers

-- whether an instruction is next
pub due-some : {W : Type 0} (xs : List Instr) (k : ℕ) (i : Instr) (fs : List (Frame W)) → slice_get xs k ≡ Some i → 1 ≤ length fs → is_due (drop k xs) fs ≡ true
due-some [] k i fs is some = absurd cc
due-some (x ∷ xs) zero i [] is some = absurd (omega arith)
due-some (x ∷ xs) zero i (f ∷ fs) is some = refl
due-some (x ∷ xs) (suc k) i fs is some = due-some xs k i fs is some

pub due-none : {W : Type 0} (xs : List Instr) (k : ℕ) (fs : List (Frame W)) → slice_get xs k ≡ None → is_due (drop k xs) fs ≡ false
due-none [] zero fs is = refl
due-none [] (suc k) fs is = refl
due-none (x ∷ xs) zero fs is = absurd cc
due-none (x ∷ xs) (suc k) fs is = due-none xs k fs is

pub spent_no : (b : Bool) (steps units : ℕ) → units < steps → false ≡ (b && nat_le steps units)
spent_no true steps units less = grind (arith, nat_tests)
spent_no false steps units less = refl

pub spent_yes : (b : Bool) (steps units : ℕ) → steps ≤ units → b ≡ (b && nat_le steps units)
spent_yes true steps units all = grind (arith, nat_tests)
spent_yes false steps units all = refl

pub due_by : {W : Type 0} {I : Type 0} (view : I → Instr) (xs : List Instr) (k : ℕ) (fs : List (Frame W)) (o : Option I) → MatchOption o (slice_get xs k ≡ None) (λ i. slice_get xs k ≡ Some (view i)) → 1 ≤ length fs → is_some o ≡ is_due (drop k xs) fs
due_by view xs k fs None h some = sym (due-none xs k fs h)
due_by view xs k fs (Some i) h some = sym (due-some xs k (view i) fs h some)

-- whether the outermost frame has an instruction left
pub due_below : {W : Type 0} (xs : List Instr) (k : ℕ) (fs : List (Frame W)) → 1 ≤ length fs → nat_lt k (length xs) ≡ is_due (drop k xs) fs
due_below [] zero fs some = refl
due_below [] (suc k) fs some = grind (arith, nat_tests)
due_below (x ∷ xs) zero [] some = absurd (omega arith)
due_below (x ∷ xs) zero (f ∷ fs) some = grind (arith, nat_tests)
due_below (x ∷ xs) (suc k) fs some = shift (nat_lt k (length xs)) refl ∙ due_below xs k fs some
  where
    shift : (r : Bool) → nat_lt k (length xs) ≡ r → nat_lt (suc k) (suc (length xs)) ≡ nat_lt k (length xs)
    shift true is = let less : k < length xs = grind (arith, nat_tests, is) in grind (arith, nat_tests, less)
    shift false is = let more : length xs ≤ k = grind (arith, nat_tests, is) in grind (arith, nat_tests, more)
