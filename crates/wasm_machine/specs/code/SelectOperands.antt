-- The operands of a select.
use Rattle.std.specs.Prelude.{◌≡◌, ℕ, zero, suc, false, slice_get, Some}
use Rattle.wasm_machine.specs.declared.values.Value.{Value as CodeValue}
use Rattle.wasm_machine.specs.States.{State, own}
use Rattle.wasm_machine.specs.Values.{word_at}

-- the condition lies above the second value, and that above the first
pub record SelectOperands {V : Type 0} (s : State (CodeValue V)) (w : V) (first second : CodeValue V) : Type 0 where
  pub condition : Some w ≡ word_at false (own s) 0
  pub second_is : Some second ≡ slice_get (own s) 1
  pub first_is : Some first ≡ slice_get (own s) 2

-- what comes after the answer 0, or after another
abbrev pub by_answer : {X : Type 0} → ℕ → X → X → X
by_answer zero at_zero at_other = at_zero
by_answer (suc n) at_zero at_other = at_other
