-- Variable instructions (Execution, Instructions: Variable Instructions).
use Rattle.std.specs.Prelude.{ℕ, List, ◌∷◌, slice_get, slice_set}
use Rattle.wasm_reduction.specs.Configurations.{Value, Config, Next, Goes}
use Rattle.wasm_reduction.specs.Combinators.{holding, with_locals, with_globals, with_found, with_value}

abbrev pub local_get : {W : Type 0} → Config W → List (Value W) → ℕ → Next W
local_get c vs x = with_found (slice_get c.frame.locals x) (λ v. Goes (holding c (v ∷ vs)))

abbrev pub local_set : {W : Type 0} → Config W → List (Value W) → ℕ → Next W
local_set c vs x =
    with_found (slice_get c.frame.locals x) (λ old. with_value vs (λ v rest.
    Goes (with_locals (holding c rest) (slice_set c.frame.locals x v))))

abbrev pub local_tee : {W : Type 0} → Config W → List (Value W) → ℕ → Next W
local_tee c vs x =
    with_found (slice_get c.frame.locals x) (λ old. with_value vs (λ v rest.
    Goes (with_locals (holding c (v ∷ rest)) (slice_set c.frame.locals x v))))

abbrev pub global_get : {W : Type 0} → Config W → List (Value W) → ℕ → Next W
global_get c vs x = with_found (slice_get c.store.globals x) (λ v. Goes (holding c (v ∷ vs)))

abbrev pub global_set : {W : Type 0} → Config W → List (Value W) → ℕ → Next W
global_set c vs x =
    with_found (slice_get c.store.globals x) (λ old. with_value vs (λ v rest.
    Goes (with_globals (holding c rest) (slice_set c.store.globals x v))))
