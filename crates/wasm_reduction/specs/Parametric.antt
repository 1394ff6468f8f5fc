-- Parametric instructions (Execution, Instructions: Parametric Instructions).
use Rattle.std.specs.Prelude.{ℕ, true, false, List, ◌∷◌}
use Rattle.wasm_rules.specs.Words.{Kind}
use Rattle.wasm_reduction.specs.Configurations.{Value, I32, I64, Ref, Config, Stuck, Next, Goes, Ends}
use Rattle.wasm_reduction.specs.Combinators.{holding, with_value, with_word, testing}

-- drop
abbrev pub discard : {W : Type 0} → Config W → List (Value W) → Next W
discard c vs = with_value vs (λ v rest. Goes (holding c rest))

-- The first of two values of one type where the condition isn't 0, else the second. Of numbers it is a word; of references
-- the condition is asked.
abbrev pub selecting : {W : Type 0} → Kind W → Config W → List (Value W) → List ℕ → W → Value W → Value W → Next W
selecting K c rest ns condition (I32 a) (I32 b) = Goes (holding c (I32 (K.choose false condition a b) ∷ rest))
selecting K c rest ns condition (I64 a) (I64 b) = Goes (holding c (I64 (K.choose true condition a b) ∷ rest))
selecting K c rest ns condition (Ref r) (Ref s) =
    testing condition ns (λ ns. Goes (holding c (Ref s ∷ rest))) (λ ns. Goes (holding c (Ref r ∷ rest)))
selecting K c rest ns condition _ _ = Ends Stuck

-- select, with types or without
abbrev pub select : {W : Type 0} → Kind W → Config W → List (Value W) → List ℕ → Next W
select K c vs ns =
    with_word false vs (λ condition rest. with_value rest (λ second rest. with_value rest (λ first rest.
    selecting K c rest ns condition first second)))
