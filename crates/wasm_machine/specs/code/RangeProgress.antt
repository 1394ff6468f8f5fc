-- What the questions of a range have come to.
use Rattle.std.specs.Prelude.{◌≡◌, ℕ, ◌+◌, ◌≤◌, List, ◌∷◌}
use Rattle.wasm_ast.specs.declared.runs.Cause.{Cause}
use Rattle.int_ops.specs.Integers.{minus_one}
use Rattle.wasm_rules.specs.Words.{Kind}
use Rattle.wasm_reduction.specs.Configurations.{Value, I32, Config, Pick, Traps, Next, Goes, Asks, Ends}
use Rattle.wasm_reduction.specs.Combinators.{holding}
use Rattle.wasm_machine.specs.declared.ranges.Reached.{Reached}
use Rattle.wasm_machine.specs.declared.ranges.Reached.TheVariants.{Ask as AskFor, OutOfBounds, At}
use Rattle.wasm_machine.specs.declared.ranges.Growth.{Growth}
use Rattle.wasm_machine.specs.declared.ranges.Growth.TheVariants.{Ask, Refused, By}
use Rattle.wasm_machine.specs.declared.ranges.FillRange.{FillRange}
use Rattle.wasm_machine.specs.declared.ranges.CopyRange.{CopyRange}
use Rattle.wasm_machine.specs.Values.{question}

-- how an instruction goes on from there, where h says what a word means
abbrev pub reached : {V W P : Type 0} → (V → W) → Cause → (P → Next W) → Reached V P → Next W
reached h cause go (AskFor q w) = Asks (question q) (h w)
reached h cause go OutOfBounds = Ends (Traps cause)
reached h cause go (At p) = go p

-- the word of the question is held
abbrev pub AskHeld : {V P : Type 0} → (V → Type 0) → Reached V P → Type 0
AskHeld H (AskFor q w) = H w
AskHeld H OutOfBounds = Unit {0}
AskHeld H (At p) = Unit {0}

-- a fact of what was picked
abbrev pub IfAt : {V P : Type 0} → Reached V P → (P → Type 0) → Type 0
IfAt (AskFor q w) F = Unit {0}
IfAt OutOfBounds F = Unit {0}
IfAt (At p) F = F p

-- ---- ranges

-- they lie within these sizes
abbrev pub FillWithin : ℕ → FillRange → Type 0
FillWithin size r = r.to + r.count ≤ size

abbrev pub CopyWithin : ℕ → ℕ → CopyRange → Type 0
CopyWithin target_size source_size r = (r.from + r.count ≤ source_size) × (r.to + r.count ≤ target_size)

-- ---- growth

-- how a growth goes on from there
abbrev pub grows : {V W : Type 0} → Kind W → (V → W) → Config W → List (Value W) → ℕ → (ℕ → Config W) → Growth V → Next W
grows K h c rest size go (Ask w) = Asks Pick (h w)
grows K h c rest size go Refused = Goes (holding c (I32 (K.number (minus_one 32)) ∷ rest))
grows K h c rest size go (By n) = Goes (holding (go n) (I32 (K.number size) ∷ rest))

-- what is asked is this word
abbrev pub GrowthAsks : {V : Type 0} → Growth V → V → Type 0
GrowthAsks (Ask w) count = w ≡ count
GrowthAsks Refused count = Unit {0}
GrowthAsks (By n) count = Unit {0}

-- a fact of how far it grows
abbrev pub IfGrows : {V : Type 0} → Growth V → (ℕ → Type 0) → Type 0
IfGrows (Ask w) F = Unit {0}
IfGrows Refused F = Unit {0}
IfGrows (By n) F = F n
