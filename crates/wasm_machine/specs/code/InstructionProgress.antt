-- What an instruction has come to.
use Rattle.wasm_reduction.specs.Configurations.{Next, Asks, Ends, Stuck}
use Rattle.wasm_machine.specs.declared.next.Next.{Next as CodeNext}
use Rattle.wasm_machine.specs.declared.next.Next.TheVariants.{Asks as CodeAsks, Ends as CodeEnds}
use Rattle.wasm_machine.specs.declared.progress.Progress.{Progress}
use Rattle.wasm_machine.specs.declared.progress.Progress.TheVariants.{Stops, At}
use Rattle.wasm_machine.specs.Values.{question, end_of, EndHeld}

-- what is said before anything has changed: a question or an end
abbrev pub said : {V W : Type 0} → (V → W) → CodeNext V → Next W
said h (CodeAsks q w) = Asks (question q) (h w)
said h (CodeEnds e) = Ends (end_of h e)
said h _ = Ends Stuck

-- how an instruction goes on from there, where h says what a word means
abbrev pub came_to : {V W P : Type 0} → (V → W) → (P → Next W) → Progress V P → Next W
came_to h go (Stops n) = said h n
came_to h go (At p) = go p

-- it is a question or an end, and its words are held
abbrev pub SaidHeld : {V : Type 0} → (V → Type 0) → CodeNext V → Type 0
SaidHeld H (CodeAsks q w) = H w
SaidHeld H (CodeEnds e) = EndHeld H e
SaidHeld H _ = ⊥

abbrev pub ProgressHeld : {V P : Type 0} → (V → Type 0) → Progress V P → Type 0
ProgressHeld H (Stops n) = SaidHeld H n
ProgressHeld H (At p) = Unit {0}

-- a fact of what was picked
abbrev pub IfCame : {V P : Type 0} → Progress V P → (P → Type 0) → Type 0
IfCame (Stops n) F = Unit {0}
IfCame (At p) F = F p
