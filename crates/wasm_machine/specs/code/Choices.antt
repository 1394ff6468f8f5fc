-- Where the questions of br_table stand after its answers: the label at the place of the first answer 0, or the last label.
use Rattle.std.specs.Prelude.{ℕ, zero, suc, ◌+◌, List, [], ◌∷◌}
use Rattle.wasm_machine.specs.declared.branches.Choice.{Choice}
use Rattle.wasm_machine.specs.declared.branches.Choice.TheVariants.{Ask, Label}

-- where the first k labels are passed by
abbrev pub choice_of : List ℕ → ℕ → List ℕ → ℕ → Choice
choice_of [] last ns k = Label last
choice_of (l ∷ ls) last [] k = Ask k
choice_of (l ∷ ls) last (zero ∷ ns) k = Label l
choice_of (l ∷ ls) last (suc n ∷ ns) k = choice_of ls last ns (k + 1)
