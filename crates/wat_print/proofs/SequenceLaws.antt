-- The text of a sequence is that of its instructions, with the texts of the sequences that they name.
use Rattle.std.proofs.Common.{◌≡◌, ℕ, zero, suc, ◌+◌, ◌<◌, ◌≤◌, Bool, true, false, cond, List, [], ◌∷◌, ◌++◌, length, drop, get_or, Some, refl, sym, ap, ◌∙◌, arith}
use Rattle.std.specs.Prelude.{◌==◌, slice_get, codes, flat_map}
use Rattle.std.specs.List.{AllByRecursion as ByRecursion}
use Rattle.std.proofs.lemmas.Bool.{eq-eqb, ne_eqb}
use Rattle.std.proofs.lemmas.List.{drop_more}
use Rattle.std.proofs.lemmas.Option.{slice_get-get_or}
use Rattle.wasm_ast.specs.Numbering.{named_by, IsNumbered}
use Rattle.wasm_ast.specs.declared.instructions.Instr.{Instr}
use Rattle.wasm_ast.specs.declared.instructions.Instr.TheVariants.{Block, Loop, If}
use Rattle.wasm_ast.proofs.InnerSequences.{inner}
use Rattle.wasm_text.specs.PrintedInstructions.{head_text, else_part, instr_text, sequence_text}

pub record AreTexts (before : List ℕ) (seqs : List (List Instr)) (text : ℕ → List ℕ) : Type 0 where
  pub each : (j : ℕ) → j < length seqs → text j ≡ flat_map (instr_text before text) (get_or seqs j [])

-- ---- one step of the definition

chosen : (b : Bool) (x y : List ℕ) → b ≡ true → cond b x y ≡ x
chosen b x y e = ap (λ t. cond t x y) e

left_out : (b : Bool) (x y : List ℕ) → b ≡ false → cond b x y ≡ y
left_out b x y e = ap (λ t. cond t x y) e

here : (before : List ℕ) (k : ℕ) (instrs : List Instr) (later : List (List Instr))
    → sequence_text before k (instrs ∷ later) k ≡ flat_map (instr_text before (sequence_text before (k + 1) later)) instrs
unfolding sequence_text
here before k instrs later =
    chosen (k == k) (flat_map (instr_text before (sequence_text before (k + 1) later)) instrs) (sequence_text before (k + 1) later k) (eq-eqb k k refl)

past : (before : List ℕ) (k : ℕ) (instrs : List Instr) (later : List (List Instr)) (j : ℕ) → k < j
    → sequence_text before k (instrs ∷ later) j ≡ sequence_text before (k + 1) later j
unfolding sequence_text
past before k instrs later j lt =
    left_out (j == k) (flat_map (instr_text before (sequence_text before (k + 1) later)) instrs) (sequence_text before (k + 1) later j) (ne_eqb j k (omega arith))

none : (before : List ℕ) (k n : ℕ) (j : ℕ) → sequence_text before k [] j ≡ sequence_text before n [] j
unfolding sequence_text
none before k n j = refl

-- the text of a sequence is the same where earlier ones are left out
dropped : (before : List ℕ) (i k : ℕ) (seqs : List (List Instr)) (j : ℕ) → k + i ≤ j
    → sequence_text before k seqs j ≡ sequence_text before (k + i) (drop i seqs) j
dropped before zero k seqs j le = ap (λ n. sequence_text before n seqs j) (let same : k ≡ k + 0 = omega arith in same)
dropped before (suc i) k [] j le = none before k (k + suc i) j
dropped before (suc i) k (instrs ∷ seqs) j le =
    past before k instrs seqs j (omega arith) ∙ dropped before i (k + 1) seqs j (omega arith)
    ∙ ap (λ n. sequence_text before n (drop i seqs) j) (let same : k + 1 + i ≡ k + suc i = omega arith in same)

later : (before : List ℕ) (seqs : List (List Instr)) (i j : ℕ) → i ≤ j → sequence_text before 0 seqs j ≡ sequence_text before i (drop i seqs) j
later before seqs i j le =
    dropped before i 0 seqs j (omega arith) ∙ ap (λ n. sequence_text before n (drop i seqs) j) (let same : 0 + i ≡ i = omega arith in same)

-- ---- texts that agree on the names

one_agrees : (before : List ℕ) (f g : ℕ → List ℕ) (x : Instr) → ByRecursion (λ j. f j ≡ g j) (named_by x) → instr_text before f x ≡ instr_text before g x
one_agrees before f g (Block ty body) h = ap (λ t. before ++ head_text (Block ty body) ++ (t ++ before ++ codes "end")) h.0
one_agrees before f g (Loop ty body) h = ap (λ t. before ++ head_text (Loop ty body) ++ (t ++ before ++ codes "end")) h.0
one_agrees before f g (If ty first other) h =
    ap (λ t. before ++ head_text (If ty first other) ++ (t ++ else_part before (f other) ++ before ++ codes "end")) h.0
    ∙ ap (λ t. before ++ head_text (If ty first other) ++ (g first ++ else_part before t ++ before ++ codes "end")) h.1.0
one_agrees before f g x h = refl

-- of each instruction, by its place
abbrev AtEach : (Instr → Type 0) → List Instr → Type 0
AtEach P instrs = (i : ℕ) (x : Instr) → i < length instrs → x ≡ get_or instrs i x → P x

agree : (before : List ℕ) (f g : ℕ → List ℕ) (instrs : List Instr) → AtEach (λ x. ByRecursion (λ j. f j ≡ g j) (named_by x)) instrs
    → flat_map (instr_text before f) instrs ≡ flat_map (instr_text before g) instrs
agree before f g [] h = refl
agree before f g (x ∷ instrs) h =
    ap (λ t. t ++ flat_map (instr_text before f) instrs) (one_agrees before f g x (h 0 x (omega arith) refl))
    ∙ ap (λ t. instr_text before g x ++ t) (agree before f g instrs (λ i y lt is. h (suc i) y (omega arith) is))

pub map_all : {X : Type 0} (P Q : X → Type 0) (xs : List X) → ((x : X) → P x → Q x) → ByRecursion P xs → ByRecursion Q xs
map_all P Q [] f h = tt
map_all P Q (x ∷ xs) f h = (f x h.0, map_all P Q xs f h.1)

-- ---- the texts of numbered sequences

pub are_texts : (before : List ℕ) (seqs : List (List Instr)) → IsNumbered seqs → AreTexts before seqs (sequence_text before 0 seqs)
are_texts before seqs numbered = record {
  each = λ j lt.
      let instrs = get_or seqs j [] in
      let rest = drop (j + 1) seqs in
      let there : slice_get seqs j ≡ Some instrs = slice_get-get_or seqs j [] lt in
      later before seqs j j (omega arith) ∙ ap (λ l. sequence_text before j l j) (drop_more seqs j [] lt) ∙ here before j instrs rest
      ∙ agree before (sequence_text before (j + 1) rest) (sequence_text before 0 seqs) instrs (λ i x within is.
      map_all (λ n. (j + 1 ≤ n) × (n < length seqs)) (λ n. sequence_text before (j + 1) rest n ≡ sequence_text before 0 seqs n) (named_by x)
      (λ n h. sym (later before seqs (j + 1) n h.0))
      (inner seqs j i instrs x numbered there lt within is));
}
