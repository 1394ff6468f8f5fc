-- The text of a sequence is that of its instructions, with the texts of the sequences that they name.
use Rattle.std.proofs.Common.{◌≡◌, ℕ, zero, suc, ◌+◌, ◌<◌, ◌≤◌, List, [], ◌∷◌, ◌++◌, length, drop, get_or, Some, refl, sym, ap, ◌∙◌, arith}
use Rattle.std.specs.Prelude.{◌==◌, slice_get}
use Rattle.std.specs.List.{flat_map, AllByRecursion as ByRecursion}
use Rattle.std.proofs.lemmas.Bool.{eq-eqb, ne_eqb}
use Rattle.std.proofs.lemmas.List.{drop_more}
use Rattle.std.proofs.lemmas.Option.{slice_get-get_or}
use Rattle.wasm_ast.specs.Numbering.{named_by, IsNumbered}
use Rattle.wasm_ast.specs.declared.instructions.Instr.{Instr}
use Rattle.wasm_ast.specs.declared.instructions.Instr.TheVariants.{Block, Loop, If}
use Rattle.wasm_ast.proofs.InnerSequences.{inner}
use Rattle.wasm_write.specs.Types.{block_type_bytes}
use Rattle.wasm_write.specs.Instructions.{else_part, instr_bytes, text_of}
use Rattle.owi_base.proofs.Choices.{taken, passed}

pub record AreTexts (seqs : List (List Instr)) (text : ℕ → List ℕ) : Type 0 where
  pub each : (j : ℕ) → j < length seqs → text j ≡ flat_map (instr_bytes text) (get_or seqs j [])

-- ---- one step of the definition

here : (k : ℕ) (instrs : List Instr) (later : List (List Instr)) → text_of k (instrs ∷ later) k ≡ flat_map (instr_bytes (text_of (k + 1) later)) instrs
unfolding text_of
here k instrs later = taken (k == k) (flat_map (instr_bytes (text_of (k + 1) later)) instrs) (text_of (k + 1) later k) (eq-eqb k k refl)

past : (k : ℕ) (instrs : List Instr) (later : List (List Instr)) (j : ℕ) → k < j → text_of k (instrs ∷ later) j ≡ text_of (k + 1) later j
unfolding text_of
past k instrs later j lt = passed (j == k) (flat_map (instr_bytes (text_of (k + 1) later)) instrs) (text_of (k + 1) later j) (ne_eqb j k (omega arith))

none : (k n : ℕ) (j : ℕ) → text_of k [] j ≡ text_of n [] j
unfolding text_of
none k n j = refl

-- the text of a sequence is the same where earlier ones are left out
dropped : (i k : ℕ) (seqs : List (List Instr)) (j : ℕ) → k + i ≤ j → text_of k seqs j ≡ text_of (k + i) (drop i seqs) j
dropped zero k seqs j le = ap (λ n. text_of n seqs j) (let same : k ≡ k + 0 = omega arith in same)
dropped (suc i) k [] j le = none k (k + suc i) j
dropped (suc i) k (instrs ∷ seqs) j le =
    past k instrs seqs j (omega arith) ∙ dropped i (k + 1) seqs j (omega arith)
    ∙ ap (λ n. text_of n (drop i seqs) j) (let same : k + 1 + i ≡ k + suc i = omega arith in same)

later : (seqs : List (List Instr)) (i j : ℕ) → i ≤ j → text_of 0 seqs j ≡ text_of i (drop i seqs) j
later seqs i j le = dropped i 0 seqs j (omega arith) ∙ ap (λ n. text_of n (drop i seqs) j) (let same : 0 + i ≡ i = omega arith in same)

-- ---- texts that agree on the names

one_agrees : (f g : ℕ → List ℕ) (x : Instr) → ByRecursion (λ j. f j ≡ g j) (named_by x) → instr_bytes f x ≡ instr_bytes g x
one_agrees f g (Block ty body) h = ap (λ t. 0x02 ∷ block_type_bytes ty ++ t ++ 0x0B ∷ []) h.0
one_agrees f g (Loop ty body) h = ap (λ t. 0x03 ∷ block_type_bytes ty ++ t ++ 0x0B ∷ []) h.0
one_agrees f g (If ty first other) h =
    ap (λ t. 0x04 ∷ block_type_bytes ty ++ t ++ else_part (f other) ++ 0x0B ∷ []) h.0
    ∙ ap (λ t. 0x04 ∷ block_type_bytes ty ++ g first ++ else_part t ++ 0x0B ∷ []) h.1.0
one_agrees f g x h = refl

-- of each instruction, by its place
abbrev AtEach : (Instr → Type 0) → List Instr → Type 0
AtEach P instrs = (i : ℕ) (x : Instr) → i < length instrs → x ≡ get_or instrs i x → P x

agree : (f g : ℕ → List ℕ) (instrs : List Instr) → AtEach (λ x. ByRecursion (λ j. f j ≡ g j) (named_by x)) instrs → flat_map (instr_bytes f) instrs ≡ flat_map (instr_bytes g) instrs
agree f g [] h = refl
agree f g (x ∷ instrs) h =
    ap (λ t. t ++ flat_map (instr_bytes f) instrs) (one_agrees f g x (h 0 x (omega arith) refl))
    ∙ ap (λ t. instr_bytes g x ++ t) (agree f g instrs (λ i y lt is. h (suc i) y (omega arith) is))

pub map_all : {X : Type 0} (P Q : X → Type 0) (xs : List X) → ((x : X) → P x → Q x) → ByRecursion P xs → ByRecursion Q xs
map_all P Q [] f h = tt
map_all P Q (x ∷ xs) f h = (f x h.0, map_all P Q xs f h.1)

-- ---- the texts of numbered sequences

pub are_texts : (seqs : List (List Instr)) → IsNumbered seqs → AreTexts seqs (text_of 0 seqs)
are_texts seqs numbered = record {
  each = λ j lt.
      let instrs = get_or seqs j [] in
      let rest = drop (j + 1) seqs in
      let there : slice_get seqs j ≡ Some instrs = slice_get-get_or seqs j [] lt in
      later seqs j j (omega arith) ∙ ap (λ l. text_of j l j) (drop_more seqs j [] lt) ∙ here j instrs rest
      ∙ agree (text_of (j + 1) rest) (text_of 0 seqs) instrs (λ i x within is.
      map_all (λ n. (j + 1 ≤ n) × (n < length seqs)) (λ n. text_of (j + 1) rest n ≡ text_of 0 seqs n) (named_by x)
      (λ n h. sym (later seqs (j + 1) n h.0))
      (inner seqs j i instrs x numbered there lt within is));
}
