-- `br_table` on the fast path: its questions, answered by their numbers, lead to the label of its index.
use Rattle.std.proofs.Common.{◌≡◌, ℕ, zero, suc, ◌+◌, ◌-◌, ◌^◌, ◌<◌, ◌≤◌, List, [], ◌∷◌, ◌++◌, map, take, drop, length, refl, sym, ap, ◌∙◌, subst, arith, append_assoc, append-nil}
use Rattle.std.specs.Prelude.{true, false, ◌==◌, ◌||◌, not, nat_lt, replicate, slice_index_or, Some, Bool}
use Rattle.std.proofs.lemmas.Bool.Decides.{nat_tests}
use Rattle.wasm_ast.specs.declared.instructions.Instr.TheVariants.{BrTable}
use Rattle.wasm_ast.specs.declared.modules.Module.{Module}
use Rattle.int_ops.specs.Integers.{truth}
use Rattle.int_ops.specs.Operators.{operator_of}
use Rattle.wasm_rules.specs.Words.{HasNumber, numbers}
use Rattle.wasm_reduction.specs.Configurations.{Test, Next}
use Rattle.wasm_reduction.specs.Control.{choosing, br}
use Rattle.wasm_reduction.specs.Runs.{is_not_zero}
use Rattle.wasm_machine.specs.declared.values.Value.{Value as CodeValue}
use Rattle.wasm_machine.specs.declared.next.Next.{Next as CodeNext}
use Rattle.wasm_machine.specs.declared.next.Next.TheVariants.{Goes as CodeGoes}
use Rattle.wasm_machine.specs.Configurations.{image}
use Rattle.wasm_machine.specs.States.{own, State}
use Rattle.wasm_machine.specs.Values.{word_at}
use Rattle.wasm_machine.specs.Acts.{Ready, IsNext, Acts, ActsOn}
use Rattle.wasm_machine.proofs.Operands.{found-word}
use Rattle.wasm_machine.proofs.StepLaws.{acts-on, next-in-range}
use Rattle.wasm_run.specs.code.Places.{index_answers, IsAtInstruction, IsFastStep}
use Rattle.wasm_run.proofs.PlaceLemmas.{Asking}
use Rattle.wasm_run.proofs.TurnLemmas.{asking_more}
use Rattle.wasm_run.proofs.FastPathLemmas.{IsPlain, ready-from}
use Rattle.wasm_run.proofs.FastTestLemmas.{past_at, acts_at, step-acts, asking-first, goes-on, carried-on, fast-step-by}
use Rattle.wasm_run.proofs.FastCallLemmas.{br-plain}

-- ---- whether the index is another than a place

ne-value : (w k : ℕ) → numbers.binary 0x47 w k ≡ truth (not (w == k))
unfolding operator_of
ne-value w k = refl

ne-here : (w k : ℕ) → w ≡ k → 0 ≡ is_not_zero (numbers.binary 0x47 w k)
ne-here w k e = let same : (w == k) ≡ true = grind (arith, nat_tests, e) in sym (ap is_not_zero (ne-value w k ∙ ap (λ t. truth (not t)) same))

ne-other : (w k j : ℕ) → w ≡ k + suc j → 1 ≡ is_not_zero (numbers.binary 0x47 w k)
ne-other w k j e = let other : (w == k) ≡ false = grind (arith, nat_tests, e) in sym (ap is_not_zero (ne-value w k ∙ ap (λ t. truth (not t)) other))

-- ---- the answers

take-none : (n : ℕ) → take {A = ℕ} n [] ≡ []
take-none zero = refl
take-none (suc n) = refl

pub ones-put : (n len : ℕ) (old new : List ℕ) → old ≡ [] → len ≡ length old → new ≡ take n old ++ replicate (n - len) 1 → new ≡ replicate n 1
ones-put n len old new none long is =
    is ∙ ap (λ l. take n l ++ replicate {A = ℕ} (n - len) 1) none ∙ ap (λ l. l ++ replicate {A = ℕ} (n - len) 1) (take-none n)
    ∙ ap (λ k. replicate {A = ℕ} k 1) (omega (arith, long, ap (λ l. length l) none))

-- the index is a place of the table, or lies past it
pub index-below : (n w : ℕ) → w < n → replicate w 1 ++ 0 ∷ [] ≡ index_answers n w
index-below zero w h = absurd (omega arith)
index-below (suc n) zero h = refl
index-below (suc n) (suc w) h = ap (λ l. 1 ∷ l) (index-below n w (omega arith))

pub index-past : (n w : ℕ) → n ≤ w → replicate n 1 ≡ index_answers n w
index-past zero w h = refl
index-past (suc n) zero h = absurd (omega arith)
index-past (suc n) (suc w) h = ap (λ l. 1 ∷ l) (index-past n w (omega arith))

-- the state with these answers
abbrev with_answers : List ℕ → State (CodeValue ℕ) → State (CodeValue ℕ)
with_answers ns s = record s { answers = ns }

-- the answers lead to the label of the index
chosen : (w last : ℕ) (go : ℕ → Next ℕ) (labels : List ℕ) (k j : ℕ) → choosing numbers w k labels last (index_answers (length labels) j) go ≡ go (slice_index_or labels j last)
chosen w last go [] k j = refl
chosen w last go (l ∷ ls) k zero = refl
chosen w last go (l ∷ ls) k (suc j) = chosen w last go ls (k + 1) j

module _ {A : Type 0} {m : Module} {steps : ℕ} {a : A} {s : State (CodeValue ℕ)} {b : List ℕ} {labels : List ℕ} {last : ℕ} (at : IsAtInstruction m steps a s b (BrTable labels last)) {w : ℕ} (found : Some w ≡ word_at false (own s) 0) where
  abbrev go : ℕ → Next ℕ
  go l = br (past_at m b s) (drop 1 (own (image (λ n. n) s))) l

  table-acts : (ns : List ℕ) → acts_at m b s ns (BrTable labels last) ≡ choosing numbers w 0 labels last ns (λ l. go l)
  table-acts ns = found-word (λ n. n) s false 0 w (λ index rest. choosing numbers index 0 labels last ns (λ l. br (past_at m b s) rest l)) found

  next-with : (ns : List ℕ) → IsNext m (with_answers ns s) (BrTable labels last)
  next-with ns = record { f = at.next.f; there = at.next.there; rest = at.next.rest; is = at.next.is }

  -- one question more is answered
  asked : (k l : ℕ) (ls pre : List ℕ) (n : ℕ) → n ≡ is_not_zero (numbers.binary 0x47 w k) → Asking m steps s b a (with_answers pre s) b →
      ((ns : List ℕ) → acts_at m b s (pre ++ ns) (BrTable labels last) ≡ choosing numbers w k (l ∷ ls) last ns (λ l. go l)) → Asking m steps s b a (with_answers (pre ++ n ∷ []) s) b
  asked k l ls pre n is asking h =
      asking_more m steps s b a a (with_answers pre s) (with_answers pre s) (with_answers (pre ++ n ∷ []) s) b b Test (numbers.binary 0x47 w k) n asking
      (step-acts m (BrTable labels last) (with_answers pre s) b (next-with pre) ∙ ap (λ ns. acts_at m b s ns (BrTable labels last)) (sym (append-nil pre)) ∙ h []) refl refl is refl asking.order.sane asking.order.cells

  all-asked : (ls : List ℕ) (k j : ℕ) (pre : List ℕ) → w ≡ k + j → Asking m steps s b a (with_answers pre s) b →
      ((ns : List ℕ) → acts_at m b s (pre ++ ns) (BrTable labels last) ≡ choosing numbers w k ls last ns (λ l. go l)) → Asking m steps s b a (with_answers (pre ++ index_answers (length ls) j) s) b
  all-asked [] k j pre e asking h = subst (λ ns. Asking m steps s b a (with_answers ns s) b) (sym (append-nil pre)) asking
  all-asked (l ∷ ls) k zero pre e asking h = asked k l ls pre 0 (ne-here w k (omega (arith, e))) asking h
  all-asked (l ∷ ls) k (suc j) pre e asking h =
      subst (λ ns. Asking m steps s b a (with_answers ns s) b) (append_assoc pre (1 ∷ []) (index_answers (length ls) j))
      (all-asked ls (k + 1) j (pre ++ 1 ∷ []) (omega (arith, e)) (asked k l ls pre 1 (ne-other w k j e) asking h)
      (λ ns. ap (λ ns. acts_at m b s ns (BrTable labels last)) (append_assoc pre (1 ∷ []) ns) ∙ h (1 ∷ ns)))

  first-with : Asking m steps s b a (with_answers [] s) b
  first-with = subst (λ ns. Asking m steps s b a (with_answers ns s) b) at.first (asking-first m steps s b a at.run.order at.run.fit)

  -- the number of labels is below 2^32
  pub table-few : length labels < 2 ^ 32
  table-few = next-in-range HasNumber (λ n. n) m (map (λ n. n) b) s (BrTable labels last) at.next at.run.fit.widths

  module _ {u : State (CodeValue ℕ)} (u_is : u ≡ record s { answers = index_answers (length labels) w }) where
    table-asking : Asking m steps s b a u b
    table-asking = subst (λ u. Asking m steps s b a u b) (sym u_is) (all-asked labels 0 w [] (omega arith) first-with (λ ns. table-acts ns))

    table-next : IsNext m u (BrTable labels last)
    table-next = subst (λ u. IsNext m u (BrTable labels last)) (sym u_is) (next-with (index_answers (length labels) w))

    pub table-ready : Ready (λ _ w. w < 2 ^ 64) HasNumber (λ _ n. n) a u
    table-ready = ready-from m steps a u b table-asking.order table-asking.fit at.run.few (subst (λ u. u.frame.here.place + 1 < 2 ^ 64) (sym u_is) at.place)

    module _ {a' : A} {t : State (CodeValue ℕ)} {x : CodeNext ℕ} (acts : Acts (λ _ w. w < 2 ^ 64) (λ _ n. n) numbers m (BrTable labels last) a u a' t x)
        (leads : (nat_lt (slice_index_or labels w last) (length s.labels - s.frame.labels) || nat_lt 0 (length s.callers)) ≡ true) where
      table-on : ActsOn (λ _ w. w < 2 ^ 64) (λ _ n. n) numbers m (BrTable labels last) a u b a' t b x
      table-on = acts-on (λ _ w. w < 2 ^ 64) (λ _ n. n) numbers m (BrTable labels last) (BrTable labels last) a a' (λ w held. (held, refl)) u t b x table-asking.order.cells refl acts

      table-plain : IsPlain (acts_at m b u u.answers (BrTable labels last))
      table-plain =
          subst (λ u. IsPlain (acts_at m b u u.answers (BrTable labels last))) (sym u_is)
          (subst IsPlain (sym (table-acts (index_answers (length labels) w) ∙ chosen w last (λ l. go l) labels 0 w)) (br-plain m b s (slice_index_or labels w last) (drop 1 (own (image (λ n. n) s))) leads))

      pub table-goes : x ≡ CodeGoes
      table-goes = goes-on m steps s b a u b table-asking (BrTable labels last) table-next a' t b x table-on at.run.sound table-plain

      pub table-carried : {r : Bool} → r ≡ true → IsFastStep r m steps s b a' t b
      table-carried is = fast-step-by s b is (carried-on m steps s b a u b table-asking (BrTable labels last) table-next a' t b x table-on table-goes)
