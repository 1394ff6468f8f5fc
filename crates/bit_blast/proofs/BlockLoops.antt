-- Loops that put gates: what was put so far, and what is still to be put.
use Rattle.std.proofs.Common.{◌≡◌, ◌<◌, ◌≤◌, ◌+◌, ◌*◌, ◌^◌, ◌%◌, zero, suc, add-one, ◌⊎◌, inl, inr, min, ℕ, [], ◌∷◌, ◌++◌, length, drop, get_or, refl, sym, ap, subst, ◌∙◌, arith}
use Rattle.bit_blast.specs.declared.gates.Gate.TheVariants.{Mux}
use Rattle.bit_blast.specs.declared.blocks.Sum.{Sum}
use Rattle.bit_blast.specs.Gates.{Wires, Circuit}
use Rattle.std.specs.Prelude.{slice_get, Some, None}
use Rattle.std.proofs.lemmas.List.{append-nil}
use Rattle.std.proofs.Math.Nat.{pow-succ'}
use Rattle.bit_blast.specs.declared.blocks.Shift.{Shift}
use Rattle.bit_blast.specs.Blocks.{Built, Builds, add, less_after, add_row, add_rows, each_two, moved, shift_by}
use Rattle.bit_blast.proofs.WireLoops.{drop_next, over, spent}

-- wires in front of those that are given
abbrev pub after_wires : Wires → Built Wires → Built Wires
after_wires out built = record { circuit = built.circuit; result = out ++ built.result }

abbrev pub after_sums : Wires → Built Sum → Built Sum
after_sums out built = record { circuit = built.circuit; result = record { sums = out ++ built.result.sums; carry = built.result.carry } }

-- ---- where a loop over two integers ends

no_second : (xs : Wires) (carry : ℕ) (n : Circuit) → add xs [] carry n ≡ record { circuit = n; result = record { sums = []; carry = carry } }
no_second [] carry n = refl
no_second (x ∷ xs) carry n = refl

pub add-end : (xs ys : Wires) (i carry : ℕ) (n : Circuit) → min (length xs) (length ys) ≤ i
    → add (drop i xs) (drop i ys) carry n ≡ record { circuit = n; result = record { sums = []; carry = carry } }
add-end xs ys i carry n h = go (spent xs ys i h)
  where
    go : (drop i xs ≡ []) ⊎ (drop i ys ≡ []) → add (drop i xs) (drop i ys) carry n ≡ record { circuit = n; result = record { sums = []; carry = carry } }
    go (inl e) = ap (λ zs. add zs (drop i ys) carry n) e
    go (inr e) = ap (λ zs. add (drop i xs) zs carry n) e ∙ no_second (drop i xs) carry n

no_second_less : (lower : ℕ) (xs : Wires) (n : Circuit) → less_after lower xs [] n ≡ record { circuit = n; result = lower }
no_second_less lower [] n = refl
no_second_less lower (x ∷ xs) n = refl

pub less-end : (lower : ℕ) (xs ys : Wires) (i : ℕ) (n : Circuit) → min (length xs) (length ys) ≤ i
    → less_after lower (drop i xs) (drop i ys) n ≡ record { circuit = n; result = lower }
less-end lower xs ys i n h = go (spent xs ys i h)
  where
    go : (drop i xs ≡ []) ⊎ (drop i ys ≡ []) → less_after lower (drop i xs) (drop i ys) n ≡ record { circuit = n; result = lower }
    go (inl e) = ap (λ zs. less_after lower zs (drop i ys) n) e
    go (inr e) = ap (λ zs. less_after lower (drop i xs) zs n) e ∙ no_second_less lower (drop i xs) n

-- ---- one turn of the loop over the wires that say how far bits are moved

pub places : (i : ℕ) → i < 6 → 1 * 2 ^ i % 2 ^ 64 ≡ 2 ^ i
places zero h = refl
places (suc zero) h = refl
places (suc (suc zero)) h = refl
places (suc (suc (suc zero))) h = refl
places (suc (suc (suc (suc zero)))) h = refl
places (suc (suc (suc (suc (suc zero))))) h = refl
places (suc (suc (suc (suc (suc (suc i)))))) h = absurd (omega arith)

pub move-next : (kind : Shift) (amounts : Wires) (i amount : ℕ) (xs ys apart next : Wires) (old new : Circuit) → i < length amounts → amount ≡ get_or amounts i 0
    → ys ≡ xs → apart ≡ moved kind (2 ^ i) xs → Builds (each_two (Mux amount) apart ys) old next new
    → shift_by kind (2 ^ (i + 1)) (drop (i + 1) amounts) next new ≡ shift_by kind (2 ^ i) (drop i amounts) xs old
move-next kind amounts i amount xs ys apart next old new h is same far b =
    let left : drop i amounts ≡ amount ∷ drop (i + 1) amounts = drop_next amounts i 0 h ∙ ap (λ a. a ∷ drop (i + 1) amounts) (sym is) in
    let all : each_two (Mux amount) apart ys old ≡ each_two (Mux amount) (moved kind (2 ^ i) xs) xs old =
    ap (λ zs. each_two (Mux amount) zs ys old) far ∙ ap (λ zs. each_two (Mux amount) (moved kind (2 ^ i) xs) zs old) same in
    ap (λ p. shift_by kind p (drop (i + 1) amounts) next new) (double i)
    ∙ ap (λ r. shift_by kind (2 * 2 ^ i) (drop (i + 1) amounts) r new) (b.result_is ∙ ap (λ r. r.result) all)
    ∙ ap (λ c. shift_by kind (2 * 2 ^ i) (drop (i + 1) amounts) (each_two (Mux amount) (moved kind (2 ^ i) xs) xs old).result c) (b.circuit ∙ ap (λ r. r.circuit) all)
    ∙ sym (ap (λ rest. shift_by kind (2 ^ i) rest xs old) left)
  where
    double : (i : ℕ) → 2 ^ (i + 1) ≡ 2 * 2 ^ i
    double i = rw add-one (pow-succ' 2 i)

-- ---- results at the ends of loops

pub add-done : (xs ys : Wires) (i carry last : ℕ) (out : Wires) (old new : Circuit) → min (length xs) (length ys) ≤ i
    → after_sums out (add (drop i xs) (drop i ys) last new) ≡ add xs ys carry old → Builds (add xs ys carry) old (record { sums = out; carry = last }) new
add-done xs ys i carry last out old new h e = record {
  circuit = ap (λ b. b.circuit) all;
  result_is = ap (λ zs. record { sums = zs; carry = last }) (sym (append-nil out)) ∙ ap (λ b. b.result) all;
}
  where
    all : record { circuit = new; result = record { sums = out ++ []; carry = last } } ≡ add xs ys carry old
    all = ap (λ b. after_sums out b) (sym (add-end xs ys i last new h)) ∙ e

-- ---- one turn of the loop over the rows of a product

pub rows-next : (xs ys low sum : Wires) (i y lowest : ℕ) (next : Wires) (old new : Circuit) → i < length ys → y ≡ get_or ys i 0
    → slice_get sum 0 ≡ Some lowest → Builds (add_row xs y (drop 1 sum)) old next new
    → after_wires (low ++ lowest ∷ []) (add_rows xs (drop (i + 1) ys) next new) ≡ after_wires low (add_rows xs (drop i ys) sum old)
rows-next xs ys low [] i y lowest next old new h is at b = absurd (none≢some lowest at)
  where
    none≢some : (n : ℕ) → None ≡ Some n → ⊥
    none≢some n e = cc
rows-next xs ys low (x ∷ high) i y lowest next old new h is at b =
    let left : drop i ys ≡ y ∷ drop (i + 1) ys = drop_next ys i 0 h ∙ ap (λ a. a ∷ drop (i + 1) ys) (sym is) in
    let rest = add_rows xs (drop (i + 1) ys) (add_row xs y high old).result (add_row xs y high old).circuit in
    ap (λ l. after_wires (low ++ l ∷ []) (add_rows xs (drop (i + 1) ys) next new)) (sym (some_is x lowest at))
    ∙ ap (λ r. after_wires (low ++ x ∷ []) (add_rows xs (drop (i + 1) ys) r new)) b.result_is
    ∙ ap (λ c. after_wires (low ++ x ∷ []) (add_rows xs (drop (i + 1) ys) (add_row xs y high old).result c)) b.circuit
    ∙ ap (λ r. record { circuit = rest.circuit; result = r }) (over low x rest.result)
    ∙ sym (ap (λ rows. after_wires low (add_rows xs rows (x ∷ high) old)) left)
  where
    some_is : (m n : ℕ) → Some m ≡ Some n → m ≡ n
    some_is m n e = cc

-- a sum that is at its end before the rows are
pub rows-spent : (xs ys low sum : Wires) (i : ℕ) (new : Circuit) → i < length ys → sum ≡ []
    → after_wires low (add_rows xs (drop i ys) sum new) ≡ record { circuit = new; result = low }
rows-spent xs ys low sum i new h none =
    ap (λ rows. after_wires low (add_rows xs rows sum new)) (drop_next ys i 0 h)
    ∙ ap (λ s. after_wires low (add_rows xs (get_or ys i 0 ∷ drop (i + 1) ys) s new)) none
    ∙ ap (λ r. record { circuit = new; result = r }) (append-nil low)

pub rows-next-view : (xs ys low sum view : Wires) (i y lowest : ℕ) (longer next : Wires) (old new : Circuit) → i < length ys → y ≡ get_or ys i 0
    → slice_get sum 0 ≡ Some lowest → longer ≡ low ++ lowest ∷ [] → view ≡ sum → Builds (add_row xs y (drop 1 view)) old next new
    → after_wires longer (add_rows xs (drop (i + 1) ys) next new) ≡ after_wires low (add_rows xs (drop i ys) sum old)
rows-next-view xs ys low sum view i y lowest longer next old new h is at long seen b =
    ap (λ out. after_wires out (add_rows xs (drop (i + 1) ys) next new)) long
    ∙ rows-next xs ys low sum i y lowest next old new h is at (subst (λ s. Builds (add_row xs y (drop 1 s)) old next new) seen b)
