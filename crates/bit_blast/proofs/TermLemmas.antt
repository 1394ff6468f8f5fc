-- The wires of terms, one term after another.
use Rattle.std.proofs.Common.{◌≡◌, ℕ, zero, suc, ◌+◌, ◌-◌, ◌<◌, ◌≤◌, Bool, true, false, List, [], ◌∷◌, ◌++◌, length, map, get_or, drop, All, refl, ap, sym, subst, ◌∙◌, arith, Option, Some, None}
use Rattle.std.specs.Prelude.{◌==◌, not, if◌then◌else◌, option_map, slice_get, slice_index_or, IsTrue}
use Rattle.std.proofs.lemmas.Bool.{false≢true}
use Rattle.std.proofs.lemmas.Option.{get_or_from_slice_get, slice_get_read}
use Rattle.std.proofs.lemmas.List.{append-nil}
use Rattle.std.proofs.lemmas.List.Elements.{All-head, All-tail}
use Rattle.wasm_rules.specs.Words.{bits_where}
use Rattle.bv_terms.specs.declared.words.Word.{Word}
use Rattle.bv_terms.specs.declared.words.Word.TheVariants.{Term as Numbered}
use Rattle.bv_terms.specs.declared.words.Form.{Form}
use Rattle.bv_terms.specs.Terms.{Term, Number, Symbol, Unary, Binary, Choose, Byte, Join, bytes_from, is_number}
use Rattle.bv_terms.specs.Graphs.{TermGraph, Holds, IsGraph, term_of, form_term}
use Rattle.bv_terms.proofs.GraphLemmas.{held}
use Rattle.bit_blast.specs.Gates.{Wires, Circuit, false_wire}
use Rattle.bit_blast.specs.Operators.{fitted}
use Rattle.bv_terms.specs.declared.words.Form.TheVariants.{Join as JoinForm}
use Rattle.bit_blast.specs.Blocks.{Builds}
use Rattle.bit_blast.specs.Formulas.{Known, wires_in, operand, byte_wires, symbol_first, symbols_end, term_wires, build_terms}
use Rattle.bit_blast.specs.GraphConditions.{term_at, terms_at}
use Rattle.bit_blast.specs.code.Tasks.{place_of, AreDistinct, known_after, known_of, wires_at, symbol_firsts}
use Rattle.bit_blast.proofs.WireLoops.{drop_next}
use Rattle.bit_blast.proofs.WalkLemmas.{same-at, same_numbers}

-- ---- symbols

pub firsts-length : (from : ℕ) (draws : List Bool) → length (symbol_firsts from draws) ≡ length draws
firsts-length from [] = refl
firsts-length from (wide ∷ draws) = ap (λ n. suc n) (firsts-length (from + bits_where wide) draws)

pub first-at : (from : ℕ) (draws : List Bool) (k x : ℕ) → slice_get (symbol_firsts from draws) k ≡ Some x → x ≡ symbol_first from draws k
first-at from [] k x e = absurd (none≢some x e)
  where
    none≢some : (n : ℕ) → None ≡ Some n → ⊥
    none≢some n e = cc
first-at from (wide ∷ draws) zero x e = some_is from x e
  where
    some_is : (m n : ℕ) → Some m ≡ Some n → n ≡ m
    some_is m n e = cc
first-at from (wide ∷ draws) (suc k) x e = first-at (from + bits_where wide) draws k x e

pub first-past : (from : ℕ) (draws : List Bool) (k : ℕ) → length draws ≤ k → symbols_end from draws ≡ symbol_first from draws k
first-past from [] k h = refl
first-past from (wide ∷ draws) zero h = absurd (omega arith)
first-past from (wide ∷ draws) (suc k) h = first-past (from + bits_where wide) draws k (omega (arith, h))

-- ---- the wires that were made

-- the wires at a place, else those that are given
abbrev pub picked : Wires → List Wires → Option ℕ → Wires
picked others wires None = others
picked others wires (Some i) = slice_index_or wires i others

known-at : (known : Known) (g : TermGraph) (order : List ℕ) (wires : List Wires) (t : ℕ) → IsGraph g.forms → Holds g (Numbered t) → All (λ x. Holds g (Numbered x)) order
    → AreDistinct order → wires_in (known_after known g order wires) (term_at g t) ≡ picked (wires_in known (term_at g t)) wires (place_of order t)
known-at known g [] wires t graph ht h once = refl
known-at known g (x ∷ xs) [] t graph ht h once = nothing (place_of (x ∷ xs) t)
  where
    nothing : (p : Option ℕ) → wires_in known (term_at g t) ≡ picked (wires_in known (term_at g t)) [] p
    nothing None = refl
    nothing (Some i) = refl
known-at known g (x ∷ xs) (made ∷ wires) t graph ht h once =
    known-at ((term_at g x, made) ∷ known) g xs wires t graph ht (All-tail (λ y. Holds g (Numbered y)) x xs h) once.1
    ∙ ap (λ b. picked (if b then made else wires_in known (term_at g t)) wires (place_of xs t)) (same-at g t x graph ht (All-head (λ y. Holds g (Numbered y)) x xs h))
    ∙ go (x == t) refl
  where
    others : Wires
    others = wires_in known (term_at g t)

    later : (p : Option ℕ) → picked others wires p ≡ picked others (made ∷ wires) (option_map (λ i. suc i) p)
    later None = refl
    later (Some i) = refl

    go : (b : Bool) → (x == t) ≡ b
        → picked (if x == t then made else others) wires (place_of xs t) ≡ picked others (made ∷ wires) (if x == t then Some 0 else option_map (λ i. suc i) (place_of xs t))
    go true e =
        ap (λ b. picked (if b then made else others) wires (place_of xs t)) e
        ∙ ap (λ p. picked made wires p) (ap (λ n. place_of xs n) (sym (same_numbers x t e)) ∙ once.0)
        ∙ sym (ap (λ b. picked others (made ∷ wires) (if b then Some 0 else option_map (λ i. suc i) (place_of xs t))) e)
    go false e =
        ap (λ b. picked (if b then made else others) wires (place_of xs t)) e
        ∙ later (place_of xs t)
        ∙ sym (ap (λ b. picked others (made ∷ wires) (if b then Some 0 else option_map (λ i. suc i) (place_of xs t))) e)

-- the wires of a term are those at its place
pub known-place : (g : TermGraph) (order : List ℕ) (wires : List Wires) (t : ℕ) → IsGraph g.forms → Holds g (Numbered t) → All (λ x. Holds g (Numbered x)) order
    → AreDistinct order → wires_at wires (place_of order t) ≡ wires_in (known_of g order wires) (term_at g t)
known-place g order wires t graph ht h once = by (place_of order t) ∙ sym (known-at [] g order wires t graph ht h once)
  where
    by : (p : Option ℕ) → wires_at wires p ≡ picked [] wires p
    by None = refl
    by (Some i) = refl

-- one term more has its wires
known-push : (known : Known) (g : TermGraph) (order : List ℕ) (wires : List Wires) (made : Wires) (t : ℕ) → slice_get order (length wires) ≡ Some t
    → known_after known g order (wires ++ made ∷ []) ≡ (term_at g t, made) ∷ known_after known g order wires
known-push known g [] wires made t e = absurd (none≢some t e)
  where
    none≢some : (n : ℕ) → None ≡ Some n → ⊥
    none≢some n e = cc
known-push known g (x ∷ []) [] made t e = ap (λ n. (term_at g n, made) ∷ known) (some_is x t e)
  where
    some_is : (m n : ℕ) → Some m ≡ Some n → m ≡ n
    some_is m n e = cc
known-push known g (x ∷ y ∷ xs) [] made t e = ap (λ n. (term_at g n, made) ∷ known) (some_is x t e)
  where
    some_is : (m n : ℕ) → Some m ≡ Some n → m ≡ n
    some_is m n e = cc
known-push known g (x ∷ xs) (w ∷ wires) made t e = known-push ((term_at g x, w) ∷ known) g xs wires made t e

-- ---- operands

operand-term : (known : Known) (bits : ℕ) (t : Term) → IsTrue (not (is_number t)) → operand known bits t ≡ wires_in known t
operand-term known bits (Number n) h = absurd (false≢true h)
operand-term known bits (Symbol k wide) h = refl
operand-term known bits (Unary op a) h = refl
operand-term known bits (Binary op a b) h = refl
operand-term known bits (Choose wide c a b) h = refl
operand-term known bits (Byte a i) h = refl
operand-term known bits (Join wide bytes) h = refl

pub operand-at : (known : Known) (bits : ℕ) (g : TermGraph) (t : ℕ) → IsGraph g.forms → Holds g (Numbered t) → wires_in known (term_at g t) ≡ operand known bits (term_at g t)
operand-at known bits g t graph ht =
    sym (operand-term known bits (term_at g t) (graph.proper (t - 256) (term_at g t) (held g.forms t ht)).0)

-- ---- one term more

pub build-next : (draws : List Bool) (g : TermGraph) (order : List ℕ) (i t : ℕ) (form : Form) (wires longer : List Wires) (made : Wires) (old new : Circuit)
    → i < length order → slice_get order i ≡ Some t → term_of g (Numbered t) ≡ form_term g form → length wires ≡ i → longer ≡ wires ++ made ∷ []
    → Builds (term_wires draws (known_of g order wires) (form_term g form)) old made new
    → build_terms draws (terms_at g (drop (i + 1) order)) (known_of g order longer) new ≡ build_terms draws (terms_at g (drop i order)) (known_of g order wires) old
build-next draws g order i t form wires longer made old new h at means long more b =
    let known = known_of g order wires in
    let left : drop i order ≡ t ∷ drop (i + 1) order = drop_next order i 0 h ∙ ap (λ n. n ∷ drop (i + 1) order) (get_or_from_slice_get order i t 0 at) in
    let there : slice_get order (length wires) ≡ Some t = ap (λ n. slice_get order n) long ∙ at in
    let all : term_wires draws known (form_term g form) old ≡ term_wires draws known (term_at g t) old = ap (λ s. term_wires draws known s old) (sym means) in
    ap (λ k. build_terms draws (terms_at g (drop (i + 1) order)) k new) (ap (λ ws. known_of g order ws) more ∙ known-push [] g order wires made t there)
    ∙ ap (λ w. build_terms draws (terms_at g (drop (i + 1) order)) ((term_at g t, w) ∷ known) new) (b.result_is ∙ ap (λ r. r.result) all)
    ∙ ap (λ c. build_terms draws (terms_at g (drop (i + 1) order)) ((term_at g t, (term_wires draws known (term_at g t) old).result) ∷ known) c) (b.circuit ∙ ap (λ r. r.circuit) all)
    ∙ sym (ap (λ ts. build_terms draws (terms_at g ts) known old) left)

-- ---- wires that are looked up

pub found : (wires : List Wires) (i : ℕ) (w : Wires) → i < length wires → w ≡ get_or wires i w → w ≡ get_or wires i []
found wires i w h is = sym (get_or_from_slice_get wires i w [] (slice_get_read wires (length wires) i w refl h is))

pub past : (wires : List Wires) (i : ℕ) → length wires ≤ i → get_or wires i [] ≡ []
past [] i h = refl
past (w ∷ wires) zero h = absurd (omega arith)
past (w ∷ wires) (suc i) h = past wires i (omega (arith, h))

pub operand-copied : (known : Known) (bits : ℕ) (g : TermGraph) (w : Word) (t : ℕ) (list wires : Wires) → IsGraph g.forms → Holds g w → w ≡ Numbered t
    → wires ≡ wires_in known (term_at g t) → list ≡ wires ++ [] → list ≡ operand known bits (term_of g w)
operand-copied known bits g w t list wires graph hw is at copied =
    copied ∙ append-nil wires ∙ at ∙ operand-at known bits g t graph (subst (λ v. Holds g v) is hw) ∙ ap (λ v. operand known bits (term_of g v)) (sym is)

pub join-built : (draws : List Bool) (known : Known) (g : TermGraph) (form : Form) (wide : Bool) (bytes view : List Word) (bits : ℕ) (all list : Wires) (n : Circuit)
    → form ≡ JoinForm wide bytes → view ≡ bytes → all ≡ byte_wires known (bytes_from (map (term_of g) view)) → bits ≡ bits_where wide → list ≡ fitted bits false_wire all
    → Builds (term_wires draws known (form_term g form)) n list n
join-built draws known g form wide bytes view bits all list n is seen made wd e =
    let there : list ≡ fitted (bits_where wide) false_wire (byte_wires known (bytes_from (map (term_of g) bytes))) =
    e ∙ ap (λ b. fitted b false_wire all) wd ∙ ap (λ ws. fitted (bits_where wide) false_wire ws) (made ∙ ap (λ bs. byte_wires known (bytes_from (map (term_of g) bs))) seen) in
    subst (λ f. Builds (term_wires draws known (form_term g f)) n list n) (sym is) (record { circuit = refl; result_is = there })
