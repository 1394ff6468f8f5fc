-- Where the making rules fit and where they don't, for the words of a graph.
use Rattle.std.proofs.Common.{◌≡◌, ℕ, zero, suc, ◌+◌, ◌-◌, ◌<◌, ◌≤◌, Bool, true, false, List, [], ◌∷◌, length, map, take, All, refl, ap, sym, ◌∙◌, subst, arith, Some, None, ⊎_elim}
use Rattle.std.specs.Prelude.{not, IsTrue, slice_get, unwrap_or, option_map}
use Rattle.std.proofs.lemmas.Bool.{false≢true, cases_eq}
use Rattle.std.proofs.lemmas.List.Elements.{All-nil, All-head, All-tail, All-cons, All-weaker}
use Rattle.std.proofs.lemmas.List.{take_all}
use Rattle.int_ops.specs.Bytes.{joined}
use Rattle.wasm_rules.specs.Words.{CanJoin}
use Rattle.bv_terms.specs.declared.words.Word.{Word}
use Rattle.bv_terms.specs.declared.words.Word.TheVariants.{Num, Term as Numbered}
use Rattle.bv_terms.specs.declared.words.Form.{Form}
use Rattle.bv_terms.specs.declared.words.Form.TheVariants.{Symbol as SymbolForm, Un, Bin, Choose as ChooseForm, Byte as ByteForm, Join as JoinForm}
use Rattle.bv_terms.specs.Terms.{Term, Number, Unary, Binary, Choose, Byte, Join, Bytes, Then, bytes_from, count_of, is_number, number_of, width_of, HasWidth, HaveByteWidths, are_same}
use Rattle.bv_terms.specs.Making.{of_numbers, numbers_of, byte_of_join, byte_at, join_of_bytes, whole, bytes_of_term}
use Rattle.bv_terms.specs.Graphs.{word_among, form_among, terms_of, IsBelow, IsGraph}
use Rattle.bv_terms.proofs.SameLemmas.{are_same-are, are_same-themselves}
use Rattle.bv_terms.proofs.ListLemmas.{get-below}
use Rattle.bv_terms.proofs.GraphLemmas.{held, numbered-is, word-unique, below-more}

-- a term of a graph is no number
no_number : (t : Term) → is_number t ≡ false → number_of t ≡ None
no_number (Number n) e = absurd (false≢true (sym e))
no_number _ e = refl

not_not : (b : Bool) → IsTrue (not b) → b ≡ false
not_not true h = absurd (false≢true h)
not_not false h = refl

pub held-no_number : (forms : List Form) (t : ℕ) → IsGraph forms → IsBelow (256 + length forms) (Numbered t) → number_of (word_among (terms_of forms) (Numbered t)) ≡ None
held-no_number forms t graph below =
    no_number (word_among (terms_of forms) (Numbered t))
    (not_not (is_number (word_among (terms_of forms) (Numbered t))) (graph.proper (t - 256) (word_among (terms_of forms) (Numbered t)) (held forms t below)).0)

pub word-no_number : (forms : List Form) (w : Word) (t : ℕ) → IsGraph forms → IsBelow (256 + length forms) w → w ≡ Numbered t → number_of (word_among (terms_of forms) w) ≡ None
word-no_number forms w t graph below is =
    ap (λ v. number_of (word_among (terms_of forms) v)) is ∙ held-no_number forms t graph (subst (IsBelow (256 + length forms)) is below)

-- ---- no numbers

number-none : {X : Type 0} (n : ℕ) → Some n ≡ None → X
number-none n e = cc

pub unary-none : (op : ℕ) (a : Term) → number_of a ≡ None → of_numbers (Unary op a) ≡ None
unary-none op (Number n) e = number-none n e
unary-none op _ e = refl

pub binary-none : (op : ℕ) (a b : Term) → number_of a ≡ None → of_numbers (Binary op a b) ≡ None
binary-none op (Number n) b e = number-none n e
binary-none op _ b e = refl

pub binary-second-none : (op n : ℕ) (b : Term) → number_of b ≡ None → of_numbers (Binary op (Number n) b) ≡ None
binary-second-none op n (Number m) e = number-none m e
binary-second-none op n _ e = refl

pub choose-none : (wide : Bool) (c a b : Term) → number_of c ≡ None → of_numbers (Choose wide c a b) ≡ None
choose-none wide (Number n) a b e = number-none n e
choose-none wide _ a b e = refl

pub choose-second-none : (wide : Bool) (n : ℕ) (a b : Term) → number_of a ≡ None → of_numbers (Choose wide (Number n) a b) ≡ None
choose-second-none wide n (Number m) b e = number-none m e
choose-second-none wide n _ b e = refl

pub choose-third-none : (wide : Bool) (n m : ℕ) (b : Term) → number_of b ≡ None → of_numbers (Choose wide (Number n) (Number m) b) ≡ None
choose-third-none wide n m (Number k) e = number-none k e
choose-third-none wide n m _ e = refl

pub byte-none : (a : Term) (i : ℕ) → number_of a ≡ None → of_numbers (Byte a i) ≡ None
byte-none (Number n) i e = number-none n e
byte-none _ i e = refl

-- ---- no byte of a join

pub byte_no_join : (terms : List Term) (form : Form) (i : ℕ) → ((wide : Bool) (bytes : List Word) → form ≡ JoinForm wide bytes → ⊥) → byte_of_join (Byte (form_among terms form) i) ≡ None
byte_no_join terms (JoinForm wide bytes) i other = absurd (other wide bytes refl)
byte_no_join terms _ i other = refl

-- the byte of a join at a place, as a word
pub byte_at-words : (terms : List Term) (words : List Word) (i : ℕ) → byte_at (bytes_from (map (word_among terms) words)) i ≡ word_among terms (unwrap_or (slice_get words i) (Num 0))
byte_at-words terms [] i = refl
byte_at-words terms (w ∷ ws) zero = refl
byte_at-words terms (w ∷ ws) (suc i) = byte_at-words terms ws i

pub byte_at-below : (bound : ℕ) (words : List Word) (i : ℕ) → All (IsBelow bound) words → IsBelow bound (unwrap_or (slice_get words i) (Num 0))
byte_at-below bound [] i each = tt
byte_at-below bound (w ∷ ws) zero each = All-head (IsBelow bound) w ws each
byte_at-below bound (w ∷ ws) (suc i) each = byte_at-below bound ws i (All-tail (IsBelow bound) w ws each)

-- ---- no join of all bytes

-- whose first word is no byte
pub first-number : (wide : Bool) (terms : List Term) (words : List Word) (first : Word) (n : ℕ) → slice_get words 0 ≡ Some first → first ≡ Num n
    → join_of_bytes (Join wide (bytes_from (map (word_among terms) words))) ≡ None
first-number wide terms [] first n at is = let wrong : ⊥ = cc in absurd wrong
first-number wide terms (w ∷ ws) first n at is =
    let same : w ≡ Num n = cc in
    ap (λ v. join_of_bytes (Join wide (Then (word_among terms v) (bytes_from (map (word_among terms) ws))))) same

no_byte_first : (wide : Bool) (terms : List Term) (form : Form) (rest : Bytes) → ((a : Word) (i : ℕ) → form ≡ ByteForm a i → ⊥)
    → join_of_bytes (Join wide (Then (form_among terms form) rest)) ≡ None
no_byte_first wide terms (ByteForm a i) rest other = absurd (other a i refl)
no_byte_first wide terms _ rest other = refl

pub first-other : (wide : Bool) (terms : List Term) (words : List Word) (first : Word) (form : Form) → slice_get words 0 ≡ Some first
    → word_among terms first ≡ form_among terms form → ((a : Word) (i : ℕ) → form ≡ ByteForm a i → ⊥)
    → join_of_bytes (Join wide (bytes_from (map (word_among terms) words))) ≡ None
first-other wide terms [] first form at means other = let wrong : ⊥ = cc in absurd wrong
first-other wide terms (w ∷ ws) first form at means other =
    let is : w ≡ first = cc in
    ap (λ t. join_of_bytes (Join wide (Then t (bytes_from (map (word_among terms) ws))))) (ap (word_among terms) is ∙ means)
    ∙ no_byte_first wide terms form (bytes_from (map (word_among terms) ws)) other

-- whose first word is a byte
pub first-byte : (wide : Bool) (terms : List Term) (words : List Word) (first : Word) (t : Term) (i : ℕ) → slice_get words 0 ≡ Some first
    → word_among terms first ≡ Byte t i
    → join_of_bytes (Join wide (bytes_from (map (word_among terms) words))) ≡ whole wide (bytes_from (map (word_among terms) words)) t
first-byte wide terms [] first t i at means = let wrong : ⊥ = cc in absurd wrong
first-byte wide terms (w ∷ ws) first t i at means =
    let is : w ≡ first = cc in
    let byte : word_among terms w ≡ Byte t i = ap (word_among terms) is ∙ means in
    subst (λ s. join_of_bytes (Join wide (Then s (bytes_from (map (word_among terms) ws)))) ≡ whole wide (Then s (bytes_from (map (word_among terms) ws))) t) (sym byte) refl

-- ---- all bytes of a term

count_of-bytes_of_term : (t : Term) (i n : ℕ) → count_of (bytes_of_term t i n) ≡ n
count_of-bytes_of_term t i zero = refl
count_of-bytes_of_term t i (suc n) = omega (arith, count_of-bytes_of_term t (i + 1) n)

count_of-words : (terms : List Term) (words : List Word) → count_of (bytes_from (map (word_among terms) words)) ≡ length words
count_of-words terms [] = refl
count_of-words terms (w ∷ ws) = omega (arith, count_of-words terms ws)

pub not_same : (bytes others : Bytes) → (bytes ≡ others → ⊥) → are_same bytes others ≡ false
not_same bytes others apart = go (are_same bytes others) refl
  where
    go : (b : Bool) → are_same bytes others ≡ b → b ≡ false
    go true is = absurd (apart (are_same-are bytes others is))
    go false is = refl

pub count-apart : (terms : List Term) (words : List Word) (t : Term) (n : ℕ) → (length words ≡ n → ⊥)
    → are_same (bytes_from (map (word_among terms) words)) (bytes_of_term t 0 n) ≡ false
count-apart terms words t n apart =
    not_same (bytes_from (map (word_among terms) words)) (bytes_of_term t 0 n)
    (λ e. apart (sym (count_of-words terms words) ∙ ap count_of e ∙ count_of-bytes_of_term t 0 n))

all-from : (terms : List Term) (words : List Word) (t : Term) (i : ℕ) → ((k : ℕ) (w : Word) → slice_get words k ≡ Some w → word_among terms w ≡ Byte t (i + k))
    → bytes_from (map (word_among terms) words) ≡ bytes_of_term t i (length words)
all-from terms [] t i each = refl
all-from terms (w ∷ ws) t i each =
    let first : word_among terms w ≡ Byte t i = each 0 w refl ∙ ap (λ n. Byte t n) (zero_more i) in
    let others : bytes_from (map (word_among terms) ws) ≡ bytes_of_term t (i + 1) (length ws) =
    all-from terms ws t (i + 1) (λ k v at. each (suc k) v at ∙ ap (λ n. Byte t n) (one_more i k)) in cc
  where
    zero_more : (i : ℕ) → i + 0 ≡ i
    zero_more i = omega arith

    one_more : (i k : ℕ) → i + suc k ≡ (i + 1) + k
    one_more i k = omega arith

pub all-same : (terms : List Term) (words : List Word) (t : Term) (n : ℕ) → length words ≡ n → ((k : ℕ) (w : Word) → slice_get words k ≡ Some w → word_among terms w ≡ Byte t (0 + k))
    → are_same (bytes_from (map (word_among terms) words)) (bytes_of_term t 0 n) ≡ true
all-same terms words t n long each =
    subst (λ others. are_same (bytes_from (map (word_among terms) words)) others ≡ true)
    (all-from terms words t 0 each ∙ ap (λ k. bytes_of_term t 0 k) long)
    (are_same-themselves (bytes_from (map (word_among terms) words)))

byte-there : (t : Term) (i n k : ℕ) (terms : List Term) (words : List Word) (w : Word) → bytes_from (map (word_among terms) words) ≡ bytes_of_term t i n → slice_get words k ≡ Some w
    → word_among terms w ≡ Byte t (i + k)
byte-there t i n k terms [] w e at = let wrong : ⊥ = cc in absurd wrong
byte-there t i zero zero terms (v ∷ vs) w e at = cc
byte-there t i zero (suc k) terms (v ∷ vs) w e at = cc
byte-there t i (suc n) zero terms (v ∷ vs) w e at =
    let is : v ≡ w = cc in
    let means : word_among terms v ≡ Byte t i = cc in
    let place : i ≡ i + 0 = omega arith in
    ap (word_among terms) (sym is) ∙ means ∙ ap (λ m. Byte t m) place
byte-there t i (suc n) (suc k) terms (v ∷ vs) w e at =
    let others : bytes_from (map (word_among terms) vs) ≡ bytes_of_term t (i + 1) n = cc in
    let place : (i + 1) + k ≡ i + suc k = omega arith in
    byte-there t (i + 1) n k terms vs w others at ∙ ap (λ m. Byte t m) place

pub one-apart : (terms : List Term) (words : List Word) (t : Term) (n k : ℕ) (w : Word) → slice_get words k ≡ Some w → (word_among terms w ≡ Byte t k → ⊥)
    → are_same (bytes_from (map (word_among terms) words)) (bytes_of_term t 0 n) ≡ false
one-apart terms words t n k w at apart =
    not_same (bytes_from (map (word_among terms) words)) (bytes_of_term t 0 n)
    (λ e. let place : 0 + k ≡ k = omega arith in apart (byte-there t 0 n k terms words w e at ∙ ap (λ m. Byte t m) place))

-- ---- numbers joined

pub numbers-none : (terms : List Term) (words : List Word) (i : ℕ) (w : Word) → slice_get words i ≡ Some w → number_of (word_among terms w) ≡ None
    → numbers_of (bytes_from (map (word_among terms) words)) ≡ None
numbers-none terms [] i w at none = let wrong : ⊥ = cc in absurd wrong
numbers-none terms (v ∷ vs) zero w at none =
    let is : v ≡ w = cc in first (word_among terms v) (ap (λ x. number_of (word_among terms x)) is ∙ none)
  where
    first : (t : Term) → number_of t ≡ None → numbers_of (Then t (bytes_from (map (word_among terms) vs))) ≡ None
    first (Number n) e = number-none n e
    first _ e = refl
numbers-none terms (v ∷ vs) (suc i) w at none = later (word_among terms v) (numbers-none terms vs i w at none)
  where
    later : (t : Term) → numbers_of (bytes_from (map (word_among terms) vs)) ≡ None → numbers_of (Then t (bytes_from (map (word_among terms) vs))) ≡ None
    later (Number n) e = ap (λ o. option_map (λ (ns : List ℕ). n ∷ ns) o) e
    later _ e = refl

pub join-none : (wide : Bool) (bytes : Bytes) → numbers_of bytes ≡ None → of_numbers (Join wide bytes) ≡ None
join-none wide bytes e = ap (λ o. option_map (λ (ns : List ℕ). Number (joined ns)) o) e

numbers_of-numbers : (terms : List Term) (ns : List ℕ) → numbers_of (bytes_from (map (word_among terms) (map (λ n. Num n) ns))) ≡ Some ns
numbers_of-numbers terms [] = refl
numbers_of-numbers terms (n ∷ ns) = ap (λ o. option_map (λ (ms : List ℕ). n ∷ ms) o) (numbers_of-numbers terms ns)

pub join-some : (wide : Bool) (terms : List Term) (words : List Word) (ns : List ℕ) → words ≡ map (λ n. Num n) ns
    → of_numbers (Join wide (bytes_from (map (word_among terms) words))) ≡ Some (Number (joined ns))
join-some wide terms words ns is =
    ap (λ ws. of_numbers (Join wide (bytes_from (map (word_among terms) ws)))) is
    ∙ ap (λ o. option_map (λ (ms : List ℕ). Number (joined ms)) o) (numbers_of-numbers terms ns)

small-numbers : (terms : List Term) (ns : List ℕ) → All (λ b. HasWidth 8 (word_among terms b)) (map (λ n. Num n) ns) → All (λ n. n < 256) ns
small-numbers terms [] each = λ i d h. absurd (omega arith)
small-numbers terms (n ∷ ns) each =
    All-cons (λ n. n < 256) n ns (All-head (λ b. HasWidth 8 (word_among terms b)) (Num n) (map (λ n. Num n) ns) each)
    (small-numbers terms ns (All-tail (λ b. HasWidth 8 (word_among terms b)) (Num n) (map (λ n. Num n) ns) each))

pub small : (terms : List Term) (words : List Word) (ns : List ℕ) → words ≡ map (λ n. Num n) ns → All (λ b. HasWidth 8 (word_among terms b)) words → All (λ n. n < 256) ns
small terms words ns is each = small-numbers terms ns (subst (All (λ b. HasWidth 8 (word_among terms b))) is each)

-- ---- one byte of a word

pub byte-is : (forms : List Form) → IsGraph forms → (word a b : Word) (t i j : ℕ) (r : Bool) → word ≡ Numbered t → slice_get forms (t - 256) ≡ Some (ByteForm b j)
    → IsBelow (256 + length forms) a → (IsTrue r → (b ≡ a) × (j ≡ i)) → ((b ≡ a) × (j ≡ i) → IsTrue r)
    → (IsTrue r → word_among (terms_of forms) word ≡ Byte (word_among (terms_of forms) a) i) × (word_among (terms_of forms) word ≡ Byte (word_among (terms_of forms) a) i → IsTrue r)
byte-is forms graph word a b t i j r is at below there back =
    let means : word_among (terms_of forms) word ≡ Byte (word_among (terms_of forms) b) j = ap (word_among (terms_of forms)) is ∙ numbered-is forms t (ByteForm b j) graph at in (
      λ yes. let same = there yes in
          means ∙ ap (λ w. Byte (word_among (terms_of forms) w) j) same.0 ∙ ap (λ n. Byte (word_among (terms_of forms) a) n) same.1,
      λ e. let whole_is : Byte (word_among (terms_of forms) b) j ≡ Byte (word_among (terms_of forms) a) i = sym means ∙ e in
          let place : j ≡ i = cc in
          let over : word_among (terms_of forms) b ≡ word_among (terms_of forms) a = cc in
          back (word-unique forms graph b a (byte-operand forms graph t b j at) below over, place),
    )
  where
    byte-operand : (forms : List Form) → IsGraph forms → (t : ℕ) (b : Word) (j : ℕ) → slice_get forms (t - 256) ≡ Some (ByteForm b j) → IsBelow (256 + length forms) b
    byte-operand forms graph t b j at =
        below-more (256 + (t - 256)) (256 + length forms) b (omega (arith, get-below forms (t - 256) (ByteForm b j) at)) (graph.ordered (t - 256) (ByteForm b j) at)

form_no_byte : (terms : List Term) (form : Form) (t : Term) (i : ℕ) → ((a : Word) (j : ℕ) → form ≡ ByteForm a j → ⊥) → form_among terms form ≡ Byte t i → ⊥
form_no_byte terms (ByteForm a j) t i other e = other a j refl
form_no_byte terms (SymbolForm number wide) t i other e = cc
form_no_byte terms (Un op a) t i other e = cc
form_no_byte terms (Bin op a b) t i other e = cc
form_no_byte terms (ChooseForm wide c a b) t i other e = cc
form_no_byte terms (JoinForm wide bytes) t i other e = cc

pub byte-is_not : (forms : List Form) → IsGraph forms → (word : Word) (t : ℕ) (form : Form) (s : Term) (i : ℕ) → word ≡ Numbered t → slice_get forms (t - 256) ≡ Some form
    → ((a : Word) (j : ℕ) → form ≡ ByteForm a j → ⊥) → word_among (terms_of forms) word ≡ Byte s i → ⊥
byte-is_not forms graph word t form s i is at other e =
    form_no_byte (terms_of forms) form s i other (sym (ap (word_among (terms_of forms)) is ∙ numbered-is forms t form graph at) ∙ e)

-- ---- what rules give of a term of the graph

pub at-word : (forms : List Form) → IsGraph forms → (word : Word) (t : ℕ) (form : Form) → word ≡ Numbered t → slice_get forms (t - 256) ≡ Some form
    → word_among (terms_of forms) word ≡ form_among (terms_of forms) form
at-word forms graph word t form is at = ap (word_among (terms_of forms)) is ∙ numbered-is forms t form graph at

pub join-operands : (forms : List Form) → IsGraph forms → (t : ℕ) (wide : Bool) (bytes : List Word) → slice_get forms (t - 256) ≡ Some (JoinForm wide bytes)
    → All (IsBelow (256 + length forms)) bytes
join-operands forms graph t wide bytes at =
    All-weaker (IsBelow (256 + (t - 256))) (IsBelow (256 + length forms))
    (λ w h. below-more (256 + (t - 256)) (256 + length forms) w (omega (arith, get-below forms (t - 256) (JoinForm wide bytes) at)) h)
    bytes (graph.ordered (t - 256) (JoinForm wide bytes) at)

pub byte-gives : (forms : List Form) → IsGraph forms → (word w : Word) (t : ℕ) (wide : Bool) (bytes : List Word) (i : ℕ) → word ≡ Numbered t
    → slice_get forms (t - 256) ≡ Some (JoinForm wide bytes) → w ≡ unwrap_or (slice_get bytes i) (Num 0)
    → (byte_of_join (Byte (word_among (terms_of forms) word) i) ≡ Some (word_among (terms_of forms) w)) × IsBelow (256 + length forms) w
byte-gives forms graph word w t wide bytes i is at one = (
  ap (λ s. byte_of_join (Byte s i)) (at-word forms graph word t (JoinForm wide bytes) is at)
      ∙ ap (λ s. Some s) (byte_at-words (terms_of forms) bytes i ∙ ap (word_among (terms_of forms)) (sym one)),
  subst (IsBelow (256 + length forms)) (sym one) (byte_at-below (256 + length forms) bytes i (join-operands forms graph t wide bytes at)),
)

-- the last rule, by what the first word is
pub whole-number : (forms : List Form) (wide : Bool) (bytes : List Word) (first : Word) (n : ℕ) → slice_get bytes 0 ≡ Some first → first ≡ Num n
    → join_of_bytes (Join wide (bytes_from (map (word_among (terms_of forms)) bytes))) ≡ None
whole-number forms wide bytes first n at is = first-number wide (terms_of forms) bytes first n at is

pub whole-other : (forms : List Form) → IsGraph forms → (wide : Bool) (bytes : List Word) (first : Word) (t : ℕ) (form : Form) → slice_get bytes 0 ≡ Some first → first ≡ Numbered t
    → slice_get forms (t - 256) ≡ Some form → ((a : Word) (i : ℕ) → form ≡ ByteForm a i → ⊥)
    → join_of_bytes (Join wide (bytes_from (map (word_among (terms_of forms)) bytes))) ≡ None
whole-other forms graph wide bytes first t form head is at other =
    first-other wide (terms_of forms) bytes first form head (at-word forms graph first t form is at) other

pub whole-byte : (forms : List Form) → IsGraph forms → (wide : Bool) (bytes : List Word) (first a : Word) (t i : ℕ) → slice_get bytes 0 ≡ Some first → first ≡ Numbered t
    → slice_get forms (t - 256) ≡ Some (ByteForm a i)
    → join_of_bytes (Join wide (bytes_from (map (word_among (terms_of forms)) bytes)))
    ≡ whole wide (bytes_from (map (word_among (terms_of forms)) bytes)) (word_among (terms_of forms) a)
whole-byte forms graph wide bytes first a t i head is at =
    first-byte wide (terms_of forms) bytes first (word_among (terms_of forms) a) i head (at-word forms graph first t (ByteForm a i) is at)

pub byte-below : (forms : List Form) → IsGraph forms → (t : ℕ) (b : Word) (j : ℕ) → slice_get forms (t - 256) ≡ Some (ByteForm b j) → IsBelow (256 + length forms) b
byte-below forms graph t b j at =
    below-more (256 + (t - 256)) (256 + length forms) b (omega (arith, get-below forms (t - 256) (ByteForm b j) at)) (graph.ordered (t - 256) (ByteForm b j) at)

-- ---- the loop over bytes

-- the words before a place are the bytes of a term, in order
abbrev pub AreBytesOf : List Term → List Word → Term → ℕ → Type 0
AreBytesOf terms words t n = (k : ℕ) (w : Word) → k < n → slice_get words k ≡ Some w → word_among terms w ≡ Byte t k

pub bytes-more : (terms : List Term) (words : List Word) (t : Term) (i : ℕ) (w : Word) → AreBytesOf terms words t i → slice_get words i ≡ Some w → word_among terms w ≡ Byte t i
    → AreBytesOf terms words t (i + 1)
bytes-more terms words t i w before at is k v below there =
    ⊎_elim (λ same. let one : w ≡ v = some_is w v (sym at ∙ ap (λ n. slice_get words n) (sym same) ∙ there) in
    ap (word_among terms) (sym one) ∙ is ∙ ap (λ n. Byte t n) (sym same))
    (λ apart. before k v (under k i below apart) there) (cases_eq k i)
  where
    under : (k i : ℕ) → k < i + 1 → (k ≡ i → ⊥) → k < i
    under k i below apart = omega arith

    some_is : (a b : Word) → Some a ≡ Some b → a ≡ b
    some_is a b e = cc

pub bytes-all : (terms : List Term) (words : List Word) (t : Term) (n i : ℕ) → length words ≡ n → length words ≤ i → AreBytesOf terms words t i
    → are_same (bytes_from (map (word_among terms) words)) (bytes_of_term t 0 n) ≡ true
bytes-all terms words t n i long end each =
    all-same terms words t n long (λ k w at. each k w (omega (arith, get-below words k w at)) at ∙ ap (λ m. Byte t m) (sym (zero_plus k)))
  where
    zero_plus : (k : ℕ) → 0 + k ≡ k
    zero_plus k = omega arith

-- ---- the loop over numbers

-- the words before a place are these numbers
pub record AreFilled (words : List Word) (all : List ℕ) (i : ℕ) : Type 0 where
  pub room : length all ≡ 8
  pub filled : take i words ≡ map (λ n. Num n) (take i all)

pub filled-whole : (words : List Word) (all : List ℕ) (i : ℕ) → AreFilled words all i → i ≤ length words → length words ≤ i → words ≡ map (λ n. Num n) (take (length words) all)
filled-whole words all i f below above =
    let at : i ≡ length words = omega arith in
    sym (take_all (length words) words (omega arith)) ∙ subst (λ n. take n words ≡ map (λ n. Num n) (take n all)) at f.filled

-- ---- the bytes of a join that has a width

joinable : (wide : Bool) (n : ℕ) → CanJoin wide n → n ≤ 8
joinable wide n can = ⊎_elim (λ e. at n 1 e (omega arith)) (λ more. ⊎_elim (λ e. at n 2 e (omega arith)) (λ more. ⊎_elim (λ e. at n 4 e (omega arith)) (λ e. at n 8 e.0 (omega arith)) more) more) can
  where
    at : (n m : ℕ) → n ≡ m → m ≤ 8 → n ≤ 8
    at n m e h = omega arith

typed-join : (terms : List Term) (form : Form) (wide : Bool) (words : List Word) → form ≡ JoinForm wide words → HasWidth (width_of (form_among terms form)) (form_among terms form)
    → CanJoin wide (count_of (bytes_from (map (word_among terms) words))) × HaveByteWidths (bytes_from (map (word_among terms) words))
typed-join terms form wide words is typed =
    let h = subst (λ f. HasWidth (width_of (form_among terms f)) (form_among terms f)) is typed in (h.1, h.2)

pub join-count : (terms : List Term) (form : Form) (wide : Bool) (words : List Word) → form ≡ JoinForm wide words → HasWidth (width_of (form_among terms form)) (form_among terms form)
    → length words ≤ 8
join-count terms form wide words is typed =
    subst (λ n. n ≤ 8) (count_of-words terms words) (joinable wide (count_of (bytes_from (map (word_among terms) words))) (typed-join terms form wide words is typed).0)

each-byte : (terms : List Term) (words : List Word) → HaveByteWidths (bytes_from (map (word_among terms) words)) → All (λ b. HasWidth 8 (word_among terms b)) words
each-byte terms [] h = All-nil (λ b. HasWidth 8 (word_among terms b))
each-byte terms (w ∷ ws) h = All-cons (λ b. HasWidth 8 (word_among terms b)) w ws h.0 (each-byte terms ws h.1)

pub join-each : (terms : List Term) (form : Form) (wide : Bool) (words : List Word) → form ≡ JoinForm wide words → HasWidth (width_of (form_among terms form)) (form_among terms form)
    → All (λ b. HasWidth 8 (word_among terms b)) words
join-each terms form wide words is typed = each-byte terms words (typed-join terms form wide words is typed).1
