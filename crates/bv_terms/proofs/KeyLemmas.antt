-- Keys are equal exactly where they are of one form.
use Rattle.std.proofs.Common.{◌≡◌, ℕ, Bool, true, false, List, [], ◌∷◌, refl, arith, ap, ap₂, ◌∙◌, subst}
use Rattle.std.specs.declared.cmp.Ordering.{Ordering}
use Rattle.std.specs.declared.cmp.Ordering.TheVariants.{Less, Equal, Greater}
use Rattle.std.specs.Ordering.{nat_cmp, bool_cmp, ordering_then}
use Rattle.std.specs.Cmp.Lexicographic.{slice_cmp}
use Rattle.std.proofs.lemmas.Bool.Decides.{nat_tests}
use Rattle.bv_terms.specs.declared.words.Word.{Word}
use Rattle.bv_terms.specs.declared.words.Word.TheVariants.{Num, Term as Numbered}
use Rattle.bv_terms.specs.declared.words.Form.TheVariants.{Symbol as SymbolForm, Un, Byte as ByteForm, Join as JoinForm}
use Rattle.bv_terms.specs.declared.key.Key.{Key}
use Rattle.bv_terms.specs.declared.key.Key.TheVariants.{Symbol as SymbolKey, Un as UnKey, Bin as BinKey, Choose as ChooseKey, Byte as ByteKey, Join as JoinKey}
use Rattle.bv_terms.specs.contracts.words.WordOrd.TheImpl as word_ord
use Rattle.bv_terms.specs.code.Index.{form_of, parts_cmp}

word_cmp : Word → Word → Ordering
word_cmp = (word_ord.ghosts).cmp

-- ---- the parts

then_equal : (x y : Ordering) → ordering_then x y ≡ Equal → (x ≡ Equal) × (y ≡ Equal)
then_equal Less y e = let wrong : ⊥ = cc in absurd wrong
then_equal Equal y e = (refl, e)
then_equal Greater y e = let wrong : ⊥ = cc in absurd wrong

equal_then : (x y : Ordering) → x ≡ Equal → y ≡ Equal → ordering_then x y ≡ Equal
equal_then x y e f = ap (λ o. ordering_then o y) e ∙ f

number-equal : (n m : ℕ) → nat_cmp n m ≡ Equal → n ≡ m
number-equal n m e = grind (arith, nat_tests)

number-same : (n : ℕ) → nat_cmp n n ≡ Equal
number-same n = grind (arith, nat_tests)

bool-equal : (a b : Bool) → bool_cmp a b ≡ Equal → a ≡ b
bool-equal true true e = refl
bool-equal false false e = refl
bool-equal true false e = let wrong : ⊥ = cc in absurd wrong
bool-equal false true e = let wrong : ⊥ = cc in absurd wrong

bool-same : (a : Bool) → bool_cmp a a ≡ Equal
bool-same true = refl
bool-same false = refl

word-equal : (a b : Word) → word_cmp a b ≡ Equal → a ≡ b
unfolding word_cmp
word-equal (Num n) (Num m) e = ap (λ k. Num k) (number-equal n m e)
word-equal (Numbered s) (Numbered t) e = ap (λ k. Numbered k) (number-equal s t e)
word-equal (Num n) (Numbered t) e = let wrong : ⊥ = cc in absurd wrong
word-equal (Numbered t) (Num n) e = let wrong : ⊥ = cc in absurd wrong

word-same : (a : Word) → word_cmp a a ≡ Equal
unfolding word_cmp
word-same (Num n) = number-same n
word-same (Numbered t) = number-same t

words-equal : (vs ws : List Word) → slice_cmp word_cmp vs ws ≡ Equal → vs ≡ ws
words-equal [] [] e = refl
words-equal (v ∷ vs) (w ∷ ws) e =
    let parts = then_equal (word_cmp v w) (slice_cmp word_cmp vs ws) e in
    ap₂ (λ x xs. x ∷ xs) (word-equal v w parts.0) (words-equal vs ws parts.1)
words-equal [] (w ∷ ws) e = let wrong : ⊥ = cc in absurd wrong
words-equal (v ∷ vs) [] e = let wrong : ⊥ = cc in absurd wrong

words-same : (vs : List Word) → slice_cmp word_cmp vs vs ≡ Equal
words-same [] = refl
words-same (v ∷ vs) = equal_then (word_cmp v v) (slice_cmp word_cmp vs vs) (word-same v) (words-same vs)

-- ---- keys

pub key-equal : (k l : Key) → parts_cmp k l ≡ Equal → form_of k ≡ form_of l
unfolding word_cmp
key-equal (SymbolKey n wide) (SymbolKey m wider) e =
    let parts = then_equal (nat_cmp n m) (bool_cmp wide wider) e in
    ap₂ (λ n wide. SymbolForm n wide) (number-equal n m parts.0) (bool-equal wide wider parts.1)
key-equal (UnKey op a) (UnKey oq b) e =
    let parts = then_equal (nat_cmp op oq) (word_cmp a b) e in
    ap₂ (λ n w. Un n w) (number-equal op oq parts.0) (word-equal a b parts.1)
key-equal (BinKey op a b) (BinKey oq c d) e =
    let parts = then_equal (nat_cmp op oq) (ordering_then (word_cmp a c) (word_cmp b d)) e in
    let more = then_equal (word_cmp a c) (word_cmp b d) parts.1 in
    let ops : op ≡ oq = number-equal op oq parts.0 in
    let first : a ≡ c = word-equal a c more.0 in
    let second : b ≡ d = word-equal b d more.1 in cc
key-equal (ChooseKey wide c a b) (ChooseKey wider d x y) e =
    let parts = then_equal (bool_cmp wide wider) (ordering_then (word_cmp c d) (ordering_then (word_cmp a x) (word_cmp b y))) e in
    let more = then_equal (word_cmp c d) (ordering_then (word_cmp a x) (word_cmp b y)) parts.1 in
    let last = then_equal (word_cmp a x) (word_cmp b y) more.1 in
    let width : wide ≡ wider = bool-equal wide wider parts.0 in
    let test : c ≡ d = word-equal c d more.0 in
    let first : a ≡ x = word-equal a x last.0 in
    let second : b ≡ y = word-equal b y last.1 in cc
key-equal (ByteKey a i) (ByteKey b j) e =
    let parts = then_equal (word_cmp a b) (nat_cmp i j) e in
    ap₂ (λ w n. ByteForm w n) (word-equal a b parts.0) (number-equal i j parts.1)
key-equal (JoinKey wide vs) (JoinKey wider ws) e =
    let parts = then_equal (bool_cmp wide wider) (slice_cmp word_cmp vs.items ws.items) e in
    ap₂ (λ wide words. JoinForm wide words) (bool-equal wide wider parts.0) (words-equal vs.items ws.items parts.1)
key-equal _ _ e = let wrong : ⊥ = cc in absurd wrong

number-alike : (n m : ℕ) → n ≡ m → nat_cmp n m ≡ Equal
number-alike n m e = subst (λ k. nat_cmp n k ≡ Equal) e (number-same n)

bool-alike : (a b : Bool) → a ≡ b → bool_cmp a b ≡ Equal
bool-alike a b e = subst (λ c. bool_cmp a c ≡ Equal) e (bool-same a)

word-alike : (a b : Word) → a ≡ b → word_cmp a b ≡ Equal
word-alike a b e = subst (λ c. word_cmp a c ≡ Equal) e (word-same a)

words-alike : (vs ws : List Word) → vs ≡ ws → slice_cmp word_cmp vs ws ≡ Equal
words-alike vs ws e = subst (λ us. slice_cmp word_cmp vs us ≡ Equal) e (words-same vs)

pub key-same : (k l : Key) → form_of k ≡ form_of l → parts_cmp k l ≡ Equal
unfolding word_cmp
key-same (SymbolKey n wide) (SymbolKey m wider) e =
    let number : n ≡ m = cc in
    let width : wide ≡ wider = cc in
    equal_then (nat_cmp n m) (bool_cmp wide wider) (number-alike n m number) (bool-alike wide wider width)
key-same (UnKey op a) (UnKey oq b) e =
    let ops : op ≡ oq = cc in
    let first : a ≡ b = cc in
    equal_then (nat_cmp op oq) (word_cmp a b) (number-alike op oq ops) (word-alike a b first)
key-same (BinKey op a b) (BinKey oq c d) e =
    let ops : op ≡ oq = cc in
    let first : a ≡ c = cc in
    let second : b ≡ d = cc in
    equal_then (nat_cmp op oq) (ordering_then (word_cmp a c) (word_cmp b d)) (number-alike op oq ops)
    (equal_then (word_cmp a c) (word_cmp b d) (word-alike a c first) (word-alike b d second))
key-same (ChooseKey wide c a b) (ChooseKey wider d x y) e =
    let width : wide ≡ wider = cc in
    let condition : c ≡ d = cc in
    let first : a ≡ x = cc in
    let second : b ≡ y = cc in
    equal_then (bool_cmp wide wider) (ordering_then (word_cmp c d) (ordering_then (word_cmp a x) (word_cmp b y))) (bool-alike wide wider width)
    (equal_then (word_cmp c d) (ordering_then (word_cmp a x) (word_cmp b y)) (word-alike c d condition)
    (equal_then (word_cmp a x) (word_cmp b y) (word-alike a x first) (word-alike b y second)))
key-same (ByteKey a i) (ByteKey b j) e =
    let first : a ≡ b = cc in
    let place : i ≡ j = cc in
    equal_then (word_cmp a b) (nat_cmp i j) (word-alike a b first) (number-alike i j place)
key-same (JoinKey wide vs) (JoinKey wider ws) e =
    let width : wide ≡ wider = cc in
    let all : vs.items ≡ ws.items = cc in
    equal_then (bool_cmp wide wider) (slice_cmp word_cmp vs.items ws.items) (bool-alike wide wider width) (words-alike vs.items ws.items all)
key-same _ _ e = let wrong : ⊥ = cc in absurd wrong
