-- What the parts of instructions' rules give, of words of their widths.
use Rattle.std.proofs.Common.{◌≡◌, ℕ, zero, suc, ◌+◌, ◌^◌, ◌<◌, ◌≤◌, List, [], ◌∷◌, ◌++◌, map, take, drop, length, reverse, refl, sym, ◌∙◌, subst, arith, inl, inr, length-append}
use Rattle.std.specs.Prelude.{Bool, true, false, nat_lt, nat_le, if◌then◌else◌, Option, Some, None, All, slice_get, slice_set, replicate}
use Rattle.std.specs.List.{AllByRecursion}
use Rattle.std.proofs.lemmas.Grind.{pieces}
use Rattle.std.proofs.lemmas.List.{reverse-append, length-take-le, length-drop}
use Rattle.std.proofs.lemmas.List.Elements.{All-head, All-tail, All-nil, All-cons, All-append, All-map, All-weaker}
use Rattle.std.proofs.lemmas.Bool.Decides.{nat_tests}
use Rattle.wasm_ast.specs.declared.types.ValType.{ValType}
use Rattle.wasm_ast.specs.declared.types.ValType.TheVariants.{I32 as I32Type, I64 as I64Type, FuncRef as FuncRefType, ExternRef as ExternRefType}
use Rattle.wasm_ast.specs.declared.modules.Group.{Group}
use Rattle.wasm_ast.specs.declared.runs.Cause.{Cause}
use Rattle.int_ops.specs.declared.operators.Width.{Width}
use Rattle.int_ops.specs.declared.operators.Width.TheVariants.{W32, W64}
use Rattle.int_ops.specs.Integers.{minus_one}
use Rattle.int_ops.specs.Operators.{bits_of}
use Rattle.wasm_rules.specs.Words.{Kind, Gives, HasSome, bits_where}
use Rattle.wasm_rules.specs.Accesses.{lowest_bytes}
use Rattle.wasm_reduction.specs.Configurations.{Reference, Value, I32, I64, Ref, Config, Next, Ends, Stuck, Traps}
use Rattle.wasm_reduction.specs.Functions.{default, first_locals}
use Rattle.wasm_reduction.specs.Combinators.{holding, valued, with_found, with_value, with_word, with_reference, with_last, testing, trapping_if, picking, assuming, within, written, part}
use Rattle.wasm_reduction.specs.Ranges.{with_element, indexing, addressing, filling, copying, with_copy, growth_limit, grown, growing}
use Rattle.wasm_reduction.specs.Numeric.{is_wide}
use Rattle.wasm_reduction.specs.Maps.{ValueHas, ValuesHave}
use Rattle.wasm_reduction.specs.Widths.{IsMemorySize, HasWidths, NextHasWidths}
use Rattle.wasm_reduction.proofs.WordWidths.{ge_u, or, binary-has, ends-past-has, range-has}

-- ---- lists

pub each-get : {A : Type 0} (P : A → Type 0) (xs : List A) (n : ℕ) (x : A) → AllByRecursion P xs → slice_get xs n ≡ Some x → P x
each-get P [] n x h e = absurd cc
each-get P (y ∷ ys) zero x h e = let same : y ≡ x = cc in subst P same h.0
each-get P (y ∷ ys) (suc n) x h e = each-get P ys n x h.1 e

pub each-of : {A : Type 0} (P : A → Type 0) (xs : List A) → All P xs → AllByRecursion P xs
each-of P [] h = tt
each-of P (x ∷ xs) h = (All-head P x xs h, each-of P xs (All-tail P x xs h))

pub each-set : {A : Type 0} (P : A → Type 0) (xs : List A) (n : ℕ) (x : A) → AllByRecursion P xs → P x → AllByRecursion P (slice_set xs n x)
each-set P [] n x h p = tt
each-set P (y ∷ ys) zero x h p = (p, h.1)
each-set P (y ∷ ys) (suc n) x h p = (h.0, each-set P ys n x h.1 p)

pub each-append : {A : Type 0} (P : A → Type 0) (xs ys : List A) → AllByRecursion P xs → AllByRecursion P ys → AllByRecursion P (xs ++ ys)
each-append P [] ys h k = k
each-append P (x ∷ xs) ys h k = (h.0, each-append P xs ys h.1 k)

pub each-drop : {A : Type 0} (P : A → Type 0) (n : ℕ) (xs : List A) → AllByRecursion P xs → AllByRecursion P (drop n xs)
each-drop P zero xs h = h
each-drop P (suc n) [] h = tt
each-drop P (suc n) (x ∷ xs) h = each-drop P n xs h.1

pub part-length : {A : Type 0} (place n : ℕ) (xs : List A) → place + n ≤ length xs → length (part place n xs) ≡ n
part-length place n xs l = length-take-le n (drop place xs) (omega (arith, l, length-drop place xs))

-- what is written within a list leaves it as long
pub written-length : {A : Type 0} (place n : ℕ) (xs list : List A) → length xs ≡ n → place + n ≤ length list → length (written place xs list) ≡ length list
written-length place n xs list e l =
    let before : length (take place list) ≡ place = length-take-le place list (omega (arith, l)) in
    let after = length-drop (place + length xs) list in
    let both : length (written place xs list) ≡ length (take place list ++ xs) + length (drop (place + length xs) list) = length-append (take place list ++ xs) (drop (place + length xs) list) in
    let second = length-append (take place list) xs in
    omega (arith, e, l, before, after, both, second)

pub written-all : {A : Type 0} (P : A → Type 0) (place : ℕ) (xs list : List A) → All P xs → All P list → All P (written place xs list)
written-all P place xs list p q = search (pieces, p, q)

pub part-all : {A : Type 0} (P : A → Type 0) (place n : ℕ) (xs : List A) → All P xs → All P (part place n xs)
part-all P place n xs p = search (pieces, p)

-- ---- values

module _ {W : Type 0} (Has : ℕ → W → Type 0) where
  pub have-append : (vs ws : List (Value W)) → ValuesHave Has vs → ValuesHave Has ws → ValuesHave Has (vs ++ ws)
  have-append [] ws h k = k
  have-append (v ∷ vs) ws h k = (h.0, have-append vs ws h.1 k)

  pub have-take : (n : ℕ) (vs : List (Value W)) → ValuesHave Has vs → ValuesHave Has (take n vs)
  have-take zero vs h = tt
  have-take (suc n) [] h = tt
  have-take (suc n) (v ∷ vs) h = (h.0, have-take n vs h.1)

  pub have-drop : (n : ℕ) (vs : List (Value W)) → ValuesHave Has vs → ValuesHave Has (drop n vs)
  have-drop zero vs h = h
  have-drop (suc n) [] h = tt
  have-drop (suc n) (v ∷ vs) h = have-drop n vs h.1

  pub have-reverse : (vs : List (Value W)) → ValuesHave Has vs → ValuesHave Has (reverse vs)
  have-reverse [] h = tt
  have-reverse (v ∷ vs) h = subst (ValuesHave Has) (sym (reverse-append (v ∷ []) vs)) (have-append (reverse vs) (v ∷ []) (have-reverse vs h.1) (h.0, tt))

  pub have-get : (vs : List (Value W)) (n : ℕ) (v : Value W) → ValuesHave Has vs → slice_get vs n ≡ Some v → ValueHas Has v
  have-get [] n v h e = absurd cc
  have-get (u ∷ vs) zero v h e = let same : u ≡ v = cc in subst (ValueHas Has) same h.0
  have-get (u ∷ vs) (suc n) v h e = have-get vs n v h.1 e

  pub have-set : (vs : List (Value W)) (n : ℕ) (v : Value W) → ValuesHave Has vs → ValueHas Has v → ValuesHave Has (slice_set vs n v)
  have-set [] n v h p = tt
  have-set (u ∷ vs) zero v h p = (p, h.1)
  have-set (u ∷ vs) (suc n) v h p = (h.0, have-set vs n v h.1 p)

  pub have-replicate : (n : ℕ) (v : Value W) → ValueHas Has v → ValuesHave Has (replicate n v)
  have-replicate zero v p = tt
  have-replicate (suc n) v p = (p, have-replicate n v p)

  pub valued-has : (wide : Bool) (w : W) → Has (bits_where wide) w → ValueHas Has (valued wide w)
  valued-has false w p = p
  valued-has true w p = p

  pub has-some : (wide : Bool) (w : W) → Has (bits_where wide) w → HasSome Has w
  has-some false w p = inr (inl p)
  has-some true w p = inr (inr p)

  -- ---- the parts of rules

  abbrev N : Next W → Type 0
  N x = NextHasWidths Has x

  pub found-wide : {A : Type 0} (o : Option A) (go : A → Next W) → ((x : A) → o ≡ Some x → N (go x)) → N (with_found o go)
  found-wide None go f = tt
  found-wide (Some x) go f = f x refl

  pub value-wide : (vs : List (Value W)) (go : Value W → List (Value W) → Next W) → ValuesHave Has vs →
      ((v : Value W) (rest : List (Value W)) → ValueHas Has v → ValuesHave Has rest → N (go v rest)) → N (with_value vs go)
  value-wide [] go p f = tt
  value-wide (v ∷ vs) go p f = f v vs p.0 p.1

  pub word-wide : (wide : Bool) (vs : List (Value W)) (go : W → List (Value W) → Next W) → ValuesHave Has vs →
      ((w : W) (rest : List (Value W)) → Has (bits_where wide) w → ValuesHave Has rest → N (go w rest)) → N (with_word wide vs go)
  word-wide wide [] go p f = tt
  word-wide false (I32 w ∷ vs) go p f = f w vs p.0 p.1
  word-wide false (I64 w ∷ vs) go p f = tt
  word-wide false (Ref r ∷ vs) go p f = tt
  word-wide true (I32 w ∷ vs) go p f = tt
  word-wide true (I64 w ∷ vs) go p f = f w vs p.0 p.1
  word-wide true (Ref r ∷ vs) go p f = tt

  pub reference-wide : (vs : List (Value W)) (go : Reference → List (Value W) → Next W) → ValuesHave Has vs →
      ((r : Reference) (rest : List (Value W)) → ValuesHave Has rest → N (go r rest)) → N (with_reference vs go)
  reference-wide [] go p f = tt
  reference-wide (I32 w ∷ vs) go p f = tt
  reference-wide (I64 w ∷ vs) go p f = tt
  reference-wide (Ref r ∷ vs) go p f = f r vs p.1

  pub copy-wide : (vs : List (Value W)) (go : W → W → W → List (Value W) → Next W) → ValuesHave Has vs →
      ((to from count : W) (rest : List (Value W)) → Has 32 to → Has 32 from → Has 32 count → ValuesHave Has rest → N (go to from count rest)) → N (with_copy vs go)
  copy-wide vs go p f = word-wide false vs _ p (λ count rest c p. word-wide false rest _ p (λ from rest b p. word-wide false rest _ p (λ to rest a p. f to from count rest a b c p)))

  choice-wide : (b : Bool) (x y : Next W) → N x → N y → N (if b then x else y)
  choice-wide true x y p q = p
  choice-wide false x y p q = q

  pub last-wide : (n : ℕ) (vs : List (Value W)) (go : List (Value W) → List (Value W) → Next W) → ValuesHave Has vs →
      ((given rest : List (Value W)) → ValuesHave Has given → ValuesHave Has rest → N (go given rest)) → N (with_last n vs go)
  last-wide n vs go p f = choice-wide (nat_lt (length vs) n) (Ends Stuck) _ tt (f (take n vs) (drop n vs) (have-take n vs p) (have-drop n vs p))

  pub testing-wide : (w : W) (ns : List ℕ) (z o : List ℕ → Next W) → Has 32 w → ((ns : List ℕ) → N (z ns)) → ((ns : List ℕ) → N (o ns)) → N (testing w ns z o)
  testing-wide w [] z o p f g = p
  testing-wide w (zero ∷ ns) z o p f g = f ns
  testing-wide w (suc n ∷ ns) z o p f g = g ns

  pub trapping-wide : (w : W) (cause : Cause) (ns : List ℕ) (go : List ℕ → Next W) → Has 32 w → ((ns : List ℕ) → N (go ns)) → N (trapping_if w cause ns go)
  trapping-wide w cause ns go p f = testing-wide w ns go _ p f (λ ns. tt)

  pub picking-wide : (w : W) (ns : List ℕ) (go : ℕ → List ℕ → Next W) → Has 32 w → ((n : ℕ) (ns : List ℕ) → N (go n ns)) → N (picking w ns go)
  picking-wide w [] go p f = p
  picking-wide w (n ∷ ns) go p f = f n ns

  pub assuming-wide : (w : W) (ns : List ℕ) (x y : Next W) → Has 32 w → N x → N y → N (assuming w ns x y)
  assuming-wide w [] x y p f g = p
  assuming-wide w (zero ∷ ns) x y p f g = f
  assuming-wide w (suc n ∷ ns) x y p f g = g

  pub within-wide : (end size : ℕ) (cause : Cause) (x : Next W) → (end ≤ size → N x) → N (within end size cause x)
  within-wide end size cause x f = at (nat_lt size end) refl
    where
      at : (b : Bool) → nat_lt size end ≡ b → N (if b then Ends (Traps cause) else x)
      at true e = tt
      at false e = f (grind (arith, nat_tests, e))

  pub element-wide : {A : Type 0} (cause : Cause) (o : Option A) (go : A → Next W) → ((x : A) → N (go x)) → N (with_element cause o go)
  element-wide cause None go f = tt
  element-wide cause (Some x) go f = f x

  module _ (K : Kind W) (g : Gives K Has) where
    pub indexing-wide : {A : Type 0} (cause : Cause) (index : W) (elements : List A) (ns : List ℕ) (go : ℕ → A → List ℕ → Next W) → Has 32 index → length elements < 2 ^ 32 →
        ((i : ℕ) (x : A) (ns : List ℕ) → N (go i x ns)) → N (indexing K cause index elements ns go)
    indexing-wide cause index elements ns go p s f =
        trapping-wide _ cause ns _ (binary-has Has K g 0x4F 32 32 ge_u index (K.number (length elements)) p (g.number 32 (length elements) s))
        (λ ns. picking-wide index ns _ p (λ i ns. element-wide cause (slice_get elements i) _ (λ x. f i x ns)))

    pub addressing-wide : (cause : Cause) (address : W) (extent size : ℕ) (ns : List ℕ) (go : ℕ → Next W) → Has 32 address → extent < 2 ^ 64 → size < 2 ^ 64 →
        ((at : ℕ) → at + extent ≤ size → N (go at)) → N (addressing K cause address extent size ns go)
    addressing-wide cause address extent size ns go p e s f =
        trapping-wide _ cause ns _ (ends-past-has Has K g address (K.number extent) size p (g.number 64 extent e) s)
        (λ ns. picking-wide address ns _ p (λ at ns. within-wide (at + extent) size cause _ (f at)))

    pub filling-wide : (cause : Cause) (to count : W) (size : ℕ) (ns : List ℕ) (go : ℕ → ℕ → Next W) → Has 32 to → Has 32 count → size < 2 ^ 64 →
        ((t n : ℕ) → t + n ≤ size → N (go t n)) → N (filling K cause to count size ns go)
    filling-wide cause to count size ns go p q s f =
        trapping-wide _ cause ns _ (range-has Has K g to count size p q s)
        (λ ns. picking-wide to ns _ p (λ t ns. picking-wide count ns _ q (λ n ns. within-wide (t + n) size cause _ (f t n))))

    pub copying-wide : (cause : Cause) (to from count : W) (target source : ℕ) (ns : List ℕ) (go : ℕ → ℕ → ℕ → Next W) → Has 32 to → Has 32 from → Has 32 count → target < 2 ^ 64 → source < 2 ^ 64 →
        ((t f n : ℕ) → f + n ≤ source → t + n ≤ target → N (go t f n)) → N (copying K cause to from count target source ns go)
    copying-wide cause to from count target source ns go a b c s t f =
        trapping-wide _ cause ns _ (binary-has Has K g 0x72 32 32 or _ _ (range-has Has K g from count source b c t) (range-has Has K g to count target a c s))
        (λ ns. picking-wide to ns _ a (λ t ns. picking-wide from ns _ b (λ s ns. picking-wide count ns _ c (λ n ns.
        within-wide (s + n) source cause _ (λ l. within-wide (t + n) target cause _ (λ k. f t s n l k))))))

    -- something of a size, which grows by n up to the most, where it may
    pub growing-wide : (c : Config W) (rest : List (Value W)) (count : W) (size most : ℕ) (ns : List ℕ) (go : ℕ → Config W) → Has 32 count →
        ((v : Value W) → ValueHas Has v → HasWidths Has (holding c (v ∷ rest))) → ((n : ℕ) (v : Value W) → size + n ≤ most → ValueHas Has v → HasWidths Has (holding (go n) (v ∷ rest))) → size < 2 ^ 32 →
        N (growing K c rest count size most ns go)
    growing-wide c rest count size most ns go p stays grows s = picking-wide count ns _ p (λ n ns. at n (nat_le (size + n) most) refl)
      where
        at : (n : ℕ) (b : Bool) → nat_le (size + n) most ≡ b → N (grown K c rest size n b go)
        at n true e = grows n (I32 (K.number size)) (grind (arith, nat_tests, e)) (g.number 32 size s)
        at n false e = stays (I32 (K.number (minus_one 32))) (g.number 32 (minus_one 32) (omega arith))

    -- ---- values

    pub lowest-wide : (n : ℕ) (w : W) → n ≤ 8 → HasSome Has w → All (Has 8) (lowest_bytes K n w)
    lowest-wide zero w l p = All-nil (Has 8)
    lowest-wide (suc n) w l p = All-append (Has 8) (lowest_bytes K n w) (K.byte w n ∷ []) (lowest-wide n w (omega arith) p) (All-cons (Has 8) (K.byte w n) [] (g.byte w n (omega arith) p) (All-nil (Has 8)))

    pub lowest-length : (n : ℕ) (w : W) → length (lowest_bytes K n w) ≡ n
    lowest-length zero w = refl
    lowest-length (suc n) w = length-append (lowest_bytes K n w) (K.byte w n ∷ []) ∙ (let h = lowest-length n w in omega (arith, h))

    pub numbers-wide : (bytes : List ℕ) → All (λ b. b < 2 ^ 8) bytes → All (Has 8) (map K.number bytes)
    numbers-wide bytes h = All-map (Has 8) K.number bytes (All-weaker (λ b. b < 2 ^ 8) (λ b. Has 8 (K.number b)) (λ b l. g.number 8 b l) bytes h)

    default-has : (t : ValType) → ValueHas Has (default K t)
    default-has I32Type = g.number 32 0 (omega arith)
    default-has I64Type = g.number 64 0 (omega arith)
    default-has FuncRefType = tt
    default-has ExternRefType = tt

    pub locals-have : (groups : List Group) → ValuesHave Has (first_locals K groups)
    locals-have [] = tt
    locals-have (group ∷ groups) = have-append (replicate group.count (default K group.kind)) (first_locals K groups) (have-replicate group.count (default K group.kind) (default-has group.kind)) (locals-have groups)

-- ---- operators and accesses

pub bits-of-wide : (width : Width) → bits_of width ≡ bits_where (is_wide width)
bits-of-wide W32 = refl
bits-of-wide W64 = refl

-- ---- sizes

pub limit-most : (limit : Option ℕ) (most : ℕ) → growth_limit limit most ≤ most
limit-most None most = omega arith
limit-most (Some maximum) most = omega arith

pub memory-small : (bytes : ℕ) → IsMemorySize bytes → bytes < 2 ^ 32
memory-small bytes h = omega (arith, h.whole, h.few)
