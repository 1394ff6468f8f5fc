-- What a map of words that keeps the operations makes of the parts of instructions' rules.
use Rattle.std.proofs.Common.{◌≡◌, ℕ, zero, suc, ◌+◌, ◌^◌, ◌<◌, ◌≤◌, List, [], ◌∷◌, ◌++◌, map, take, drop, length, reverse, refl, sym, ap, ◌∙◌, subst, arith}
use Rattle.std.specs.Prelude.{Bool, true, false, nat_lt, nat_le, if◌then◌else◌, Option, Some, None, slice_get, replicate}
use Rattle.std.proofs.lemmas.List.{map-append, reverse-append, take-map, drop-map, length-map}
use Rattle.std.proofs.lemmas.Bool.Decides.{nat_tests}
use Rattle.wasm_ast.specs.declared.types.ValType.{ValType}
use Rattle.wasm_ast.specs.declared.types.ValType.TheVariants.{I32 as I32Type, I64 as I64Type, FuncRef as FuncRefType, ExternRef as ExternRefType}
use Rattle.wasm_ast.specs.declared.modules.Group.{Group}
use Rattle.wasm_ast.specs.declared.runs.Cause.{Cause}
use Rattle.int_ops.specs.Integers.{minus_one}
use Rattle.wasm_rules.specs.Words.{Kind, Gives, HasSome, bits_where}
use Rattle.wasm_rules.specs.Accesses.{lowest_bytes}
use Rattle.wasm_reduction.specs.Configurations.{Reference, Value, I32, I64, Ref, Config, Next, Goes, Asks, Ends, Test, Stuck, Traps}
use Rattle.wasm_reduction.specs.Functions.{default, first_locals}
use Rattle.wasm_reduction.specs.Combinators.{holding, with_found, with_value, with_word, with_reference, with_last, testing, trapping_if, picking, assuming, within, written, part}
use Rattle.wasm_reduction.specs.Ranges.{with_element, indexing, ends_past, addressing, range_ends_past, filling, copying, with_copy, grown, growing}
use Rattle.wasm_reduction.specs.Images.{value_image, values_image, config_image, next_image}
use Rattle.wasm_reduction.specs.Maps.{ValueHas, ValuesHave, KeepsOperations}
use Rattle.wasm_reduction.proofs.WordWidths.{IsBinary, IsUnary, ge_u, gt_u, add, or, extend_u, binary-has, unary-has, range-has}

-- ---- lists

pub map-replicate : {V W : Type 0} (h : V → W) (n : ℕ) (x : V) → map h (replicate n x) ≡ replicate n (h x)
map-replicate h zero x = refl
map-replicate h (suc n) x = ap (λ l. h x ∷ l) (map-replicate h n x)

reverse_cons : {V : Type 0} (x : V) (xs : List V) → reverse (x ∷ xs) ≡ reverse xs ++ x ∷ []
reverse_cons x xs = reverse-append (x ∷ []) xs

pub map-reverse : {V W : Type 0} (h : V → W) (xs : List V) → map h (reverse xs) ≡ reverse (map h xs)
map-reverse h [] = refl
map-reverse h (x ∷ xs) = rw (reverse_cons x xs, map-append, map-reverse h xs, reverse_cons (h x) (map h xs))

pub map-written : {V W : Type 0} (h : V → W) (place : ℕ) (xs list : List V) → written place (map h xs) (map h list) ≡ map h (written place xs list)
map-written h place xs list = simp (map-append, take-map, drop-map, length-map)

pub map-part : {V W : Type 0} (h : V → W) (place n : ℕ) (list : List V) → part place n (map h list) ≡ map h (part place n list)
map-part h place n list = simp (take-map, drop-map)

-- ---- the parts of rules

pub found-image : {V W A : Type 0} (h : V → W) (o : Option A) (go : A → Next V) (on : A → Next W) →
    ((x : A) → o ≡ Some x → on x ≡ next_image h (go x)) → with_found o on ≡ next_image h (with_found o go)
found-image h None go on e = refl
found-image h (Some x) go on e = e x refl

pub choice-image : {V W : Type 0} (h : V → W) (b : Bool) (x y : Next V) (x' y' : Next W) → x' ≡ next_image h x → y' ≡ next_image h y →
    (if b then x' else y') ≡ next_image h (if b then x else y)
choice-image h true x y x' y' e f = e
choice-image h false x y x' y' e f = f

pub last-image : {V W : Type 0} (h : V → W) (n : ℕ) (vs : List (Value V)) (go : List (Value V) → List (Value V) → Next V) (on : List (Value W) → List (Value W) → Next W) →
    ((given rest : List (Value V)) → on (values_image h given) (values_image h rest) ≡ next_image h (go given rest)) →
    with_last n (values_image h vs) on ≡ next_image h (with_last n vs go)
last-image h n vs go on e =
    rw (length-map vs (value_image h)) (choice-image h (nat_lt (length vs) n) (Ends Stuck) (go (take n vs) (drop n vs)) (Ends Stuck) _ refl
    (simp (take-map, drop-map) (e (take n vs) (drop n vs))))

pub testing-image : {V W : Type 0} (h : V → W) (w : V) (w' : W) → h w ≡ w' → (ns : List ℕ) (z o : List ℕ → Next V) (z' o' : List ℕ → Next W) →
    ((ns : List ℕ) → z' ns ≡ next_image h (z ns)) → ((ns : List ℕ) → o' ns ≡ next_image h (o ns)) → testing w' ns z' o' ≡ next_image h (testing w ns z o)
testing-image h w w' e [] z o z' o' f g = ap (λ x. Asks Test x) (sym e)
testing-image h w w' e (zero ∷ ns) z o z' o' f g = f ns
testing-image h w w' e (suc n ∷ ns) z o z' o' f g = g ns

pub trapping-image : {V W : Type 0} (h : V → W) (w : V) (w' : W) → h w ≡ w' → (cause : Cause) (ns : List ℕ) (go : List ℕ → Next V) (on : List ℕ → Next W) →
    ((ns : List ℕ) → on ns ≡ next_image h (go ns)) → trapping_if w' cause ns on ≡ next_image h (trapping_if w cause ns go)
trapping-image h w w' e cause ns go on f = testing-image h w w' e ns go _ on _ f (λ ns. refl)

pub picking-image : {V W : Type 0} (h : V → W) (w : V) (ns : List ℕ) (go : ℕ → List ℕ → Next V) (on : ℕ → List ℕ → Next W) →
    ((n : ℕ) (ns : List ℕ) → on n ns ≡ next_image h (go n ns)) → picking (h w) ns on ≡ next_image h (picking w ns go)
picking-image h w [] go on f = refl
picking-image h w (n ∷ ns) go on f = f n ns

pub assuming-image : {V W : Type 0} (h : V → W) (w : V) (ns : List ℕ) (x y : Next V) (x' y' : Next W) → x' ≡ next_image h x → y' ≡ next_image h y →
    assuming (h w) ns x' y' ≡ next_image h (assuming w ns x y)
assuming-image h w [] x y x' y' e f = refl
assuming-image h w (zero ∷ ns) x y x' y' e f = e
assuming-image h w (suc n ∷ ns) x y x' y' e f = f

pub within-image : {V W : Type 0} (h : V → W) (end size : ℕ) (cause : Cause) (x : Next V) (x' : Next W) → (end ≤ size → x' ≡ next_image h x) →
    within end size cause x' ≡ next_image h (within end size cause x)
within-image h end size cause x x' f = at (nat_lt size end) refl
  where
    at : (b : Bool) → nat_lt size end ≡ b → (if b then Ends (Traps cause) else x') ≡ next_image h (if b then Ends (Traps cause) else x)
    at true e = refl
    at false e = f (grind (arith, nat_tests, e))

pub element-image : {V W A : Type 0} (h : V → W) (cause : Cause) (o : Option A) (go : A → Next V) (on : A → Next W) →
    ((x : A) → on x ≡ next_image h (go x)) → with_element cause o on ≡ next_image h (with_element cause o go)
element-image h cause None go on f = refl
element-image h cause (Some x) go on f = f x

module _ {V W : Type 0} (Has : ℕ → V → Type 0) (h : V → W) where
  pub value-image : (vs : List (Value V)) (go : Value V → List (Value V) → Next V) (on : Value W → List (Value W) → Next W) → ValuesHave Has vs →
      ((v : Value V) (rest : List (Value V)) → ValueHas Has v → ValuesHave Has rest → on (value_image h v) (values_image h rest) ≡ next_image h (go v rest)) →
      with_value (values_image h vs) on ≡ next_image h (with_value vs go)
  value-image [] go on p f = refl
  value-image (v ∷ vs) go on p f = f v vs p.0 p.1

  pub word-image : (wide : Bool) (vs : List (Value V)) (go : V → List (Value V) → Next V) (on : W → List (Value W) → Next W) → ValuesHave Has vs →
      ((w : V) (rest : List (Value V)) → Has (bits_where wide) w → ValuesHave Has rest → on (h w) (values_image h rest) ≡ next_image h (go w rest)) →
      with_word wide (values_image h vs) on ≡ next_image h (with_word wide vs go)
  word-image wide [] go on p f = refl
  word-image false (I32 w ∷ vs) go on p f = f w vs p.0 p.1
  word-image false (I64 w ∷ vs) go on p f = refl
  word-image true (I32 w ∷ vs) go on p f = refl
  word-image true (I64 w ∷ vs) go on p f = f w vs p.0 p.1
  word-image false (Ref r ∷ vs) go on p f = refl
  word-image true (Ref r ∷ vs) go on p f = refl

  pub reference-image : (vs : List (Value V)) (go : Reference → List (Value V) → Next V) (on : Reference → List (Value W) → Next W) → ValuesHave Has vs →
      ((r : Reference) (rest : List (Value V)) → ValuesHave Has rest → on r (values_image h rest) ≡ next_image h (go r rest)) →
      with_reference (values_image h vs) on ≡ next_image h (with_reference vs go)
  reference-image [] go on p f = refl
  reference-image (I32 w ∷ vs) go on p f = refl
  reference-image (I64 w ∷ vs) go on p f = refl
  reference-image (Ref r ∷ vs) go on p f = f r vs p.1

  pub copy-image : (vs : List (Value V)) (go : V → V → V → List (Value V) → Next V) (on : W → W → W → List (Value W) → Next W) → ValuesHave Has vs →
      ((to from count : V) (rest : List (Value V)) → Has 32 to → Has 32 from → Has 32 count → on (h to) (h from) (h count) (values_image h rest) ≡ next_image h (go to from count rest)) →
      with_copy (values_image h vs) on ≡ next_image h (with_copy vs go)
  copy-image vs go on p f =
      word-image false vs _ _ p (λ count rest c p. word-image false rest _ _ p (λ from rest b p. word-image false rest _ _ p (λ to rest a p. f to from count rest a b c)))

  module _ (K : Kind V) (L : Kind W) (g : Gives K Has) (k : KeepsOperations Has K L h) where
    pub binary-image : (op operand result : ℕ) → IsBinary op operand result → (a b : V) → Has operand a → Has operand b → h (K.binary op a b) ≡ L.binary op (h a) (h b)
    binary-image op operand result is a b p q =
        k.binary op a b is.binary (subst (λ n. Has n a) (sym is.operand_is) p) (subst (λ n. Has n b) (sym is.operand_is) q)

    pub unary-image : (op operand result : ℕ) → IsUnary op operand result → (a : V) → Has operand a → h (K.unary op a) ≡ L.unary op (h a)
    unary-image op operand result is a p = k.unary op a is.unary (subst (λ n. Has n a) (sym is.operand_is) p)

    ends-past-image : (place extent : V) (extent' : W) (size : ℕ) → h extent ≡ extent' → Has 32 place → Has 64 extent → size < 2 ^ 64 →
        h (ends_past K place extent size) ≡ ends_past L (h place) extent' size
    ends-past-image place extent extent' size e p q s =
        let wide : Has 64 (K.unary 0xAD place) = unary-has Has K g 0xAD 32 64 extend_u place p in
        let sum : Has 64 (K.binary 0x7C (K.unary 0xAD place) extent) = binary-has Has K g 0x7C 64 64 add (K.unary 0xAD place) extent wide q in
        binary-image 0x56 64 32 gt_u _ _ sum (g.number 64 size s)
        ∙ ap (λ x. L.binary 0x56 x (h (K.number size))) (binary-image 0x7C 64 64 add _ _ wide q ∙ ap (λ x. L.binary 0x7C x (h extent)) (unary-image 0xAD 32 64 extend_u place p))
        ∙ ap (λ x. L.binary 0x56 (L.binary 0x7C (L.unary 0xAD (h place)) (h extent)) x) (k.number size)
        ∙ ap (λ x. L.binary 0x56 (L.binary 0x7C (L.unary 0xAD (h place)) x) (L.number size)) e

    range-image : (place count : V) (size : ℕ) → Has 32 place → Has 32 count → size < 2 ^ 64 → h (range_ends_past K place count size) ≡ range_ends_past L (h place) (h count) size
    range-image place count size p q s =
        ends-past-image place (K.unary 0xAD count) _ size (unary-image 0xAD 32 64 extend_u count q) p (unary-has Has K g 0xAD 32 64 extend_u count q) s

    pub indexing-image : {A : Type 0} (cause : Cause) (index : V) (elements : List A) (ns : List ℕ) (go : ℕ → A → List ℕ → Next V) (on : ℕ → A → List ℕ → Next W) →
        Has 32 index → length elements < 2 ^ 32 → ((i : ℕ) (x : A) (ns : List ℕ) → on i x ns ≡ next_image h (go i x ns)) →
        indexing L cause (h index) elements ns on ≡ next_image h (indexing K cause index elements ns go)
    indexing-image cause index elements ns go on p s f =
        trapping-image h _ _ (binary-image 0x4F 32 32 ge_u index (K.number (length elements)) p (g.number 32 (length elements) s) ∙ ap (λ x. L.binary 0x4F (h index) x) (k.number (length elements)))
        cause ns _ _ (λ ns. picking-image h index ns _ _ (λ i ns. element-image h cause (slice_get elements i) _ _ (λ x. f i x ns)))

    pub addressing-image : (cause : Cause) (address : V) (extent size : ℕ) (ns : List ℕ) (go : ℕ → Next V) (on : ℕ → Next W) → Has 32 address → extent < 2 ^ 64 → size < 2 ^ 64 →
        ((at : ℕ) → at + extent ≤ size → on at ≡ next_image h (go at)) → addressing L cause (h address) extent size ns on ≡ next_image h (addressing K cause address extent size ns go)
    addressing-image cause address extent size ns go on p e s f =
        trapping-image h _ _ (ends-past-image address (K.number extent) (L.number extent) size (k.number extent) p (g.number 64 extent e) s)
        cause ns _ _ (λ ns. picking-image h address ns _ _ (λ at ns. within-image h (at + extent) size cause _ _ (f at)))

    pub filling-image : (cause : Cause) (to count : V) (size : ℕ) (ns : List ℕ) (go : ℕ → ℕ → Next V) (on : ℕ → ℕ → Next W) → Has 32 to → Has 32 count → size < 2 ^ 64 →
        ((t n : ℕ) → on t n ≡ next_image h (go t n)) → filling L cause (h to) (h count) size ns on ≡ next_image h (filling K cause to count size ns go)
    filling-image cause to count size ns go on p q s f =
        trapping-image h _ _ (range-image to count size p q s) cause ns _ _ (λ ns. picking-image h to ns _ _ (λ t ns. picking-image h count ns _ _ (λ n ns.
        within-image h (t + n) size cause _ _ (λ l. f t n))))

    pub copying-image : (cause : Cause) (to from count : V) (target source : ℕ) (ns : List ℕ) (go : ℕ → ℕ → ℕ → Next V) (on : ℕ → ℕ → ℕ → Next W) →
        Has 32 to → Has 32 from → Has 32 count → target < 2 ^ 64 → source < 2 ^ 64 → ((t f n : ℕ) → on t f n ≡ next_image h (go t f n)) →
        copying L cause (h to) (h from) (h count) target source ns on ≡ next_image h (copying K cause to from count target source ns go)
    copying-image cause to from count target source ns go on a b c s t f =
        trapping-image h _ _
        (binary-image 0x72 32 32 or _ _ (range-has Has K g from count source b c t) (range-has Has K g to count target a c s)
        ∙ ap (λ x. L.binary 0x72 x (h (range_ends_past K to count target))) (range-image from count source b c t)
        ∙ ap (λ x. L.binary 0x72 (range_ends_past L (h from) (h count) source) x) (range-image to count target a c s))
        cause ns _ _ (λ ns. picking-image h to ns _ _ (λ t ns. picking-image h from ns _ _ (λ s ns. picking-image h count ns _ _ (λ n ns.
        within-image h (s + n) source cause _ _ (λ l. within-image h (t + n) target cause _ _ (λ l. f t s n))))))

    pub growing-image : (c : Config V) (rest : List (Value V)) (count : V) (size most : ℕ) (ns : List ℕ) (go : ℕ → Config V) (on : ℕ → Config W) →
        ((n : ℕ) → on n ≡ config_image h (go n)) →
        growing L (config_image h c) (values_image h rest) (h count) size most ns on ≡ next_image h (growing K c rest count size most ns go)
    growing-image c rest count size most ns go on f = picking-image h count ns _ _ (λ n ns. at n (nat_le (size + n) most))
      where
        at : (n : ℕ) (b : Bool) → grown L (config_image h c) (values_image h rest) size n b on ≡ next_image h (grown K c rest size n b go)
        at n true = ap (λ d. Goes (holding d (I32 (L.number size) ∷ values_image h rest))) (f n)
            ∙ ap (λ x. Goes (holding (config_image h (go n)) (I32 x ∷ values_image h rest))) (sym (k.number size))
        at n false = ap (λ x. Goes (holding (config_image h c) (I32 x ∷ values_image h rest))) (sym (k.number (minus_one 32)))

    -- ---- values

    pub numbers-image : (bytes : List ℕ) → map L.number bytes ≡ map h (map K.number bytes)
    numbers-image [] = refl
    numbers-image (b ∷ bytes) = ap (λ x. x ∷ map L.number bytes) (sym (k.number b)) ∙ ap (λ l. h (K.number b) ∷ l) (numbers-image bytes)

    pub lowest-image : (n : ℕ) (w : V) → n ≤ 8 → HasSome Has w → lowest_bytes L n (h w) ≡ map h (lowest_bytes K n w)
    lowest-image zero w l p = refl
    lowest-image (suc n) w l p =
        ap (λ xs. xs ++ L.byte (h w) n ∷ []) (lowest-image n w (omega arith) p)
        ∙ ap (λ x. map h (lowest_bytes K n w) ++ x ∷ []) (sym (k.byte w n (omega arith) p)) ∙ sym (map-append h (lowest_bytes K n w) (K.byte w n ∷ []))

    default-image : (t : ValType) → default L t ≡ value_image h (default K t)
    default-image I32Type = ap (λ x. I32 x) (sym (k.number 0))
    default-image I64Type = ap (λ x. I64 x) (sym (k.number 0))
    default-image FuncRefType = refl
    default-image ExternRefType = refl

    pub locals-image : (groups : List Group) → first_locals L groups ≡ values_image h (first_locals K groups)
    locals-image [] = refl
    locals-image (group ∷ groups) =
        ap (λ v. replicate group.count v ++ first_locals L groups) (default-image group.kind)
        ∙ ap (λ l. l ++ first_locals L groups) (sym (map-replicate (value_image h) group.count (default K group.kind)))
        ∙ ap (λ l. map (value_image h) (replicate group.count (default K group.kind)) ++ l) (locals-image groups)
        ∙ sym (map-append (value_image h) (replicate group.count (default K group.kind)) (first_locals K groups))
