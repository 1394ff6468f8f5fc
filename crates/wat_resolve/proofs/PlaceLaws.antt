-- The places of identifiers and of types, by what their maps say.
use Rattle.std.proofs.Common.{◌≡◌, ◌∙◌, ◌++◌, ◌∷◌, [], ℕ, ◌+◌, List, ◌<◌, Option, Some, None, length, take, get_or, replicate, sym, ap, ap₂, subst, arith}
use Rattle.std.specs.Prelude.{is_some, if◌then◌else◌}
use Rattle.std.specs.BTreeMap.{BTreeMap, get, IsEmpty, Updates}
use Rattle.std.proofs.lemmas.List.{append-nil, append_assoc, map-append, take_more, length-append, length-replicate, length-take-le}
use Rattle.wasm_ast.specs.declared.types.FuncType.{FuncType}
use Rattle.wasm_text.specs.declared.bad.TextBad.{TextBad}
use Rattle.wasm_text.specs.declared.bad.TextBad.TheVariants.{Twice}
use Rattle.wasm_text.specs.declared.named.Id.{Id}
use Rattle.wasm_text.specs.Names.{id_text, position_of}
use Rattle.wasm_text.specs.NameTroubles.{twice}
use Rattle.wasm_text.specs.Uses.{type_position}
use Rattle.wat_resolve.specs.code.Firsts.{first_at, by_word, AreFirsts, words_of, type_word, type_words}
use Rattle.wat_resolve.specs.code.Noting.{noted}
use Rattle.wat_resolve.specs.code.Spaces.{again_of}
use Rattle.wat_resolve.proofs.FirstLaws.{none, again_at, put_at, empty_finds}
use Rattle.wat_resolve.proofs.IdLaws.{position_is_first, words_snoc, length_words, unnamed_first, unnamed_twice, twice_more}
use Rattle.wat_resolve.proofs.TypeLaws as types
use Rattle.wat_resolve.proofs.NotingLaws.{noted_append}

module _ {K : Type 0} (read : K → List ℕ) (text : List ℕ) (before : List (Option Id)) (places : BTreeMap K ℕ) (are : AreFirsts read (words_of text before) places) where
  pub place_none : AreFirsts read (words_of text (before ++ None ∷ [])) places
  place_none = subst (λ ws. AreFirsts read ws places) (words_snoc text before None) (none read (words_of text before) places are)

  pub place_again : (key : K) (id : Id) (p : ℕ) → read key ≡ id_text text id → get (by_word read) places key ≡ Some p → AreFirsts read (words_of text (before ++ Some id ∷ [])) places
  place_again key id p is there =
      subst (λ ws. AreFirsts read ws places) (words_snoc text before (Some id))
      (subst (λ w. AreFirsts read (words_of text before ++ Some w ∷ []) places) is (again_at read (words_of text before) places key are (ap (λ o. is_some o) there)))

  pub place_put : (key : K) (id : Id) (new : BTreeMap K ℕ) (n : ℕ) → read key ≡ id_text text id → get (by_word read) places key ≡ None → n ≡ length before
      → Updates (by_word read) places new key (Some n) → AreFirsts read (words_of text (before ++ Some id ∷ [])) new
  place_put key id new n is there count updates =
      subst (λ ws. AreFirsts read ws new) (words_snoc text before (Some id))
      (subst (λ w. AreFirsts read (words_of text before ++ Some w ∷ []) new) is
      (put_at read (words_of text before) places new key n are (ap (λ o. is_some o) there) (count ∙ sym (length_words text before)) updates))

  pub found_called : (key : K) (id : Id) (result : Option ℕ) → read key ≡ id_text text id → result ≡ get (by_word read) places key → result ≡ position_of text before id
  found_called key id result is there = there ∙ are key ∙ ap (λ w. first_at (words_of text before) w) is ∙ sym (position_is_first text before id)

  pub noted_again : (key : K) (id : Id) (p : ℕ) (old : Option TextBad) → read key ≡ id_text text id → get (by_word read) places key ≡ Some p
      → noted (Twice id.start ∷ []) old ≡ noted (again_of text before (Some id)) old
  noted_again key id p old is there =
      ap (λ (o : Option ℕ). noted (if is_some o then Twice id.start ∷ [] else []) old) (found_called key id (Some p) is (sym there))

  pub noted_first : (key : K) (id : Id) (old : Option TextBad) → read key ≡ id_text text id → get (by_word read) places key ≡ None
      → old ≡ noted (again_of text before (Some id)) old
  noted_first key id old is there =
      ap (λ (o : Option ℕ). noted (if is_some o then Twice id.start ∷ [] else []) old) (found_called key id None is (sym there))

pub places_none : {K : Type 0} (read : K → List ℕ) (text : List ℕ) (n : ℕ) (places : BTreeMap K ℕ) → IsEmpty places → AreFirsts read (words_of text (replicate n None ++ [])) places
places_none read text n places empty q =
    empty_finds read places q empty ∙ sym (ap (λ ids. first_at (words_of text ids) (read q)) (append-nil (replicate n None)) ∙ unnamed_first text n (read q))

pub none_twice : (text : List ℕ) (n : ℕ) (found : Option TextBad) → found ≡ noted (twice text (replicate n None ++ [])) found
none_twice text n found = sym (ap (λ ids. noted (twice text ids) found) (append-nil (replicate n None)) ∙ ap (λ bads. noted bads found) (unnamed_twice text [] n))

pub one_more : (text : List ℕ) (before : List (Option Id)) (o : Option Id) (old now next : Option TextBad) → now ≡ noted (twice text before) old → next ≡ noted (again_of text before o) now
    → next ≡ noted (twice text (before ++ o ∷ [])) old
one_more text before o old now next so_far one =
    one ∙ ap (λ f. noted (again_of text before o) f) so_far ∙ sym (noted_append (twice text before) (again_of text before o) old)
    ∙ ap (λ bads. noted bads old) (sym (twice_more text before o))

pub step_places : {K : Type 0} (read : K → List ℕ) (text : List ℕ) (unnamed ids : List (Option Id)) (i : ℕ) (d : Option Id) (places : BTreeMap K ℕ) → i < length ids
    → AreFirsts read (words_of text ((unnamed ++ take i ids) ++ get_or ids i d ∷ [])) places → AreFirsts read (words_of text (unnamed ++ take (i + 1) ids)) places
step_places read text unnamed ids i d places below are =
    subst (λ xs. AreFirsts read (words_of text xs) places) (append_assoc unnamed (take i ids) (get_or ids i d ∷ []) ∙ ap (λ xs. unnamed ++ xs) (sym (take_more ids i d below))) are

pub step_found : (text : List ℕ) (unnamed ids : List (Option Id)) (i : ℕ) (d : Option Id) (old now next : Option TextBad) → i < length ids
    → now ≡ noted (twice text (unnamed ++ take i ids)) old → next ≡ noted (again_of text (unnamed ++ take i ids) (get_or ids i d)) now → next ≡ noted (twice text (unnamed ++ take (i + 1) ids)) old
step_found text unnamed ids i d old now next below so_far one =
    one_more text (unnamed ++ take i ids) (get_or ids i d) old now next so_far one
    ∙ ap (λ xs. noted (twice text xs) old) (append_assoc unnamed (take i ids) (get_or ids i d ∷ []) ∙ ap (λ xs. unnamed ++ xs) (sym (take_more ids i d below)))

pub count_before : (n : ℕ) (ids : List (Option Id)) (i : ℕ) → i < length ids → length (replicate n None ++ take i ids) ≡ n + i
count_before n ids i below =
    length-append (replicate n None) (take i ids) ∙ ap₂ (λ a b. a + b) (length-replicate n None) (length-take-le i ids (omega arith))

-- ---- types

pub found_type : {K : Type 0} (read : K → List ℕ) (all : List FuncType) (places : BTreeMap K ℕ) → AreFirsts read (type_words all) places
    → (key : K) (ty : FuncType) (result : Option ℕ) → read key ≡ type_word ty → result ≡ get (by_word read) places key → result ≡ type_position ty all
found_type read all places are key ty result is there = there ∙ are key ∙ ap (λ w. first_at (type_words all) w) is ∙ sym (types.type_is_first ty all)

pub words_again : {K : Type 0} (read : K → List ℕ) (words : List (Option (List ℕ))) (places : BTreeMap K ℕ) (key : K) (p : ℕ) → get (by_word read) places key ≡ Some p
    → AreFirsts read words places → AreFirsts read (words ++ Some (read key) ∷ []) places
words_again read words places key p there are = again_at read words places key are (ap (λ o. is_some o) there)

pub words_put : {K : Type 0} (read : K → List ℕ) (words : List (Option (List ℕ))) (places new : BTreeMap K ℕ) (key : K) (n : ℕ) → get (by_word read) places key ≡ None
    → n ≡ length words → Updates (by_word read) places new key (Some n) → AreFirsts read words places → AreFirsts read (words ++ Some (read key) ∷ []) new
words_put read words places new key n there count updates are = put_at read words places new key n are (ap (λ o. is_some o) there) count updates

pub type_pushed : {K : Type 0} (read : K → List ℕ) (all : List FuncType) (places : BTreeMap K ℕ) (word : List ℕ) (ty : FuncType) → word ≡ type_word ty
    → AreFirsts read (type_words all ++ Some word ∷ []) places → AreFirsts read (type_words (all ++ ty ∷ [])) places
type_pushed read all places word ty is are =
    subst (λ ws. AreFirsts read ws places) (sym (map-append (λ t. Some (type_word t)) all (ty ∷ []))) (subst (λ w. AreFirsts read (type_words all ++ Some w ∷ []) places) is are)
