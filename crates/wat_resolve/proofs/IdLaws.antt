-- Identifiers: what they name, and those that are defined again.
use Rattle.std.proofs.Common.{◌≡◌, ◌∙◌, ℕ, zero, suc, Bool, true, false, List, [], ◌∷◌, ◌++◌, length, replicate, Option, Some, None, refl, sym, ap}
use Rattle.std.specs.Prelude.{if◌then◌else◌, option_map, is_some}
use Rattle.std.proofs.lemmas.List.{append_assoc, append-nil, map-append}
use Rattle.wasm_text.specs.declared.bad.TextBad.TheVariants.{Twice}
use Rattle.wasm_text.specs.declared.named.Id.{Id}
use Rattle.wasm_text.specs.Names.{id_text, same_name, position_of}
use Rattle.wasm_text.specs.NameTroubles.{again, twice_after, twice}
use Rattle.wat_resolve.specs.code.Firsts.{first_at, word_of, words_of}
use Rattle.wat_resolve.specs.code.Spaces.{again_of}

pub position_is_first : (text : List ℕ) (ids : List (Option Id)) (id : Id) → position_of text ids id ≡ first_at (words_of text ids) (id_text text id)
position_is_first text [] id = refl
position_is_first text (None ∷ rest) id = ap (λ p. option_map suc p) (position_is_first text rest id)
position_is_first text (Some other ∷ rest) id = ap (λ p. if same_name text other id then Some 0 else option_map suc p) (position_is_first text rest id)

pub words_snoc : (text : List ℕ) (ids : List (Option Id)) (id : Option Id) → words_of text ids ++ word_of text id ∷ [] ≡ words_of text (ids ++ id ∷ [])
words_snoc text ids id = sym (map-append (word_of text) ids (id ∷ []))

pub length_words : (text : List ℕ) (ids : List (Option Id)) → length (words_of text ids) ≡ length ids
length_words text [] = refl
length_words text (x ∷ rest) = ap suc (length_words text rest)

pub unnamed_first : (text : List ℕ) (n : ℕ) (word : List ℕ) → first_at (words_of text (replicate n None)) word ≡ None
unnamed_first text zero word = refl
unnamed_first text (suc n) word = ap (λ p. option_map suc p) (unnamed_first text n word)

pub unnamed_twice : (text : List ℕ) (before : List (Option Id)) (n : ℕ) → twice_after text before (replicate n None) ≡ []
unnamed_twice text before zero = refl
unnamed_twice text before (suc n) = unnamed_twice text before n

-- ---- one more

still : (p : Option ℕ) → is_some (option_map suc p) ≡ is_some p
still None = refl
still (Some n) = refl

either : (b : Bool) (p q : Option ℕ) → is_some p ≡ is_some q → is_some (if b then Some 0 else option_map suc p) ≡ is_some (if b then Some 0 else option_map suc q)
either true p q e = refl
either false p q e = still p ∙ e ∙ sym (still q)

-- what has no identifier is as good as not there
skip_none : (text : List ℕ) (before rest : List (Option Id)) (id : Id) → is_some (position_of text (before ++ None ∷ rest) id) ≡ is_some (position_of text (before ++ rest) id)
skip_none text [] rest id = still (position_of text rest id)
skip_none text (None ∷ before) rest id = still (position_of text (before ++ None ∷ rest) id) ∙ skip_none text before rest id ∙ sym (still (position_of text (before ++ rest) id))
skip_none text (Some other ∷ before) rest id =
    either (same_name text other id) (position_of text (before ++ None ∷ rest) id) (position_of text (before ++ rest) id) (skip_none text before rest id)

skipped : (text : List ℕ) (before rest : List (Option Id)) (o : Option Id) → again_of text (before ++ None ∷ rest) o ≡ again_of text (before ++ rest) o
skipped text before rest None = refl
skipped text before rest (Some id) = ap (λ (b : Bool). if b then Twice id.start ∷ [] else []) (skip_none text before rest id)

one_again : (text : List ℕ) (before : List (Option Id)) (o : Option Id) → twice_after text before (o ∷ []) ≡ again_of text before o
one_again text before None = refl
one_again text before (Some id) = append-nil (again text before id)

twice_snoc : (text : List ℕ) (before ids : List (Option Id)) (o : Option Id) → twice_after text before (ids ++ o ∷ []) ≡ twice_after text before ids ++ again_of text (before ++ ids) o
twice_snoc text before [] o = one_again text before o ∙ ap (λ xs. again_of text xs o) (sym (append-nil before))
twice_snoc text before (None ∷ rest) o =
    twice_snoc text before rest o ∙ ap (λ t. twice_after text before rest ++ t) (sym (skipped text before rest o))
twice_snoc text before (Some id ∷ rest) o =
    ap (λ t. again text before id ++ t) (twice_snoc text (before ++ Some id ∷ []) rest o)
    ∙ ap (λ xs. again text before id ++ (twice_after text (before ++ Some id ∷ []) rest ++ again_of text xs o)) (append_assoc before (Some id ∷ []) rest)
    ∙ sym (append_assoc (again text before id) (twice_after text (before ++ Some id ∷ []) rest) (again_of text (before ++ Some id ∷ rest) o))

pub twice_more : (text : List ℕ) (ids : List (Option Id)) (o : Option Id) → twice text (ids ++ o ∷ []) ≡ twice text ids ++ again_of text ids o
twice_more text ids o = twice_snoc text [] ids o
