-- Where each word stands first in a list in which some places have none, by an ordered map.
use Rattle.std.specs.Prelude.{◌≡◌, ℕ, suc, ◌++◌, List, [], ◌∷◌, map, if◌then◌else◌, Option, Some, None, option_map, bytes_eq}
use Rattle.std.specs.BTreeMap.{BTreeMap, get}
use Rattle.std.specs.Cmp.Lexicographic.{slice_cmp}
use Rattle.std.specs.Ordering.{nat_cmp}
use Rattle.std.specs.declared.cmp.Ordering.{Ordering}
use Rattle.wasm_ast.specs.declared.types.ValType.{ValType}
use Rattle.wasm_ast.specs.declared.types.ValType.TheVariants.{I32, I64, FuncRef, ExternRef}
use Rattle.wasm_ast.specs.declared.types.FuncType.{FuncType}
use Rattle.wasm_text.specs.declared.named.Id.{Id}
use Rattle.wasm_text.specs.Names.{id_text}

abbrev pub first_at : List (Option (List ℕ)) → List ℕ → Option ℕ
first_at [] word = None
first_at (None ∷ rest) word = option_map suc (first_at rest word)
first_at (Some other ∷ rest) word = if bytes_eq other word then Some 0 else option_map suc (first_at rest word)

-- the order of keys by the words that they stand for
abbrev pub by_word : {K : Type 0} → (K → List ℕ) → K → K → Ordering
by_word read x y = slice_cmp nat_cmp (read x) (read y)

-- each word that is a key is found where it stands first
abbrev pub AreFirsts : {K : Type 0} → (K → List ℕ) → List (Option (List ℕ)) → BTreeMap K ℕ → Type 0
AreFirsts {K} read words places = (key : K) → get (by_word read) places key ≡ first_at words (read key)

-- ---- the words of identifiers

abbrev pub word_of : List ℕ → Option Id → Option (List ℕ)
word_of text None = None
word_of text (Some id) = Some (id_text text id)

abbrev pub words_of : List ℕ → List (Option Id) → List (Option (List ℕ))
words_of text ids = map (word_of text) ids

-- ---- the words of function types

abbrev pub kind_code : ValType → ℕ
kind_code I32 = 0
kind_code I64 = 1
kind_code FuncRef = 2
kind_code ExternRef = 3

abbrev pub type_word : FuncType → List ℕ
type_word ty = map kind_code ty.params ++ 4 ∷ map kind_code ty.results

abbrev pub type_words : List FuncType → List (Option (List ℕ))
type_words types = map (λ ty. Some (type_word ty)) types
