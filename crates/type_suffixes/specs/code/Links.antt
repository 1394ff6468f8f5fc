-- What the words that the code keeps stand for, and what is true of the links between them. No public contract speaks of it.
use Rattle.std.specs.Prelude.{◌≡◌, ℕ, ◌<◌, List, [], ◌∷◌, ◌++◌, Some, length, slice_get}
use Rattle.wasm_ast.specs.declared.types.ValType.{ValType}
use Rattle.wasm_ast.specs.declared.types.ValType.TheVariants.{I32, I64, FuncRef, ExternRef}
use Rattle.type_suffixes.specs.declared.words.Word.{Word}
use Rattle.type_suffixes.specs.Words.{word, EndsWith}

-- the words of a list, each after those before it: the word that it goes on from, and its last type
abbrev pub spelled_on : List (List ValType) → List Word → List (List ValType)
spelled_on all [] = all
spelled_on all (w ∷ ws) = spelled_on (all ++ (word all w.before ++ w.last ∷ []) ∷ []) ws

-- the words of a list, whose first is the empty one
abbrev pub spelled : List Word → List (List ValType)
spelled [] = []
spelled (_ ∷ ws) = spelled_on ([] ∷ []) ws

-- where a word leads on by a type
abbrev pub after_of : Word → ValType → ℕ
after_of w I32 = w.after.by_i32
after_of w I64 = w.after.by_i64
after_of w FuncRef = w.after.by_funcref
after_of w ExternRef = w.after.by_externref

-- the number of a word with which these types end
pub record IsLink (all : List (List ValType)) (types : List ValType) (k : ℕ) : Type 0 where
  pub within : k < length all
  pub ends : EndsWith types (word all k)

-- the links of a word that is spelled so
pub record HasLinks (all : List (List ValType)) (types : List ValType) (w : Word) : Type 0 where
  pub end : IsLink all types w.end
  pub far : IsLink all types w.far
  pub after : (t : ValType) → IsLink all (types ++ t ∷ []) (after_of w t)

-- a word goes on from another by its last type
pub record IsMade (all : List (List ValType)) (types : List ValType) (w : Word) : Type 0 where
  pub within : w.before < length all
  pub is : types ≡ word all w.before ++ w.last ∷ []

-- words that are spelled so, with their links
pub record AreLinked (all : List (List ValType)) (ws : List Word) : Type 0 where
  pub some : 0 < length ws
  pub same_length : length all ≡ length ws
  pub empty : word all 0 ≡ []
  pub made : (k : ℕ) (w : Word) → 0 < k → slice_get ws k ≡ Some w → IsMade all (word all k) w
  pub links : (k : ℕ) (w : Word) → slice_get ws k ≡ Some w → HasLinks all (word all k) w

-- they are linked as they are spelled
abbrev pub IsTree : List Word → Type 0
IsTree ws = AreLinked (spelled ws) ws

-- a word is spelled as another
pub record IsSameWord (old new : Word) : Type 0 where
  pub before : new.before ≡ old.before
  pub last : new.last ≡ old.last

-- the number of a word that is spelled so
pub record IsSpelled (all : List (List ValType)) (types : List ValType) (k : ℕ) : Type 0 where
  pub within : k < length all
  pub is : word all k ≡ types

-- a word that leads on to another by a type
abbrev pub leading : Word → ValType → ℕ → Word
leading w I32 k = record w { after = record (w.after) { by_i32 = k } }
leading w I64 k = record w { after = record (w.after) { by_i64 = k } }
leading w FuncRef k = record w { after = record (w.after) { by_funcref = k } }
leading w ExternRef k = record w { after = record (w.after) { by_externref = k } }
