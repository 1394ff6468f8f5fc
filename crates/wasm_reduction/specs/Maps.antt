-- The widths of the words of a configuration, and the maps of words that keep the operations.
use Rattle.std.specs.Prelude.{◌≡◌, ℕ, ◌^◌, ◌<◌, Bool, IsTrue, List, [], ◌∷◌, All, length, map}
use Rattle.std.specs.List.{AllByRecursion}
use Rattle.wasm_ast.specs.declared.instructions.Instr.{Instr}
use Rattle.wasm_ast.specs.declared.instructions.Instr.TheVariants.{BrTable, Load, Store as StoreInstr, Const32, Const64}
use Rattle.int_ops.specs.Operators.{is_unary, is_binary, operand_bits}
use Rattle.wasm_rules.specs.Words.{Kind, HasSome, CanJoin, bits_where}
use Rattle.wasm_reduction.specs.Configurations.{Value, I32, I64, Ref, Config}

-- a number has the width of its type
abbrev pub ValueHas : {M : Type 0} → (ℕ → M → Type 0) → Value M → Type 0
ValueHas Has (I32 w) = Has 32 w
ValueHas Has (I64 w) = Has 64 w
ValueHas Has (Ref r) = Unit {0}

abbrev pub ValuesHave : {M : Type 0} → (ℕ → M → Type 0) → List (Value M) → Type 0
ValuesHave Has [] = Unit {0}
ValuesHave Has (v ∷ vs) = ValueHas Has v × ValuesHave Has vs

-- the numbers that an instruction says are in range
abbrev pub InRange : Instr → Type 0
InRange (BrTable labels last) = length labels < 2 ^ 32
InRange (Load op align offset) = offset < 2 ^ 32
InRange (StoreInstr op align offset) = offset < 2 ^ 32
InRange (Const32 n) = n < 2 ^ 32
InRange (Const64 n) = n < 2 ^ 64
InRange _ = Unit {0}

abbrev pub NextInRange : List Instr → Type 0
NextInRange [] = Unit {0}
NextInRange (i ∷ is) = InRange i

-- The words that a step computes with have their widths, and sizes can be written as words.
pub record IsWide {M : Type 0} (Has : ℕ → M → Type 0) (c : Config M) : Type 0 where
  pub vals : ValuesHave Has c.frame.here.vals
  pub memory : All (Has 8) c.store.memory
  pub memory_small : length c.store.memory < 2 ^ 64
  pub tables_small : AllByRecursion (λ t. length t < 2 ^ 32) c.store.tables
  pub elems_small : AllByRecursion (λ t. length t < 2 ^ 64) c.store.elems
  pub datas_small : AllByRecursion (λ t. length t < 2 ^ 64) c.store.datas
  pub code : NextInRange c.frame.here.code

-- A map from one kind of words to another that keeps numbers, and the operations on words of the operators' widths.
pub record KeepsOperations {V W : Type 0} (Has : ℕ → V → Type 0) (K : Kind V) (L : Kind W) (h : V → W) : Type 0 where
  pub number : (n : ℕ) → h (K.number n) ≡ L.number n
  pub unary : (op : ℕ) (a : V) → IsTrue (is_unary op) → Has (operand_bits op) a → h (K.unary op a) ≡ L.unary op (h a)
  pub binary : (op : ℕ) (a b : V) → IsTrue (is_binary op) → Has (operand_bits op) a → Has (operand_bits op) b → h (K.binary op a b) ≡ L.binary op (h a) (h b)
  pub choose : (wide : Bool) (c a b : V) → HasSome Has c → Has (bits_where wide) a → Has (bits_where wide) b → h (K.choose wide c a b) ≡ L.choose wide (h c) (h a) (h b)
  pub byte : (a : V) (i : ℕ) → i < 8 → HasSome Has a → h (K.byte a i) ≡ L.byte (h a) i
  pub join : (wide : Bool) (bytes : List V) → CanJoin wide (length bytes) → All (Has 8) bytes → h (K.join wide bytes) ≡ L.join wide (map h bytes)
