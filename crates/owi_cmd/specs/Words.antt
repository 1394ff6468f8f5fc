-- Which words, after the program's name, spell which command.
use Rattle.std.specs.Prelude.{◌≡◌, ◌==◌, ℕ, ◌-◌, ◌*◌, ◌%◌, ◌^◌, ◌≤◌, ◌⊎◌, List, [], ◌∷◌, ◌++◌, length, codes, None, Some}
use Rattle.std.specs.List.{AllZip, slice_split}
use Rattle.std.specs.Str.Parse.{IsNumeral, digits_value}
use Rattle.wasm_ast.specs.declared.runs.Value.{Value}
use Rattle.wasm_ast.specs.declared.runs.Value.TheVariants.{I32, I64, Func, Extern}
use Rattle.owi_cmd.specs.declared.report.Bounds.{Bounds}
use Rattle.owi_cmd.specs.declared.words.Command.{Command}
use Rattle.owi_cmd.specs.declared.words.Command.TheVariants.{Explore, Run, ConvertBinary, Validate}
use Rattle.owi_cmd.specs.declared.words.RunOptions.{RunOptions}

-- ---- numbers

-- 1 to 20 decimal digits that write n, a number from least to most
pub record IsNumber (least most : ℕ) (text : List ℕ) (n : ℕ) : Type 0 where
  pub numeral : IsNumeral 10 text
  pub short : length text ≤ 20
  pub writes : digits_value 10 text ≡ n
  pub from : least ≤ n
  pub to : n ≤ most

-- A whole number from -half to 2 * half - 1, as n, which is the number modulo 2 * half: its digits, or a minus and the digits
-- of what is below 0.
abbrev pub IsWhole : ℕ → List ℕ → ℕ → Type 0
IsWhole half text n =
    IsNumber 0 (2 * half - 1) text n
    ⊎ ((digits : List ℕ) × (k : ℕ) × (text ≡ codes "-" ++ digits) × IsNumber 0 half digits k × (n ≡ (2 * half - k) % (2 * half)))

-- the numbers below 2^64 that stand between single commas; the empty text has none
abbrev pub IsInput : List ℕ → List ℕ → Type 0
IsInput [] numbers = numbers ≡ []
IsInput text numbers = AllZip (IsNumber 0 (2 ^ 64 - 1)) (slice_split (λ byte. byte == 44) text) numbers

-- ---- arguments

-- a word that spells an argument: a number of its type, or null. No word spells a reference to a function.
abbrev pub IsArgument : List ℕ → Value → Type 0
IsArgument word (I32 n) = (text : List ℕ) × (word ≡ codes "i32:" ++ text) × IsWhole (2 ^ 31) text n
IsArgument word (I64 n) = (text : List ℕ) × (word ≡ codes "i64:" ++ text) × IsWhole (2 ^ 63) text n
IsArgument word (Func None) = word ≡ codes "funcref:null"
IsArgument word (Func (Some f)) = ⊥
IsArgument word Extern = word ≡ codes "externref:null"

-- ---- options

-- the words begin with this one
abbrev pub Begins : List ℕ → List (List ℕ) → Type 0
Begins name words = (rest : List (List ℕ)) × (words ≡ name ∷ rest)

-- an option of this name, whose value spells x, or no words, which stand for the usual x
abbrev pub IsOptionOf : {X : Type 0} → List ℕ → (List ℕ → X → Type 0) → X → List (List ℕ) → X → Type 0
IsOptionOf name spells usual words x =
    ((words ≡ []) × (x ≡ usual)) ⊎ ((text : List ℕ) × (words ≡ name ∷ text ∷ []) × spells text x)

-- an option of this name that gives a number in its range, or no words, which stand for the usual number
abbrev pub IsOption : List ℕ → ℕ → ℕ → ℕ → List (List ℕ) → ℕ → Type 0
IsOption name least most usual words n = IsOptionOf name (IsNumber least most) usual words n

-- `--steps N`, `--forks F` and `--conflicts B`, in this order; each may be left out
pub record AreOptions (words : List (List ℕ)) (bounds : Bounds) : Type 0 where
  pub steps : List (List ℕ)
  pub forks : List (List ℕ)
  pub conflicts : List (List ℕ)
  pub spelled : words ≡ steps ++ forks ++ conflicts
  pub are_steps : IsOption (codes "--steps") 1 10000000 1000000 steps bounds.steps
  pub are_forks : IsOption (codes "--forks") 0 64 16 forks bounds.forks
  pub are_conflicts : IsOption (codes "--conflicts") 1 1000000 100000 conflicts bounds.conflicts

-- `--steps N` and `--input LIST`, in this order; each may be left out
pub record AreRunOptions (words : List (List ℕ)) (options : RunOptions) : Type 0 where
  pub steps : List (List ℕ)
  pub input : List (List ℕ)
  pub spelled : words ≡ steps ++ input
  pub are_steps : IsOption (codes "--steps") 1 10000000 1000000 steps options.steps
  pub are_input : IsOptionOf (codes "--input") IsInput [] input options.input

-- ---- commands

-- `explore NAME`, the arguments and the options
pub record SpellsExplore (words : List (List ℕ)) (name : List ℕ) (args : List Value) (bounds : Bounds) : Type 0 where
  pub arguments : List (List ℕ)
  pub options : List (List ℕ)
  pub spelled : words ≡ codes "explore" ∷ name ∷ arguments ++ options
  pub argued : AllZip IsArgument arguments args
  pub bounded : AreOptions options bounds

-- `run NAME`, the arguments and the options
pub record SpellsRun (words : List (List ℕ)) (name : List ℕ) (args : List Value) (options : RunOptions) : Type 0 where
  pub arguments : List (List ℕ)
  pub others : List (List ℕ)
  pub spelled : words ≡ codes "run" ∷ name ∷ arguments ++ others
  pub argued : AllZip IsArgument arguments args
  pub chosen : AreRunOptions others options

abbrev pub Spells : List (List ℕ) → Command → Type 0
Spells words Validate = words ≡ codes "validate" ∷ []
Spells words ConvertBinary = words ≡ codes "convert" ∷ codes "binary" ∷ []
Spells words (Explore name args bounds) = SpellsExplore words name args bounds
Spells words (Run name args options) = SpellsRun words name args options

-- some words spell the command
abbrev pub IsSpelled : Command → Type 0
IsSpelled command = (words : List (List ℕ)) × Spells words command
