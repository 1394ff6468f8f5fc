-- Laws of words that stand in a row.
use Rattle.std.proofs.Common.{◌≡◌, ℕ, zero, suc, ◌+◌, ◌*◌, ◌%◌, ◌^◌, ◌<◌, false, slice_index, slice_index_or, ◌-◌, ◌≤◌, List, [], ◌∷◌, length, map, get_or, take, drop, Bor, arith, nat_eq, ◌==◌, true, codes, refl, sym, ap, ◌∙◌, ◌++◌, inl, inr, ◌↔◌, IsTrue, Bool, append-nil, append_assoc}
use Rattle.std.proofs.lemmas.Bool.{eq-eqb}
use Rattle.std.proofs.lemmas.Bool.Decides.{nat_tests}
use Rattle.std.proofs.lemmas.List.{take_all, length-append}
use Rattle.std.proofs.lemmas.Nat.{mod-mul-add}
use Rattle.std.specs.Cmp.Lexicographic.{pointwise, bytes_decides}
use Rattle.std.specs.List.{AllZip}
use Rattle.std.specs.Prelude.{None, Some}
use Rattle.wasm_ast.specs.declared.runs.Value.{Value}
use Rattle.wasm_ast.specs.declared.runs.Value.TheVariants.{I32, I64, Func, Extern}
use Rattle.owi_cmd.specs.Words.{IsNumber, IsWhole, IsInput, IsArgument, IsOptionOf, AreOptions, AreRunOptions, Begins, SpellsExplore, SpellsRun}
use Rattle.owi_cmd.specs.declared.report.Bounds.{Bounds}
use Rattle.owi_cmd.specs.declared.words.RunOptions.{RunOptions}

-- a test of the first word tells what two or more words are
pub two_words : (words : List (Bor (List ℕ))) (d : Bor (List ℕ)) (text : List ℕ) → 2 ≤ length words → pointwise nat_eq (get_or words 0 d).now text ≡ true → map (λ w. w.now) words ≡ text ∷ (get_or words 1 d).now ∷ map (λ w. w.now) (take (length words - 2) (drop 2 words))
two_words [] d text some test = absurd (omega arith)
two_words (w ∷ []) d text some test = absurd (omega arith)
two_words (w ∷ x ∷ rest) d text some test =
    let same : w.now ≡ text = (bytes_decides w.now text).0 test in
    let all : take (suc (suc (length rest)) - 2) rest ≡ rest = take_all (suc (suc (length rest)) - 2) rest (omega arith) in
    rw (same, all)

pub zero_of : (n : ℕ) → (n == 0) ≡ true → n ≡ 0
zero_of n test = grind (arith, nat_tests)

-- no words are left
pub none_left : (words : List (Bor (List ℕ))) → (length words == 0) ≡ true → map (λ w. w.now) words ≡ []
none_left [] test = refl
none_left (w ∷ words) test = absurd (omega (arith, zero_of (length (w ∷ words)) test))

-- ---- options

-- texts of which a letter differs are two
pub letters_differ : (a b : List ℕ) (i : ℕ) → (slice_index a i == slice_index b i) ≡ false → a ≡ b → ⊥
letters_differ a b i apart same =
    let e : (slice_index b i == slice_index b i) ≡ false = rw same at apart in
    let yes = eq-eqb (slice_index b i) (slice_index b i) refl in
    cc

-- a text says one thing at most
abbrev pub SaysOne : {X : Type 0} → (List ℕ → X → Type 0) → Type 0
SaysOne {X} P = (text : List ℕ) (x y : X) → P text x → P text y → y ≡ x

-- what is read of a number is what it says
pub one_number : (least most : ℕ) → SaysOne (IsNumber least most)
one_number least most text n m one other = sym other.writes ∙ one.writes

module _ {X : Type 0} (P : List ℕ → X → Type 0) where
  -- words of an option don't begin with another name
  other_begins : (name other : List ℕ) (usual x : X) (own tail : List (List ℕ)) → (name ≡ other → ⊥) → IsOptionOf other P usual own x → (Begins name tail → ⊥) → Begins name (own ++ tail) → ⊥
  other_begins name other usual x own tail apart is none begins =
      elim is [
        | inl left ↦ none (rw left.0 at begins)
        | inr given ↦ (let b = rw given.1 at begins in let same : other ≡ name = (let e = b.1 in cc) in apart (sym same))
      ]

  -- what is read of an option is what it says
  first_is : SaysOne P → (name : List ℕ) (usual x y : X) (words own rest s tail : List (List ℕ))
      → IsOptionOf name P usual own x → words ≡ own ++ rest → (own ≡ [] → Begins name words → ⊥)
      → IsOptionOf name P usual s y → words ≡ s ++ tail → (Begins name tail → ⊥)
      → (y ≡ x) × (tail ≡ rest)
  first_is one name usual x y words own rest s tail is read unless other spelled none =
      elim is [
        | inl left ↦ elim other [
          | inl out ↦ (out.1 ∙ sym left.1, let e = rw out.0 at spelled in let d = rw left.0 at read in sym e ∙ d)
          | inr given ↦ absurd (unless left.0 (given.0 ∷ tail, rw given.1 at spelled))
        ]
        | inr had ↦ elim other [
          | inl out ↦ absurd (none (had.0 ∷ rest, (let e = rw out.0 at spelled in let d = rw had.1 at read in sym e ∙ d)))
          | inr given ↦
              let d : words ≡ name ∷ had.0 ∷ rest = rw had.1 at read in
              let e : words ≡ name ∷ given.0 ∷ tail = rw given.1 at spelled in
              let texts : given.0 ≡ had.0 = cc in
              let tails : tail ≡ rest = cc in
              (one had.0 x y had.2 (rw texts at given.2), tails)
        ]
      ]

  none_first : (name : List ℕ) (usual y : X) (words s tail : List (List ℕ))
      → Begins name words → ((text : List ℕ) (rest : List (List ℕ)) (x : X) → words ≡ name ∷ text ∷ rest → P text x → ⊥)
      → IsOptionOf name P usual s y → words ≡ s ++ tail → (Begins name tail → ⊥) → ⊥
  none_first name usual y words s tail begins bad other spelled none =
      elim other [
        | inl out ↦ none (rw (rw out.0 at spelled) at begins)
        | inr given ↦ bad given.0 tail y (rw given.1 at spelled) given.2
      ]

begins_none : (name : List ℕ) → Begins name [] → ⊥
begins_none name b = let e = b.1 in cc

-- what is read of an option: its words, or none where the words don't begin with its name, and the words after it
abbrev pub GivenOf : {X : Type 0} → List ℕ → (List ℕ → X → Type 0) → X → List (List ℕ) → X → List (List ℕ) → Type 0
GivenOf name P usual words x rest =
    (own : List (List ℕ)) × IsOptionOf name P usual own x × (words ≡ own ++ rest) × (own ≡ [] → ¬ Begins name words)

abbrev pub Given : List ℕ → ℕ → ℕ → ℕ → List (List ℕ) → ℕ → List (List ℕ) → Type 0
Given name least most usual words n rest = GivenOf name (IsNumber least most) usual words n rest

-- the words begin with an option's name, and nothing that it may say stands after that
abbrev pub BadOf : {X : Type 0} → List ℕ → (List ℕ → X → Type 0) → List (List ℕ) → Type 0
BadOf {X} name P words =
    Begins name words
    × ((text : List ℕ) (rest : List (List ℕ)) (x : X) → words ≡ name ∷ text ∷ rest → ¬ P text x)

abbrev pub Bad : List ℕ → ℕ → ℕ → List (List ℕ) → Type 0
Bad name least most words = BadOf name (IsNumber least most) words

-- ---- the options of `explore`

abbrev Steps : List ℕ → ℕ → Type 0
Steps text n = IsNumber 1 10000000 text n

abbrev Forks : List ℕ → ℕ → Type 0
Forks text n = IsNumber 0 64 text n

abbrev Conflicts : List ℕ → ℕ → Type 0
Conflicts text n = IsNumber 1 1000000 text n

forks_first : (words : List (List ℕ)) (bounds : Bounds) (o : AreOptions words bounds) → Begins (codes "--forks") o.conflicts → ⊥
forks_first words bounds o b =
    other_begins Conflicts (codes "--forks") (codes "--conflicts") 100000 bounds.conflicts o.conflicts [] (letters_differ (codes "--forks") (codes "--conflicts") 2 refl) o.are_conflicts (begins_none (codes "--forks")) (rw (append-nil o.conflicts) b)

steps_first : (words : List (List ℕ)) (bounds : Bounds) (o : AreOptions words bounds) → Begins (codes "--steps") (o.forks ++ o.conflicts) → ⊥
steps_first words bounds o =
    other_begins Forks (codes "--steps") (codes "--forks") 16 bounds.forks o.forks o.conflicts (letters_differ (codes "--steps") (codes "--forks") 2 refl) o.are_forks
    (λ b. other_begins Conflicts (codes "--steps") (codes "--conflicts") 100000 bounds.conflicts o.conflicts [] (letters_differ (codes "--steps") (codes "--conflicts") 2 refl) o.are_conflicts (begins_none (codes "--steps")) (rw (append-nil o.conflicts) b))

after_steps : (words rest : List (List ℕ)) (n : ℕ) → Given (codes "--steps") 1 10000000 1000000 words n rest → (b : Bounds) (o : AreOptions words b) → (b.steps ≡ n) × (o.forks ++ o.conflicts ≡ rest)
after_steps words rest n g b o =
    first_is Steps (one_number 1 10000000) (codes "--steps") 1000000 n b.steps words g.0 rest o.steps (o.forks ++ o.conflicts) g.1 g.2 g.3 o.are_steps (rw append_assoc at o.spelled) (steps_first words b o)

after_forks : (words after rest : List (List ℕ)) (n : ℕ) → Given (codes "--forks") 0 64 16 after n rest → (b : Bounds) (o : AreOptions words b) → o.forks ++ o.conflicts ≡ after → (b.forks ≡ n) × (o.conflicts ≡ rest)
after_forks words after rest n g b o is =
    first_is Forks (one_number 0 64) (codes "--forks") 16 n b.forks after g.0 rest o.forks o.conflicts g.1 g.2 g.3 o.are_forks (sym is) (forks_first words b o)

after_conflicts : (words after rest : List (List ℕ)) (n : ℕ) → Given (codes "--conflicts") 1 1000000 100000 after n rest → (b : Bounds) (o : AreOptions words b) → o.conflicts ≡ after → (b.conflicts ≡ n) × ([] ≡ rest)
after_conflicts words after rest n g b o is =
    first_is Conflicts (one_number 1 1000000) (codes "--conflicts") 100000 n b.conflicts after g.0 rest o.conflicts [] g.1 g.2 g.3 o.are_conflicts (sym is ∙ sym (append-nil o.conflicts)) (begins_none (codes "--conflicts"))

pub no_more : (words after later rest : List (List ℕ)) (s f c : ℕ) → Given (codes "--steps") 1 10000000 1000000 words s after → Given (codes "--forks") 0 64 16 after f later → Given (codes "--conflicts") 1 1000000 100000 later c rest → (rest ≡ [] → ⊥) → (b : Bounds) → ¬ AreOptions words b
no_more words after later rest s f c g h i some b o =
    some (sym (after_conflicts words later rest c i b o (after_forks words after later f h b o (after_steps words after s g b o).1).1).1)

-- ---- the options of `run`

-- ---- whole numbers

-- a minus is no digit
minus_no_number : (least most : ℕ) (digits : List ℕ) (n : ℕ) → IsNumber least most (codes "-" ++ digits) n → ⊥
minus_no_number least most digits n is = let first = is.numeral.1.0 in omega (arith, first)

one_whole : (half : ℕ) → SaysOne (IsWhole half)
one_whole half text x y a b =
    elim a [
      | inl p ↦ elim b [
        | inl q ↦ one_number 0 (2 * half - 1) text x y p q
        | inr q ↦ absurd (minus_no_number 0 (2 * half - 1) q.0 x (rw q.2 at p))
      ]
      | inr p ↦ elim b [
        | inl q ↦ absurd (minus_no_number 0 (2 * half - 1) p.0 y (rw p.2 at q))
        | inr q ↦
            let digits : q.0 ≡ p.0 = ap (λ t. drop 1 t) (sym q.2 ∙ p.2) in
            let below : q.1 ≡ p.1 = one_number 0 half p.0 p.1 q.1 p.3 (rw digits at q.3) in
            q.4 ∙ ap (λ k. (2 * half - k) % (2 * half)) below ∙ sym p.4
      ]
    ]

-- ---- arguments

one_argument : SaysOne IsArgument
one_argument word (I32 n) (I32 m) a b =
    let texts : b.0 ≡ a.0 = ap (λ t. drop 4 t) (sym b.1 ∙ a.1) in ap (λ k. I32 k) (one_whole (2 ^ 31) a.0 n m a.2 (rw texts at b.2))
one_argument word (I64 n) (I64 m) a b =
    let texts : b.0 ≡ a.0 = ap (λ t. drop 4 t) (sym b.1 ∙ a.1) in ap (λ k. I64 k) (one_whole (2 ^ 63) a.0 n m a.2 (rw texts at b.2))
one_argument word (Func None) (Func None) a b = refl
one_argument word Extern Extern a b = refl
one_argument word (I32 n) (I64 m) a b = absurd (letters_differ (codes "i32:" ++ a.0) (codes "i64:" ++ b.0) 1 refl (sym a.1 ∙ b.1))
one_argument word (I32 n) (Func None) a b = absurd (letters_differ (codes "i32:" ++ a.0) (codes "funcref:null") 0 refl (sym a.1 ∙ b))
one_argument word (I32 n) Extern a b = absurd (letters_differ (codes "i32:" ++ a.0) (codes "externref:null") 0 refl (sym a.1 ∙ b))
one_argument word (I64 n) (I32 m) a b = absurd (letters_differ (codes "i64:" ++ a.0) (codes "i32:" ++ b.0) 1 refl (sym a.1 ∙ b.1))
one_argument word (I64 n) (Func None) a b = absurd (letters_differ (codes "i64:" ++ a.0) (codes "funcref:null") 0 refl (sym a.1 ∙ b))
one_argument word (I64 n) Extern a b = absurd (letters_differ (codes "i64:" ++ a.0) (codes "externref:null") 0 refl (sym a.1 ∙ b))
one_argument word (Func None) (I32 m) a b = absurd (letters_differ (codes "funcref:null") (codes "i32:" ++ b.0) 0 refl (sym a ∙ b.1))
one_argument word (Func None) (I64 m) a b = absurd (letters_differ (codes "funcref:null") (codes "i64:" ++ b.0) 0 refl (sym a ∙ b.1))
one_argument word (Func None) Extern a b = absurd (letters_differ (codes "funcref:null") (codes "externref:null") 0 refl (sym a ∙ b))
one_argument word Extern (I32 m) a b = absurd (letters_differ (codes "externref:null") (codes "i32:" ++ b.0) 0 refl (sym a ∙ b.1))
one_argument word Extern (I64 m) a b = absurd (letters_differ (codes "externref:null") (codes "i64:" ++ b.0) 0 refl (sym a ∙ b.1))
one_argument word Extern (Func None) a b = absurd (letters_differ (codes "externref:null") (codes "funcref:null") 0 refl (sym a ∙ b))
one_argument word (Func (Some f)) v a b = absurd a
one_argument word v (Func (Some f)) a b = absurd b

-- the words don't begin with an argument
abbrev pub BeginsWithNone : List (List ℕ) → Type 0
BeginsWithNone words = (word : List ℕ) (rest : List (List ℕ)) (v : Value) → words ≡ word ∷ rest → ¬ IsArgument word v

-- words begin with arguments in one way
one_split : (own rest arguments others : List (List ℕ)) (xs ys : List Value) → AllZip IsArgument own xs → AllZip IsArgument arguments ys →
    own ++ rest ≡ arguments ++ others → BeginsWithNone rest → BeginsWithNone others → (ys ≡ xs) × (others ≡ rest)
one_split [] rest [] others [] [] a b same none lacks = (refl, sym same)
one_split [] rest [] others [] (y ∷ ys) a b same none lacks = absurd b
one_split [] rest (w ∷ ws) others [] [] a b same none lacks = absurd b
one_split [] rest (w ∷ ws) others [] (y ∷ ys) a b same none lacks = absurd (none w (ws ++ others) y same b.0)
one_split [] rest arguments others (x ∷ xs) ys a b same none lacks = absurd a
one_split (w ∷ ws) rest arguments others [] ys a b same none lacks = absurd a
one_split (w ∷ ws) rest [] others (x ∷ xs) [] a b same none lacks = absurd (lacks w (ws ++ rest) x (sym same) a.0)
one_split (w ∷ ws) rest [] others (x ∷ xs) (y ∷ ys) a b same none lacks = absurd b
one_split (w ∷ ws) rest (v ∷ vs) others (x ∷ xs) [] a b same none lacks = absurd b
one_split (w ∷ ws) rest (v ∷ vs) others (x ∷ xs) (y ∷ ys) a b same none lacks =
    let heads : v ≡ w = cc in
    let tails : ws ++ rest ≡ vs ++ others = cc in
    let first : y ≡ x = one_argument w x y a.0 (rw heads at b.0) in
    let more : (ys ≡ xs) × (others ≡ rest) = one_split ws rest vs others xs ys a.1 b.1 tails none lacks in
    (rw (first, more.0) refl, more.1)

-- no argument begins with a dash
no_argument : (rest : List ℕ) (v : Value) → IsArgument (45 ∷ rest) v → ⊥
no_argument rest (I32 n) a = letters_differ (45 ∷ rest) (codes "i32:" ++ a.0) 0 refl a.1
no_argument rest (I64 n) a = letters_differ (45 ∷ rest) (codes "i64:" ++ a.0) 0 refl a.1
no_argument rest (Func None) a = letters_differ (45 ∷ rest) (codes "funcref:null") 0 refl a
no_argument rest (Func (Some f)) a = a
no_argument rest Extern a = letters_differ (45 ∷ rest) (codes "externref:null") 0 refl a

none_begin : BeginsWithNone []
none_begin word rest v same = absurd cc

option_first : {X : Type 0} (P : List ℕ → X → Type 0) (name : List ℕ) (usual x : X) (own tail : List (List ℕ)) → IsOptionOf (45 ∷ name) P usual own x → BeginsWithNone tail → BeginsWithNone (own ++ tail)
option_first P name usual x own tail is none word rest v same =
    elim is [
      | inl left ↦ none word rest v (rw left.0 at same)
      | inr given ↦
          let e : (45 ∷ name) ∷ given.0 ∷ tail ≡ word ∷ rest = rw given.1 at same in
          let first : word ≡ 45 ∷ name = cc in
          λ a. no_argument name v (rw first at a)
    ]

no_more_arguments : (words : List (List ℕ)) (b : Bounds) → AreOptions words b → BeginsWithNone words
no_more_arguments words b o =
    rw (o.spelled, append_assoc) (
    option_first Steps (drop 1 (codes "--steps")) 1000000 b.steps o.steps (o.forks ++ o.conflicts) o.are_steps
    (option_first Forks (drop 1 (codes "--forks")) 16 b.forks o.forks o.conflicts o.are_forks
    (rw (sym (append-nil o.conflicts)) (option_first Conflicts (drop 1 (codes "--conflicts")) 100000 b.conflicts o.conflicts [] o.are_conflicts none_begin)))
    )

no_more_run_arguments : (words : List (List ℕ)) (b : RunOptions) → AreRunOptions words b → BeginsWithNone words
no_more_run_arguments words b o =
    rw o.spelled (
    option_first Steps (drop 1 (codes "--steps")) 1000000 b.steps o.steps o.input o.are_steps
    (rw (sym (append-nil o.input)) (option_first IsInput (drop 1 (codes "--input")) [] b.input o.input [] o.are_input none_begin))
    )

-- the words up to a place, and those from it on
pub both_parts : (n : ℕ) (words : List (Bor (List ℕ))) → map (λ w. w.now) (take n words) ++ map (λ w. w.now) (drop n words) ≡ map (λ w. w.now) words
both_parts zero words = refl
both_parts (suc n) [] = refl
both_parts (suc n) (w ∷ ws) = ap (λ l. w.now ∷ l) (both_parts n ws)

-- ---- commands

module _ (words own rest : List (List ℕ)) (name : List ℕ) (args : List Value) where
  pub spells_explore : words ≡ codes "explore" ∷ name ∷ own ++ rest → AllZip IsArgument own args → (b : Bounds) → AreOptions rest b → SpellsExplore words name args b
  spells_explore is argued b o = record { arguments = own; options = rest; spelled = is; argued = argued; bounded = o }

  pub spells_run : words ≡ codes "run" ∷ name ∷ own ++ rest → AllZip IsArgument own args → (b : RunOptions) → AreRunOptions rest b → SpellsRun words name args b
  spells_run is argued b o = record { arguments = own; others = rest; spelled = is; argued = argued; chosen = o }

  pub no_explore : words ≡ codes "explore" ∷ name ∷ own ++ rest → AllZip IsArgument own args → BeginsWithNone rest → ((b : Bounds) → ¬ AreOptions rest b) →
      (asked : List ℕ) (given : List Value) (b : Bounds) → ¬ SpellsExplore words asked given b
  no_explore is argued none bad asked given b s =
      let said = s.spelled in
      let same : own ++ rest ≡ s.arguments ++ s.options = cc in
      let parts : (given ≡ args) × (s.options ≡ rest) = one_split own rest s.arguments s.options args given argued s.argued same none (no_more_arguments s.options b s.bounded) in
      bad b (rw parts.1 at s.bounded)

  pub no_run : words ≡ codes "run" ∷ name ∷ own ++ rest → AllZip IsArgument own args → BeginsWithNone rest → ((b : RunOptions) → ¬ AreRunOptions rest b) →
      (asked : List ℕ) (given : List Value) (b : RunOptions) → ¬ SpellsRun words asked given b
  no_run is argued none bad asked given b s =
      let said = s.spelled in
      let same : own ++ rest ≡ s.arguments ++ s.others = cc in
      let parts : (given ≡ args) × (s.others ≡ rest) = one_split own rest s.arguments s.others args given argued s.argued same none (no_more_run_arguments s.others b s.chosen) in
      bad b (rw parts.1 at s.chosen)

-- a test of the first word tells whether the words begin with it
pub begins_by : (words : List (Bor (List ℕ))) (d : Bor (List ℕ)) (name : List ℕ) (test : Bool) → 1 ≤ length words → test ≡ pointwise nat_eq (get_or words 0 d).now name → IsTrue test ↔ Begins name (map (λ w. w.now) words)
begins_by [] d name test some is = absurd (omega arith)
begins_by (w ∷ rest) d name test some is = (
  λ yes. (map (λ w. w.now) rest, ap (λ t. t ∷ map (λ w. w.now) rest) ((bytes_decides w.now name).0 (sym is ∙ yes))),
  λ begins. is ∙ (bytes_decides w.now name).1 (let e = begins.1 in cc),
)

pub some_left : (words : List (Bor (List ℕ))) → (length words == 0) ≡ false → map (λ w. w.now) words ≡ [] → ⊥
some_left [] some none = cc
some_left (w ∷ words) some none = cc

-- after `convert` and `binary` no word may be left
pub converts_by : (words : List (List ℕ)) (rest : List (Bor (List ℕ))) (second : List ℕ) (test last : Bool) → words ≡ codes "convert" ∷ second ∷ map (λ w. w.now) rest → test ≡ pointwise nat_eq second (codes "binary") → test ≡ true → last ≡ (length rest == 0) → IsTrue last ↔ (words ≡ codes "convert" ∷ codes "binary" ∷ [])
converts_by words rest second test last is second_is passes last_is =
    let same : second ≡ codes "binary" = (bytes_decides second (codes "binary")).0 (sym second_is ∙ passes) in (
      λ empty. is ∙ ap (λ s. codes "convert" ∷ s ∷ map (λ w. w.now) rest) same ∙ ap (λ r. codes "convert" ∷ codes "binary" ∷ r) (none_left rest (sym last_is ∙ empty)),
      λ e. last_is ∙ ap (λ n. n == 0) (no_length rest (ap (λ ws. drop 2 ws) (sym is ∙ e))),
    )
  where
    no_length : (rest : List (Bor (List ℕ))) → map (λ w. w.now) rest ≡ [] → length rest ≡ 0
    no_length [] none = refl
    no_length (w ∷ rest) none = cc

-- ---- numbers below 0

pub zero_below : (half k : ℕ) → 1 ≤ half → k ≤ 0 → 0 ≡ (2 * half - k) % (2 * half)
zero_below half k some none =
    let whole : 2 * half - k ≡ 1 * (2 * half) + 0 = omega (arith, none) in
    sym (ap (λ n. n % (2 * half)) whole ∙ mod-mul-add 1 (2 * half) 0 (omega arith))

pub rest_below : (half k : ℕ) → 1 ≤ k → k ≤ half → half - 1 + half - (k - 1) ≡ (2 * half - k) % (2 * half)
rest_below half k some few =
    let same : half - 1 + half - (k - 1) ≡ 2 * half - k = omega arith in
    let small : 2 * half - k ≡ 0 * (2 * half) + (2 * half - k) = omega arith in
    same ∙ sym (ap (λ n. n % (2 * half)) small ∙ mod-mul-add 0 (2 * half) (2 * half - k) (omega arith))

-- ---- words that are read one after another

pub record ArgumentsSoFar (words : List (Bor (List ℕ))) (args : List Value) (at : ℕ) : Type 0 where
  pub count : length args ≡ at
  pub zipped : AllZip IsArgument (map (λ w. w.now) (take (length args) words)) args

module _ {W X Y : Type 0} (f : W → X) (P : X → Y → Type 0) where
  pub zip_more : (ws : List W) (ys : List Y) (i : ℕ) (d : W) (y : Y) → i < length ws → AllZip P (map f (take i ws)) ys → P (f (slice_index_or ws i d)) y → AllZip P (map f (take (i + 1) ws)) (ys ++ y ∷ [])
  zip_more [] ys i d y lt h is = absurd (omega arith)
  zip_more (w ∷ ws) [] zero d y lt h is = (is, tt)
  zip_more (w ∷ ws) (z ∷ zs) zero d y lt h is = absurd h
  zip_more (w ∷ ws) [] (suc i) d y lt h is = absurd h
  zip_more (w ∷ ws) (z ∷ zs) (suc i) d y lt h is = let next : suc i + 1 ≡ suc (i + 1) = omega arith in rw next (h.0, zip_more ws zs i d y (omega arith) h.1 is)

  pub none_at : (ws : List W) (ys : List Y) (i : ℕ) (d : W) → i < length ws → ((y : Y) → P (f (slice_index_or ws i d)) y → ⊥) → AllZip P (map f ws) ys → ⊥
  none_at [] ys i d lt lacks h = omega arith
  none_at (w ∷ ws) [] i d lt lacks h = h
  none_at (w ∷ ws) (y ∷ ys) zero d lt lacks h = lacks y h.0
  none_at (w ∷ ws) (y ∷ ys) (suc i) d lt lacks h = none_at ws ys i d (omega arith) lacks h.1

pub arguments_more : (words : List (Bor (List ℕ))) (args : List Value) (at : ℕ) (d : Bor (List ℕ)) (v : Value) → at < length words → ArgumentsSoFar words args at → IsArgument (slice_index_or words at d).now v →
    ArgumentsSoFar words (args ++ v ∷ []) (at + 1)
arguments_more words args at d v lt so is =
    let long : length (args ++ v ∷ []) ≡ at + 1 = omega (arith, so.count, length-append args (v ∷ [])) in
    record {
      count = long;
      zipped = rw long (zip_more (λ w. w.now) IsArgument words args at d v lt (rw so.count at so.zipped) is);
    }

-- ---- words that spell no argument

pub no_narrow : (text : List ℕ) → ((n : ℕ) → IsWhole (2 ^ 31) text n → ⊥) → (v : Value) → IsArgument (codes "i32:" ++ text) v → ⊥
no_narrow text none (I32 n) a = let texts : a.0 ≡ text = ap (λ t. drop 4 t) (sym a.1) in none n (rw texts at a.2)
no_narrow text none (I64 n) a = letters_differ (codes "i32:" ++ text) (codes "i64:" ++ a.0) 1 refl a.1
no_narrow text none (Func None) a = letters_differ (codes "i32:" ++ text) (codes "funcref:null") 0 refl a
no_narrow text none (Func (Some f)) a = a
no_narrow text none Extern a = letters_differ (codes "i32:" ++ text) (codes "externref:null") 0 refl a

pub no_wide : (text : List ℕ) → ((n : ℕ) → IsWhole (2 ^ 63) text n → ⊥) → (v : Value) → IsArgument (codes "i64:" ++ text) v → ⊥
no_wide text none (I32 n) a = letters_differ (codes "i64:" ++ text) (codes "i32:" ++ a.0) 1 refl a.1
no_wide text none (I64 n) a = let texts : a.0 ≡ text = ap (λ t. drop 4 t) (sym a.1) in none n (rw texts at a.2)
no_wide text none (Func None) a = letters_differ (codes "i64:" ++ text) (codes "funcref:null") 0 refl a
no_wide text none (Func (Some f)) a = a
no_wide text none Extern a = letters_differ (codes "i64:" ++ text) (codes "externref:null") 0 refl a
