-- What the instructions' rules are put together from.
--
-- An instruction's rule is given the configuration c past the instruction, whose unit is spent; the operands vs of the
-- innermost label, the last first; and the answers ns that the instruction has had so far.
use Rattle.std.specs.Prelude.{ℕ, zero, suc, ◌+◌, Bool, true, false, nat_lt, if◌then◌else◌, List, [], ◌∷◌, ◌++◌, take, drop, length, Option, Some, None}
use Rattle.wasm_ast.specs.declared.instructions.Instr.{Instr}
use Rattle.wasm_ast.specs.declared.runs.Cause.{Cause}
use Rattle.wasm_reduction.specs.Configurations.{Reference, Value, I32, I64, Ref, Frame, Config, Test, Pick, Assume, Traps, Stuck, Next, Asks, Ends}

-- ---- configurations

-- what an instruction costs: a unit, but nothing in the outermost frame, where no frame waits
abbrev pub cost_under : {W : Type 0} → List (Frame W) → ℕ
cost_under [] = 0
cost_under (f ∷ fs) = 1

-- the configuration past its next instruction, before the instructions is
abbrev pub past : {W : Type 0} → Config W → List Instr → Config W
past c is = record c { frame = record (c.frame) { here = record (c.frame.here) { code = is } }; answers = []; units = c.units + cost_under c.callers }

-- the configuration with these operands in its innermost label
abbrev pub holding : {W : Type 0} → Config W → List (Value W) → Config W
holding c vs = record c { frame = record (c.frame) { here = record (c.frame.here) { vals = vs } } }

abbrev pub with_locals : {W : Type 0} → Config W → List (Value W) → Config W
with_locals c locals = record c { frame = record (c.frame) { locals = locals } }

abbrev pub with_globals : {W : Type 0} → Config W → List (Value W) → Config W
with_globals c globals = record c { store = record (c.store) { globals = globals } }

abbrev pub with_tables : {W : Type 0} → Config W → List (List Reference) → Config W
with_tables c tables = record c { store = record (c.store) { tables = tables } }

abbrev pub with_memory : {W : Type 0} → Config W → List W → Config W
with_memory c memory = record c { store = record (c.store) { memory = memory } }

abbrev pub with_elems : {W : Type 0} → Config W → List (List Reference) → Config W
with_elems c elems = record c { store = record (c.store) { elems = elems } }

abbrev pub with_datas : {W : Type 0} → Config W → List (List ℕ) → Config W
with_datas c datas = record c { store = record (c.store) { datas = datas } }

-- ---- operands

-- a word as a value: an i64 where wide, else an i32
abbrev pub valued : {W : Type 0} → Bool → W → Value W
valued false w = I32 w
valued true w = I64 w

-- the word of a value of type i64, where wide, or of type i32
abbrev pub word_of : {W : Type 0} → Bool → Value W → Option W
word_of false (I32 w) = Some w
word_of true (I64 w) = Some w
word_of _ _ = None

abbrev pub reference_of : {W : Type 0} → Value W → Option Reference
reference_of (Ref r) = Some r
reference_of _ = None

-- with what is found
abbrev pub with_found : {W A : Type 0} → Option A → (A → Next W) → Next W
with_found None go = Ends Stuck
with_found (Some x) go = go x

-- with the last operand and the others
abbrev pub with_value : {W : Type 0} → List (Value W) → (Value W → List (Value W) → Next W) → Next W
with_value [] go = Ends Stuck
with_value (v ∷ vs) go = go v vs

-- with the last operand, which is an i64 where wide, else an i32
abbrev pub with_word : {W : Type 0} → Bool → List (Value W) → (W → List (Value W) → Next W) → Next W
with_word wide vs go = with_value vs (λ v rest. with_found (word_of wide v) (λ w. go w rest))

-- with the last operand, which is a reference
abbrev pub with_reference : {W : Type 0} → List (Value W) → (Reference → List (Value W) → Next W) → Next W
with_reference vs go = with_value vs (λ v rest. with_found (reference_of v) (λ r. go r rest))

-- with the last n operands and the others
abbrev pub with_last : {W : Type 0} → ℕ → List (Value W) → (List (Value W) → List (Value W) → Next W) → Next W
with_last n vs go = if nat_lt (length vs) n then Ends Stuck else go (take n vs) (drop n vs)

-- ---- questions

-- A test of a word, and how it goes on after the answer 0 and after any other, with the answers to further questions.
abbrev pub testing : {W : Type 0} → W → List ℕ → (List ℕ → Next W) → (List ℕ → Next W) → Next W
testing w [] at_zero at_other = Asks Test w
testing w (zero ∷ ns) at_zero at_other = at_zero ns
testing w (suc n ∷ ns) at_zero at_other = at_other ns

-- a test that traps unless its answer is 0
abbrev pub trapping_if : {W : Type 0} → W → Cause → List ℕ → (List ℕ → Next W) → Next W
trapping_if w cause ns go = testing w ns go (λ ns. Ends (Traps cause))

-- the number that a word is
abbrev pub picking : {W : Type 0} → W → List ℕ → (ℕ → List ℕ → Next W) → Next W
picking w [] go = Asks Pick w
picking w (n ∷ ns) go = go n ns

-- that a word isn't 0, and what comes where it is and where it isn't
abbrev pub assuming : {W : Type 0} → W → List ℕ → Next W → Next W → Next W
assuming w [] at_zero at_other = Asks Assume w
assuming w (zero ∷ ns) at_zero at_other = at_zero
assuming w (suc n ∷ ns) at_zero at_other = at_other

-- ---- ranges

-- A range of so many entries that ends here is within the size, else it traps. After the answers that the test and the
-- picks of an access have it always is.
abbrev pub within : {W : Type 0} → ℕ → ℕ → Cause → Next W → Next W
within end size cause next = if nat_lt size end then Ends (Traps cause) else next

-- the entries xs written over those of the list, from the place on
abbrev pub written : {A : Type 0} → ℕ → List A → List A → List A
written place xs list = take place list ++ xs ++ drop (place + length xs) list

-- n entries of a list, from the place on
abbrev pub part : {A : Type 0} → ℕ → ℕ → List A → List A
part place n list = take n (drop place list)
