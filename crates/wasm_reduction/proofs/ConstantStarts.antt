-- Constant expressions as a run begins: the widths of their values, and that their instructions are those of the reduction.
use Rattle.std.proofs.Common.{◌≡◌, ℕ, ◌^◌, ◌<◌, List, [], ◌∷◌, ◌++◌, refl, sym, ap, ◌∙◌, subst}
use Rattle.std.specs.Prelude.{All, Bool, true, false, if◌then◌else◌, Option, Some, None, option_map, option_and_then, slice_get}
use Rattle.std.specs.List.{AllByRecursion}
use Rattle.std.proofs.lemmas.List.Elements.{All-head, All-tail}
use Rattle.int_ops.specs.Operators.{operator_of}
use Rattle.wasm_ast.specs.Opcodes.{is_from}
use Rattle.wasm_ast.specs.declared.instructions.Instr.{Instr}
use Rattle.wasm_ast.specs.declared.instructions.Instr.TheVariants.{Const32, Const64, RefNull, RefFunc, GlobalGet, Num}
use Rattle.wasm_ast.specs.declared.modules.GlobalDef.{GlobalDef}
use Rattle.wasm_ast.specs.declared.modules.Module.{Module}
use Rattle.wasm_rules.specs.Words.{numbers, HasNumber, bits_where}
use Rattle.wasm_rules.proofs.NumbersLemmas.{numbers-give}
use Rattle.wasm_check.proofs.ConstantLemmas.{of-three}
use Rattle.wasm_reduction.specs.Configurations.{Reference, FuncRef, Value, I32, I64, Ref, Config, Next, Goes}
use Rattle.wasm_reduction.specs.Combinators.{holding, valued, word_of, with_found, with_word}
use Rattle.wasm_reduction.specs.Instantiation.{combined, operated, constant, evaluated, only_sequence, only_value, value_of, globals_after}
use Rattle.wasm_reduction.specs.Maps.{ValueHas, ValuesHave}
use Rattle.wasm_reduction.specs.Numeric.{numeric}
use Rattle.wasm_reduction.specs.Steps.{act}
use Rattle.wasm_reduction.specs.Tables.{null_of}
use Rattle.wasm_ast.specs.Ranges.{InstrInRange, ExprInRange}
use Rattle.wasm_reduction.proofs.WideParts.{have-append, have-get, valued-has}
use Rattle.wasm_reduction.proofs.WordWidths.{IsBinary, binary-has}

pub some-of : {A B : Type 0} (o : Option A) (go : A → Option B) (y : B) → option_and_then go o ≡ Some y → (x : A) × (o ≡ Some x) × (go x ≡ Some y)
some-of None go y e = absurd cc
some-of (Some x) go y e = (x, refl, e)

pub map-of : {A B : Type 0} (o : Option A) (go : A → B) (y : B) → option_map go o ≡ Some y → (x : A) × (o ≡ Some x) × (go x ≡ y)
map-of None go y e = absurd cc
map-of (Some x) go y e = (x, refl, cc)

-- ---- widths

pub sum32 : (op : ℕ) → is_from 0x6A 0x6C op ≡ true → IsBinary op 32 32
unfolding operator_of
sum32 op e = of-three 0x6A op (λ op. IsBinary op 32 32) e
    (record { binary = refl; operand_is = refl; result_is = refl }) (record { binary = refl; operand_is = refl; result_is = refl }) (record { binary = refl; operand_is = refl; result_is = refl })

pub sum64 : (op : ℕ) → is_from 0x7C 0x7E op ≡ true → IsBinary op 64 64
unfolding operator_of
sum64 op e = of-three 0x7C op (λ op. IsBinary op 64 64) e
    (record { binary = refl; operand_is = refl; result_is = refl }) (record { binary = refl; operand_is = refl; result_is = refl }) (record { binary = refl; operand_is = refl; result_is = refl })

word-has : (wide : Bool) (v : Value ℕ) (n : ℕ) → word_of wide v ≡ Some n → ValueHas HasNumber v → HasNumber (bits_where wide) n
word-has false (I32 m) n e h = let same : m ≡ n = cc in subst (HasNumber 32) same h
word-has false (I64 m) n e h = absurd cc
word-has false (Ref r) n e h = absurd cc
word-has true (I32 m) n e h = absurd cc
word-has true (I64 m) n e h = let same : m ≡ n = cc in subst (HasNumber 64) same h
word-has true (Ref r) n e h = absurd cc

combined-have : (wide : Bool) (op : ℕ) (vs ws : List (Value ℕ)) → IsBinary op (bits_where wide) (bits_where wide) → ValuesHave HasNumber vs → combined wide op vs ≡ Some ws → ValuesHave HasNumber ws
combined-have wide op [] ws is h e = absurd cc
combined-have wide op (b ∷ []) ws is h e = absurd cc
combined-have wide op (b ∷ a ∷ vs) ws is h e =
    let y = some-of (word_of wide b) (λ y. option_map (λ x. valued wide (numbers.binary op x y) ∷ vs) (word_of wide a)) ws e in
    let x = map-of (word_of wide a) (λ x. valued wide (numbers.binary op x y.0) ∷ vs) ws y.2 in
    subst (ValuesHave HasNumber) x.2
    (valued-has HasNumber wide (numbers.binary op x.0 y.0) (binary-has HasNumber numbers numbers-give op (bits_where wide) (bits_where wide) is x.0 y.0 (word-has wide a x.0 x.1 h.1.0) (word-has wide b y.0 y.1 h.0)), h.1.1)

operated-have : (op : ℕ) (vs ws : List (Value ℕ)) → ValuesHave HasNumber vs → operated op vs ≡ Some ws → ValuesHave HasNumber ws
operated-have op vs ws h e = narrow (is_from 0x6A 0x6C op) refl e
  where
    wider : (b : Bool) → is_from 0x7C 0x7E op ≡ b → (if b then combined true op vs else None) ≡ Some ws → ValuesHave HasNumber ws
    wider true is e = combined-have true op vs ws (sum64 op is) h e
    wider false is e = absurd cc

    narrow : (b : Bool) → is_from 0x6A 0x6C op ≡ b → (if b then combined false op vs else if is_from 0x7C 0x7E op then combined true op vs else None) ≡ Some ws → ValuesHave HasNumber ws
    narrow true is e = combined-have false op vs ws (sum32 op is) h e
    narrow false is e = wider (is_from 0x7C 0x7E op) refl e

module _ (globals : List (Value ℕ)) (have : ValuesHave HasNumber globals) where
  constant-have : (i : Instr) (vs ws : List (Value ℕ)) → InstrInRange i → ValuesHave HasNumber vs → constant globals i vs ≡ Some ws → ValuesHave HasNumber ws
  constant-have (Const32 n) vs ws f h e = let same : I32 n ∷ vs ≡ ws = cc in subst (ValuesHave HasNumber) same (f, h)
  constant-have (Const64 n) vs ws f h e = let same : I64 n ∷ vs ≡ ws = cc in subst (ValuesHave HasNumber) same (f, h)
  constant-have (RefNull kind) vs ws f h e = let r = map-of (null_of kind) (λ r. Ref r ∷ vs) ws e in subst (ValuesHave HasNumber) r.2 (tt, h)
  constant-have (RefFunc x) vs ws f h e = let same : Ref (FuncRef (Some x)) ∷ vs ≡ ws = cc in subst (ValuesHave HasNumber) same (tt, h)
  constant-have (GlobalGet x) vs ws f h e =
      let v = map-of (slice_get globals x) (λ v. v ∷ vs) ws e in subst (ValuesHave HasNumber) v.2 (have-get HasNumber globals x v.0 have v.1, h)
  constant-have (Num op) vs ws f h e = operated-have op vs ws h e
  constant-have _ vs ws f h e = absurd cc

  evaluated-have : (is : List Instr) (vs ws : List (Value ℕ)) → All InstrInRange is → ValuesHave HasNumber vs → evaluated globals is vs ≡ Some ws → ValuesHave HasNumber ws
  evaluated-have [] vs ws f h e = let same : vs ≡ ws = cc in subst (ValuesHave HasNumber) same h
  evaluated-have (i ∷ is) vs ws f h e =
      let us = some-of (constant globals i vs) (evaluated globals is) ws e in
      evaluated-have is us.0 ws (All-tail InstrInRange i is f) (constant-have i vs us.0 (All-head InstrInRange i is f) h us.1) us.2

  only-has : (vs : List (Value ℕ)) (v : Value ℕ) → ValuesHave HasNumber vs → only_value vs ≡ Some v → ValueHas HasNumber v
  only-has [] v h e = absurd cc
  only-has (u ∷ []) v h e = let same : u ≡ v = cc in subst (ValueHas HasNumber) same h.0
  only-has (u ∷ w ∷ vs) v h e = absurd cc

  value-has : (seqs : List (List Instr)) (v : Value ℕ) → All (λ is. All InstrInRange is) seqs → option_and_then (λ is. option_and_then only_value (evaluated globals is [])) (only_sequence seqs) ≡ Some v → ValueHas HasNumber v
  value-has [] v f e = absurd cc
  value-has (is ∷ []) v f e =
      let vs = some-of (evaluated globals is []) only_value v e in
      only-has vs.0 v (evaluated-have is [] vs.0 (All-head (λ is. All InstrInRange is) is [] f) tt vs.1) vs.2
  value-has (is ∷ js ∷ rest) v f e = absurd cc

pub globals-have : (done : List (Value ℕ)) (gs : List GlobalDef) (vs : List (Value ℕ)) → ValuesHave HasNumber done → AllByRecursion (λ g. ExprInRange g.init) gs → globals_after done gs ≡ Some vs → ValuesHave HasNumber vs
globals-have done [] vs d h e = let same : done ≡ vs = cc in subst (ValuesHave HasNumber) same d
globals-have done (g ∷ gs) vs d h e =
    let v = some-of (value_of done g.init) (λ v. globals_after (done ++ v ∷ []) gs) vs e in
    globals-have (done ++ v.0 ∷ []) gs vs (have-append HasNumber done (v.0 ∷ []) d (value-has done d g.init.seqs v.0 h.0 v.1, tt)) h.1 v.2

-- ---- the instructions of the reduction

module _ (m : Module) (c : Config ℕ) where
  abbrev Goes-on : List (Value ℕ) → Next ℕ
  Goes-on ws = Goes (holding c ws)

  two-words : (wide : Bool) (op : ℕ) (vs ws : List (Value ℕ)) → combined wide op vs ≡ Some ws →
      with_word wide vs (λ b rest. with_word wide rest (λ a rest. Goes-on (valued wide (numbers.binary op a b) ∷ rest))) ≡ Goes-on ws
  two-words wide op [] ws e = absurd cc
  two-words wide op (b ∷ []) ws e = absurd cc
  two-words wide op (b ∷ a ∷ vs) ws e =
      let y = some-of (word_of wide b) (λ y. option_map (λ x. valued wide (numbers.binary op x y) ∷ vs) (word_of wide a)) ws e in
      let x = map-of (word_of wide a) (λ x. valued wide (numbers.binary op x y.0) ∷ vs) ws y.2 in
      ap (λ o. with_found o (λ y. with_found (word_of wide a) (λ x. Goes-on (valued wide (numbers.binary op x y) ∷ vs)))) y.1
      ∙ ap (λ o. with_found o (λ x. Goes-on (valued wide (numbers.binary op x y.0) ∷ vs))) x.1
      ∙ ap (λ ws. Goes-on ws) x.2

  operated-goes : (op : ℕ) (vs ws : List (Value ℕ)) → operated op vs ≡ Some ws → numeric numbers c vs [] op ≡ Goes-on ws
  unfolding operator_of
  operated-goes op vs ws e = narrow (is_from 0x6A 0x6C op) refl e
    where
      wider : (b : Bool) → is_from 0x7C 0x7E op ≡ b → (if b then combined true op vs else None) ≡ Some ws → numeric numbers c vs [] op ≡ Goes-on ws
      wider true is e = of-three 0x7C op (λ op. combined true op vs ≡ Some ws → numeric numbers c vs [] op ≡ Goes-on ws) is
          (λ e. two-words true 0x7C vs ws e) (λ e. two-words true 0x7D vs ws e) (λ e. two-words true 0x7E vs ws e) e
      wider false is e = absurd cc

      narrow : (b : Bool) → is_from 0x6A 0x6C op ≡ b → (if b then combined false op vs else if is_from 0x7C 0x7E op then combined true op vs else None) ≡ Some ws → numeric numbers c vs [] op ≡ Goes-on ws
      narrow true is e = of-three 0x6A op (λ op. combined false op vs ≡ Some ws → numeric numbers c vs [] op ≡ Goes-on ws) is
          (λ e. two-words false 0x6A vs ws e) (λ e. two-words false 0x6B vs ws e) (λ e. two-words false 0x6C vs ws e) e
      narrow false is e = wider (is_from 0x7C 0x7E op) refl e

  pub constant-goes : (i : Instr) (vs ws : List (Value ℕ)) → constant c.store.globals i vs ≡ Some ws → act numbers m c vs [] i ≡ Goes-on ws
  constant-goes (Const32 n) vs ws e = let same : I32 n ∷ vs ≡ ws = cc in ap (λ ws. Goes-on ws) same
  constant-goes (Const64 n) vs ws e = let same : I64 n ∷ vs ≡ ws = cc in ap (λ ws. Goes-on ws) same
  constant-goes (RefNull kind) vs ws e =
      let r = map-of (null_of kind) (λ r. Ref r ∷ vs) ws e in
      ap (λ o. with_found o (λ r. Goes-on (Ref r ∷ vs))) r.1 ∙ ap (λ ws. Goes-on ws) r.2
  constant-goes (RefFunc x) vs ws e = let same : Ref (FuncRef (Some x)) ∷ vs ≡ ws = cc in ap (λ ws. Goes-on ws) same
  constant-goes (GlobalGet x) vs ws e =
      let v = map-of (slice_get c.store.globals x) (λ v. v ∷ vs) ws e in
      ap (λ o. with_found o (λ v. Goes-on (v ∷ vs))) v.1 ∙ ap (λ ws. Goes-on ws) v.2
  constant-goes (Num op) vs ws e = operated-goes op vs ws e
  constant-goes _ vs ws e = absurd cc
