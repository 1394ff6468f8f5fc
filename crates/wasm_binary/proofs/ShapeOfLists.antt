-- What spellings tell of the shape of what they spell: counts and names.
use Rattle.std.proofs.Common.{◌≡◌, ℕ, zero, suc, ◌-◌, ◌^◌, ◌<◌, inl, inr, Bool, true, false, List, [], ◌∷◌, ◌++◌, length, Result, Ok, Err, All, refl, sym, ap, subst, arith, length-append}
use Rattle.std.specs.List.{AllByRecursion as ByRecursion}
use Rattle.std.specs.Str.{is_utf8}
use Rattle.std.specs.Prelude.{◌==◌}
use Rattle.std.proofs.lemmas.List.Elements.{All-nil, All-cons}
use Rattle.owi_base.specs.Leb.{SpellsUnsigned}
use Rattle.grammar_forms.specs.Forms.{gives, ◌>>=◌, many, checked, any_byte, when◌form◌else◌}
use Rattle.owi_base.proofs.UnsignedLaws.{joined_below}
use Rattle.wasm_ast.specs.Shape.{IsShort, IsReference, FuncTypeHasShape}
use Rattle.wasm_ast.specs.declared.types.ValType.{ValType}
use Rattle.wasm_ast.specs.declared.types.ValType.TheVariants.{FuncRef, ExternRef}
use Rattle.wasm_binary.specs.Faults.{Fault, byte, utf8}
use Rattle.wasm_binary.specs.Values.{Grammar, u32, vec, name, text_of, tag}
use Rattle.wasm_binary.specs.Types.{ref_type_of, ref_type, val_type, func_type, limits, table_type}
use Rattle.owi_base.proofs.Choices.{chosen}

-- numbers that are bytes
abbrev pub EachIsByte : List ℕ → Type 0
EachIsByte text = ByRecursion (λ b. b < 256) text

-- bytes, fewer than 2^32
pub record AreFew (text : List ℕ) : Type 0 where
  pub bytes : EachIsByte text
  pub short : length text < 2 ^ 32

pub bytes_parts : (xs ys : List ℕ) → EachIsByte (xs ++ ys) → EachIsByte xs × EachIsByte ys
bytes_parts [] ys h = (tt, h)
bytes_parts (x ∷ xs) ys h = let others = bytes_parts xs ys h.1 in ((h.0, others.0), others.1)

pub bytes_of : (text xs ys : List ℕ) → text ≡ xs ++ ys → EachIsByte text → EachIsByte xs × EachIsByte ys
bytes_of text xs ys e h = bytes_parts xs ys (subst EachIsByte e h)

pub few_of : (text xs ys : List ℕ) → text ≡ xs ++ ys → AreFew text → AreFew xs × AreFew ys
few_of text xs ys e few =
    let parts = bytes_of text xs ys e few.bytes in (
      record { bytes = parts.0; short = omega (arith, few.short, ap length e, length-append xs ys) },
      record { bytes = parts.1; short = omega (arith, few.short, ap length e, length-append xs ys) },
    )

-- ---- what is said of each value that a form spells

pub record SpellsOnly {A : Type 0} (f : Grammar A) (P : A → Type 0) : Type 0 where
  pub each : (x : A) (text : List ℕ) → AreFew text → f.Spells x text → P x

pub gives_only : {A : Type 0} (P : A → Type 0) (x : A) → P x → SpellsOnly (gives x) P
gives_only P x p = record { each = λ y text few s. subst P (sym s.0) p }

pub then_only : {A B : Type 0} {f : Grammar A} {g : A → Grammar B} (P : A → Type 0) (Q : B → Type 0) → SpellsOnly f P → ((x : A) → P x → SpellsOnly (g x) Q) → SpellsOnly (f >>= g) Q
then_only {A} {B} {f} {g} P Q p q = record {
  each = λ y text few s.
      let parts = few_of text s.1 s.2 s.3 few in
      (q s.0 (p.each s.0 s.1 parts.0 s.4)).each y s.2 parts.1 s.5;
}

abbrev pub Any : {A : Type 0} → A → Type 0
Any x = Unit {0}

pub any_only : {A : Type 0} (f : Grammar A) → SpellsOnly f Any
any_only f = record { each = λ x text few s. tt }

pub checked_only : {A B : Type 0} (f : Grammar A) (test : A → Result B (ℕ → Fault)) (P : A → Type 0) (Q : B → Type 0) → SpellsOnly f P → ((x : A) (y : B) → P x → test x ≡ Ok y → Q y) → SpellsOnly (checked f test) Q
checked_only f test P Q p q = record { each = λ y text few s. q s.0 y (p.each s.0 text few s.1) s.2 }

pub when_only : {A : Type 0} (P : A → Type 0) (b : Bool) (f g : Grammar A) → ((b ≡ true) → SpellsOnly f P) → ((b ≡ false) → SpellsOnly g P) → SpellsOnly (when b form f else g) P
when_only P true f g p q = p refl
when_only P false f g p q = q refl

-- ---- numbers

below_width : (width : ℕ) (text : List ℕ) (n : ℕ) → EachIsByte text → SpellsUnsigned width text n → n < 2 ^ width
below_width width [] n bytes s = absurd s
below_width width (b ∷ []) n bytes s = omega (arith, s.1, s.2)
below_width width (b ∷ c ∷ text) n bytes s =
    let small = below_width (width - 7) (c ∷ text) s.2 bytes.1 s.4 in
    omega (arith, joined_below width b s.2 s.0 bytes.0 s.1 small, s.1, s.3)

abbrev pub IsU32 : ℕ → Type 0
IsU32 n = n < 2 ^ 32

pub u32_small : (n : ℕ) (text : List ℕ) → EachIsByte text → u32.Spells n text → n < 2 ^ 32
u32_small n text bytes s = below_width 32 text n bytes s

pub u32_only : SpellsOnly u32 IsU32
u32_only = record { each = λ n text few s. u32_small n text few.bytes s }

-- ---- vectors

pub many_each : {A : Type 0} (P : A → Type 0) (f : Grammar A) → SpellsOnly f P → (n : ℕ) (xs : List A) (text : List ℕ) → AreFew text → (many f n).Spells xs text → All P xs × (length xs ≡ n)
many_each {A} P f p zero xs text few s =
    let Q : List A → Type 0 = λ l. All P l × (length l ≡ 0) in
    subst Q (sym s.0) (All-nil P, refl)
many_each {A} P f p (suc n) xs text few s =
    let parts = few_of text s.1 s.2 s.3 few in
    let t = s.5 in
    let others = many_each P f p n t.0 t.1 (few_of s.2 t.1 t.2 t.3 parts.1).0 t.4 in
    let Q : List A → Type 0 = λ l. All P l × (length l ≡ suc n) in
    subst Q (sym t.5.0) (All-cons P s.0 t.0 (p.each s.0 s.1 parts.0 s.4) others.0, ap suc others.1)

-- so many, each with the property
abbrev pub AreMany : {A : Type 0} → (A → Type 0) → ℕ → List A → Type 0
AreMany P n xs = All P xs × (length xs ≡ n)

pub many_only : {A : Type 0} (P : A → Type 0) (f : Grammar A) (n : ℕ) → SpellsOnly f P → SpellsOnly (many f n) (AreMany P n)
many_only P f n p = record { each = λ xs text few s. many_each P f p n xs text few s }

abbrev pub AllShort : {A : Type 0} → (A → Type 0) → List A → Type 0
AllShort P xs = All P xs × IsShort xs

many_short : {A : Type 0} (P : A → Type 0) (f : Grammar A) (n : ℕ) → n < 2 ^ 32 → SpellsOnly f P → SpellsOnly (many f n) (AllShort P)
many_short P f n small p = record {
  each = λ xs text few s. let are = many_each P f p n xs text few s in (are.0, omega (arith, are.1, small));
}

pub vec_only : {A : Type 0} (P : A → Type 0) (f : Grammar A) → SpellsOnly f P → SpellsOnly (vec f) (AllShort P)
vec_only P f p = then_only IsU32 (AllShort P) u32_only (λ n small. many_short P f n small p)

abbrev text_ok : List ℕ → Result (List ℕ) (ℕ → Fault)
text_ok bytes = Ok bytes

text_same : (bytes text : List ℕ) → text_of bytes ≡ Ok text → bytes ≡ text
text_same bytes text e =
    elim (chosen (is_utf8 bytes) (text_ok bytes) (Err utf8) (text_ok text) e) [
      | inl is ↦ let both = is.1 in cc
      | inr other ↦ let both = other.1 in absurd cc
    ]

pub name_only : SpellsOnly name IsShort
name_only =
    then_only IsU32 IsShort u32_only (λ n small.
    checked_only (many any_byte n) text_of (AllShort Any) IsShort (many_short Any any_byte n small (any_only any_byte)) (λ bytes text are e.
    subst IsShort (text_same bytes text e) are.1))

-- ---- types

abbrev kind_ok : ValType → Result ValType (ℕ → Fault)
kind_ok kind = Ok kind

ref_kind : (b : ℕ) (kind : ValType) → ref_type_of b ≡ Ok kind → IsReference kind
ref_kind b kind e =
    elim (chosen (b == 0x70) (kind_ok FuncRef) _ (kind_ok kind) e) [
      | inl func ↦ let both = func.1 in inl cc
      | inr other ↦
          elim (chosen (b == 0x6F) (kind_ok ExternRef) (Err byte) (kind_ok kind) other.1) [
            | inl extern ↦ let both = extern.1 in inr cc
            | inr none ↦ let both = none.1 in absurd cc
          ]
    ]

pub ref_type_only : SpellsOnly ref_type IsReference
ref_type_only = checked_only any_byte ref_type_of Any IsReference (any_only any_byte) (λ b kind any e. ref_kind b kind e)

pub table_type_only : SpellsOnly table_type (λ t. IsReference t.kind)
table_type_only =
    then_only IsReference (λ t. IsReference t.kind) ref_type_only (λ kind is.
    then_only Any (λ t. IsReference t.kind) (any_only limits) (λ size any. gives_only (λ t. IsReference t.kind) _ is))

pub func_type_only : SpellsOnly func_type FuncTypeHasShape
func_type_only =
    then_only Any FuncTypeHasShape (any_only (tag 0x60)) (λ b any.
    then_only (AllShort Any) FuncTypeHasShape (vec_only Any val_type (any_only val_type)) (λ params are.
    then_only (AllShort Any) FuncTypeHasShape (vec_only Any val_type (any_only val_type)) (λ results have.
    gives_only FuncTypeHasShape _ (record { params = are.1; results = have.1 }))))
