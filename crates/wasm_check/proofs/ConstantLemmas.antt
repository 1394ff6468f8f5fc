-- Constant expressions: the count of operands is right by the typing of sequences.
use Rattle.std.proofs.Common.{◌≡◌, ℕ, zero, suc, ◌+◌, ◌-◌, ◌<◌, List, [], ◌∷◌, ◌++◌, length, get_or, refl, sym, ap, ◌∙◌, subst, arith, ◌⊎◌, inl, inr}
use Rattle.std.specs.Prelude.{Bool, true, false, not, ◌&&◌, ◌||◌, nat_lt, ◌==◌, All, IsTrue, Option, Some, None, slice_get, ◌↔◌}
use Rattle.std.proofs.lemmas.Bool.{ltb-true, lt-ltb, and_parts as both, or_left as left-is}
use Rattle.std.proofs.lemmas.Bool.Decides.{nat_tests}
use Rattle.wasm_ast.specs.Opcodes.{is_from}
use Rattle.wasm_ast.specs.declared.types.ValType.{ValType}
use Rattle.wasm_ast.specs.declared.types.ValType.TheVariants.{I32, I64, FuncRef, ExternRef}
use Rattle.wasm_ast.specs.declared.types.FuncType.{FuncType}
use Rattle.wasm_ast.specs.declared.types.GlobalType.{GlobalType}
use Rattle.wasm_ast.specs.declared.instructions.Instr.{Instr}
use Rattle.wasm_ast.specs.declared.instructions.Instr.TheVariants.{Const32, Const64, RefNull, RefFunc, GlobalGet, Num}
use Rattle.wasm_ast.specs.declared.instructions.Expr.{Expr}
use Rattle.wasm_check.specs.declared.operands.Operand.{Operand}
use Rattle.wasm_check.specs.declared.operands.Operand.TheVariants.{Of}
use Rattle.wasm_check.specs.Constants.{is_constant_operator, IsConstantInstr, constant_context, plain_tree, IsConstant}
use Rattle.wasm_check.specs.Instructions.{Rule, IsTyped}
use Rattle.wasm_check.specs.Operands.{Matches, AllMatch, operands, Takes, same_type}
use Rattle.wasm_check.specs.Operators.{arrow, binary, operator_type}
use Rattle.wasm_check.specs.code.Checker.{when}
use Rattle.wasm_check.specs.code.Counts.{is_immutable, puts, combines, depth_after, from_depth, leaves_one}
use Rattle.wasm_check.proofs.Stacks.{when-some, same_type-true, same_type-self}

-- ---- tests

either : (a b : Bool) → (a || b) ≡ true → (a ≡ true) ⊎ (b ≡ true)
either true b e = inl refl
either false b e = inr e

right-is : (a b : Bool) → b ≡ true → (a || b) ≡ true
right-is true b e = refl
right-is false b e = e

isn't : (b : Bool) → not b ≡ true → b ≡ false
isn't true e = cc
isn't false e = refl

-- ---- the constant operators

three : (first op : ℕ) → is_from first (first + 2) op ≡ true → (op ≡ first) ⊎ (op ≡ first + 1) ⊎ (op ≡ first + 2)
three first op e = grind (arith, nat_tests)

pub of-three : (first op : ℕ) (P : ℕ → Type 0) → is_from first (first + 2) op ≡ true → P first → P (first + 1) → P (first + 2) → P op
of-three first op P e p q r = elim (three first op e) [
  | inl is ↦ subst P (sym is) p
  | inr (inl is) ↦ subst P (sym is) q
  | inr (inr is) ↦ subst P (sym is) r
]

pub combined-type : (op : ℕ) (kind : ValType) → combines op kind ≡ true → (operator_type op ≡ Some (binary kind kind)) × (is_constant_operator op ≡ true)
combined-type op I32 e = (of-three 0x6A op (λ op. operator_type op ≡ Some (binary I32 I32)) e refl refl refl, left-is _ _ e)
combined-type op I64 e = (of-three 0x7C op (λ op. operator_type op ≡ Some (binary I64 I64)) e refl refl refl, right-is _ _ e)
combined-type op FuncRef e = cc
combined-type op ExternRef e = cc

pub constant-kind : (op : ℕ) → is_constant_operator op ≡ true → (kind : ValType) × (combines op kind ≡ true)
constant-kind op e = elim (either (is_from 0x6A 0x6C op) (is_from 0x7C 0x7E op) e) [
  | inl h ↦ (I32, h)
  | inr h ↦ (I64, h)
]

-- ---- one instruction

immutable-some : (o : Option GlobalType) (kind : ValType) → is_immutable o kind ≡ true → (type : GlobalType) × (o ≡ Some type) × (type.kind ≡ kind) × (type.mutable ≡ false)
immutable-some None kind e = cc
immutable-some (Some type) kind e =
    let h : (same_type type.kind kind ≡ true) × (not type.mutable ≡ true) = both _ _ e in
    (type, refl, same_type-true type.kind kind h.0, isn't type.mutable h.1)

immutable-is : (o : Option GlobalType) (type : GlobalType) → o ≡ Some type → type.mutable ≡ false → is_immutable o type.kind ≡ true
immutable-is o type e m = rw e (ap (λ b. same_type type.kind type.kind && not b) m ∙ ap (λ b. b && true) (same_type-self type.kind))

-- what a constant that isn't an operator does
record Puts (funcs : ℕ) (globals : List GlobalType) (i : Instr) (kind : ValType) : Type 0 where
  pub constant : IsConstantInstr globals i
  pub rule : Rule (constant_context funcs globals) [] i [] (Of kind ∷ [])

gives-one : (t kind : ValType) → t ≡ kind → Of kind ∷ [] ≡ operands (t ∷ [])
gives-one t kind e = ap (λ t. Of t ∷ []) (sym e)

puts-sound : (funcs : ℕ) (globals : List GlobalType) (i : Instr) (kind : ValType) → puts funcs globals i kind ≡ true → Puts funcs globals i kind
puts-sound funcs globals (Const32 n) kind e = record { constant = tt; rule = (arrow [] (I32 ∷ []), refl, refl, gives-one I32 kind (same_type-true I32 kind e)) }
puts-sound funcs globals (Const64 n) kind e = record { constant = tt; rule = (arrow [] (I64 ∷ []), refl, refl, gives-one I64 kind (same_type-true I64 kind e)) }
puts-sound funcs globals (RefNull null) kind e = record { constant = tt; rule = (arrow [] (null ∷ []), refl, refl, gives-one null kind (same_type-true null kind e)) }
puts-sound funcs globals (RefFunc x) kind e =
    let h : (same_type FuncRef kind ≡ true) × (nat_lt x funcs ≡ true) = both _ _ e in
    record { constant = tt; rule = (arrow [] (FuncRef ∷ []), (h.1, refl), refl, gives-one FuncRef kind (same_type-true FuncRef kind h.0)) }
puts-sound funcs globals (GlobalGet x) kind e =
    let h : (type : GlobalType) × (slice_get globals x ≡ Some type) × (type.kind ≡ kind) × (type.mutable ≡ false) = immutable-some (slice_get globals x) kind e in
    record { constant = (h.0, h.1, h.3); rule = (arrow [] (h.0.kind ∷ []), (h.0, h.1, refl), refl, gives-one h.0.kind kind h.2) }
puts-sound funcs globals _ kind e = absurd cc

combines-sound : (funcs : ℕ) (globals : List GlobalType) (op : ℕ) (kind : ValType) → combines op kind ≡ true →
    IsConstantInstr globals (Num op) × Rule (constant_context funcs globals) [] (Num op) (Of kind ∷ Of kind ∷ []) (Of kind ∷ [])
combines-sound funcs globals op kind e =
    let h : (operator_type op ≡ Some (binary kind kind)) × (is_constant_operator op ≡ true) = combined-type op kind e in
    (h.1, (binary kind kind, h.0, refl, refl))

-- the instruction puts a value of the type k, or takes two of them and puts one
abbrev Kinds : ℕ → List GlobalType → Instr → List Operand → List Operand → ValType → Type 0
Kinds funcs globals i a b k =
    ((a ≡ []) × (b ≡ Of k ∷ []) × ((d : ℕ) → depth_after funcs globals k d i ≡ Some (d + 1)))
    ⊎ ((a ≡ Of k ∷ Of k ∷ []) × (b ≡ Of k ∷ []) × ((d : ℕ) → depth_after funcs globals k (suc (suc d)) i ≡ Some (suc d)))

passing : {B : Type 0} (b : Bool) (go : Option B) → b ≡ true → when b go ≡ go
passing b go e = ap (λ b. when b go) e

pub same-type : (t u : FuncType) → Some t ≡ Some u → t ≡ u
same-type t u e = cc

same-global : (t u : GlobalType) → Some t ≡ Some u → t ≡ u
same-global t u e = cc

pub takes-none : (a : List Operand) (t : FuncType) (k : ValType) → t ≡ arrow [] (k ∷ []) → a ≡ operands t.params → a ≡ []
takes-none a t k is e = e ∙ ap (λ (t : FuncType). operands t.params) is

pub gives-kind : (b : List Operand) (t : FuncType) (k : ValType) → t ≡ arrow [] (k ∷ []) → b ≡ operands t.results → b ≡ Of k ∷ []
gives-kind b t k is e = e ∙ ap (λ (t : FuncType). operands t.results) is

two-taken : (d : ℕ) → when (nat_lt 1 (suc (suc d))) (Some (suc (suc d) - 1)) ≡ Some (suc d)
two-taken d =
    let one-less : suc (suc d) - 1 ≡ suc d = omega arith in
    passing (nat_lt 1 (suc (suc d))) (Some (suc (suc d) - 1)) (lt-ltb 1 (suc (suc d)) (omega arith)) ∙ ap (λ n. Some n) one-less

rule-kinds : (funcs : ℕ) (globals : List GlobalType) (i : Instr) (a b : List Operand) → IsConstantInstr globals i → Rule (constant_context funcs globals) [] i a b → (k : ValType) × Kinds funcs globals i a b k
rule-kinds funcs globals (Const32 n) a b c r = (I32, inl (takes-none a r.0 I32 r.1 r.2, gives-kind b r.0 I32 r.1 r.3, λ d. refl))
rule-kinds funcs globals (Const64 n) a b c r = (I64, inl (takes-none a r.0 I64 r.1 r.2, gives-kind b r.0 I64 r.1 r.3, λ d. refl))
rule-kinds funcs globals (RefNull null) a b c r =
    (null, inl (takes-none a r.0 null r.1 r.2, gives-kind b r.0 null r.1 r.3, λ d. passing (same_type null null) (Some (d + 1)) (same_type-self null)))
rule-kinds funcs globals (RefFunc x) a b c r =
    (FuncRef, inl (takes-none a r.0 FuncRef r.1.1 r.2, gives-kind b r.0 FuncRef r.1.1 r.3, λ d. passing (nat_lt x funcs) (Some (d + 1)) r.1.0))
rule-kinds funcs globals (GlobalGet x) a b c r =
    let type : GlobalType = r.1.0 in
    let same : type ≡ c.0 = same-global type c.0 (sym r.1.1 ∙ c.1) in
    let fixed : type.mutable ≡ false = ap (λ (t : GlobalType). t.mutable) same ∙ c.2 in
    (type.kind, inl (takes-none a r.0 type.kind r.1.2 r.2, gives-kind b r.0 type.kind r.1.2 r.3, λ d. passing (is_immutable (slice_get globals x) type.kind) (Some (d + 1)) (immutable-is (slice_get globals x) type r.1.1 fixed)))
rule-kinds funcs globals (Num op) a b c r =
    let k : (kind : ValType) × (combines op kind ≡ true) = constant-kind op c in
    let is : r.0 ≡ binary k.0 k.0 = same-type r.0 (binary k.0 k.0) (sym r.1 ∙ (combined-type op k.0 k.1).0) in
    (k.0, inr (r.2 ∙ ap (λ (t : FuncType). operands t.params) is, r.3 ∙ ap (λ (t : FuncType). operands t.results) is, λ d. passing (combines op k.0) (when (nat_lt 1 (suc (suc d))) (Some (suc (suc d) - 1))) k.1 ∙ two-taken d))
rule-kinds funcs globals _ a b c r = absurd c

-- ---- sequences

-- operands that all match the type
abbrev Uniform : ValType → List Operand → Type 0
Uniform kind [] = Unit {0}
Uniform kind (t ∷ ts) = Matches t (Of kind) × Uniform kind ts

one-left : (kind : ValType) (ts : List Operand) → AllMatch ts (Of kind ∷ []) → Uniform kind ts × ((length ts == 1) ≡ true)
one-left kind [] h = absurd h
one-left kind (t ∷ []) h = ((h.0, tt), refl)
one-left kind (t ∷ u ∷ ts) h = absurd h.1

same-operand : (k kind : ValType) → Of k ≡ Of kind → k ≡ kind
same-operand k kind e = cc

matching-kind : (t : Operand) (k kind : ValType) → k ≡ kind → Matches t (Of k) → Matches t (Of kind)
matching-kind t k kind e m = subst (λ k. Matches t (Of k)) e m

-- what comes before an instruction that puts a value
record Before (kind k : ValType) (ts b rest : List Operand) : Type 0 where
  pub same : k ≡ kind
  pub uniform : Uniform kind ts
  pub counted : length (b ++ rest) ≡ length ts + 1

before-put : (kind k : ValType) (ts a b rest : List Operand) → a ≡ [] → b ≡ Of k ∷ [] → Takes ts a rest → Uniform kind (b ++ rest) → Before kind k ts b rest
before-put kind k ts a b rest ea eb takes u =
    let is : ts ≡ rest = subst (λ a. Takes ts a rest) ea takes in
    let all : Uniform kind (Of k ∷ rest) = subst (λ b. Uniform kind (b ++ rest)) eb u in record {
      same = same-operand k kind all.0;
      uniform = subst (Uniform kind) (sym is) all.1;
      counted = ap (λ b. length (b ++ rest)) eb ∙ ap (λ ts. suc (length ts)) (sym is) ∙ omega arith;
    }

-- and before one that takes two and puts one
record Before2 (kind k : ValType) (ts b rest : List Operand) : Type 0 where
  pub same : k ≡ kind
  pub uniform : Uniform kind ts
  pub long : length ts ≡ suc (suc (length rest))
  pub counted : length (b ++ rest) ≡ suc (length rest)

before-combined : (kind k : ValType) (ts a b rest : List Operand) → a ≡ Of k ∷ Of k ∷ [] → b ≡ Of k ∷ [] → Takes ts a rest → Uniform kind (b ++ rest) → Before2 kind k ts b rest
before-combined kind k ts a b rest ea eb takes u =
    let t : Takes ts (Of k ∷ Of k ∷ []) rest = subst (λ a. Takes ts a rest) ea takes in
    let all : Uniform kind (Of k ∷ rest) = subst (λ b. Uniform kind (b ++ rest)) eb u in
    let same : k ≡ kind = same-operand k kind all.0 in
    let is : ts ≡ t.0 ∷ t.4.0 ∷ rest = t.2 ∙ ap (λ ts. t.0 ∷ ts) (t.4.2 ∙ ap (λ ts. t.4.0 ∷ ts) t.4.4) in record {
      same = same;
      uniform = subst (Uniform kind) (sym is) (matching-kind t.0 k kind same t.3, (matching-kind t.4.0 k kind same t.4.3, all.1));
      long = ap (λ ts. length ts) is;
      counted = ap (λ b. length (b ++ rest)) eb;
    }

pub head-of : {A : Type 0} (P : A → Type 0) (x : A) (xs : List A) → All P (x ∷ xs) → P x
head-of P x xs h = h 0 x (omega arith)

pub tail-of : {A : Type 0} (P : A → Type 0) (x : A) (xs : List A) → All P (x ∷ xs) → All P xs
tail-of P x xs h = λ j d lt. h (suc j) d (omega (arith, lt))

pub all-cons : {A : Type 0} (P : A → Type 0) (x : A) (xs : List A) → P x → All P xs → (j : ℕ) (d : A) → j < length (x ∷ xs) → P (get_or (x ∷ xs) j d)
all-cons P x xs p h zero d lt = p
all-cons P x xs p h (suc j) d lt = h j d (omega (arith, lt))

complete : (funcs : ℕ) (globals : List GlobalType) (kind : ValType) (is : List Instr) (ts : List Operand) → All (IsConstantInstr globals) is → IsTyped (constant_context funcs globals) [] (plain_tree is) ts (Of kind ∷ []) →
    Uniform kind ts × (leaves_one funcs globals kind is (length ts) ≡ true)
complete funcs globals kind [] ts c typed = one-left kind ts typed
complete funcs globals kind (i ∷ is) ts c typed =
    let a = typed.0 in
    let b = typed.1 in
    let rest = typed.2 in
    let inner : Uniform kind (b ++ rest) × (leaves_one funcs globals kind is (length (b ++ rest)) ≡ true) = complete funcs globals kind is (b ++ rest) (tail-of (IsConstantInstr globals) i is c) typed.5 in
    let rule : (k : ValType) × Kinds funcs globals i a b k = rule-kinds funcs globals i a b (head-of (IsConstantInstr globals) i is c) typed.3 in
    elim rule.1 [
      | inl h ↦
          let p : Before kind rule.0 ts b rest = before-put kind rule.0 ts a b rest h.0 h.1 typed.4 inner.0 in (
            p.uniform,
            ap (λ o. from_depth o (leaves_one funcs globals kind is)) (subst (λ k. depth_after funcs globals k (length ts) i ≡ Some (length ts + 1)) p.same (h.2 (length ts)))
                ∙ ap (leaves_one funcs globals kind is) (sym p.counted) ∙ inner.1,
          )
      | inr h ↦
          let p : Before2 kind rule.0 ts b rest = before-combined kind rule.0 ts a b rest h.0 h.1 typed.4 inner.0 in (
            p.uniform,
            ap (λ d. from_depth (depth_after funcs globals kind d i) (leaves_one funcs globals kind is)) p.long
                ∙ ap (λ o. from_depth o (leaves_one funcs globals kind is)) (subst (λ k. depth_after funcs globals k (suc (suc (length rest))) i ≡ Some (suc (length rest))) p.same (h.2 (length rest)))
                ∙ ap (leaves_one funcs globals kind is) (sym p.counted) ∙ inner.1,
          )
    ]

-- what the count says of an instruction
abbrev Steps : ℕ → List GlobalType → ValType → ℕ → Instr → ℕ → Type 0
Steps funcs globals kind d i d' =
    IsConstantInstr globals i
    × ((Rule (constant_context funcs globals) [] i [] (Of kind ∷ []) × (d' ≡ d + 1))
    ⊎ (Rule (constant_context funcs globals) [] i (Of kind ∷ Of kind ∷ []) (Of kind ∷ []) × (1 < d) × (d' ≡ d - 1)))

same-number : (x y : ℕ) → Some x ≡ Some y → y ≡ x
same-number x y e = cc

put-step : (funcs : ℕ) (globals : List GlobalType) (kind : ValType) (d : ℕ) (i : Instr) (d' : ℕ) → when (puts funcs globals i kind) (Some (d + 1)) ≡ Some d' → Steps funcs globals kind d i d'
put-step funcs globals kind d i d' e =
    let w : (puts funcs globals i kind ≡ true) × (Some (d + 1) ≡ Some d') = when-some _ _ d' e in
    let p : Puts funcs globals i kind = puts-sound funcs globals i kind w.0 in
    (p.constant, inl (p.rule, same-number (d + 1) d' w.1))

steps : (funcs : ℕ) (globals : List GlobalType) (kind : ValType) (d : ℕ) (i : Instr) (d' : ℕ) → depth_after funcs globals kind d i ≡ Some d' → Steps funcs globals kind d i d'
steps funcs globals kind d (Num op) d' e =
    let w : (combines op kind ≡ true) × (when (nat_lt 1 d) (Some (d - 1)) ≡ Some d') = when-some _ _ d' e in
    let v : (nat_lt 1 d ≡ true) × (Some (d - 1) ≡ Some d') = when-some _ _ d' w.1 in
    let h : IsConstantInstr globals (Num op) × Rule (constant_context funcs globals) [] (Num op) (Of kind ∷ Of kind ∷ []) (Of kind ∷ []) = combines-sound funcs globals op kind w.0 in
    (h.0, inr (h.1, ltb-true 1 d v.0, same-number (d - 1) d' v.1))
steps funcs globals kind d i d' e = put-step funcs globals kind d i d' e

from-some : (o : Option ℕ) (go : ℕ → Bool) → from_depth o go ≡ true → (d : ℕ) × (o ≡ Some d) × (go d ≡ true)
from-some None go e = cc
from-some (Some d) go e = (d, refl, e)

none-one : (n : ℕ) → (suc (suc n) == 1) ≡ true → ⊥
none-one n e = grind (arith, nat_tests)

last-one : (kind : ValType) (ts : List Operand) → Uniform kind ts → (length ts == 1) ≡ true → AllMatch ts (Of kind ∷ [])
last-one kind [] u e = absurd cc
last-one kind (t ∷ []) u e = (u.0, tt)
last-one kind (t ∷ v ∷ ts) u e = absurd (none-one (length ts) e)

-- two operands and the others
record Two (kind : ValType) (ts : List Operand) : Type 0 where
  pub rest : List Operand
  pub takes : Takes ts (Of kind ∷ Of kind ∷ []) rest
  pub uniform : Uniform kind rest
  pub counted : length ts - 1 ≡ suc (length rest)

two : (kind : ValType) (ts : List Operand) → Uniform kind ts → 1 < length ts → Two kind ts
two kind [] u lt = absurd (omega (arith, lt))
two kind (t ∷ []) u lt = absurd (omega (arith, lt))
two kind (t ∷ v ∷ ts) u lt = record { rest = ts; takes = (t, v ∷ ts, refl, u.0, (v, ts, refl, u.1.0, refl)); uniform = u.1.1; counted = omega arith }

abbrev Typed : ℕ → List GlobalType → ValType → List Instr → List Operand → Type 0
Typed funcs globals kind is ts = All (IsConstantInstr globals) is × IsTyped (constant_context funcs globals) [] (plain_tree is) ts (Of kind ∷ [])

sound : (funcs : ℕ) (globals : List GlobalType) (kind : ValType) (is : List Instr) (ts : List Operand) → Uniform kind ts → leaves_one funcs globals kind is (length ts) ≡ true → Typed funcs globals kind is ts
sound funcs globals kind [] ts u e = (λ j d lt. absurd (omega (arith, lt)), last-one kind ts u e)
sound funcs globals kind (i ∷ is) ts u e =
    let s : (d : ℕ) × (depth_after funcs globals kind (length ts) i ≡ Some d) × (leaves_one funcs globals kind is d ≡ true) = from-some (depth_after funcs globals kind (length ts) i) (leaves_one funcs globals kind is) e in
    let h : Steps funcs globals kind (length ts) i s.0 = steps funcs globals kind (length ts) i s.0 s.1 in
    elim h.1 [
      | inl p ↦
          let next : s.0 ≡ suc (length ts) = p.1 ∙ omega arith in
          let inner : Typed funcs globals kind is (Of kind ∷ ts) = sound funcs globals kind is (Of kind ∷ ts) (refl, u) (ap (leaves_one funcs globals kind is) (sym next) ∙ s.2) in
          (all-cons (IsConstantInstr globals) i is h.0 inner.0, ([], Of kind ∷ [], ts, p.0, refl, inner.1))
      | inr p ↦
          let w : Two kind ts = two kind ts u p.1 in
          let inner : Typed funcs globals kind is (Of kind ∷ w.rest) = sound funcs globals kind is (Of kind ∷ w.rest) (refl, w.uniform) (ap (leaves_one funcs globals kind is) (sym (p.2 ∙ w.counted)) ∙ s.2) in
          (all-cons (IsConstantInstr globals) i is h.0 inner.0, (Of kind ∷ Of kind ∷ [], Of kind ∷ [], w.rest, p.0, w.takes, inner.1))
    ]

-- ---- expressions

same-first : {A : Type 0} (x y : A) → x ∷ [] ≡ y ∷ [] → x ≡ y
same-first x y e = cc

pub constant-one : (funcs : ℕ) (globals : List GlobalType) (e : Expr) (kind : ValType) (instrs : List Instr) (b : Bool) → e.seqs ≡ instrs ∷ [] → b ≡ leaves_one funcs globals kind instrs 0 → IsTrue b ↔ IsConstant funcs globals e kind
constant-one funcs globals e kind instrs b alone is = (
  λ t. let h : Typed funcs globals kind instrs [] = sound funcs globals kind instrs [] tt (sym is ∙ t) in
      record { instrs = instrs; alone = alone; constant = h.0; typed = h.1 },
  λ c. is ∙ subst (λ l. leaves_one funcs globals kind l 0 ≡ true) (same-first c.instrs instrs (sym c.alone ∙ alone)) (complete funcs globals kind c.instrs [] c.constant c.typed).1,
)
