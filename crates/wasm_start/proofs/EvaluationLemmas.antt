-- Laws of the evaluation of constant expressions on a stack.
use Rattle.std.proofs.Common.{◌≡◌, ℕ, ◌+◌, ◌<◌, ◌≤◌, List, [], ◌∷◌, ◌++◌, map, reverse, length, drop, get_or, refl, sym, ap, ◌∙◌, arith}
use Rattle.std.proofs.lemmas.List.{length-map, length-reverse, map-append, reverse-append}
use Rattle.std.specs.Prelude.{Bool, true, false, Option, Some, None, MatchOption, option_map, option_and_then}
use Rattle.wasm_ast.specs.declared.runs.Value.{Value as PlainValue}
use Rattle.wasm_ast.specs.declared.instructions.Instr.{Instr}
use Rattle.wasm_ast.specs.declared.instructions.Expr.{Expr}
use Rattle.wasm_rules.specs.Words.{numbers}
use Rattle.wasm_reduction.specs.Configurations.{Value}
use Rattle.wasm_reduction.specs.Combinators.{valued, word_of}
use Rattle.wasm_reduction.specs.Instantiation.{argument, combined, constant, evaluated, only_sequence, only_value, value_of}
use Rattle.wasm_start.specs.code.Evaluations.{stack_of, last_word, Applied}
use Rattle.wasm_start.proofs.StartLemmas.{next_is, none_left}

pub stack-more : (items new : List PlainValue) (v : PlainValue) → new ≡ items ++ v ∷ [] → stack_of new ≡ argument v ∷ stack_of items
unfolding stack_of
stack-more items new v is =
    ap (λ (l : List PlainValue). reverse (map argument l)) is ∙ ap (λ (l : List (Value ℕ)). reverse l) (map-append argument items (v ∷ [])) ∙ reverse-append (map argument items) (argument v ∷ [])

pub stack-empty : (items : List PlainValue) → length items ≡ 0 → stack_of items ≡ []
unfolding stack_of
stack-empty [] e = refl
stack-empty (v ∷ items) e = absurd (omega (arith, e))

pub stack-one : (v : PlainValue) → stack_of (v ∷ []) ≡ argument v ∷ []
unfolding stack_of
stack-one v = refl

pub stack-none : (items new : List PlainValue) → items ≡ new ++ [] → length new ≡ 0 → stack_of items ≡ []
stack-none items [] is e = ap stack_of is ∙ stack-empty [] refl
stack-none items (v ∷ new) is e = absurd (omega (arith, e))

stack-length : (items : List PlainValue) → length (stack_of items) ≡ length items
unfolding stack_of
stack-length items = length-reverse (map argument items) ∙ length-map items argument

-- ---- two operands

pub lacks-last : (wide : Bool) (op : ℕ) (vs : List (Value ℕ)) → last_word wide vs ≡ None → combined wide op vs ≡ None
lacks-last wide op [] e = refl
lacks-last wide op (b ∷ []) e = refl
lacks-last wide op (b ∷ a ∷ vs) e = ap (option_and_then (λ y. option_map (λ x. valued wide (numbers.binary op x y) ∷ vs) (word_of wide a))) e

pub lacks-first : (wide : Bool) (op : ℕ) (vs us : List (Value ℕ)) (b : Value ℕ) (y : ℕ) → vs ≡ b ∷ us → word_of wide b ≡ Some y → last_word wide us ≡ None → combined wide op vs ≡ None
lacks-first wide op vs us b y is there e = ap (combined wide op) is ∙ rest us e
  where
    rest : (us : List (Value ℕ)) → last_word wide us ≡ None → combined wide op (b ∷ us) ≡ None
    rest [] e = refl
    rest (a ∷ ws) e =
        ap (option_and_then (λ y. option_map (λ x. valued wide (numbers.binary op x y) ∷ ws) (word_of wide a))) there
        ∙ ap (option_map (λ x. valued wide (numbers.binary op x y) ∷ ws)) e

pub combines-both : (wide : Bool) (op : ℕ) (vs us ws new : List (Value ℕ)) (b a : Value ℕ) (y x z : ℕ) → vs ≡ b ∷ us → us ≡ a ∷ ws → word_of wide b ≡ Some y → word_of wide a ≡ Some x → z ≡ numbers.binary op x y → new ≡ valued wide z ∷ ws →
    combined wide op vs ≡ Some new
combines-both wide op vs us ws new b a y x z is then_is there here sum more =
    ap (combined wide op) (is ∙ ap (λ l. b ∷ l) then_is)
    ∙ ap (option_and_then (λ y. option_map (λ x. valued wide (numbers.binary op x y) ∷ ws) (word_of wide a))) there
    ∙ ap (option_map (λ x. valued wide (numbers.binary op x y) ∷ ws)) here
    ∙ ap (λ z. Some (valued wide z ∷ ws)) (sym sum) ∙ ap (λ l. Some l) (sym more)

-- ---- instructions one after another

-- the first k of the instructions lead from the operands first to vs
abbrev pub LeadsTo : List (Value ℕ) → List Instr → ℕ → List (Value ℕ) → List (Value ℕ) → Type 0
LeadsTo globals is k first vs = evaluated globals is first ≡ evaluated globals (drop k is) vs

pub leads_begin : (globals : List (Value ℕ)) (is : List Instr) (vs : List (Value ℕ)) → LeadsTo globals is 0 vs vs
leads_begin globals is vs = refl

pub leads_more : (globals : List (Value ℕ)) (is : List Instr) (k : ℕ) (i : Instr) (first vs ws : List (Value ℕ)) → k < length is → i ≡ get_or is k i → constant globals i vs ≡ Some ws → LeadsTo globals is k first vs → LeadsTo globals is (k + 1) first ws
leads_more globals is k i first vs ws lt here e h =
    h ∙ ap (λ l. evaluated globals l vs) (next_is is k i lt here) ∙ ap (option_and_then (evaluated globals (drop (k + 1) is))) e

pub leads_nowhere : (globals : List (Value ℕ)) (is : List Instr) (k : ℕ) (i : Instr) (first vs : List (Value ℕ)) → k < length is → i ≡ get_or is k i → constant globals i vs ≡ None → LeadsTo globals is k first vs → evaluated globals is first ≡ None
leads_nowhere globals is k i first vs lt here e h =
    h ∙ ap (λ l. evaluated globals l vs) (next_is is k i lt here) ∙ ap (option_and_then (evaluated globals (drop (k + 1) is))) e

pub leads_end : (globals : List (Value ℕ)) (is : List Instr) (k : ℕ) (first vs : List (Value ℕ)) → length is ≤ k → LeadsTo globals is k first vs → evaluated globals is first ≡ Some vs
leads_end globals is k first vs le h = h ∙ ap (λ l. evaluated globals l vs) (none_left is k le)

-- ---- expressions

pub no-sequence : (globals : List (Value ℕ)) (e : Expr) → ((is : List Instr) → e.seqs ≡ is ∷ [] → ⊥) → value_of globals e ≡ None
no-sequence globals e none = ap (option_and_then (λ is. option_and_then only_value (evaluated globals is []))) (lacks e.seqs none)
  where
    lacks : (seqs : List (List Instr)) → ((is : List Instr) → seqs ≡ is ∷ [] → ⊥) → only_sequence seqs ≡ None
    lacks [] none = refl
    lacks (is ∷ []) none = absurd (none is refl)
    lacks (is ∷ js ∷ rest) none = refl

value-by : (globals : List (Value ℕ)) (e : Expr) (is : List Instr) (o : Option (List (Value ℕ))) → e.seqs ≡ is ∷ [] → evaluated globals is [] ≡ o → value_of globals e ≡ option_and_then only_value o
value-by globals e is o alone come =
    ap (λ seqs. option_and_then (λ is. option_and_then only_value (evaluated globals is [])) (only_sequence seqs)) alone ∙ ap (option_and_then only_value) come

-- what the instructions of the only sequence come to, on a stack that was empty
module _ (globals : List (Value ℕ)) (e : Expr) (is slice : List Instr) (items : List PlainValue) (alone : e.seqs ≡ is ∷ []) (same : slice ≡ is) (empty : items ≡ []) where
  comes : (o : Option (List (Value ℕ))) → evaluated globals slice (stack_of items) ≡ o → evaluated globals is [] ≡ o
  comes o come = ap (λ l. evaluated globals l []) (sym same) ∙ ap (evaluated globals slice) (sym (ap stack_of empty ∙ stack-empty [] refl)) ∙ come

  pub value-lacks : (b : Bool) (vs : List (Value ℕ)) → Applied b (evaluated globals slice (stack_of items)) vs → b ≡ false → value_of globals e ≡ None
  value-lacks true vs h not = cc
  value-lacks false vs h not = value-by globals e is None alone (comes None h)

  many : (vs : List (Value ℕ)) → (length vs ≡ 1 → ⊥) → only_value vs ≡ None
  many [] h = refl
  many (v ∷ []) h = absurd (h refl)
  many (v ∷ w ∷ vs) h = refl

  pub value-only : (b : Bool) (new values : List PlainValue) (o : Option PlainValue) → Applied b (evaluated globals slice (stack_of items)) (stack_of new) → b ≡ true → values ≡ new → MatchOption o ((v : PlainValue) → values ≡ v ∷ [] → ⊥) (λ v. values ≡ v ∷ []) →
      MatchOption o (value_of globals e ≡ None) (λ v. value_of globals e ≡ Some (argument v))
  value-only false new values o h took at only = absurd cc
  value-only true new values None h took at only =
      value-by globals e is (Some (stack_of new)) alone (comes (Some (stack_of new)) h)
      ∙ many (stack_of new) (λ one. single values (ap length at ∙ sym (stack-length new) ∙ one) only)
    where
      single : (values : List PlainValue) → length values ≡ 1 → ((v : PlainValue) → values ≡ v ∷ [] → ⊥) → ⊥
      single [] e not = omega (arith, e)
      single (v ∷ []) e not = not v refl
      single (v ∷ w ∷ vs) e not = omega (arith, e)
  value-only true new values (Some v) h took at only =
      value-by globals e is (Some (stack_of new)) alone (comes (Some (stack_of new)) h)
      ∙ ap only_value (ap stack_of (sym at ∙ only) ∙ stack-one v)
