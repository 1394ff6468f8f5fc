-- Instructions whose questions the machine asks itself, on the fast path, where each is a test.
use Rattle.std.proofs.Common.{◌≡◌, ◌≢◌, ℕ, ◌^◌, ◌<◌, List, [], ◌∷◌, refl, sym, ap, ◌∙◌, subst}
use Rattle.std.specs.Prelude.{Bool, true, false}
use Rattle.wasm_ast.specs.declared.instructions.Instr.{Instr}
use Rattle.wasm_ast.specs.declared.instructions.Instr.TheVariants.{Select}
use Rattle.wasm_ast.specs.declared.modules.Module.{Module}
use Rattle.int_ops.specs.declared.operators.Width.{Width}
use Rattle.int_ops.specs.declared.operators.Operation.{Operation}
use Rattle.int_ops.specs.declared.operators.Operation.TheVariants.{OfOne, OfTwo}
use Rattle.int_ops.specs.declared.operators.Operator.{Operator}
use Rattle.int_ops.specs.Operators.{operator_of, divides, is_div_s}
use Rattle.wasm_rules.specs.Words.{HasNumber, numbers}
use Rattle.wasm_reduction.specs.Configurations.{Value, I32, I64, Ref, Config, Test, Next, Ends}
use Rattle.wasm_reduction.specs.Numeric.{checking, operating, numeric, is_wide}
use Rattle.wasm_reduction.specs.Parametric.{selecting, select}
use Rattle.wasm_reduction.specs.Runs.{answer_of, is_not_zero}
use Rattle.wasm_reduction.specs.Steps.{act}
use Rattle.wasm_machine.specs.declared.values.Value.{Value as CodeValue}
use Rattle.wasm_machine.specs.declared.next.Next.{Next as CodeNext}
use Rattle.wasm_machine.specs.declared.next.Next.TheVariants.{Goes as CodeGoes, Asks as CodeAsks}
use Rattle.wasm_machine.specs.declared.next.Question.{Question as CodeQuestion}
use Rattle.wasm_machine.specs.Acts.{Ready, IsNext, Acts, ActsOn}
use Rattle.wasm_machine.specs.Configurations.{image}
use Rattle.wasm_machine.specs.States.{own, State}
use Rattle.wasm_machine.specs.code.Moves.{noted}
use Rattle.wasm_machine.specs.Values.{question}
use Rattle.wasm_machine.proofs.StepLaws.{acts-on}
use Rattle.wasm_run.specs.code.Places.{IsNeverStuck, CarriedOut, config_at, IsAtInstruction}
use Rattle.wasm_run.proofs.PlaceLemmas.{Asking}
use Rattle.wasm_run.proofs.TurnLemmas.{asking_more}
use Rattle.wasm_run.proofs.FastPathLemmas.{IsPlain, MayAsk, keeps_found, keeps_word, keeps_value, asks_told, ready-from}
use Rattle.wasm_run.proofs.FastTestLemmas.{past_at, acts_at, step-acts, next-noted, place-noted, answers-noted, asking-first, goes-on, carried-on, plain-tested}

-- ---- select

asks-selecting : (c : Config ℕ) (rest : List (Value ℕ)) (w : ℕ) (first second : Value ℕ) → MayAsk (selecting numbers c rest [] w first second)
asks-selecting c rest w (I32 a) (I32 b) = tt
asks-selecting c rest w (I32 a) (I64 b) = refl
asks-selecting c rest w (I32 a) (Ref b) = refl
asks-selecting c rest w (I64 a) (I32 b) = refl
asks-selecting c rest w (I64 a) (I64 b) = tt
asks-selecting c rest w (I64 a) (Ref b) = refl
asks-selecting c rest w (Ref a) (I32 b) = refl
asks-selecting c rest w (Ref a) (I64 b) = refl
asks-selecting c rest w (Ref a) (Ref b) = refl

plain-selecting : (c : Config ℕ) (rest : List (Value ℕ)) (n w : ℕ) (first second : Value ℕ) → IsPlain (selecting numbers c rest (n ∷ []) w first second)
plain-selecting c rest n w (I32 a) (I32 b) = tt
plain-selecting c rest n w (I32 a) (I64 b) = refl
plain-selecting c rest n w (I32 a) (Ref b) = refl
plain-selecting c rest n w (I64 a) (I32 b) = refl
plain-selecting c rest n w (I64 a) (I64 b) = tt
plain-selecting c rest n w (I64 a) (Ref b) = refl
plain-selecting c rest n w (Ref a) (I32 b) = refl
plain-selecting c rest n w (Ref a) (I64 b) = refl
plain-selecting c rest n w (Ref a) (Ref b) = plain-tested w n [] _ _ tt tt

pub asks-select : (c : Config ℕ) (vs : List (Value ℕ)) → MayAsk (select numbers c vs [])
asks-select c vs =
    keeps_word MayAsk refl false vs _ (λ w rest. keeps_value MayAsk refl rest _ (λ second rest. keeps_value MayAsk refl rest _ (λ first rest.
    asks-selecting c rest w first second)))

pub plain-select : (c : Config ℕ) (vs : List (Value ℕ)) (n : ℕ) → IsPlain (select numbers c vs (n ∷ []))
plain-select c vs n =
    keeps_word IsPlain refl false vs _ (λ w rest. keeps_value IsPlain refl rest _ (λ second rest. keeps_value IsPlain refl rest _ (λ first rest.
    plain-selecting c rest n w first second)))

-- ---- divisions

asks-checked : (divides signed : Bool) (width : Width) (a b : ℕ) (next : Next ℕ) → MayAsk next → MayAsk (checking numbers divides signed width a b (0 ∷ []) next)
asks-checked false signed width a b next h = h
asks-checked true false width a b next h = h
asks-checked true true width a b next h = refl

plain-checked : (divides signed : Bool) (width : Width) (a b : ℕ) (next : Next ℕ) → IsPlain next → IsPlain (checking numbers divides signed width a b (0 ∷ 0 ∷ []) next)
plain-checked false signed width a b next h = h
plain-checked true false width a b next h = h
plain-checked true true width a b next h = h

asks-operating : (c : Config ℕ) (vs : List (Value ℕ)) (op : ℕ) (o : Operator) (operation : Operation) → MayAsk (operating numbers c vs (0 ∷ []) op o operation)
asks-operating c vs op o (OfOne operation) = keeps_word MayAsk refl (is_wide o.operand) vs _ (λ a rest. tt)
asks-operating c vs op o (OfTwo operation) =
    keeps_word MayAsk refl (is_wide o.operand) vs _ (λ b rest. keeps_word MayAsk refl (is_wide o.operand) rest _ (λ a rest.
    asks-checked (divides operation) (is_div_s operation) o.operand a b _ tt))

plain-operating : (c : Config ℕ) (vs : List (Value ℕ)) (op : ℕ) (o : Operator) (operation : Operation) → IsPlain (operating numbers c vs (0 ∷ 0 ∷ []) op o operation)
plain-operating c vs op o (OfOne operation) = keeps_word IsPlain refl (is_wide o.operand) vs _ (λ a rest. tt)
plain-operating c vs op o (OfTwo operation) =
    keeps_word IsPlain refl (is_wide o.operand) vs _ (λ b rest. keeps_word IsPlain refl (is_wide o.operand) rest _ (λ a rest.
    plain-checked (divides operation) (is_div_s operation) o.operand a b _ tt))

pub asks-numeric : (c : Config ℕ) (vs : List (Value ℕ)) (op : ℕ) → MayAsk (numeric numbers c vs (0 ∷ []) op)
asks-numeric c vs op = keeps_found MayAsk refl (operator_of op) _ (λ o. asks-operating c vs op o o.operation)

pub plain-numeric : (c : Config ℕ) (vs : List (Value ℕ)) (op : ℕ) → IsPlain (numeric numbers c vs (0 ∷ 0 ∷ []) op)
plain-numeric c vs op = keeps_found IsPlain refl (operator_of op) _ (λ o. plain-operating c vs op o o.operation)

-- ---- one question after another

-- what holds where the instruction i has had the answers ns, whatever its operands
abbrev pub Whatever : (Next ℕ → Type 0) → Module → Instr → List ℕ → Type 0
Whatever P m i ns = (c : Config ℕ) (vs : List (Value ℕ)) → P (act numbers m c vs ns i)

module _ {A : Type 0} (m : Module) (steps : ℕ) (s : State (CodeValue ℕ)) (b : List ℕ) where
  module _ (a a' : A) (u t : State (CodeValue ℕ)) (asking : Asking m steps s b a u b) (i : Instr) (next : IsNext m u i) (ns : List ℕ) (has : u.answers ≡ ns) (x : CodeNext ℕ)
      (acts : Acts (λ _ w. w < 2 ^ 64) (λ _ n. n) numbers m i a u a' t x) where
    acts-here : ActsOn (λ _ w. w < 2 ^ 64) (λ _ n. n) numbers m i a u b a' t b x
    acts-here = acts-on (λ _ w. w < 2 ^ 64) (λ _ n. n) numbers m i i a a' (λ w held. (held, refl)) u t b x asking.order.cells refl acts

    holds-here : (P : Next ℕ → Type 0) → Whatever P m i ns → P (acts_at m b u u.answers i)
    holds-here P all = subst (λ ns. P (acts_at m b u ns i)) (sym has) (all (past_at m b u) (own (image (λ n. n) u)))

    pub turn-carried : x ≡ CodeGoes → CarriedOut m steps (config_at m b s) a' t b
    turn-carried is = carried-on m steps s b a u b asking i next a' t b x acts-here is

    pub turn-goes : IsNeverStuck m steps (config_at m b s) → Whatever IsPlain m i ns → x ≡ CodeGoes
    turn-goes sound plain = goes-on m steps s b a u b asking i next a' t b x acts-here sound (holds-here IsPlain plain)

    pub turn-else : IsNeverStuck m steps (config_at m b s) → Whatever MayAsk m i ns → x ≢ CodeGoes → ((q : CodeQuestion) (w : ℕ) → x ≢ CodeAsks q w) → ⊥
    turn-else sound may =
        asks_told m steps (config_at m b u) (λ e so. sound e (asking.leads (Ends e) so)) b t x (step-acts m i u b next ∙ acts-here.gives) (subst MayAsk acts-here.gives (holds-here MayAsk may))

    pub turn-stays : (q : CodeQuestion) (w : ℕ) → x ≡ CodeAsks q w → t ≡ u
    turn-stays q w asks = (rw asks at acts.after).1

    pub turn-asked : (q : CodeQuestion) (w n : ℕ) (v : State (CodeValue ℕ)) → Whatever MayAsk m i ns → x ≡ CodeAsks q w → n ≡ is_not_zero w → v ≡ noted n t → Asking m steps s b a' v b
    turn-asked q w n v may is n_is v_is = by (subst (λ x. ActsOn (λ _ w. w < 2 ^ 64) (λ _ n. n) numbers m i a u b a' t b x) is acts-here)
      where
        by : ActsOn (λ _ w. w < 2 ^ 64) (λ _ n. n) numbers m i a u b a' t b (CodeAsks q w) → Asking m steps s b a' v b
        by h =
            let test : question q ≡ Test = subst MayAsk h.gives (holds-here MayAsk may) in
            asking_more m steps s b a a' u t v b b (question q) w n asking (step-acts m i u b next ∙ h.gives) h.after.1 refl (n_is ∙ ap (λ q. answer_of q w) (sym test)) v_is h.after.0 h.bytes.0

-- the instruction that is next, and what there is before its first question
module _ {A : Type 0} {m : Module} {steps : ℕ} {a : A} {s : State (CodeValue ℕ)} {b : List ℕ} {i : Instr} (at : IsAtInstruction m steps a s b i) (may : Whatever MayAsk m i []) {a1 : A} {t1 : State (CodeValue ℕ)} {x1 : CodeNext ℕ}
    (acts1 : Acts (λ _ w. w < 2 ^ 64) (λ _ n. n) numbers m i a s a1 t1 x1) where
  asking0 : Asking m steps s b a s b
  asking0 = asking-first m steps s b a at.run.order at.run.fit

  pub first-else : x1 ≢ CodeGoes → ((q : CodeQuestion) (w : ℕ) → x1 ≢ CodeAsks q w) → ⊥
  first-else = turn-else m steps s b a a1 s t1 asking0 i at.next [] at.first x1 acts1 at.run.sound may

  pub first-carried : x1 ≡ CodeGoes → CarriedOut m steps (config_at m b s) a1 t1 b
  first-carried is = turn-carried m steps s b a a1 s t1 asking0 i at.next [] at.first x1 acts1 is

  pub first-stays : {q : CodeQuestion} {w : ℕ} → x1 ≡ CodeAsks q w → t1 ≡ s
  first-stays {q = q} {w = w} is = turn-stays m steps s b a a1 s t1 asking0 i at.next [] at.first x1 acts1 q w is

  -- its first question is answered
  module _ {q : CodeQuestion} {w n : ℕ} (is1 : x1 ≡ CodeAsks q w) (n_is : n ≡ is_not_zero w) {v : State (CodeValue ℕ)} (v_is : v ≡ noted n t1) where
    from_first : v ≡ noted n s
    from_first = v_is ∙ ap (noted n) (first-stays is1)

    asking1 : Asking m steps s b a1 v b
    asking1 = turn-asked m steps s b a a1 s t1 asking0 i at.next [] at.first x1 acts1 q w n v may is1 n_is v_is

    next1 : IsNext m v i
    next1 = next-noted m i s v n from_first at.next

    answers1 : v.answers ≡ n ∷ []
    answers1 = answers-noted s v n [] from_first at.first

    pub second-ready : Ready (λ _ w. w < 2 ^ 64) HasNumber (λ _ n. n) a1 v
    second-ready = ready-from m steps a1 v b asking1.order asking1.fit at.run.few (place-noted s v n from_first at.place)

    module _ {a2 : A} {t2 : State (CodeValue ℕ)} {x2 : CodeNext ℕ} (acts2 : Acts (λ _ w. w < 2 ^ 64) (λ _ n. n) numbers m i a1 v a2 t2 x2) where
      pub second-goes : Whatever IsPlain m i (n ∷ []) → x2 ≡ CodeGoes
      second-goes plain = turn-goes m steps s b a1 a2 v t2 asking1 i next1 (n ∷ []) answers1 x2 acts2 at.run.sound plain

      pub second-carried : x2 ≡ CodeGoes → CarriedOut m steps (config_at m b s) a2 t2 b
      second-carried is = turn-carried m steps s b a1 a2 v t2 asking1 i next1 (n ∷ []) answers1 x2 acts2 is

      module _ (may2 : Whatever MayAsk m i (n ∷ [])) where
        pub second-else : x2 ≢ CodeGoes → ((q : CodeQuestion) (w : ℕ) → x2 ≢ CodeAsks q w) → ⊥
        second-else = turn-else m steps s b a1 a2 v t2 asking1 i next1 (n ∷ []) answers1 x2 acts2 at.run.sound may2

        second-stays : {q : CodeQuestion} {w : ℕ} → x2 ≡ CodeAsks q w → t2 ≡ v
        second-stays {q = q} {w = w} is = turn-stays m steps s b a1 a2 v t2 asking1 i next1 (n ∷ []) answers1 x2 acts2 q w is

        -- without its answer the state is as it was
        pub second-back : {q : CodeQuestion} {w : ℕ} → x2 ≡ CodeAsks q w → {u : State (CodeValue ℕ)} → u ≡ record t2 { answers = [] } → (u ≡ s) × (b ≡ b)
        second-back is u_is = (u_is ∙ ap {A = State (CodeValue ℕ)} (λ t. record t { answers = [] }) (second-stays is ∙ from_first) ∙ ap (λ ns. record s { answers = ns }) (sym at.first), refl)

        -- its second question is answered
        module _ {q2 : CodeQuestion} {w2 n2 : ℕ} (is2 : x2 ≡ CodeAsks q2 w2) (n2_is : n2 ≡ is_not_zero w2) {v2 : State (CodeValue ℕ)} (v2_is : v2 ≡ noted n2 t2) where
          from_second : v2 ≡ noted n2 v
          from_second = v2_is ∙ ap (noted n2) (second-stays is2)

          asking2 : Asking m steps s b a2 v2 b
          asking2 = turn-asked m steps s b a1 a2 v t2 asking1 i next1 (n ∷ []) answers1 x2 acts2 q2 w2 n2 v2 may2 is2 n2_is v2_is

          next2 : IsNext m v2 i
          next2 = next-noted m i v v2 n2 from_second next1

          answers2 : v2.answers ≡ n ∷ n2 ∷ []
          answers2 = answers-noted v v2 n2 (n ∷ []) from_second answers1

          pub third-ready : Ready (λ _ w. w < 2 ^ 64) HasNumber (λ _ n. n) a2 v2
          third-ready = ready-from m steps a2 v2 b asking2.order asking2.fit at.run.few (place-noted v v2 n2 from_second (place-noted s v n from_first at.place))

          module _ {a3 : A} {t3 : State (CodeValue ℕ)} {x3 : CodeNext ℕ} (acts3 : Acts (λ _ w. w < 2 ^ 64) (λ _ n. n) numbers m i a2 v2 a3 t3 x3) where
            pub third-goes : Whatever IsPlain m i (n ∷ n2 ∷ []) → x3 ≡ CodeGoes
            third-goes plain = turn-goes m steps s b a2 a3 v2 t3 asking2 i next2 (n ∷ n2 ∷ []) answers2 x3 acts3 at.run.sound plain

            pub third-carried : x3 ≡ CodeGoes → CarriedOut m steps (config_at m b s) a3 t3 b
            third-carried is = turn-carried m steps s b a2 a3 v2 t3 asking2 i next2 (n ∷ n2 ∷ []) answers2 x3 acts3 is

-- ---- what the answers are given to

abbrev pub IsSelect : Module → Instr → Type 0
IsSelect m i = (c : Config ℕ) (vs : List (Value ℕ)) (ns : List ℕ) → act numbers m c vs ns i ≡ select numbers c vs ns

pub select-may : (m : Module) (i : Instr) → IsSelect m i → Whatever MayAsk m i []
select-may m i is = λ c vs. subst MayAsk (sym (is c vs [])) (asks-select c vs)

pub select-plain : (m : Module) (i : Instr) → IsSelect m i → (n : ℕ) → Whatever IsPlain m i (n ∷ [])
select-plain m i is n = λ c vs. subst IsPlain (sym (is c vs (n ∷ []))) (plain-select c vs n)

pub select-acts : {A : Type 0} {m : Module} {i : Instr} → IsSelect m i → {a a' : A} {s t : State (CodeValue ℕ)} {x : CodeNext ℕ} → Acts (λ _ w. w < 2 ^ 64) (λ _ n. n) numbers m Select a s a' t x → Acts (λ _ w. w < 2 ^ 64) (λ _ n. n) numbers m i a s a' t x
select-acts is h = record { gives = λ b. is _ _ _ ∙ h.gives b; after = h.after }

pub zero-answer : (w : ℕ) → w ≡ 0 → 0 ≡ is_not_zero w
zero-answer w e = sym (ap is_not_zero e)
