-- Laws of instructions on the fast path.
use Rattle.std.proofs.Common.{◌≡◌, ◌≢◌, ℕ, ◌+◌, ◌-◌, ◌^◌, ◌<◌, ◌≤◌, List, [], ◌∷◌, ◌++◌, map, take, drop, length, refl, sym, ◌∙◌, subst, arith}
use Rattle.std.specs.Prelude.{◌==◌, Bool, true, false, nat_lt, if◌then◌else◌, slice_get, Option, Some, None}
use Rattle.std.proofs.lemmas.List.{length-drop}
use Rattle.std.proofs.lemmas.Bool.Decides.{nat_tests}
use Rattle.wasm_ast.specs.declared.instructions.Instr.{Instr}
use Rattle.wasm_ast.specs.declared.instructions.Instr.TheVariants.{Loop, Br, Num}
use Rattle.wasm_check.specs.Trees.{seq_of}
use Rattle.wasm_reduction.specs.Functions.{block_type}
use Rattle.wasm_ast.specs.declared.types.BlockType.{BlockType}
use Rattle.wasm_ast.specs.declared.modules.Module.{Module}
use Rattle.wasm_rules.specs.Words.{numbers, HasNumber, Kept}
use Rattle.int_ops.specs.declared.operators.Width.{Width}
use Rattle.int_ops.specs.declared.operators.Operation.{Operation}
use Rattle.int_ops.specs.declared.operators.Operation.TheVariants.{OfOne, OfTwo}
use Rattle.int_ops.specs.declared.operators.Operator.{Operator}
use Rattle.int_ops.specs.Operators.{operator_of, divides, is_div_s}
use Rattle.wasm_reduction.specs.Configurations.{Value, Label, Frame, Config, Test, Stuck, Next, Goes, Draws, Asks, Ends}
use Rattle.wasm_reduction.specs.Combinators.{with_found, with_value, with_word, with_last, word_of}
use Rattle.wasm_reduction.specs.Control.{give_back, finish, entering, given, block, loop, branch, br, return}
use Rattle.wasm_reduction.specs.Numeric.{checking, operating, numeric, is_wide}
use Rattle.wasm_reduction.specs.Parametric.{discard}
use Rattle.wasm_reduction.specs.Variables.{local_get, local_set, local_tee, global_get, global_set}
use Rattle.wasm_reduction.specs.Steps.{act, step}
use Rattle.wasm_machine.specs.declared.values.Value.{Value as CodeValue}
use Rattle.wasm_machine.specs.declared.next.Next.{Next as CodeNext}
use Rattle.wasm_machine.specs.declared.next.Next.TheVariants.{Goes as CodeGoes, Draws as CodeDraws, Asks as CodeAsks, Ends as CodeEnds}
use Rattle.wasm_machine.specs.declared.next.Question.{Question as CodeQuestion}
use Rattle.wasm_machine.specs.Acts.{IsNext, Ready, Acts}
use Rattle.wasm_machine.specs.Configurations.{code_of, image, configuration, enclosing_labels}
use Rattle.wasm_machine.specs.States.{own, passed, State}
use Rattle.wasm_machine.specs.code.Simulation.{SimulatesWithoutAsking}
use Rattle.wasm_machine.specs.Steps.{Steps}
use Rattle.wasm_machine.specs.Values.{end_of}
use Rattle.wasm_machine.proofs.LabelLaws.{length-labels, length-enclosing}
use Rattle.wasm_machine.proofs.StepLaws.{acts-on, next-is, next-steps, end-steps, wide-state}
use Rattle.wasm_run.specs.code.Places.{config_at, told_at, IsFit, IsInOrder, IsNeverStuck, MayStep, IsAtInstruction, IsAtEnd, Settled, CarriedOut, IsFastStep}
use Rattle.wasm_run.proofs.PlaceLemmas.{settled_here}
use Rattle.wasm_machine.proofs.BoundLaws.{depth-is}
use Rattle.wasm_run.proofs.ZeroLemmas.{zero_of}

-- ---- instructions that ask nothing

-- it goes on, or is stuck
abbrev pub IsPlain : Next ℕ → Type 0
IsPlain (Goes c) = Unit {0}
IsPlain (Draws wide c) = ⊥
IsPlain (Asks q w) = ⊥
IsPlain (Ends e) = e ≡ Stuck

-- it goes on, asks to test a word, or is stuck
abbrev pub MayAsk : Next ℕ → Type 0
MayAsk (Goes c) = Unit {0}
MayAsk (Draws wide c) = ⊥
MayAsk (Asks q w) = q ≡ Test
MayAsk (Ends e) = e ≡ Stuck

-- what holds of Stuck and of each way on holds of what they are put together to
module _ (P : Next ℕ → Type 0) (stuck : P (Ends Stuck)) where
  pub keeps_found : {A : Type 0} (o : Option A) (go : A → Next ℕ) → ((x : A) → P (go x)) → P (with_found o go)
  keeps_found None go each = stuck
  keeps_found (Some x) go each = each x

  pub keeps_value : (vs : List (Value ℕ)) (go : Value ℕ → List (Value ℕ) → Next ℕ) → ((v : Value ℕ) (rest : List (Value ℕ)) → P (go v rest)) → P (with_value vs go)
  keeps_value [] go each = stuck
  keeps_value (v ∷ vs) go each = each v vs

  pub keeps_word : (wide : Bool) (vs : List (Value ℕ)) (go : ℕ → List (Value ℕ) → Next ℕ) → ((w : ℕ) (rest : List (Value ℕ)) → P (go w rest)) → P (with_word wide vs go)
  keeps_word wide vs go each = keeps_value vs (λ v rest. with_found (word_of wide v) (λ w. go w rest)) (λ v rest. keeps_found (word_of wide v) (λ w. go w rest) (λ w. each w rest))

  pub keeps_last : (n : ℕ) (vs : List (Value ℕ)) (go : List (Value ℕ) → List (Value ℕ) → Next ℕ) → ((xs rest : List (Value ℕ)) → P (go xs rest)) → P (with_last n vs go)
  keeps_last n vs go each = by (nat_lt (length vs) n)
    where
      by : (b : Bool) → P (if b then Ends Stuck else go (take n vs) (drop n vs))
      by true = stuck
      by false = each (take n vs) (drop n vs)

pub plain_block : (m : Module) (c : Config ℕ) (vs : List (Value ℕ)) (ty : BlockType) (body : ℕ) → IsPlain (block m c vs ty body)
plain_block m c vs ty body =
    keeps_found IsPlain refl (block_type m ty) _ (λ t. keeps_last IsPlain refl (length t.params) vs
    (λ params rest. entering c params rest (length t.results) [] (seq_of c.frame.seqs body)) (λ params rest. tt))

pub plain_loop : (m : Module) (c : Config ℕ) (vs : List (Value ℕ)) (ty : BlockType) (body : ℕ) → IsPlain (loop m c vs ty body)
plain_loop m c vs ty body =
    keeps_found IsPlain refl (block_type m ty) _ (λ t. keeps_last IsPlain refl (length t.params) vs
    (λ params rest. entering c params rest (length t.params) (Loop ty body ∷ []) (seq_of c.frame.seqs body)) (λ params rest. tt))

plain_branch : (c : Config ℕ) (vs : List (Value ℕ)) (ls : List (Label ℕ)) → 2 ≤ length ls → IsPlain (branch c vs ls)
plain_branch c vs [] h = absurd (omega (arith, h))
plain_branch c vs (t ∷ []) h = absurd (omega (arith, h))
plain_branch c vs (t ∷ l ∷ ls) h =
    keeps_last IsPlain refl t.arity vs
    (λ carried rest. Goes (record c { frame = record (c.frame) { here = given carried (record l { code = t.again ++ l.code }); outer = ls } })) (λ carried rest. tt)

-- a branch to a label that isn't the body's
pub plain_br : (c : Config ℕ) (vs : List (Value ℕ)) (l : ℕ) → l < length c.frame.outer → IsPlain (br c vs l)
plain_br c vs l h = plain_branch c vs (drop l (c.frame.here ∷ c.frame.outer)) (omega (arith, h, length-drop l (c.frame.here ∷ c.frame.outer)))

-- the end of a label inside another
pub plain_finish : (c : Config ℕ) (vs : List (Value ℕ)) (ls : List (Label ℕ)) → 1 ≤ length ls → IsPlain (finish c vs ls)
plain_finish c vs [] h = absurd (omega (arith, h))
plain_finish c vs (l ∷ ls) h = tt

-- where a frame waits, the end of a frame goes on
plain_give_back : (c : Config ℕ) (vs : List (Value ℕ)) (fs : List (Frame ℕ)) → 1 ≤ length fs → IsPlain (give_back c vs fs)
plain_give_back c vs [] h = absurd (omega (arith, h))
plain_give_back c vs (f ∷ fs) h = tt

pub plain_finish_out : (c : Config ℕ) (vs : List (Value ℕ)) (ls : List (Label ℕ)) → 1 ≤ length c.callers → IsPlain (finish c vs ls)
plain_finish_out c vs [] h = plain_give_back c vs c.callers h
plain_finish_out c vs (l ∷ ls) h = tt

plain_branch_out : (c : Config ℕ) (vs : List (Value ℕ)) (ls : List (Label ℕ)) → 1 ≤ length c.callers → IsPlain (branch c vs ls)
plain_branch_out c vs [] h = refl
plain_branch_out c vs (t ∷ []) h = keeps_last IsPlain refl t.arity vs (λ carried rest. give_back c carried c.callers) (λ carried rest. plain_give_back c carried c.callers h)
plain_branch_out c vs (t ∷ l ∷ ls) h =
    keeps_last IsPlain refl t.arity vs
    (λ carried rest. Goes (record c { frame = record (c.frame) { here = given carried (record l { code = t.again ++ l.code }); outer = ls } })) (λ carried rest. tt)

pub plain_br_out : (c : Config ℕ) (vs : List (Value ℕ)) (l : ℕ) → 1 ≤ length c.callers → IsPlain (br c vs l)
plain_br_out c vs l h = plain_branch_out c vs (drop l (c.frame.here ∷ c.frame.outer)) h

pub plain_return : (c : Config ℕ) (vs : List (Value ℕ)) → 1 ≤ length c.callers → IsPlain (return c vs)
plain_return c vs h = keeps_last IsPlain refl c.frame.arity vs (λ results rest. give_back c results c.callers) (λ results rest. plain_give_back c results c.callers h)

pub plain_discard : (c : Config ℕ) (vs : List (Value ℕ)) → IsPlain (discard c vs)
plain_discard c vs = keeps_value IsPlain refl vs _ (λ v rest. tt)

pub plain_local_get : (c : Config ℕ) (vs : List (Value ℕ)) (x : ℕ) → IsPlain (local_get c vs x)
plain_local_get c vs x = keeps_found IsPlain refl (slice_get c.frame.locals x) _ (λ v. tt)

pub plain_local_set : (c : Config ℕ) (vs : List (Value ℕ)) (x : ℕ) → IsPlain (local_set c vs x)
plain_local_set c vs x = keeps_found IsPlain refl (slice_get c.frame.locals x) _ (λ old. keeps_value IsPlain refl vs _ (λ v rest. tt))

pub plain_local_tee : (c : Config ℕ) (vs : List (Value ℕ)) (x : ℕ) → IsPlain (local_tee c vs x)
plain_local_tee c vs x = keeps_found IsPlain refl (slice_get c.frame.locals x) _ (λ old. keeps_value IsPlain refl vs _ (λ v rest. tt))

pub plain_global_get : (c : Config ℕ) (vs : List (Value ℕ)) (x : ℕ) → IsPlain (global_get c vs x)
plain_global_get c vs x = keeps_found IsPlain refl (slice_get c.store.globals x) _ (λ v. tt)

pub plain_global_set : (c : Config ℕ) (vs : List (Value ℕ)) (x : ℕ) → IsPlain (global_set c vs x)
plain_global_set c vs x = keeps_found IsPlain refl (slice_get c.store.globals x) _ (λ old. keeps_value IsPlain refl vs _ (λ v rest. tt))

-- a numeric instruction that has had no answer
ask_checking : (divides signed : Bool) (width : Width) (a b : ℕ) (next : Next ℕ) → MayAsk next → MayAsk (checking numbers divides signed width a b [] next)
ask_checking false signed width a b next h = h
ask_checking true signed width a b next h = refl

ask_operating : (c : Config ℕ) (vs : List (Value ℕ)) (op : ℕ) (o : Operator) (operation : Operation) → MayAsk (operating numbers c vs [] op o operation)
ask_operating c vs op o (OfOne operation) = keeps_word MayAsk refl (is_wide o.operand) vs _ (λ a rest. tt)
ask_operating c vs op o (OfTwo operation) =
    keeps_word MayAsk refl (is_wide o.operand) vs _ (λ b rest. keeps_word MayAsk refl (is_wide o.operand) rest _ (λ a rest.
    ask_checking (divides operation) (is_div_s operation) o.operand a b _ tt))

pub ask_numeric : (c : Config ℕ) (vs : List (Value ℕ)) (op : ℕ) → MayAsk (numeric numbers c vs [] op)
ask_numeric c vs op = keeps_found MayAsk refl (operator_of op) _ (λ o. ask_operating c vs op o o.operation)

-- as many labels wait
pub outer_count : (m : Module) (bytes : List ℕ) (s : State (CodeValue ℕ)) → length (configuration (λ n. n) m bytes s).frame.outer ≡ length s.labels - s.frame.labels
outer_count m bytes s = length-labels _ (enclosing_labels s.frame s.labels) _ ∙ length-enclosing s.frame s.labels

-- ---- what the machine says where the reduction goes on or is stuck

module _ (m : Module) (steps : ℕ) (c : Config ℕ) (sound : IsNeverStuck m steps c) (d : List ℕ) (t : State (CodeValue ℕ)) where
  pub goes_told : (x : CodeNext ℕ) → step numbers m c ≡ told_at m d t x → IsPlain (told_at m d t x) → x ≡ CodeGoes
  goes_told CodeGoes is plain = refl
  goes_told (CodeDraws wide) is plain = absurd plain
  goes_told (CodeAsks q w) is plain = absurd plain
  goes_told (CodeEnds e) is plain = absurd (sound (end_of (λ n. n) e) (settled_here m steps c (Ends (end_of (λ n. n) e)) is) plain)

  pub asks_told : (x : CodeNext ℕ) → step numbers m c ≡ told_at m d t x → MayAsk (told_at m d t x) → x ≢ CodeGoes → ((q : CodeQuestion) (w : ℕ) → x ≢ CodeAsks q w) → ⊥
  asks_told CodeGoes is plain not_goes not_asks = not_goes refl
  asks_told (CodeDraws wide) is plain not_goes not_asks = plain
  asks_told (CodeAsks q w) is plain not_goes not_asks = not_asks q w refl
  asks_told (CodeEnds e) is plain not_goes not_asks = sound (end_of (λ n. n) e) (settled_here m steps c (Ends (end_of (λ n. n) e)) is) plain

kept : {A : Type 0} (a a' : A) → Kept (λ _ w. w < 2 ^ 64) (λ _ w. w) a a'
kept a a' w held = (held, refl)

-- the state is ready for its next instruction
pub ready-from : {A : Type 0} (m : Module) (steps : ℕ) (a : A) (s : State (CodeValue ℕ)) (cells : List ℕ) → IsInOrder a s cells → IsFit steps (config_at m cells s) → steps < 2 ^ 63 → s.frame.here.place + 1 < 2 ^ 64 →
    Ready (λ _ w. w < 2 ^ 64) HasNumber (λ _ w. w) a s
ready-from m steps a s cells order fit few place = record {
  sane = order.sane;
  wide = wide-state HasNumber (λ n. n) m (map (λ n. n) cells) s fit.widths;
  place = place;
  units = omega (arith, fit.units, few);
}

-- a step that goes on
carried-so : {A : Type 0} (m : Module) (steps : ℕ) (a a' : A) (s t : State (CodeValue ℕ)) (cells d : List ℕ) (x : CodeNext ℕ) → Steps (λ _ w. w < 2 ^ 64) (λ _ w. w) numbers m a s cells a' t d x → x ≡ CodeGoes →
    CarriedOut m steps (config_at m cells s) a' t d
carried-so m steps a a' s t cells d x so is =
    let st = subst (λ x. Steps (λ _ w. w < 2 ^ 64) (λ _ w. w) numbers m a s cells a' t d x) is so in
    record { settled = settled_here m steps (config_at m cells s) (Goes (config_at m d t)) st.gives; order = record { sane = st.after; cells = st.bytes } }

module _ {A : Type 0} {m : Module} {steps : ℕ} {a : A} {s : State (CodeValue ℕ)} {cells : List ℕ} where
  module _ {i : Instr} (at : IsAtInstruction m steps a s cells i) where
    pub ready : Ready (λ _ w. w < 2 ^ 64) HasNumber (λ _ w. w) a s
    ready = ready-from m steps a s cells at.run.order at.run.fit at.run.few at.place

    module _ {j : Instr} (is : i ≡ j) {a' : A} {t : State (CodeValue ℕ)} {x : CodeNext ℕ} (acts : Acts (λ _ w. w < 2 ^ 64) (λ _ w. w) numbers m j a s a' t x) where
      steps_so : Steps (λ _ w. w < 2 ^ 64) (λ _ w. w) numbers m a s cells a' t cells x
      steps_so = next-steps (λ _ w. w < 2 ^ 64) (λ _ w. w) numbers m i a a' s t cells cells x at.next
          (acts-on (λ _ w. w < 2 ^ 64) (λ _ w. w) numbers m i j a a' (kept a a') s t cells x at.run.order.cells is acts)

      pub here_goes : IsPlain (act numbers m (configuration (λ n. n) m (map (λ n. n) cells) (passed s)) (own (image (λ n. n) s)) s.answers j) → x ≡ CodeGoes
      here_goes plain = goes_told m steps (config_at m cells s) at.run.sound cells t x steps_so.gives (subst IsPlain (acts.gives (map (λ n. n) cells)) plain)

      -- an instruction that asks nothing goes on
      pub acts_goes : ((d : Config ℕ) (vs : List (Value ℕ)) → IsPlain (act numbers m d vs s.answers j)) → x ≡ CodeGoes
      acts_goes plain = here_goes (plain (configuration (λ n. n) m (map (λ n. n) cells) (passed s)) (own (image (λ n. n) s)))

      -- a branch to a label that isn't the body's goes on
      pub br_goes : (l : ℕ) → j ≡ Br l → l < length s.labels - s.frame.labels → x ≡ CodeGoes
      br_goes l is_br within =
          let d = configuration (λ n. n) m (map (λ n. n) cells) (passed s) in
          here_goes (subst (λ j. IsPlain (act numbers m d (own (image (λ n. n) s)) s.answers j)) (sym is_br)
          (plain_br d (own (image (λ n. n) s)) l (omega (arith, within, outer_count m (map (λ n. n) cells) (passed s)))))

      -- and has been carried out
      pub acts_once : x ≡ CodeGoes → CarriedOut m steps (config_at m cells s) a' t cells
      acts_once gone = carried-so m steps a a' s t cells cells x steps_so gone

      pub once : {b : Bool} → b ≡ true → x ≡ CodeGoes → IsFastStep b m steps s cells a' t cells
      once {b = true} so gone = acts_once gone
      once {b = false} so gone = absurd cc

      -- a numeric instruction goes on or asks
      pub num_asks : (op : ℕ) → j ≡ Num op → x ≢ CodeGoes → ((q : CodeQuestion) (w : ℕ) → x ≢ CodeAsks q w) → ⊥
      num_asks op is_num =
          let d = configuration (λ n. n) m (map (λ n. n) cells) (passed s) in
          let vs = own (image (λ n. n) s) in
          let asks : MayAsk (act numbers m d vs s.answers j) =
          subst (λ j. MayAsk (act numbers m d vs s.answers j)) (sym is_num) (subst (λ ns. MayAsk (numeric numbers d vs ns op)) (sym at.first) (ask_numeric d vs op)) in
          asks_told m steps (config_at m cells s) at.run.sound cells t x steps_so.gives (subst MayAsk (acts.gives (map (λ n. n) cells)) asks)

      -- where it asks, the state is as it was
      pub acts_stay : {q : CodeQuestion} {w : ℕ} → x ≡ CodeAsks q w → (t ≡ s) × (cells ≡ cells)
      acts_stay asks = ((rw asks at acts.after).1, refl)

  module _ (at : IsAtEnd m steps a s cells) {t : State (CodeValue ℕ)} {x : CodeNext ℕ}
      (says : SimulatesWithoutAsking (λ _ w. w < 2 ^ 64) (λ _ w. w) m a t x (λ b. finish (configuration (λ n. n) m b s) (own (image (λ n. n) s)) (configuration (λ n. n) m b s).frame.outer)) where
    end_so : Steps (λ _ w. w < 2 ^ 64) (λ _ w. w) numbers m a s cells a t cells x
    end_so = end-steps (λ _ w. w < 2 ^ 64) (λ _ w. w) numbers m a s t cells x at.f at.inside (subst (λ o. slice_get (code_of m s.entry o s.frame.here.seq) s.frame.here.place ≡ None) at.inside at.over) at.run.order.cells says

    -- the end of a label inside another
    pub end_goes : 1 ≤ length s.labels - s.frame.labels → x ≡ CodeGoes
    end_goes some = goes_told m steps (config_at m cells s) at.run.sound cells t x end_so.gives
        (subst IsPlain (says.gives (map (λ n. n) cells)) (plain_finish (configuration (λ n. n) m (map (λ n. n) cells) s) (own (image (λ n. n) s)) (configuration (λ n. n) m (map (λ n. n) cells) s).frame.outer (omega (arith, some, outer_count m (map (λ n. n) cells) s))))

    -- the end of a frame, where another waits
    pub end_out : 1 ≤ length s.callers → x ≡ CodeGoes
    end_out some = goes_told m steps (config_at m cells s) at.run.sound cells t x end_so.gives
        (subst IsPlain (says.gives (map (λ n. n) cells)) (plain_finish_out (configuration (λ n. n) m (map (λ n. n) cells) s) (own (image (λ n. n) s)) (configuration (λ n. n) m (map (λ n. n) cells) s).frame.outer (omega (arith, some, depth-is (λ n. n) m (map (λ n. n) cells) s))))

    pub end_once : {b : Bool} → b ≡ true → x ≡ CodeGoes → IsFastStep b m steps s cells a t cells
    end_once {b = true} so gone = carried-so m steps a a s t cells cells x end_so gone
    end_once {b = false} so gone = absurd cc

-- ---- the module that an image lends, and what is next in it

none_so : {X : Type 0} (xs : List X) → length xs ≡ 0 → xs ≡ []
none_so [] none = refl
none_so (x ∷ xs) none = absurd (omega (arith, none))

pub none_given : {X : Type 0} (xs : List X) (b : Bool) → b ≡ (length xs == 0) → b ≡ true → xs ≡ []
none_given xs b is so = none_so xs (zero_of (length xs) (sym is ∙ so))

next_by : {X : Type 0} (m : Module) (s : State X) (f : ℕ) (i j : Instr) → Some f ≡ s.frame.func → slice_get (code_of m s.entry (Some f) s.frame.here.seq) s.frame.here.place ≡ Some i → i ≡ j → IsNext m s j
next_by m s f i j inside there is = subst (λ i. IsNext m s i) is (next-is m s f i (sym inside) there)

module _ {A : Type 0} {m m' : Module} (same : m' ≡ m) {steps : ℕ} {a : A} {s : State (CodeValue ℕ)} {cells : List ℕ} where
  module _ (run : MayStep m steps a s cells) {f : ℕ} (inside : Some f ≡ s.frame.func) where
    run_at : MayStep m' steps a s cells
    run_at = subst (λ m. MayStep m steps a s cells) (sym same) run

    -- what is next there
    pub at_end : slice_get (code_of m' s.entry (Some f) s.frame.here.seq) s.frame.here.place ≡ None → IsAtEnd m' steps a s cells
    at_end over = record { run = run_at; f = f; inside = sym inside; over = subst (λ o. slice_get (code_of m' s.entry o s.frame.here.seq) s.frame.here.place ≡ None) inside over }

    module _ (first : s.answers ≡ []) (place : s.frame.here.place + 1 < 2 ^ 64) {i j : Instr} (there : slice_get (code_of m' s.entry (Some f) s.frame.here.seq) s.frame.here.place ≡ Some i) (is : i ≡ j) where
      pub at_instruction : IsAtInstruction m' steps a s cells j
      at_instruction = record { run = run_at; first = first; place = place; next = next_by m' s f i j inside there is }

      -- the same of the image's own module
      pub at_instruction_of : IsAtInstruction m steps a s cells j
      at_instruction_of = subst (λ m. IsAtInstruction m steps a s cells j) same at_instruction

-- what is said of the module is said of the image
pub fast_of : {A : Type 0} {m m' : Module} → m' ≡ m → (steps : ℕ) (s : State (CodeValue ℕ)) (cells : List ℕ) (b : Bool) (a' : A) (t : State (CodeValue ℕ)) (d : List ℕ) → IsFastStep b m' steps s cells a' t d → IsFastStep b m steps s cells a' t d
fast_of same steps s cells b a' t d so = subst (λ m. IsFastStep b m steps s cells a' t d) same so

-- ---- where nothing has been carried out, the state is as it was

pub not_once : {A : Type 0} (r : Bool) (m : Module) (steps : ℕ) (s : State (CodeValue ℕ)) (b : List ℕ) (a : A) (t : State (CodeValue ℕ)) (d : List ℕ) → r ≡ false → IsFastStep r m steps s b a t d → (t ≡ s) × (d ≡ b)
not_once true m steps s b a t d is so = absurd cc
not_once false m steps s b a t d is so = so

pub is_once : {A : Type 0} (r : Bool) (m : Module) (steps : ℕ) (s : State (CodeValue ℕ)) (b : List ℕ) (a : A) (t : State (CodeValue ℕ)) (d : List ℕ) → r ≡ true → IsFastStep r m steps s b a t d → CarriedOut m steps (config_at m b s) a t d
is_once true m steps s b a t d is so = so
is_once false m steps s b a t d is so = absurd cc

module _ (s t : State (CodeValue ℕ)) (b d : List ℕ) (same : (t ≡ s) × (d ≡ b)) where
  pub same_order : {A : Type 0} (a a' : A) → IsInOrder a s b → IsInOrder a' t d
  same_order {A = A} a a' order = subst (λ u. IsInOrder a' u d) (sym same.0) (subst (λ e. IsInOrder a' s e) (sym same.1) anew)
    where
      anew : IsInOrder a' s b
      anew = record { sane = record { well_formed = order.sane.well_formed; operands = order.sane.operands; locals = order.sane.locals; globals = order.sane.globals }; cells = order.cells }

  pub same_fit : (m : Module) (steps : ℕ) → IsFit steps (config_at m b s) → IsFit steps (config_at m d t)
  same_fit m steps fit = subst (λ u. IsFit steps (config_at m d u)) (sym same.0) (subst (λ e. IsFit steps (config_at m e s)) (sym same.1) fit)

  pub same_settled : (m : Module) (steps : ℕ) (x : Next ℕ) → Settled m steps (config_at m d t) x → Settled m steps (config_at m b s) x
  same_settled m steps x so = subst (λ e. Settled m steps (config_at m e s) x) same.1 (subst (λ u. Settled m steps (config_at m d u) x) same.0 so)

  pub same_run : {A : Type 0} (m : Module) (steps : ℕ) (a a' : A) → MayStep m steps a s b → MayStep m steps a' t d
  same_run m steps a a' run = record { order = same_order a a' run.order; fit = same_fit m steps run.fit; few = run.few; sound = λ e so. run.sound e (same_settled m steps (Ends e) so) }

  pub same_once : {A : Type 0} (m : Module) (steps : ℕ) (r : Bool) (a : A) (u : State (CodeValue ℕ)) (e : List ℕ) → IsFastStep r m steps t d a u e → IsFastStep r m steps s b a u e
  same_once m steps r a u e so = subst (λ d. IsFastStep r m steps s d a u e) same.1 (subst (λ t. IsFastStep r m steps t d a u e) same.0 so)
