-- Laws of the machine's state in a run on plain numbers.
use Rattle.std.proofs.Common.{◌≡◌, ℕ, zero, suc, ◌^◌, ◌<◌, List, [], ◌∷◌, length, map, refl, sym, ap, ◌∙◌, subst, arith}
use Rattle.std.specs.Prelude.{Bool, true, false}
use Rattle.wasm_ast.specs.declared.modules.Module.{Module}
use Rattle.wasm_reduction.specs.Combinators.{valued as valued_in}
use Rattle.wasm_reduction.specs.Steps.{step, with_symbol}
use Rattle.wasm_machine.specs.declared.values.Value.{Value as CodeValue}
use Rattle.wasm_machine.specs.Acts.{Sane, After, BytesAfter}
use Rattle.wasm_machine.specs.code.Moves.{pushed, noted}
use Rattle.wasm_machine.specs.States.{State}
use Rattle.wasm_machine.specs.Values.{value, valued, ValueHeld}
use Rattle.wasm_machine.proofs.ActLaws.{push-config}
use Rattle.std.specs.List.{AllByRecursion}
use Rattle.std.specs.Prelude.{slice_index_or}
use Rattle.wasm_rules.specs.Words.{numbers, HasNumber}
use Rattle.wasm_reduction.specs.Configurations.{Question, Asks}
use Rattle.wasm_reduction.specs.Maps.{ValueHas, ValuesHave}
use Rattle.wasm_reduction.specs.Runs.{answer_of}
use Rattle.wasm_reduction.proofs.Endings.{left}
use Rattle.wasm_reduction.proofs.WideSteps.{answered-wide}
use Rattle.wasm_machine.specs.declared.next.Question.{Question as CodeQuestion}
use Rattle.wasm_machine.specs.declared.next.Next.{Next as CodeNext}
use Rattle.wasm_machine.specs.declared.next.Next.TheVariants.{Goes as CodeGoes, Draws as CodeDraws, Asks as CodeAsks, Ends as CodeEnds}
use Rattle.wasm_machine.proofs.Lists.{all-append}
use Rattle.wasm_machine.proofs.Steps.{well_formed-pushed}
use Rattle.wasm_run.specs.code.Places.{config_at, IsInOrder, IsInOrderAfter}
use Rattle.wasm_run.proofs.PlaceLemmas.{Asking, settled_more}
use Rattle.wasm_run.proofs.ReachedLemmas.{asks-fewer}

valued-is : (wide : Bool) (w : ℕ) → value (λ n. n) (valued wide w) ≡ valued_in wide w
valued-is true w = refl
valued-is false w = refl

-- a symbol has its number
pub drawn-is : {A : Type 0} (H : A → ℕ → Type 0) (a : A) (m : Module) (bytes : List ℕ) (s : State (CodeValue ℕ)) (wide : Bool) (w : ℕ) → Sane H a s →
    config_at m bytes (pushed (valued wide w) s) ≡ with_symbol (config_at m bytes s) wide w
drawn-is H a m bytes s wide w h = push-config H (λ _ n. n) m (map (λ n. n) bytes) a a (λ w held. (held, refl)) s (valued wide w) (valued_in wide w) h (valued-is wide w)

-- ---- orders

valued-held : (wide : Bool) (w : ℕ) → w < 2 ^ 64 → ValueHeld (λ w. w < 2 ^ 64) (valued wide w)
valued-held true w h = h
valued-held false w h = h

pub order_pushed : {A : Type 0} (a : A) (s : State (CodeValue ℕ)) (cells : List ℕ) (wide : Bool) (w : ℕ) → w < 2 ^ 64 → IsInOrder a s cells → IsInOrder a (pushed (valued wide w) s) cells
order_pushed a s cells wide w small h = record {
  sane = record {
    well_formed = well_formed-pushed s (valued wide w) h.sane.well_formed;
    operands = all-append (ValueHeld (λ w. w < 2 ^ 64)) s.operands (valued wide w ∷ []) h.sane.operands (valued-held wide w small, tt);
    locals = h.sane.locals;
    globals = h.sane.globals;
  };
  cells = h.cells;
}

pub order_after : {A : Type 0} (a : A) (s t : State (CodeValue ℕ)) (b d : List ℕ) (x : CodeNext ℕ) → ((q : CodeQuestion) (w : ℕ) → x ≡ CodeAsks q w → ⊥) →
    After (λ _ w. w < 2 ^ 64) a s t x → BytesAfter (λ _ w. w < 2 ^ 64) a b d x → IsInOrderAfter a t d x
order_after a s t b d CodeGoes other after bytes = record { sane = after; cells = bytes }
order_after a s t b d (CodeDraws wide) other after bytes = record { sane = after; cells = bytes }
order_after a s t b d (CodeAsks q w) other after bytes = other q w refl
order_after a s t b d (CodeEnds e) other after bytes = tt

-- ---- one question more

module _ {A : Type 0} (m : Module) (steps : ℕ) (first : State (CodeValue ℕ)) (first_cells : List ℕ) (a a' : A) (s t u : State (CodeValue ℕ)) (b d : List ℕ) (q : Question) (w n : ℕ)
    (asking : Asking m steps first first_cells a s b) (asks : step numbers m (config_at m b s) ≡ Asks q w)
    (t_is : t ≡ s) (d_is : d ≡ b) (n_is : n ≡ answer_of q w) (u_is : u ≡ noted n t) where
  noted_is : u ≡ noted (answer_of q w) s
  noted_is = u_is ∙ ap (λ k. noted k t) n_is ∙ ap (noted (answer_of q w)) t_is

  one_more : Sane (λ _ w. w < 2 ^ 64) a' s → AllByRecursion (λ w. w < 2 ^ 64) b → Asking m steps first first_cells a' (noted (answer_of q w) s) b
  one_more sane cells = record {
    order = record {
      sane = record {
        well_formed = record { frame = sane.well_formed.frame; callers = sane.well_formed.callers; short = sane.well_formed.short };
        operands = sane.operands;
        locals = sane.locals;
        globals = sane.globals;
      };
      cells = cells;
    };
    fit = record {
      widths = answered-wide HasNumber (config_at m b s) (answer_of q w) asking.fit.widths;
      outermost = asking.fit.outermost;
      units = asking.fit.units;
      free = record { frames = asking.fit.free.frames; units = asking.fit.free.units };
    };
    leads = λ x so. asking.leads x (settled_more m steps (config_at m b s) q w x asking.fit.free asks so);
  }

  pub asking_more : Sane (λ _ w. w < 2 ^ 64) a' t → AllByRecursion (λ w. w < 2 ^ 64) d → Asking m steps first first_cells a' u d
  asking_more sane cells =
      subst (λ v. Asking m steps first first_cells a' v d) (sym noted_is)
      (subst (λ e. Asking m steps first first_cells a' (noted (answer_of q w) s) e) (sym d_is) (one_more (subst (Sane (λ _ w. w < 2 ^ 64) a') t_is sane) (subst (AllByRecursion (λ w. w < 2 ^ 64)) d_is cells)))

  pub asking_less : left (config_at m d u) < left (config_at m b s)
  asking_less =
      subst (λ v. left (config_at m d v) < left (config_at m b s)) (sym noted_is)
      (subst (λ e. left (config_at m e (noted (answer_of q w) s)) < left (config_at m b s)) (sym d_is)
      (asks-fewer m steps (config_at m b s) s.answers asking.fit.outermost asking.fit.free q w (answer_of q w) asks))

-- ---- results

pub value_at : (vs : List (CodeValue ℕ)) (k : ℕ) (d : CodeValue ℕ) → k < length vs → ValuesHave HasNumber (map (value (λ n. n)) vs) → ValueHas HasNumber (value (λ n. n) (slice_index_or vs k d))
value_at [] k d lt h = absurd (omega arith)
value_at (v ∷ vs) zero d lt h = h.0
value_at (v ∷ vs) (suc k) d lt h = value_at vs k d (omega arith) h.1
