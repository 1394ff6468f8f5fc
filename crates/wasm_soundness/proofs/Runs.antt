-- No run of a valid module that is ready is stuck, and it has exactly one bounded run.
use Rattle.std.proofs.Common.{◌≡◌, ℕ, zero, suc, List, [], ◌∷◌, map, length, refl, ap, ◌∙◌, subst, inl, inr}
use Rattle.std.specs.Prelude.{◌≢◌, Bool, true, false, ◌&&◌, nat_lt, nat_le, if◌then◌else◌, Option, Some, None, Result, Ok, Err}
use Rattle.wasm_ast.specs.declared.types.ValType.{ValType}
use Rattle.wasm_ast.specs.declared.types.ValType.TheVariants.{I32 as I32Type, I64 as I64Type, FuncRef as FuncRefType, ExternRef as ExternRefType}
use Rattle.wasm_ast.specs.declared.modules.Module.{Module}
use Rattle.wasm_ast.specs.declared.runs.Value.{Value as Argument}
use Rattle.wasm_ast.specs.declared.runs.Outcome.TheVariants.{Returns as Returned}
use Rattle.wasm_rules.specs.Words.{Kind, numbers, taken}
use Rattle.wasm_image.specs.Entries.{type_of}
use Rattle.wasm_reduction.specs.Configurations.{FuncRef, ExternRef, Value, I32, I64, Ref, Config, Question, End, Returns, Traps, Fails, Assumes, Stuck, Next, Goes, Draws, Asks, Ends}
use Rattle.wasm_reduction.specs.Steps.{step}
use Rattle.wasm_reduction.specs.Instantiation.{first_config}
use Rattle.wasm_reduction.specs.Runs.{Trace, Going, Halt, Stands, Ended, Bound, Deep, Turned, On, Over, Reply, replied, follow_by, is_due, most_frames, follow, then_follow, follows, started_by, started, runs, by_value, Run, plain_value, outcome_of_end, outcome_of, draws_from, run_of, runs_at, IsRun}
use Rattle.wasm_reduction.proofs.OneRun.{comes-to-an-end, one-run}
use Rattle.wasm_reduction.proofs.WideStarts.{map-of}
use Rattle.wasm_soundness.specs.Values.{ValueIs, Hold, ofs}
use Rattle.wasm_soundness.specs.Configurations.{ConfigFits, EndFits, NextFits, IsTrap, StartFits}
use Rattle.wasm_soundness.specs.Laws.{CanBeRun, Fit, HasOneRun}
use Rattle.wasm_soundness.proofs.Modules.{ModuleFits, module-fits}
use Rattle.wasm_soundness.proofs.Configs.{step-fits, answered-fits}
use Rattle.wasm_soundness.proofs.Starts.{first-fits}

-- where a run is, or how it ended
abbrev HaltFits : {W : Type 0} → Module → List ValType → Halt W → Type 0
HaltFits m final (Ended e) = EndFits m final e
HaltFits m final _ = Unit {0}

abbrev TurnedFits : {W : Type 0} → Module → List ValType → Turned W → Type 0
TurnedFits m final (On g) = ConfigFits m final g.config
TurnedFits m final (Over halt trace) = HaltFits m final halt

module _ {W : Type 0} (K : Kind W) (m : Module) (fits : ModuleFits m) (final : List ValType) (draw : ℕ → Bool → W) (reply : Reply W) where
  choice-fits : (b : Bool) (x y : Turned W) → TurnedFits m final x → TurnedFits m final y → TurnedFits m final (if b then x else y)
  choice-fits true x y h k = h
  choice-fits false x y h k = k

  replied-fits : (g : Going W) (q : Question) (w : W) (n : Option ℕ) → ConfigFits m final g.config → TurnedFits m final (replied g q w n)
  replied-fits g q w None h = tt
  replied-fits g q w (Some n) h = answered-fits m final g.config n h

  follow_by-fits : (g : Going W) (x : Next W) → ConfigFits m final g.config → NextFits m final x → TurnedFits m final (follow_by draw reply g x)
  follow_by-fits g (Goes c) h k = k
  follow_by-fits g (Draws wide c) h k = k (draw (length g.trace.symbols) wide)
  follow_by-fits g (Asks q w) h k = replied-fits g q w (reply q w g.trace.answers) h
  follow_by-fits g (Ends e) h k = k

  follow-fits : (steps : ℕ) (g : Going W) → ConfigFits m final g.config → TurnedFits m final (follow K draw reply m steps g)
  follow-fits steps g h =
      choice-fits (nat_lt most_frames (length g.config.callers)) _ _ tt
      (choice-fits (is_due g.config.frame.here.code g.config.callers && nat_le steps g.config.units) _ _ tt (follow_by-fits g (step K m g.config) h (step-fits K m fits final g.config h)))

  then-fits : (x : Turned W) (go : Going W → Turned W) → TurnedFits m final x → ((g : Going W) → ConfigFits m final g.config → TurnedFits m final (go g)) → TurnedFits m final (then_follow x go)
  then-fits (On g) go h f = f g h
  then-fits (Over halt trace) go h f = h

  follows-fits : (steps n : ℕ) (g : Going W) → ConfigFits m final g.config → TurnedFits m final (follows K draw reply m steps n g)
  follows-fits steps zero g h = h
  follows-fits steps (suc n) g h = then-fits (follow K draw reply m steps g) (follows K draw reply m steps n) (follow-fits steps g h) (λ g h. follows-fits steps n g h)

-- ---- from the start

trap-fits : {W : Type 0} (m : Module) (final : List ValType) (e : End W) → IsTrap e → EndFits m final e
trap-fits m final (Traps cause) h = tt
trap-fits m final (Returns vs) h = absurd h
trap-fits m final Fails h = absurd h
trap-fits m final Assumes h = absurd h
trap-fits m final Stuck h = absurd h

started-fits : {W : Type 0} (m : Module) (final : List ValType) (x : Result (Config W) (End W)) → StartFits m final x → TurnedFits m final (started_by x)
started-fits m final (Ok c) h = h
started-fits m final (Err e) h = trap-fits m final e h

pub runs-fit : {W : Type 0} (K : Kind W) (draw : ℕ → Bool → W) (reply : Reply W) (m : Module) (entry : ℕ) (args : List Argument) (steps n : ℕ) → CanBeRun m → (h : Fit m entry args) →
    TurnedFits m h.types.type.results (runs K draw reply m entry args steps n)
runs-fit K draw reply m entry args steps n can h =
    let fits = module-fits m can.shape can.valid can.ready in
    then-fits K m fits h.types.type.results draw reply (started K m entry args) (follows K draw reply m steps n)
    (started-fits m h.types.type.results (first_config K m entry args) (first-fits K m can entry args h))
    (λ g k. follows-fits K m fits h.types.type.results draw reply steps n g k)

-- ---- the laws

pub step-unstuck : {W : Type 0} (K : Kind W) (m : Module) (final : List ValType) (c : Config W) → CanBeRun m → ConfigFits m final c → step K m c ≢ Ends Stuck
step-unstuck K m final c can h e = subst (NextFits m final) e (step-fits K m (module-fits m can.shape can.valid can.ready) final c h)

pub run-unstuck : {W : Type 0} (K : Kind W) (draw : ℕ → Bool → W) (reply : Reply W) (m : Module) (entry : ℕ) (args : List Argument) (steps n : ℕ) → CanBeRun m → Fit m entry args →
    (trace : Trace) → runs K draw reply m entry args steps n ≢ Over (Ended Stuck) trace
run-unstuck K draw reply m entry args steps n can h trace e = subst (TurnedFits m h.types.type.results) e (runs-fit K draw reply m entry args steps n can h)

pub has-one-run : (m : Module) (entry : ℕ) (args : List Argument) (input : List ℕ) (steps : ℕ) → CanBeRun m → Fit m entry args → HasOneRun m entry args input steps
has-one-run m entry args input steps can h = elim (comes-to-an-end m entry args input steps) [
  | inl r ↦ record { run = r.0; is_run = r.1; only = λ other is. one-run m entry args input steps other r.0 is r.1 }
  | inr stuck ↦ absurd (run-unstuck numbers (taken input) by_value m entry args steps stuck.0 can h stuck.1 stuck.2)
]

-- ---- the types of results

plain-type : (m : Module) (v : Value ℕ) (t : ValType) → ValueIs m v t → type_of (plain_value v) ≡ t
plain-type m (I32 n) I32Type h = refl
plain-type m (I64 n) I64Type h = refl
plain-type m (Ref (FuncRef f)) FuncRefType h = refl
plain-type m (Ref ExternRef) ExternRefType h = refl
plain-type m (I32 n) I64Type h = absurd h
plain-type m (I32 n) FuncRefType h = absurd h
plain-type m (I32 n) ExternRefType h = absurd h
plain-type m (I64 n) I32Type h = absurd h
plain-type m (I64 n) FuncRefType h = absurd h
plain-type m (I64 n) ExternRefType h = absurd h
plain-type m (Ref (FuncRef f)) I32Type h = absurd h
plain-type m (Ref (FuncRef f)) I64Type h = absurd h
plain-type m (Ref (FuncRef f)) ExternRefType h = absurd h
plain-type m (Ref ExternRef) I32Type h = absurd h
plain-type m (Ref ExternRef) I64Type h = absurd h
plain-type m (Ref ExternRef) FuncRefType h = absurd h

plain-types : (m : Module) (vs : List (Value ℕ)) (ts : List ValType) → Hold m vs (ofs ts) → map type_of (map plain_value vs) ≡ ts
plain-types m [] [] h = refl
plain-types m (v ∷ vs) (t ∷ ts) h = ap (λ x. x ∷ map type_of (map plain_value vs)) (plain-type m v t h.0) ∙ ap (λ l. t ∷ l) (plain-types m vs ts h.1)
plain-types m [] (t ∷ ts) h = absurd h
plain-types m (v ∷ vs) [] h = absurd h

end-types : (m : Module) (final : List ValType) (e : End ℕ) (vs : List Argument) → EndFits m final e → outcome_of_end e ≡ Some (Returned vs) → map type_of vs ≡ final
end-types m final (Returns ws) vs h e =
    let same : map plain_value ws ≡ vs = cc in
    subst (λ vs. map type_of vs ≡ final) same (plain-types m ws final h)
end-types m final (Traps cause) vs h e = absurd cc
end-types m final Fails vs h e = absurd cc
end-types m final Assumes vs h e = absurd cc
end-types m final Stuck vs h e = absurd cc

halt-types : (m : Module) (final : List ValType) (halt : Halt ℕ) (vs : List Argument) → HaltFits m final halt → outcome_of halt ≡ Some (Returned vs) → map type_of vs ≡ final
halt-types m final (Ended e) vs h is = end-types m final e vs h is
halt-types m final (Stands q w) vs h is = absurd cc
halt-types m final Bound vs h is = absurd cc
halt-types m final Deep vs h is = absurd cc

turned-types : (m : Module) (final : List ValType) (input : List ℕ) (x : Turned ℕ) (run : Run) (vs : List Argument) → TurnedFits m final x → run_of input x ≡ Some run → run.outcome ≡ Returned vs → map type_of vs ≡ final
turned-types m final input (On g) run vs h e o = absurd cc
turned-types m final input (Over halt trace) run vs h e o =
    let found = map-of (outcome_of halt) (λ outcome. record { outcome = outcome; draws = draws_from input 0 trace.symbols; answers = trace.answers }) run e in
    halt-types m final halt vs h (found.1 ∙ ap (λ outcome. Some outcome) (ap (λ run. run.outcome) found.2 ∙ o))

pub results-typed : (m : Module) (entry : ℕ) (args : List Argument) (input : List ℕ) (steps : ℕ) (run : Run) (vs : List Argument) → CanBeRun m → (h : Fit m entry args) → IsRun m entry args input steps run → run.outcome ≡ Returned vs →
    map type_of vs ≡ h.types.type.results
results-typed m entry args input steps run vs can h is o =
    turned-types m h.types.type.results input (runs_at m entry args input steps is.0) run vs (runs-fit numbers (taken input) by_value m entry args steps is.0 can h) is.1 o
