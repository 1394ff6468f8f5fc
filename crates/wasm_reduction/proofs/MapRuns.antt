-- A run is, under a map that keeps the operations, the run over the other kind of words with the same answers.
use Rattle.std.proofs.Common.{◌≡◌, ℕ, zero, suc, List, [], ◌∷◌, ◌++◌, map, length, reverse, refl, sym, ap, ◌∙◌}
use Rattle.std.specs.Prelude.{All, Bool, true, false, ◌&&◌, nat_lt, nat_le, if◌then◌else◌, Option, Some, None, Result, Ok, Err}
use Rattle.std.proofs.lemmas.List.{length-map}
use Rattle.wasm_ast.specs.declared.instructions.Instr.{Instr}
use Rattle.wasm_ast.specs.declared.instructions.Instr.TheVariants.{Call}
use Rattle.wasm_ast.specs.declared.modules.Module.{Module}
use Rattle.wasm_ast.specs.declared.runs.Value.{Value as Argument}
use Rattle.wasm_rules.specs.Words.{Kind, Gives, bits_where}
use Rattle.wasm_check.specs.Modules.{IsValid}
use Rattle.wasm_image.specs.Ready.{IsReady}
use Rattle.wasm_reduction.specs.Configurations.{Value, I32, I64, Ref, Store, Frame, Config, Question, End, Returns, Traps, Fails, Assumes, Stuck, Next, Goes, Draws, Asks, Ends}
use Rattle.wasm_reduction.specs.Combinators.{valued}
use Rattle.wasm_reduction.specs.Steps.{step}
use Rattle.wasm_reduction.specs.Images.{value_image, values_image, store_image, frame_image, config_image, next_image}
use Rattle.wasm_reduction.specs.Instantiation.{Instantiated, instantiated, argument, start_call, invoked, first_config}
use Rattle.wasm_reduction.specs.Maps.{KeepsOperations}
use Rattle.wasm_reduction.specs.Widths.{HasNumbers, ArgumentFits, HasWidths, NextHasWidths}
use Rattle.wasm_reduction.specs.Runs.{Going, Ended, Bound, Deep, Turned, On, Over, Reply, replied, follow_by, is_due, most_frames, follow, then_follow, follows, no_trace, started_by, started, runs}
use Rattle.wasm_reduction.specs.RunImages.{going_image, turned_image}
use Rattle.wasm_reduction.proofs.MapLemmas.{map-reverse, numbers-image}
use Rattle.wasm_reduction.proofs.MapSteps.{valued-image, step-image}
use Rattle.wasm_reduction.proofs.WideSteps.{CodeInRange, step-wide, answered-wide, symbol-wide, wide-is}
use Rattle.wasm_reduction.proofs.WideStarts.{first-wide}

abbrev begun : {W : Type 0} → Store W → List (Value W) → List Instr → Config W
begun store vals code = record {
  store = store;
  frame = record { arity = 0; locals = []; seqs = []; here = record { arity = 0; again = []; vals = vals; code = code }; outer = [] };
  callers = [];
  answers = [];
  units = 0;
}

-- the symbols' words under the map, and the same answers
module _ {V W : Type 0} (h : V → W) (draw : ℕ → Bool → V) (drawn : ℕ → Bool → W) (drawn-is : (k : ℕ) (wide : Bool) → drawn k wide ≡ h (draw k wide))
    (reply : Reply V) (answer : Reply W) (same : (q : Question) (w : V) (given : List ℕ) → answer q (h w) given ≡ reply q w given) where
  choice-turned : (b : Bool) (x y : Turned V) (x' y' : Turned W) → x' ≡ turned_image h x → y' ≡ turned_image h y → (if b then x' else y') ≡ turned_image h (if b then x else y)
  choice-turned true x y x' y' e f = e
  choice-turned false x y x' y' e f = f

  replied-image : (g : Going V) (q : Question) (w : V) (o : Option ℕ) → replied (going_image h g) q (h w) o ≡ turned_image h (replied g q w o)
  replied-image g q w None = refl
  replied-image g q w (Some n) = refl

  follow_by-image : (g : Going V) (x : Next V) → follow_by drawn answer (going_image h g) (next_image h x) ≡ turned_image h (follow_by draw reply g x)
  follow_by-image g (Goes c) = refl
  follow_by-image g (Draws wide c) =
      ap (λ v. On (record {
        config = record (config_image h c) { frame = record (frame_image h c.frame) { here = record ((config_image h c).frame.here) { vals = v ∷ values_image h c.frame.here.vals } } };
        trace = record (g.trace) { symbols = g.trace.symbols ++ wide ∷ [] };
      })) (ap (valued wide) (drawn-is (length g.trace.symbols) wide) ∙ valued-image h wide (draw (length g.trace.symbols) wide))
  follow_by-image g (Asks q w) = ap (λ o. replied (going_image h g) q (h w) o) (same q w g.trace.answers) ∙ replied-image g q w (reply q w g.trace.answers)
  follow_by-image g (Ends e) = refl

  due-image : (code : List Instr) (fs : List (Frame V)) → is_due code (map (frame_image h) fs) ≡ is_due code fs
  due-image [] [] = refl
  due-image [] (f ∷ fs) = refl
  due-image (i ∷ is) [] = refl
  due-image (i ∷ is) (f ∷ fs) = refl

  module _ (Has : ℕ → V → Type 0) (K : Kind V) (L : Kind W) (g : Gives K Has) (k : KeepsOperations Has K L h) (m : Module) (code : CodeInRange m) (steps : ℕ) where
    follow-image : (at : Going V) → HasWidths Has at.config → follow L drawn answer m steps (going_image h at) ≡ turned_image h (follow K draw reply m steps at)
    follow-image at w =
        ap (λ n. if nat_lt most_frames n then Over Deep at.trace else if is_due at.config.frame.here.code (map (frame_image h) at.config.callers) && nat_le steps at.config.units then Over Bound at.trace else follow_by drawn answer (going_image h at) (step L m (config_image h at.config))) (length-map at.config.callers (frame_image h))
        ∙ ap (λ b. if nat_lt most_frames (length at.config.callers) then Over Deep at.trace else if b && nat_le steps at.config.units then Over Bound at.trace else follow_by drawn answer (going_image h at) (step L m (config_image h at.config))) (due-image at.config.frame.here.code at.config.callers)
        ∙ choice-turned (nat_lt most_frames (length at.config.callers)) (Over Deep at.trace) _ (Over Deep at.trace) _ refl
        (choice-turned (is_due at.config.frame.here.code at.config.callers && nat_le steps at.config.units) (Over Bound at.trace) (follow_by draw reply at (step K m at.config)) (Over Bound at.trace) _ refl
        (ap (λ x. follow_by drawn answer (going_image h at) x) (step-image Has h K L g k m at.config (wide-is Has at.config w)) ∙ follow_by-image at (step K m at.config)))

    -- ---- widths over a turn

    abbrev TurnedWide : Turned V → Type 0
    TurnedWide (On at) = HasWidths Has at.config
    TurnedWide (Over halt trace) = Unit {0}

    choice-wide : (b : Bool) (x y : Turned V) → TurnedWide x → TurnedWide y → TurnedWide (if b then x else y)
    choice-wide true x y p q = p
    choice-wide false x y p q = q

    replied-wide : (at : Going V) (q : Question) (w : V) (o : Option ℕ) → HasWidths Has at.config → TurnedWide (replied at q w o)
    replied-wide at q w None p = tt
    replied-wide at q w (Some n) p = answered-wide Has at.config n p

    module _ (has : (k : ℕ) (wide : Bool) → Has (bits_where wide) (draw k wide)) where
      follow_by-wide : (at : Going V) (x : Next V) → HasWidths Has at.config → NextHasWidths Has x → TurnedWide (follow_by draw reply at x)
      follow_by-wide at (Goes c) p q = q
      follow_by-wide at (Draws wide c) p q = symbol-wide Has c wide (draw (length at.trace.symbols) wide) q (has (length at.trace.symbols) wide)
      follow_by-wide at (Asks q w) p r = replied-wide at q w (reply q w at.trace.answers) p
      follow_by-wide at (Ends e) p q = tt

      follow-wide : (at : Going V) → HasWidths Has at.config → TurnedWide (follow K draw reply m steps at)
      follow-wide at p =
          choice-wide (nat_lt most_frames (length at.config.callers)) (Over Deep at.trace) _ tt
          (choice-wide (is_due at.config.frame.here.code at.config.callers && nat_le steps at.config.units) (Over Bound at.trace) _ tt (follow_by-wide at (step K m at.config) p (step-wide Has K g m code at.config p)))

      then-image : (x : Turned V) (go : Going V → Turned V) (on : Going W → Turned W) → TurnedWide x → ((at : Going V) → HasWidths Has at.config → on (going_image h at) ≡ turned_image h (go at)) →
          then_follow (turned_image h x) on ≡ turned_image h (then_follow x go)
      then-image (On at) go on p f = f at p
      then-image (Over halt trace) go on p f = refl

      pub follows-image : (n : ℕ) (at : Going V) → HasWidths Has at.config → follows L drawn answer m steps n (going_image h at) ≡ turned_image h (follows K draw reply m steps n at)
      follows-image zero at p = refl
      follows-image (suc n) at p =
          ap (λ x. then_follow x (follows L drawn answer m steps n)) (follow-image at p)
          ∙ then-image (follow K draw reply m steps at) (follows K draw reply m steps n) (follows L drawn answer m steps n) (follow-wide at p) (λ at p. follows-image n at p)

      -- ---- from the start

      image-twice : (v : Value ℕ) → value_image L.number v ≡ value_image h (value_image K.number v)
      image-twice (I32 n) = ap (λ w. I32 w) (sym (k.number n))
      image-twice (I64 n) = ap (λ w. I64 w) (sym (k.number n))
      image-twice (Ref r) = refl

      images-twice : (vs : List (Value ℕ)) → values_image L.number vs ≡ values_image h (values_image K.number vs)
      images-twice [] = refl
      images-twice (v ∷ vs) = ap (λ x. x ∷ values_image L.number vs) (image-twice v) ∙ ap (λ l. value_image h (value_image K.number v) ∷ l) (images-twice vs)

      arguments-twice : (args : List Argument) → map (λ a. value_image L.number (argument a)) args ≡ values_image h (map (λ a. value_image K.number (argument a)) args)
      arguments-twice [] = refl
      arguments-twice (a ∷ args) = ap (λ x. x ∷ map (λ a. value_image L.number (argument a)) args) (image-twice (argument a)) ∙ ap (λ l. value_image h (value_image K.number (argument a)) ∷ l) (arguments-twice args)

      store-twice : (s : Store ℕ) → store_image L.number s ≡ store_image h (store_image K.number s)
      store-twice s =
          ap (λ globals. record { globals = globals; tables = s.tables; memory = map L.number s.memory; elems = s.elems; datas = s.datas }) (images-twice s.globals)
          ∙ ap (λ memory. record { globals = values_image h (values_image K.number s.globals); tables = s.tables; memory = memory; elems = s.elems; datas = s.datas }) (numbers-image Has h K L g k s.memory)

      start-image : (entry : ℕ) (args : List Argument) (x : Instantiated) → started_by (invoked L m entry args x) ≡ turned_image h (started_by (invoked K m entry args x))
      start-image entry args (Err (Returns vs)) = ap (λ vs. Over (Ended (Returns vs)) no_trace) (images-twice vs)
      start-image entry args (Err (Traps cause)) = refl
      start-image entry args (Err Fails) = refl
      start-image entry args (Err Assumes) = refl
      start-image entry args (Err Stuck) = refl
      start-image entry args (Ok s) =
          ap (λ store. On (record { config = begun store (reverse (map (λ a. value_image L.number (argument a)) args)) (start_call m.start ++ Call entry ∷ []); trace = no_trace })) (store-twice s)
          ∙ ap (λ vals. On (record { config = begun (store_image h (store_image K.number s)) vals (start_call m.start ++ Call entry ∷ []); trace = no_trace }))
          (ap reverse (arguments-twice args) ∙ sym (map-reverse (value_image h) (map (λ a. value_image K.number (argument a)) args)))

      start-wide : (x : Result (Config V) (End V)) → ((c : Config V) → x ≡ Ok c → HasWidths Has c) → TurnedWide (started_by x)
      start-wide (Ok c) p = p c refl
      start-wide (Err e) p = tt

      pub runs-image : HasNumbers m → IsValid m → IsReady m → (entry : ℕ) (args : List Argument) → All ArgumentFits args → (n : ℕ) →
          runs L drawn answer m entry args steps n ≡ turned_image h (runs K draw reply m entry args steps n)
      runs-image numbers valid ready entry args fit n =
          ap (λ x. then_follow x (follows L drawn answer m steps n)) (start-image entry args (instantiated m))
          ∙ then-image (started K m entry args) (follows K draw reply m steps n) (follows L drawn answer m steps n)
          (start-wide (first_config K m entry args) (λ c e. first-wide Has K g m entry args c numbers valid ready fit e)) (λ at p. follows-image n at p)
