-- Where a run stands at a question; and that inputs that have answered alike do alike.
use Rattle.std.proofs.Common.{◌≡◌, ℕ, zero, suc, ◌+◌, ◌≤◌, List, [], ◌∷◌, ◌++◌, All, map, length, refl, sym, ap, ◌∙◌, subst, inl, inr, arith}
use Rattle.std.specs.Prelude.{Bool, Option, Some, None, option_map, slice_get}
use Rattle.std.proofs.lemmas.Bool.{cases_lt}
use Rattle.wasm_ast.specs.declared.modules.Module.{Module}
use Rattle.wasm_ast.specs.declared.runs.Value.{Value as PlainValue}
use Rattle.wasm_ast.specs.declared.runs.Value.TheVariants.{I32 as I32Value, I64 as I64Value, Func as FuncValue, Extern as ExternValue}
use Rattle.wasm_ast.specs.declared.runs.Outcome.{Outcome}
use Rattle.wasm_ast.specs.declared.runs.Outcome.TheVariants.{Returns as Returned, Traps as Trapped, Fails as Failed, Assumes as AssumeFailed, Bound as BoundReached, Deep as TooDeep}
use Rattle.wasm_ast.specs.declared.runs.Draw.{Draw}
use Rattle.wasm_rules.specs.Words.{Kind, Gives, numbers, blanks, taken}
use Rattle.wasm_check.specs.Modules.{IsValid}
use Rattle.wasm_image.specs.Ready.{IsReady}
use Rattle.wasm_reduction.specs.Configurations.{FuncRef, ExternRef, Value, I32, I64, Ref, Question, End, Returns, Traps, Fails, Assumes, Stuck}
use Rattle.wasm_reduction.specs.Instantiation.{first_config}
use Rattle.wasm_reduction.specs.Images.{value_image, values_image, config_image, blank}
use Rattle.wasm_reduction.specs.Maps.{KeepsOperations}
use Rattle.wasm_reduction.specs.Widths.{HasNumbers, ArgumentFits}
use Rattle.wasm_reduction.specs.Runs.{Trace, Going, Halt, Stands, Ended, Bound, Deep, Turned, On, Over, Reply, replied, follow_by, follow, then_follow, follows, runs, by_list, plain_value, outcome_of, draws_from, runs_at}
use Rattle.wasm_reduction.specs.RunImages.{trace_of, BeginsWith, going_image, halt_image, turned_image}
use Rattle.wasm_reduction.specs.Scripts.{Script, Finished, Asked, IsFirst, ComesTo, widths, without_number, without_numbers, Alike, StandsAt, SamePlace}
use Rattle.wasm_reduction.proofs.WideStarts.{code-in-range}
use Rattle.wasm_reduction.proofs.MapRuns.{runs-image}
use Rattle.wasm_reduction.proofs.ListedRuns.{begins-empty, begins-unasked, all-given, follows-ask, follows-within, stays-over, IsAsking}
use Rattle.wasm_reduction.proofs.ScriptRuns.{Listed, Start, listed-agree, next-turn}

module _ (m : Module) (entry : ℕ) (args : List PlainValue) (input : List ℕ) (steps : ℕ) where
  abbrev L : List ℕ → ℕ → Turned ℕ
  L A n = Listed m entry args input steps A n

  still : (A : List ℕ) (x : Turned ℕ) (n k : ℕ) → n ≤ k → (halt : Halt ℕ) (trace : Trace) → then_follow x (follows numbers (taken input) (by_list A) m steps n) ≡ Over halt trace →
      then_follow x (follows numbers (taken input) (by_list A) m steps k) ≡ Over halt trace
  still A (On g) n k l halt trace e = stays-over numbers (taken input) m steps (by_list A) n k l g halt trace e
  still A (Over i s) n k l halt trace e = e

  -- the place of a question, once the run stands at it
  pub place : (A : List ℕ) (q : Question) (v n : ℕ) (trace : Trace) → L A n ≡ Over (Stands q v) trace →
      (at : Going ℕ) × StandsAt m entry args input steps A q v at × (at.trace ≡ trace) × IsAsking numbers (taken input) m steps at q v × (at.trace.answers ≡ A)
  place A q v n trace e = at (Start m entry args input steps) refl e
    where
      at : (x : Turned ℕ) → Start m entry args input steps ≡ x → then_follow x (follows numbers (taken input) (by_list A) m steps n) ≡ Over (Stands q v) trace →
          (at : Going ℕ) × StandsAt m entry args input steps A q v at × (at.trace ≡ trace) × IsAsking numbers (taken input) m steps at q v × (at.trace.answers ≡ A)
      at (Over halt s) is e = absurd (begins-unasked (first_config numbers m entry args) q v trace (is ∙ e))
      at (On g) is e =
          let a = follows-ask numbers (taken input) m steps A n g q v trace e in
          let empty : g.trace.answers ≡ [] = begins-empty (first_config numbers m entry args) g is in
          let within : BeginsWith A a.at.trace.answers = subst (λ x. BeginsWith A (trace_of x).answers) a.comes (follows-within numbers (taken input) m steps A a.turns g (subst (BeginsWith A) (sym empty) (A, refl))) in (
            a.at,
            record {
              turns = a.turns;
              comes = ap (λ x. then_follow x (follows numbers (taken input) (by_list A) m steps a.turns)) is ∙ a.comes;
              stands = a.asks.1 (by_list A) ∙ ap (follow_by (taken input) (by_list A) a.at) a.asks.0 ∙ ap (λ o. replied a.at q v o) a.none;
            },
            a.given,
            a.asks,
            all-given A a.at.trace.answers within a.none,
          )

  -- after one turn more the run is over
  pub stands-over : (A : List ℕ) (q : Question) (v : ℕ) (at : Going ℕ) (s : StandsAt m entry args input steps A q v at) → L A (suc s.turns) ≡ Over (Stands q v) at.trace
  stands-over A q v at s = next-turn m entry args input steps (by_list A) (Start m entry args input steps) s.turns ∙ ap (λ x. then_follow x (follow numbers (taken input) (by_list A) m steps)) s.comes ∙ s.stands

  -- a run that is over after one turn more, and one that goes on, have made at most as many turns
  pub goes-before : (A : List ℕ) (n k : ℕ) (halt : Halt ℕ) (trace : Trace) (g : Going ℕ) → L A (suc n) ≡ Over halt trace → L A k ≡ On g → k ≤ n
  goes-before A n k halt trace g e f = elim (cases_lt n k) [
    | inl l ↦ absurd (let over : L A k ≡ Over halt trace = still A (Start m entry args input steps) (suc n) k (omega (arith, l)) halt trace e in let both : On g ≡ Over halt trace = sym f ∙ over in cc)
    | inr l ↦ l
  ]

  -- and there is one
  pub one-place : (A : List ℕ) (q p : Question) (v w : ℕ) (at there : Going ℕ) → StandsAt m entry args input steps A q v at → StandsAt m entry args input steps A p w there → (q ≡ p) × (v ≡ w) × (at ≡ there)
  one-place A q p v w at there s t =
      let first = stands-over A q v at s in
      let second = stands-over A p w there t in
      let halts = listed-agree m entry args input steps A (suc s.turns) (suc t.turns) (Stands q v) (Stands p w) at.trace there.trace first second in
      let halt : Stands q v ≡ Stands p w = halts.0 in
      let less : s.turns ≤ t.turns = goes-before A t.turns s.turns (Stands p w) there.trace at second s.comes in
      let more : t.turns ≤ s.turns = goes-before A s.turns t.turns (Stands q v) at.trace there first t.comes in
      let turns : s.turns ≡ t.turns = omega (arith, less, more) in
      let both : On at ≡ On there = sym s.comes ∙ ap (L A) turns ∙ t.comes in
      (cc, cc, cc)

-- ---- words that mean nothing

abbrev Any : ℕ → ℕ → Type 0
Any bits n = Unit {0}

numbers-any : Gives numbers Any
numbers-any = record {
  number = λ bits n h. tt;
  unary = λ op a u h. tt;
  binary = λ op a b u h k. tt;
  choose = λ wide c a b h i j. tt;
  byte = λ a i l h. tt;
  join = λ wide bytes h i. tt;
}

-- words can be forgotten
pub keeps-blank : {V : Type 0} (Has : ℕ → V → Type 0) (K : Kind V) → KeepsOperations Has K blanks blank
keeps-blank Has K = record {
  number = λ n. refl;
  unary = λ op a u h. refl;
  binary = λ op a b u h k. refl;
  choose = λ wide c a b h i j. refl;
  byte = λ a i l h. refl;
  join = λ wide bytes h i. refl;
}

-- what is left of an outcome
abbrev blank_value : Value (Unit {0}) → PlainValue
blank_value (I32 w) = I32Value 0
blank_value (I64 w) = I64Value 0
blank_value (Ref (FuncRef f)) = FuncValue f
blank_value (Ref ExternRef) = ExternValue

abbrev blank_outcome : Halt (Unit {0}) → Option Outcome
blank_outcome (Stands q w) = None
blank_outcome (Ended (Returns vs)) = Some (Returned (map blank_value vs))
blank_outcome (Ended (Traps cause)) = Some (Trapped cause)
blank_outcome (Ended Fails) = Some Failed
blank_outcome (Ended Assumes) = Some AssumeFailed
blank_outcome (Ended Stuck) = None
blank_outcome Bound = Some BoundReached
blank_outcome Deep = Some TooDeep

one-value : (v : Value ℕ) → without_number (plain_value v) ≡ blank_value (value_image blank v)
one-value (I32 n) = refl
one-value (I64 n) = refl
one-value (Ref (FuncRef f)) = refl
one-value (Ref ExternRef) = refl

all-values : (vs : List (Value ℕ)) → map without_number (map plain_value vs) ≡ map blank_value (values_image blank vs)
all-values [] = refl
all-values (v ∷ vs) = ap (λ x. x ∷ map without_number (map plain_value vs)) (one-value v) ∙ ap (λ l. blank_value (value_image blank v) ∷ l) (all-values vs)

blank-halt : (halt : Halt ℕ) → option_map without_numbers (outcome_of halt) ≡ blank_outcome (halt_image blank halt)
blank-halt (Stands q v) = refl
blank-halt (Ended (Returns vs)) = ap (λ l. Some (Returned l)) (all-values vs)
blank-halt (Ended (Traps cause)) = refl
blank-halt (Ended Fails) = refl
blank-halt (Ended Assumes) = refl
blank-halt (Ended Stuck) = refl
blank-halt Bound = refl
blank-halt Deep = refl

pub widths-drawn : (input : List ℕ) (k : ℕ) (symbols : List Bool) → widths (draws_from input k symbols) ≡ symbols
widths-drawn input k [] = refl
widths-drawn input k (wide ∷ symbols) = ap (λ l. wide ∷ l) (widths-drawn input (k + 1) symbols)

module _ (m : Module) (entry : ℕ) (args : List PlainValue) (steps : ℕ) (fit : HasNumbers m) (valid : IsValid m) (ready : IsReady m) (arguments : All ArgumentFits args) (A : List ℕ) where
  abbrev By : List ℕ → ℕ → Turned ℕ
  By input n = Listed m entry args input steps A n

  image : (input : List ℕ) (n : ℕ) → runs blanks (λ k wide. tt) (by_list A) m entry args steps n ≡ turned_image blank (By input n)
  image input n = runs-image blank (taken input) (λ k wide. tt) (λ k wide. refl) (by_list A) (by_list A) (λ q x given. refl) Any numbers blanks numbers-any (keeps-blank Any numbers) m (code-in-range m fit) steps (λ k wide. tt)
      fit valid ready entry args arguments n

  -- two inputs that are answered alike
  pub same-images : (I O : List ℕ) (n : ℕ) → turned_image blank (By I n) ≡ turned_image blank (By O n)
  same-images I O n = sym (image I n) ∙ image O n

  over-alike : (I O : List ℕ) (n k : ℕ) (h i : Halt ℕ) (s t : Trace) → By I n ≡ Over h s → By O k ≡ Over i t → (halt_image blank h ≡ halt_image blank i) × (s ≡ t)
  over-alike I O n k h i s t e f = at (By O n) refl
    where
      at : (x : Turned ℕ) → By O n ≡ x → (halt_image blank h ≡ halt_image blank i) × (s ≡ t)
      at (On g) is = absurd (let both : Over (halt_image blank h) s ≡ On (going_image blank g) = sym (ap (turned_image blank) e) ∙ same-images I O n ∙ ap (turned_image blank) is in cc)
      at (Over j u) is =
          let both : Over (halt_image blank h) s ≡ Over (halt_image blank j) u = sym (ap (turned_image blank) e) ∙ same-images I O n ∙ ap (turned_image blank) is in
          let halts : halt_image blank h ≡ halt_image blank j = cc in
          let traces : s ≡ u = cc in
          let same = listed-agree m entry args O steps A n k j i u t is f in
          (halts ∙ ap (halt_image blank) same.0, traces ∙ same.1)

  drawn-alike : (I O : List ℕ) (s t : Trace) (d e : List Draw) → draws_from I 0 s.symbols ≡ d → draws_from O 0 t.symbols ≡ e → s ≡ t → widths d ≡ widths e
  drawn-alike I O s t d e f g same =
      ap widths (sym f) ∙ widths-drawn I 0 s.symbols ∙ ap (λ t. t.symbols) same ∙ sym (widths-drawn O 0 t.symbols) ∙ ap widths g

  pub firsts-alike : (I O : List ℕ) (s t : Script) → ComesTo m entry args I steps A s → ComesTo m entry args O steps A t → Alike s t
  firsts-alike I O s t c d = at s t c.first d.first
    where
      same : (halt_image blank c.halt ≡ halt_image blank d.halt) × (c.trace ≡ d.trace)
      same = over-alike I O c.turns d.turns c.halt d.halt c.trace d.trace c.over d.over

      ends : option_map without_numbers (outcome_of c.halt) ≡ option_map without_numbers (outcome_of d.halt)
      ends = blank-halt c.halt ∙ ap blank_outcome same.0 ∙ sym (blank-halt d.halt)

      at : (s t : Script) → IsFirst I c.halt c.trace s → IsFirst O d.halt d.trace t → Alike s t
      at (Finished o x) (Finished p y) f g =
          let both : Some (without_numbers o) ≡ Some (without_numbers p) = sym (ap (option_map without_numbers) f.0) ∙ ends ∙ ap (option_map without_numbers) g.0 in
          (cc, drawn-alike I O c.trace d.trace x y f.1 g.1 same.1)
      at (Finished o x) (Asked q v y t) f g =
          absurd (let both : Some (without_numbers o) ≡ None = sym (ap (option_map without_numbers) f.0) ∙ ends ∙ ap (λ h. option_map without_numbers (outcome_of h)) g.0 in cc)
      at (Asked q v x s) (Finished p y) f g =
          absurd (let both : Some (without_numbers p) ≡ None = sym (ap (option_map without_numbers) g.0) ∙ sym ends ∙ ap (λ h. option_map without_numbers (outcome_of h)) f.0 in cc)
      at (Asked q v x s) (Asked p w y t) f g =
          let both : Stands q tt ≡ Stands p tt = sym (ap (halt_image blank) f.0) ∙ same.0 ∙ ap (halt_image blank) g.0 in
          (cc, drawn-alike I O c.trace d.trace x y f.1 g.1 same.1)

  -- they stand at the same place
  pub places-alike : (I O : List ℕ) (q p : Question) (v w : ℕ) (here there : Going ℕ) → StandsAt m entry args I steps A q v here → StandsAt m entry args O steps A p w there → (q ≡ p) × SamePlace here there
  places-alike I O q p v w here there s t = at (By O s.turns) refl
    where
      first : By I (suc s.turns) ≡ Over (Stands q v) here.trace
      first = stands-over m entry args I steps A q v here s

      second : By O (suc t.turns) ≡ Over (Stands p w) there.trace
      second = stands-over m entry args O steps A p w there t

      same : (halt_image blank (Stands q v) ≡ halt_image blank (Stands p w)) × (here.trace ≡ there.trace)
      same = over-alike I O (suc s.turns) (suc t.turns) (Stands q v) (Stands p w) here.trace there.trace first second

      -- the second is over after as many turns, too
      other : (x : Turned ℕ) → By O (suc s.turns) ≡ x → (halt : Halt ℕ) × (trace : Trace) × (By O (suc s.turns) ≡ Over halt trace)
      other (Over halt trace) is = (halt, trace, is)
      other (On g) is = absurd (let both : Over (Stands q tt) here.trace ≡ On (going_image blank g) = sym (ap (turned_image blank) first) ∙ same-images I O (suc s.turns) ∙ ap (turned_image blank) is in cc)

      at : (x : Turned ℕ) → By O s.turns ≡ x → (q ≡ p) × SamePlace here there
      at (Over halt trace) is = absurd (let both : On (going_image blank here) ≡ Over (halt_image blank halt) trace = sym (ap (turned_image blank) s.comes) ∙ same-images I O s.turns ∙ ap (turned_image blank) is in cc)
      at (On g) is =
          let question : Stands q tt ≡ Stands p tt = same.0 in
          let over = other (By O (suc s.turns)) refl in
          let less : s.turns ≤ t.turns = goes-before m entry args O steps A t.turns s.turns (Stands p w) there.trace g second is in
          let more : t.turns ≤ s.turns = goes-before m entry args O steps A s.turns t.turns over.0 over.1 there over.2 t.comes in
          let turns : s.turns ≡ t.turns = omega (arith, less, more) in
          let found : On g ≡ On there = sym is ∙ ap (By O) turns ∙ t.comes in
          let there_is : g ≡ there = cc in
          let images : On (going_image blank here) ≡ On (going_image blank g) = sym (ap (turned_image blank) s.comes) ∙ same-images I O s.turns ∙ ap (turned_image blank) is in
          let goings : going_image blank here ≡ going_image blank g = cc in
          (cc, (ap (λ g. g.config) goings ∙ ap (λ g. config_image blank g.config) there_is, same.1))
