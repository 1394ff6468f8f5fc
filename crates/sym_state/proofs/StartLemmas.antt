-- The state in which a path begins.
use Rattle.std.proofs.Common.{◌≡◌, ◌≢◌, ℕ, zero, ◌*◌, List, [], ◌∷◌, ◌++◌, refl, sym, ap, ◌∙◌, subst, arith}
use Rattle.std.specs.Prelude.{All, false, Result, Ok, Err, map, replicate, slice_index}
use Rattle.std.proofs.lemmas.List.Elements.{All-tail}
use Rattle.wasm_ast.specs.declared.modules.Module.{Module}
use Rattle.wasm_reduction.specs.Configurations.{Config, End, Stuck}
use Rattle.wasm_reduction.specs.Memories.{page_bytes}
use Rattle.wasm_reduction.specs.Instantiation.{first_memory, Instantiated, instantiated, invoked, first_config}
use Rattle.wasm_reduction.specs.Runs.{Trace, Turned, On, Over, Ended as RunEnded, by_list, follows, then_follow, started_by, no_trace}
use Rattle.wasm_reduction.specs.RunImages.{trace_of}
use Rattle.bv_terms.specs.Terms.{Term}
use Rattle.bv_terms.specs.declared.words.Word.TheVariants.{Term as Numbered}
use Rattle.bv_terms.specs.Graphs.{Holds}
use Rattle.wasm_start.specs.Starts.{BeginsAs}
use Rattle.wasm_start.specs.declared.start.Begun.{Begun}
use Rattle.wasm_start.specs.declared.start.Begun.TheVariants.{Ends as BegunEnds}
use Rattle.wasm_start.specs.declared.allocation.Stop.TheVariants.{Stuck as StopStuck}
use Rattle.sym_state.specs.code.Begins.{IsHeldAtFirst}
use Rattle.bv_terms.specs.Making.{terms}
use Rattle.sym_state.specs.Nodes.{AreMet, CanExplore, Invocation, IsAtMost, root}
use Rattle.sym_state.specs.States.{Stage, over_terms, Follows, IsAt, Least, numbers_taken, units_in}
use Rattle.sym_state.specs.Fields.{Fields, IsInOrder, IsStandingAt, StandsFor, cell_word, path_of, words_of_cells}
use Rattle.sym_state.proofs.CellLemmas.{map-replicate}
use Rattle.sym_state.proofs.ExactLemmas.{root-exact}
use Rattle.sym_state.proofs.LeastLemmas.{least-follows}
use Rattle.sym_state.proofs.PlaceLemmas.{at-answered}
use Rattle.sym_state.proofs.ValueLemmas.{place-values}

-- where the run is before its first turn
abbrev pub IsFirstStage : Invocation → Stage → Type 0
IsFirstStage i stage = IsAt stage (started_by (first_config terms i.«module» i.entry i.args))

module _ (i : Invocation) (can : CanExplore i) where
  none-before : (x : Turned Term) → then_follow x (follows terms terms.symbol (by_list []) i.«module» i.steps zero) ≡ x
  none-before (On g) = refl
  none-before (Over halt trace) = refl

  no-answers : (x : Result (Config Term) (End Term)) → (trace_of (started_by x)).answers ≡ []
  no-answers (Ok c) = refl
  no-answers (Err e) = refl

  no-symbols : (x : Result (Config Term) (End Term)) → (trace_of (started_by x)).symbols ≡ []
  no-symbols (Ok c) = refl
  no-symbols (Err e) = refl

  no-units : (x : Instantiated) → units_in (started_by (invoked terms i.«module» i.entry i.args x)) 0 ≡ 0
  no-units (Ok s) = refl
  no-units (Err e) = refl

  abbrev first : Result (Config Term) (End Term)
  first = first_config terms i.«module» i.entry i.args

  first-turned : over_terms (root i) 0 ≡ started_by first
  first-turned = none-before (started_by first)

  module _ (s : Fields) (of_module : s.«module» ≡ i.«module») (order : IsInOrder s) (conds : s.conds ≡ []) (draws : s.draws ≡ []) (least : s.least ≡ []) (choices : s.choices ≡ []) (asks : s.asks ≡ 0) (units : s.units ≡ 0)
      (stage : IsFirstStage i (path_of s).stage) (standing : IsStandingAt (root i) 0 s.graph s.config.standing) where
    at-first : IsAt (path_of s).stage (over_terms (root i) 0)
    at-first = subst (IsAt (path_of s).stage) (sym first-turned) stage

    abbrev begins : Follows (root i) (path_of s)
    begins = record {
      place = record {
        turns = 0;
        stage = at-first;
        answered = ap (λ x. (trace_of x).answers) first-turned ∙ no-answers first;
        values = λ I member. place-values (root i) can I 0 member (at-answered (path_of s).stage (over_terms (root i) 0) at-first);
        draws = draws ∙ sym (no-symbols first) ∙ ap (λ x. (trace_of x).symbols) (sym first-turned);
        asks = asks;
        units = units ∙ sym (no-units (instantiated i.«module»)) ∙ ap (λ x. units_in x 0) (sym first-turned);
      };
      members = λ I. (λ met. (root-exact i can I).0 tt, λ member. subst (λ l. AreMet I l) (sym none) tt);
      conditions = none;
      choices = choices;
      least = (root-exact i can s.least).0 tt;
    }
      where
        none : (path_of s).conditions ≡ []
        none = ap (λ l. (path_of (record s { conds = l })).conditions) conds

    pub root-stands : StandsFor (root i) s
    root-stands = record { of_module = of_module; can = can; order = order; follows = begins; standing = standing }

    pub root-least : Least (root i) (path_of s)
    root-least = least-follows (root i) (path_of s) can begins (record {
      meets = (begins.members s.least).1 begins.least;
      over = λ k. ap (λ l. slice_index l k) least ∙ ap (λ d. slice_index (numbers_taken s.least d) k) (sym draws);
      least = λ other met. subst (λ d. IsAtMost (numbers_taken s.least d) (numbers_taken other d)) (sym draws) tt;
    })

-- a run that is never stuck doesn't begin so
pub never-stuck-at-first : (i : Invocation) → ((n : ℕ) (trace : Trace) → over_terms (root i) n ≢ Over (RunEnded Stuck) trace) → first_config terms i.«module» i.entry i.args ≢ Err Stuck
never-stuck-at-first i never is = never 0 no_trace (ap (λ x. then_follow (started_by x) (follows terms terms.symbol (by_list []) i.«module» i.steps 0)) is)

-- ---- the code's beginning

-- cells of no words, all of them 0
pub first-words : (m : Module) (pages : ℕ) (cells : List ℕ) → first_memory m ≡ replicate (pages * page_bytes) 0 → words_of_cells cells ≡ replicate (pages * page_bytes) (cell_word 0) → words_of_cells cells ≡ map cell_word (first_memory m)
first-words m pages cells first is = is ∙ sym (map-replicate cell_word (pages * page_bytes) 0) ∙ ap (map cell_word) (sym first)

-- own minimums are among all
pub own-are-small : {A : Type 0} (P : A → Type 0) (xs ys : List A) → All P (xs ++ ys) → All P ys
own-are-small P [] ys h = h
own-are-small P (x ∷ xs) ys h = own-are-small P xs ys (All-tail P x (xs ++ ys) h)

pub not-stuck : {V W : Type 0} (h : V → W) (m : Module) (bytes : List W) (first : Result (Config W) (End W)) (begun : Begun V) → BeginsAs h m bytes first begun → first ≢ Err Stuck → begun ≢ BegunEnds StopStuck
not-stuck h m bytes first begun begins never is = never (subst (BeginsAs h m bytes first) is begins)

pub order-at-first : (s : Fields) → IsHeldAtFirst s.graph s.config → s.conds ≡ [] → s.broken ≡ false → IsInOrder s
order-at-first s held none whole = record {
  execution = held.execution;
  standing = held.standing;
  conds = subst (λ l. All (λ cond. Holds s.graph (Numbered cond.term)) l) (sym none) (λ k d below. absurd (omega (arith, below)));
  whole = whole;
}
