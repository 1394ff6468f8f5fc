-- Where the turns of a path stop, and how they go on.
use Rattle.std.proofs.Common.{◌≡◌, ◌≢◌, ℕ, suc, ◌<◌, List, [], ◌∷◌, ◌++◌, length, map, refl, sym, ap, ◌∙◌, subst, arith}
use Rattle.std.specs.Prelude.{Bool, true, false, ◌&&◌, nat_lt, nat_le, Some, None}
use Rattle.std.specs.List.{AllByRecursion}
use Rattle.std.proofs.lemmas.Bool.Decides.{nat_tests}
use Rattle.wasm_ast.specs.declared.modules.Module.{Module}
use Rattle.wasm_rules.specs.Words.{Kept}
use Rattle.bv_terms.specs.Terms.{Term, Number, Symbol}
use Rattle.bv_terms.specs.Making.{terms}
use Rattle.bv_terms.specs.Graphs.{TermGraph, Holds, Makes, term_of}
use Rattle.bv_terms.proofs.MakeLemmas.{makes-kept}
use Rattle.wasm_machine.specs.code.Moves.{pushed}
use Rattle.wasm_machine.specs.Configurations.{configuration}
use Rattle.wasm_machine.proofs.ActLaws.{push-config}
use Rattle.wasm_machine.proofs.Images.{sane-pushed}
use Rattle.wasm_reduction.specs.Combinators.{valued as valued_in}
use Rattle.sym_state.specs.Fields.{words_of_cells}
use Rattle.bv_terms.specs.declared.words.Word.{Word}
use Rattle.bv_terms.specs.declared.words.Word.TheVariants.{Num, Term as Numbered}
use Rattle.wasm_reduction.specs.Configurations.{Config, Assume, Returns, Traps, Fails, Assumes, Stuck, Next, Goes, Draws, Asks, Ends}
use Rattle.wasm_reduction.specs.Steps.{step, with_symbol}
use Rattle.wasm_reduction.specs.Runs.{Deep, Bound, is_due, most_frames, Ended as RunEnded}
use Rattle.wasm_reduction.specs.Outermost.{Ready}
use Rattle.wasm_reduction.proofs.Endings.{weight, Falls, step-falls, symbol-same}
use Rattle.wasm_machine.specs.declared.next.Question.{Question as CodeQuestion}
use Rattle.wasm_machine.specs.declared.next.Question.TheVariants.{Test as CodeTest, Pick as CodePick, Assume as CodeAssume}
use Rattle.wasm_machine.specs.declared.next.Next.TheVariants.{Goes as CodeGoes, Draws as CodeDraws, Asks as CodeAsks, Ends as CodeEnds}
use Rattle.wasm_machine.specs.declared.next.End.{End as CodeEnd}
use Rattle.wasm_machine.specs.declared.next.End.TheVariants.{Returns as CodeReturns, Traps as CodeTraps, Fails as CodeFails, Assumes as CodeAssumes, Stuck as CodeStuck}
use Rattle.wasm_machine.specs.declared.values.Reference.TheVariants.{Func, Extern}
use Rattle.wasm_machine.specs.declared.values.Value.{Value as CodeValue}
use Rattle.wasm_machine.specs.declared.values.Value.TheVariants.{I32 as CodeI32, I64 as CodeI64, Ref as CodeRef}
use Rattle.wasm_machine.specs.States.{State}
use Rattle.wasm_machine.specs.Values.{question, value, valued, end_of, EndHeld as MachineEndHeld, ValueHeld, ValuesHeld}
use Rattle.sym_state.specs.declared.config.Execution.{Execution}
use Rattle.sym_state.specs.declared.config.Standing.{Standing}
use Rattle.sym_state.specs.declared.config.Standing.TheVariants.{Asks as AsksThere, Ends as EndsThere}
use Rattle.sym_state.specs.declared.config.End.{End as PathEnd}
use Rattle.sym_state.specs.declared.config.End.TheVariants.{Returns as EndReturns, Traps as EndTraps, Fails as EndFails, Bound as EndBound, Deep as EndDeep, Void as EndVoid}
use Rattle.sym_state.specs.Nodes.{Node}
use Rattle.sym_state.specs.States.{Running, Ended, Path, Follows}
use Rattle.sym_state.specs.Fields.{IsStandingAt, StandingHeld, EndHeld, GivenHeld, results_of, term_at}
use Rattle.sym_step.specs.Steps.{AreNumbersAnswered, AreAsked, IsOver, StopsSo, gone_through, stop_at}
use Rattle.sym_step.specs.code.Ends.{ended, given_of}
use Rattle.sym_step.specs.code.Turning.{config_at, IsHeld, IsFree, running, IsOf, RunsSomewhere, Reaches, AllReach, Settles, StandsThere, IsHeldUnlessEnded}
use Rattle.sym_step.proofs.TurnLaws.{going, deep-turn, bound-turn, is-over, goes-on, draws-on, ends-so, ends-over, never-stuck, never-assumes, question-asked}
use Rattle.sym_step.proofs.SettleLaws.{words-kept, held-kept, later, reaches-self, Known, known, stands-at, kept-more, kept-self, through-append, numbers-append}

-- ---- one after another

pub reach-both : (m : Module) (steps : ℕ) (c : Config Term) (draws : List Bool) (asks : ℕ) (d : Config Term) (draws' : List Bool) (asks' : ℕ) (e : Config Term) (draws'' : List Bool) (asks'' : ℕ)
    → AllReach m steps c draws asks d draws' asks' → AllReach m steps d draws' asks' e draws'' asks'' → AllReach m steps c draws asks e draws'' asks''
reach-both m steps c draws asks d draws' asks' e draws'' asks'' f g n p is =
    let r = f n p is in
    let q = g (gone_through n r.answers) p (later m steps n (running p c draws asks) (running p d draws' asks') is r) in
    record {
      answers = r.answers ++ q.answers;
      numbers = numbers-append n r.answers q.answers r.numbers q.numbers;
      follows = subst (λ k. Follows k (running p e draws'' asks'')) (sym (through-append n r.answers q.answers)) q.follows;
    }

module _ (m : Module) (steps : ℕ) (c : Config Term) (draws : List Bool) (asks : ℕ) (free : IsFree steps c) where
  goes-once : (n : Node) (p : Path) (is : IsOf m steps n (running p c draws asks)) → (d : Config Term) → step terms m c ≡ Goes d → Follows n (running p d draws asks)
  goes-once n p is d e =
      goes-on n is.can (running p c draws asks) is.follows c refl (subst (λ s. IsFree s c) (sym is.bound) free) d (subst (λ m. step terms m c ≡ Goes d) is.of_module e)

  pub reach-goes : (d : Config Term) → step terms m c ≡ Goes d → AllReach m steps c draws asks d draws asks
  reach-goes d e n p is = reaches-self n (running p d draws asks) (goes-once n p is d e)

  draws-once : (n : Node) (p : Path) (is : IsOf m steps n (running p c draws asks)) → (wide : Bool) (d : Config Term) → step terms m c ≡ Draws wide d
      → Follows n (running p (with_symbol d wide (Symbol (length draws) wide)) (draws ++ wide ∷ []) asks)
  draws-once n p is wide d e =
      draws-on n is.can (running p c draws asks) is.follows c refl (subst (λ s. IsFree s c) (sym is.bound) free) wide d (subst (λ m. step terms m c ≡ Draws wide d) is.of_module e)

  pub reach-draws : (wide : Bool) (d e : Config Term) → step terms m c ≡ Draws wide d → e ≡ with_symbol d wide (Symbol (length draws) wide) → AllReach m steps c draws asks e (draws ++ wide ∷ []) asks
  reach-draws wide d e gives is n p of =
      subst (λ e. Reaches n (running p e (draws ++ wide ∷ []) asks)) (sym is) (reaches-self n _ (draws-once n p of wide d gives))

-- ---- what falls

module _ (m : Module) (steps : ℕ) (c : Config Term) (ready : Ready c) (free : IsFree steps c) where
  falls : (x : Next Term) → step terms m c ≡ x → Falls terms m steps c x
  falls x e = subst (λ x. Falls terms m steps c x) e (step-falls terms m steps c ready (λ due. let units = free.units in grind (arith, nat_tests, units, due)))

  pub goes-less : (d : Config Term) → step terms m c ≡ Goes d → weight steps d < weight steps c
  goes-less d e = (falls (Goes d) e).1

  pub draws-less : (wide : Bool) (w : Term) (d : Config Term) → step terms m c ≡ Draws wide d → weight steps (with_symbol d wide w) < weight steps c
  draws-less wide w d e = omega (arith, (falls (Draws wide d) e).1, ap (λ l. length l) (symbol-same terms m steps d wide w).code)

-- ---- the loop

pub record Turning (m : Module) (steps : ℕ) (g0 : TermGraph) (s0 : State (CodeValue Word)) (cells0 : List ℕ) (draws0 : List Bool) (asks0 : ℕ) (g : TermGraph) (s : State (CodeValue Word)) (cells : List ℕ) (draws : List Bool) (asks : ℕ) : Type 0 where
  pub held : IsHeld g s cells
  pub kept : Kept Holds term_of g0 g
  pub reach : AllReach m steps (config_at m g0 s0 cells0) draws0 asks0 (config_at m g s cells) draws asks

pub begins-turning : (m : Module) (steps : ℕ) (g : TermGraph) (s : State (CodeValue Word)) (cells : List ℕ) (draws : List Bool) (asks : ℕ) → IsHeld g s cells → Turning m steps g s cells draws asks g s cells draws asks
begins-turning m steps g s cells draws asks h = record { held = h; kept = kept-self g; reach = λ n p is. reaches-self n _ is.follows }

-- ---- where it stops

pub said : (n : Node) (g : TermGraph) (q : CodeQuestion) (t : ℕ) → AreAsked n (question q) (term_at g t) → StopsSo n g (stop_at q t)
said n g CodeTest t h = h
said n g CodePick t h = h
said n g CodeAssume t h = h

results-same : (g : TermGraph) (vs : List (CodeValue Word)) → results_of g (map given_of vs) ≡ map (value (term_of g)) vs
results-same g [] = refl
results-same g (CodeI32 w ∷ vs) = ap (λ l. value (term_of g) (CodeI32 w) ∷ l) (results-same g vs)
results-same g (CodeI64 w ∷ vs) = ap (λ l. value (term_of g) (CodeI64 w) ∷ l) (results-same g vs)
results-same g (CodeRef (Func f) ∷ vs) = ap (λ l. value (term_of g) (CodeRef (Func f)) ∷ l) (results-same g vs)
results-same g (CodeRef Extern ∷ vs) = ap (λ l. value (term_of g) (CodeRef Extern) ∷ l) (results-same g vs)

results-held : (g : TermGraph) (vs : List (CodeValue Word)) → ValuesHeld (Holds g) vs → AllByRecursion (GivenHeld g) (map given_of vs)
results-held g [] h = tt
results-held g (CodeI32 w ∷ vs) h = (h.0, results-held g vs h.1)
results-held g (CodeI64 w ∷ vs) h = (h.0, results-held g vs h.1)
results-held g (CodeRef (Func f) ∷ vs) h = (tt, results-held g vs h.1)
results-held g (CodeRef Extern ∷ vs) h = (tt, results-held g vs h.1)

pub end-held : (g : TermGraph) (e : CodeEnd Word) (x : PathEnd) → ended e ≡ Some x → MachineEndHeld (Holds g) e → StandingHeld g (EndsThere x)
end-held g (CodeReturns vs) x is h = let same : EndReturns (map given_of vs.items) ≡ x = cc in subst (λ x. EndHeld g x) same (results-held g vs.items h)
end-held g (CodeTraps cause) x is h = let same : EndTraps cause ≡ x = cc in subst (λ x. EndHeld g x) same tt
end-held g CodeFails x is h = let same : EndFails ≡ x = cc in subst (λ x. EndHeld g x) same tt
end-held g CodeAssumes x is h = absurd cc
end-held g CodeStuck x is h = absurd cc

pub end-free : (g : TermGraph) (s : State (CodeValue Word)) (cells : List ℕ) (e : CodeEnd Word) (x : PathEnd) → ended e ≡ Some x → IsHeldUnlessEnded g s cells (EndsThere x)
end-free g s cells (CodeReturns vs) x is = let same : EndReturns (map given_of vs.items) ≡ x = cc in subst (λ x. IsHeldUnlessEnded g s cells (EndsThere x)) same tt
end-free g s cells (CodeTraps cause) x is = let same : EndTraps cause ≡ x = cc in subst (λ x. IsHeldUnlessEnded g s cells (EndsThere x)) same tt
end-free g s cells CodeFails x is = let same : EndFails ≡ x = cc in subst (λ x. IsHeldUnlessEnded g s cells (EndsThere x)) same tt
end-free g s cells CodeAssumes x is = absurd cc
end-free g s cells CodeStuck x is = absurd cc

abbrev parts : State (CodeValue Word) → List ℕ → Execution
parts s cells = record { machine = s; memory = cells }

module _ (m : Module) (steps : ℕ) (g0 : TermGraph) (s0 : State (CodeValue Word)) (cells0 : List ℕ) (draws0 : List Bool) (asks0 : ℕ) (g : TermGraph) (s : State (CodeValue Word)) (cells : List ℕ) (draws : List Bool) (asks : ℕ)
    (h : Turning m steps g0 s0 cells0 draws0 asks0 g s cells draws asks) where
  pub somewhere-now : RunsSomewhere m steps (config_at m g0 s0 cells0) draws0 asks0 → RunsSomewhere m steps (config_at m g s cells) draws asks
  somewhere-now w =
      let r = h.reach w.node w.path w.is in
      record { node = gone_through w.node r.answers; path = w.path; is = later m steps w.node (running w.path (config_at m g0 s0 cells0) draws0 asks0) (running w.path (config_at m g s cells) draws asks) w.is r }

  pub known-there : RunsSomewhere m steps (config_at m g0 s0 cells0) draws0 asks0 → Known m steps (config_at m g s cells) asks
  known-there w = let v = somewhere-now w in known m steps (config_at m g s cells) draws asks v.node v.path v.is

  pub free-now : (deep spent : Bool) → deep ≡ nat_lt most_frames (length (config_at m g s cells).callers) → deep ≡ false
      → spent ≡ (is_due (config_at m g s cells).frame.here.code (config_at m g s cells).callers && nat_le steps s.units) → spent ≡ false → IsFree steps (config_at m g s cells)
  free-now deep spent d d' b b' = record { frames = sym d ∙ d'; units = sym b ∙ b' }

  module _ (n : Node) (p : Path) (is : IsOf m steps n (running p (config_at m g0 s0 cells0) draws0 asks0)) where
    pub stands-deep : nat_lt most_frames (length (config_at m g s cells).callers) ≡ true → StandsThere m n p g (parts s cells) draws asks s.units (EndsThere EndDeep)
    stands-deep deep =
        let r = h.reach n p is in
        let v = later m steps n (running p (config_at m g0 s0 cells0) draws0 asks0) (running p (config_at m g s cells) draws asks) is r in
        let at = deep-turn (gone_through n r.answers) r.follows.place.turns (config_at m g s cells) (going (gone_through n r.answers) (running p (config_at m g s cells) draws asks) (config_at m g s cells) r.follows.place refl) deep in
        record {
          answers = r.answers;
          numbers = r.numbers;
          follows = r.follows;
          at = at;
          says = is-over (gone_through n r.answers) v.can (suc r.follows.place.turns) Deep _ tt at;
        }

    pub stands-bound : nat_lt most_frames (length (config_at m g s cells).callers) ≡ false → is_due (config_at m g s cells).frame.here.code (config_at m g s cells).callers && nat_le steps s.units ≡ true
        → StandsThere m n p g (parts s cells) draws asks s.units (EndsThere EndBound)
    stands-bound deep bound =
        let r = h.reach n p is in
        let v = later m steps n (running p (config_at m g0 s0 cells0) draws0 asks0) (running p (config_at m g s cells) draws asks) is r in
        let spent = subst (λ k. is_due (config_at m g s cells).frame.here.code (config_at m g s cells).callers && nat_le k s.units ≡ true) (sym v.bound) bound in
        let at = bound-turn (gone_through n r.answers) r.follows.place.turns (config_at m g s cells) (going (gone_through n r.answers) (running p (config_at m g s cells) draws asks) (config_at m g s cells) r.follows.place refl) deep spent in
        record {
          answers = r.answers;
          numbers = r.numbers;
          follows = r.follows;
          at = at;
          says = is-over (gone_through n r.answers) v.can (suc r.follows.place.turns) Bound _ tt at;
        }

-- ---- after what is settled

ready-same : (c : Config Term) (answers : List ℕ) → Ready c → Ready (record c { answers = answers })
ready-same c answers r = record { outer = r.outer; calls = r.calls }

-- the word of a symbol is pushed
pub symbol-config : (m : Module) (g g' : TermGraph) (s : State (CodeValue Word)) (cells : List ℕ) (wide : Bool) (t : Term) (w : Word) → IsHeld g s cells → Makes g t w g'
    → config_at m g' (pushed (valued wide w) s) cells ≡ with_symbol (config_at m g s cells) wide t
symbol-config m g g' s cells wide t w h made =
    let kept = makes-kept g g' t w made in
    ap (λ b. configuration (term_of g') m b (pushed (valued wide w) s)) (words-kept g g' kept (words_of_cells cells) h.words)
    ∙ push-config Holds term_of m (map (term_of g) (words_of_cells cells)) g g' kept s (valued wide w) (valued_in wide t) h.sane (is wide)
  where
    is : (wide : Bool) → value (term_of g') (valued wide w) ≡ valued_in wide t
    is true = ap (λ t. valued_in true t) made.means
    is false = ap (λ t. valued_in false t) made.means

pub symbol-held : (g g' : TermGraph) (s : State (CodeValue Word)) (cells : List ℕ) (wide : Bool) (t : Term) (w : Word) → IsHeld g s cells → Makes g t w g' → IsHeld g' (pushed (valued wide w) s) cells
symbol-held g g' s cells wide t w h made =
    let later = held-kept g g' (makes-kept g g' t w made) s cells h in
    record { sane = sane-pushed Holds g' s (valued wide w) later.sane (one wide); words = later.words }
  where
    one : (wide : Bool) → ValueHeld (Holds g') (valued wide w)
    one true = made.held
    one false = made.held

module _ (m : Module) (steps : ℕ) (g0 : TermGraph) (s0 : State (CodeValue Word)) (cells0 : List ℕ) (draws0 : List Bool) (asks0 : ℕ) (g : TermGraph) (s : State (CodeValue Word)) (cells : List ℕ) (draws : List Bool) (asks : ℕ)
    (h : Turning m steps g0 s0 cells0 draws0 asks0 g s cells draws asks) (free : IsFree steps (config_at m g s cells)) (g' : TermGraph) (s' : State (CodeValue Word)) (cells' : List ℕ) (asks' : ℕ) (kept : Kept Holds term_of g g') where
  abbrev c0 : Config Term
  c0 = config_at m g0 s0 cells0

  abbrev c : Config Term
  c = config_at m g s cells

  still : (answers : List ℕ) → IsFree steps (record (config_at m g s cells) { answers = answers })
  still answers = record { frames = free.frames; units = free.units }

  pub turning-goes : Settles m steps (config_at m g s cells) draws asks g' s' cells' asks' CodeGoes → Turning m steps g0 s0 cells0 draws0 asks0 g' s' cells' draws asks'
  turning-goes t = record {
    held = t.held;
    kept = kept-more g0 g g' h.kept kept;
    reach =
        let c1 = record (config_at m g s cells) { answers = t.answers } in
        let d = config_at m g' s' cells' in
        reach-both m steps (config_at m g0 s0 cells0) draws0 asks0 (config_at m g s cells) draws asks d draws asks' h.reach
        (reach-both m steps (config_at m g s cells) draws asks c1 draws asks' d draws asks' t.reach (reach-goes m steps c1 draws asks' (still t.answers) d t.gives));
  }

  pub smaller-goes : Ready (config_at m g s cells) → Settles m steps (config_at m g s cells) draws asks g' s' cells' asks' CodeGoes → weight steps (config_at m g' s' cells') < weight steps (config_at m g s cells)
  smaller-goes ready t =
      goes-less m steps (record (config_at m g s cells) { answers = t.answers }) (ready-same (config_at m g s cells) t.answers ready) (still t.answers) (config_at m g' s' cells') t.gives

  module _ (wide : Bool) (t : Settles m steps (config_at m g s cells) draws asks g' s' cells' asks' (CodeDraws wide)) (g'' : TermGraph) (s'' : State (CodeValue Word)) (draws'' : List Bool)
      (symbol : (w : Word) × Makes g' (Symbol (length draws) wide) w g'' × (s'' ≡ pushed (valued wide w) s')) (drawn : draws'' ≡ draws ++ wide ∷ []) where
    config-is : config_at m g'' s'' cells' ≡ with_symbol (config_at m g' s' cells') wide (Symbol (length draws) wide)
    config-is = ap (λ s. config_at m g'' s cells') symbol.2 ∙ symbol-config m g' g'' s' cells' wide (Symbol (length draws) wide) symbol.0 t.held symbol.1

    pub turning-draws : Turning m steps g0 s0 cells0 draws0 asks0 g'' s'' cells' draws'' asks'
    turning-draws = record {
      held = subst (λ s. IsHeld g'' s cells') (sym symbol.2) (symbol-held g' g'' s' cells' wide (Symbol (length draws) wide) symbol.0 t.held symbol.1);
      kept = kept-more g0 g g'' h.kept (kept-more g g' g'' kept (makes-kept g' g'' (Symbol (length draws) wide) symbol.0 symbol.1));
      reach =
          let c1 = record (config_at m g s cells) { answers = t.answers } in
          let e = config_at m g'' s'' cells' in
          subst (λ l. AllReach m steps (config_at m g0 s0 cells0) draws0 asks0 (config_at m g'' s'' cells') l asks') (sym drawn)
          (reach-both m steps (config_at m g0 s0 cells0) draws0 asks0 (config_at m g s cells) draws asks e (draws ++ wide ∷ []) asks' h.reach
          (reach-both m steps (config_at m g s cells) draws asks c1 draws asks' e (draws ++ wide ∷ []) asks' t.reach
          (reach-draws m steps c1 draws asks' (still t.answers) wide (config_at m g' s' cells') e t.gives config-is)));
    }

    pub smaller-draws : Ready (config_at m g s cells) → weight steps (config_at m g'' s'' cells') < weight steps (config_at m g s cells)
    smaller-draws ready =
        subst (λ e. weight steps e < weight steps (config_at m g s cells)) (sym config-is)
        (draws-less m steps (record (config_at m g s cells) { answers = t.answers }) (ready-same (config_at m g s cells) t.answers ready) (still t.answers) wide (Symbol (length draws) wide) (config_at m g' s' cells') t.gives)

  -- ---- questions and ends

  module _ (n : Node) (p : Path) (is : IsOf m steps n (running p (config_at m g0 s0 cells0) draws0 asks0)) where
    -- the path at the configuration in which all numbers have been answered
    settled-at : (answers : List ℕ) → AllReach m steps (config_at m g s cells) draws asks (record (config_at m g s cells) { answers = answers }) draws asks'
        → Reaches n (running p (record (config_at m g s cells) { answers = answers }) draws asks')
    settled-at answers reach =
        reach-both m steps (config_at m g0 s0 cells0) draws0 asks0 (config_at m g s cells) draws asks (record (config_at m g s cells) { answers = answers }) draws asks' h.reach reach n p is

    settled-of : (answers : List ℕ) (r : Reaches n (running p (record (config_at m g s cells) { answers = answers }) draws asks')) → IsOf m steps (gone_through n r.answers) (running p (record (config_at m g s cells) { answers = answers }) draws asks')
    settled-of answers r = later m steps n (running p (config_at m g0 s0 cells0) draws0 asks0) (running p (record (config_at m g s cells) { answers = answers }) draws asks') is r

    -- a path that runs from c1 stands at a question there, and the machine's state is c1
    asked-there : (k : Node) (c1 e : Config Term) → e ≡ c1 → (F : Follows k (record p { stage = Running c1; draws = draws; asks = asks'; units = s.units })) (standing : Standing) → IsStandingAt k F.place.turns g' standing
        → (G : Follows k (record p { stage = Running e; draws = draws; asks = asks'; units = s.units })) × IsStandingAt k G.place.turns g' standing
    asked-there k c1 e same F standing at =
        subst (λ e. (G : Follows k (record p { stage = Running e; draws = draws; asks = asks'; units = s.units })) × IsStandingAt k G.place.turns g' standing) (sym same) (F, at)

    pub stands-asked : (q : CodeQuestion) (t : ℕ) → Settles m steps (config_at m g s cells) draws asks g' s' cells' asks' (CodeAsks q (Numbered t)) → StandsThere m n p g' (parts s' cells') draws asks' s.units (AsksThere q t)
    stands-asked q t x =
        let r = settled-at x.answers x.reach in
        let v = settled-of x.answers r in
        let c1 = record (config_at m g s cells) { answers = x.answers } in
        let at = stands-at m steps c1 draws asks' (gone_through n r.answers) p v (still x.answers) (question q) (term_at g' t) x.gives in
        let moved = asked-there (gone_through n r.answers) c1 (config_at m g' s' cells') x.held.2 v.follows (AsksThere q t) at in
        record {
          answers = r.answers;
          numbers = r.numbers;
          follows = moved.0;
          at = moved.1;
          says = said (gone_through n r.answers) g' q t (question-asked (gone_through n r.answers) v.can (running p c1 draws asks') v.follows c1 refl (question q) (term_at g' t) at);
        }

    pub stands-void : (q : CodeQuestion) (u : ℕ) → Settles m steps (config_at m g s cells) draws asks g' s' cells' asks' (CodeAsks q (Num u)) → StandsThere m n p g' (parts s' cells') draws asks' s.units (EndsThere EndVoid)
    stands-void q u x =
        let r = settled-at x.answers x.reach in
        let v = settled-of x.answers r in
        let c1 = record (config_at m g s cells) { answers = x.answers } in
        let gives : step terms m c1 ≡ Asks Assume (Number 0) = x.gives ∙ ap (λ q. Asks (question q) (Number u)) x.settled.0 ∙ ap (λ u. Asks Assume (Number u)) x.settled.1 in
        let at = stands-at m steps c1 draws asks' (gone_through n r.answers) p v (still x.answers) Assume (Number 0) gives in
        let moved = asked-there (gone_through n r.answers) c1 (config_at m g' s' cells') x.held.2 v.follows (EndsThere EndVoid) at in
        record {
          answers = r.answers;
          numbers = r.numbers;
          follows = moved.0;
          at = moved.1;
          says = question-asked (gone_through n r.answers) v.can (running p c1 draws asks') v.follows c1 refl Assume (Number 0) at;
        }

    -- no path fails an assume or is stuck
    pub ends-rightly : (e : CodeEnd Word) → Settles m steps (config_at m g s cells) draws asks g' s' cells' asks' (CodeEnds e) → ended e ≢ None
    ends-rightly e x none =
        let r = settled-at x.answers x.reach in
        let v = settled-of x.answers r in
        let c1 = record (config_at m g s cells) { answers = x.answers } in
        let here : step terms (gone_through n r.answers).invocation.«module» c1 ≡ Ends (end_of (term_of g') e) = subst (λ m. step terms m c1 ≡ Ends (end_of (term_of g') e)) v.of_module x.gives in
        let free1 : IsFree (gone_through n r.answers).invocation.steps c1 = subst (λ k. IsFree k c1) (sym v.bound) (still x.answers) in
        go e none here
        (never-assumes (gone_through n r.answers) v.can (running p c1 draws asks') v.follows c1 refl free1)
        (never-stuck (gone_through n r.answers) v.can (running p c1 draws asks') v.follows c1 refl free1)
      where
        go : {X : Next Term} (e : CodeEnd Word) → ended e ≡ None → X ≡ Ends (end_of (term_of g') e) → X ≢ Ends Assumes → X ≢ Ends Stuck → ⊥
        go (CodeReturns vs) none here a b = cc
        go (CodeTraps cause) none here a b = cc
        go CodeFails none here a b = cc
        go CodeAssumes none here a b = a here
        go CodeStuck none here a b = b here

    pub stands-ended : (e : CodeEnd Word) (y : PathEnd) → ended e ≡ Some y → Settles m steps (config_at m g s cells) draws asks g' s' cells' asks' (CodeEnds e) → StandsThere m n p g' (parts s' cells') draws asks' s.units (EndsThere y)
    stands-ended e y is-ended x =
        let r = settled-at x.answers x.reach in
        let v = settled-of x.answers r in
        let c1 = record (config_at m g s cells) { answers = x.answers } in
        let here : step terms (gone_through n r.answers).invocation.«module» c1 ≡ Ends (end_of (term_of g') e) = subst (λ m. step terms m c1 ≡ Ends (end_of (term_of g') e)) v.of_module x.gives in
        let free1 : IsFree (gone_through n r.answers).invocation.steps c1 = subst (λ k. IsFree k c1) (sym v.bound) (still x.answers) in
        let F = ends-so (gone_through n r.answers) v.can (running p c1 draws asks') v.follows c1 refl free1 (end_of (term_of g') e) here in
        let over = ends-over (gone_through n r.answers) v.can (running p c1 draws asks') v.follows c1 refl free1 (end_of (term_of g') e) here in
        go (gone_through n r.answers) r.answers refl r.numbers e y is-ended F over
      where
        go : (k : Node) (answers : List ℕ) → k ≡ gone_through n answers → AreNumbersAnswered n answers → (e : CodeEnd Word) (y : PathEnd) → ended e ≡ Some y
            → Follows k (record p { stage = Ended (end_of (term_of g') e); draws = draws; asks = asks'; units = s.units }) → IsOver k (RunEnded (end_of (term_of g') e)) → StandsThere m n p g' (parts s' cells') draws asks' s.units (EndsThere y)
        go k answers same numbers (CodeReturns vs) y is-ended F over =
            let y-is : EndReturns (map given_of vs.items) ≡ y = cc in
            let results = sym (results-same g' vs.items) in
            subst (λ y. StandsThere m n p g' (parts s' cells') draws asks' s.units (EndsThere y)) y-is (record {
              answers = answers;
              numbers = numbers;
              follows = subst (λ R. Follows (gone_through n answers) (record p { stage = Ended (Returns R); draws = draws; asks = asks'; units = s.units })) results
                  (subst (λ k. Follows k (record p { stage = Ended (Returns (map (value (term_of g')) vs.items)); draws = draws; asks = asks'; units = s.units })) same F);
              at = tt;
              says = subst (λ R. IsOver (gone_through n answers) (RunEnded (Returns R))) results (subst (λ k. IsOver k (RunEnded (Returns (map (value (term_of g')) vs.items)))) same over);
            })
        go k answers same numbers (CodeTraps cause) y is-ended F over =
            let y-is : EndTraps cause ≡ y = cc in
            subst (λ y. StandsThere m n p g' (parts s' cells') draws asks' s.units (EndsThere y)) y-is (record {
              answers = answers;
              numbers = numbers;
              follows = subst (λ k. Follows k (record p { stage = Ended (Traps cause); draws = draws; asks = asks'; units = s.units })) same F;
              at = tt;
              says = subst (λ k. IsOver k (RunEnded (Traps cause))) same over;
            })
        go k answers same numbers CodeFails y is-ended F over =
            let y-is : EndFails ≡ y = cc in
            subst (λ y. StandsThere m n p g' (parts s' cells') draws asks' s.units (EndsThere y)) y-is (record {
              answers = answers;
              numbers = numbers;
              follows = subst (λ k. Follows k (record p { stage = Ended Fails; draws = draws; asks = asks'; units = s.units })) same F;
              at = tt;
              says = subst (λ k. IsOver k (RunEnded Fails)) same over;
            })
        go k answers same numbers CodeAssumes y is-ended F over = absurd cc
        go k answers same numbers CodeStuck y is-ended F over = absurd cc
