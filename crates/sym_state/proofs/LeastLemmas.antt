-- The least input that meets conditions is the least of what members draw.
use Rattle.std.proofs.Common.{◌≡◌, inl, inr, ⊎_elim, ℕ, zero, suc, ◌+◌, ◌%◌, ◌^◌, ◌≤◌, List, [], ◌∷◌, ◌++◌, length, refl, sym, ap, ◌∙◌, subst, length-append, arith}
use Rattle.std.specs.Prelude.{Bool, true, false, ◌&&◌, nat_lt, nat_le, if◌then◌else◌, Option, Some, None, slice_index}
use Rattle.std.specs.List.{AllByRecursion}
use Rattle.wasm_ast.specs.declared.runs.Draw.{Draw}
use Rattle.wasm_rules.specs.Words.{taken}
use Rattle.wasm_reduction.specs.Configurations.{Question, Next, Goes, Draws, Asks, Ends}
use Rattle.wasm_reduction.specs.Steps.{step}
use Rattle.wasm_reduction.specs.Runs.{Trace, Going, Halt, Bound, Deep, Turned, On, Over, replied, follow_by, is_due, most_frames, follow, then_follow, by_list, draws_from}
use Rattle.wasm_reduction.specs.RunImages.{BeginsWith, turned_image, halt_image, trace_of}
use Rattle.wasm_reduction.specs.Scripts.{Script, Finished, Asked, drawn, IsFirst, Passes, Alike, widths, as_input}
use Rattle.wasm_reduction.proofs.ListedRuns.{runs-longer}
use Rattle.wasm_reduction.proofs.ScriptLaws.{left-comes}
use Rattle.wasm_reduction.proofs.ScriptPlaces.{firsts-alike}
use Rattle.bv_terms.specs.Terms.{Term, value_of}
use Rattle.bv_terms.specs.Making.{terms}
use Rattle.sym_state.specs.Nodes.{CanExplore, Node, IsMemberAt, IsMember, IsAtMost, IsLeastOf, draws_before}
use Rattle.sym_state.specs.States.{Path, over_terms, Follows, FollowsBefore, SameInput, Least, IsLeastGiven, numbers_taken}
use Rattle.sym_state.proofs.ValueLemmas.{listed}
use Rattle.sym_state.proofs.PlaceLemmas.{over, at-answered, turn-next}
use Rattle.wasm_reduction.proofs.ScriptAgain.{Extends, extends-self, extends-more}

-- ---- symbols are never taken back

abbrev symbols : Turned Term → List Bool
symbols x = (trace_of x).symbols

either-extends : (b : Bool) (xs : List Bool) (x y : Turned Term) → Extends xs (symbols x) → Extends xs (symbols y) → Extends xs (symbols (if b then x else y))
either-extends true xs x y h k = h
either-extends false xs x y h k = k

module _ (n : Node) where
  by-extends : (g : Going Term) (x : Next Term) → Extends g.trace.symbols (symbols (follow_by terms.symbol (by_list n.answers) g x))
  by-extends g (Goes c) = extends-self g.trace.symbols
  by-extends g (Draws wide c) = (wide ∷ [], refl)
  by-extends g (Asks q t) = at (by_list n.answers q t g.trace.answers)
    where
      at : (o : Option ℕ) → Extends g.trace.symbols (symbols (replied g q t o))
      at None = extends-self g.trace.symbols
      at (Some a) = extends-self g.trace.symbols
  by-extends g (Ends e) = extends-self g.trace.symbols

  turn-extends : (g : Going Term) → Extends g.trace.symbols (symbols (follow terms terms.symbol (by_list n.answers) n.invocation.«module» n.invocation.steps g))
  turn-extends g =
      either-extends (nat_lt most_frames (length g.config.callers)) g.trace.symbols (Over Deep g.trace) _ (extends-self g.trace.symbols)
      (either-extends (is_due g.config.frame.here.code g.config.callers && nat_le n.invocation.steps g.config.units) g.trace.symbols (Over Bound g.trace) _ (extends-self g.trace.symbols)
      (by-extends g (step terms n.invocation.«module» g.config)))

  next-extends : (k : ℕ) → Extends (symbols (over_terms n k)) (symbols (over_terms n (suc k)))
  next-extends k = subst (λ x. Extends (symbols (over_terms n k)) (symbols x)) (sym (turn-next n.invocation n.answers k)) (at (over_terms n k))
    where
      at : (x : Turned Term) → Extends (symbols x) (symbols (then_follow x (follow terms terms.symbol (by_list n.answers) n.invocation.«module» n.invocation.steps)))
      at (On g) = turn-extends g
      at (Over halt trace) = extends-self trace.symbols

  pub later-extends : (k d : ℕ) → Extends (symbols (over_terms n k)) (symbols (over_terms n (d + k)))
  later-extends k zero = subst (λ j. Extends (symbols (over_terms n k)) (symbols (over_terms n j))) (let none : k ≡ zero + k = omega arith in none) (extends-self (symbols (over_terms n k)))
  later-extends k (suc d) =
      subst (λ j. Extends (symbols (over_terms n k)) (symbols (over_terms n j))) (let next : suc (d + k) ≡ suc d + k = omega arith in next)
      (extends-more (symbols (over_terms n k)) (symbols (over_terms n (d + k))) (symbols (over_terms n (suc (d + k)))) (later-extends k d) (next-extends (d + k)))

  pub stays : (k d : ℕ) (halt : Halt Term) (trace : Trace) → over_terms n k ≡ Over halt trace → over_terms n (d + k) ≡ Over halt trace
  stays k zero halt trace e = ap (λ j. over_terms n j) (let none : zero + k ≡ k = omega arith in none) ∙ e
  stays k (suc d) halt trace e =
      ap (λ j. over_terms n j) (let next : suc d + k ≡ suc (d + k) = omega arith in next)
      ∙ turn-next n.invocation n.answers (d + k)
      ∙ ap (λ x. then_follow x (follow terms terms.symbol (by_list n.answers) n.invocation.«module» n.invocation.steps)) (stays k d halt trace e)

pub over-of : (h : Term → ℕ) (x : Turned Term) (halt : Halt ℕ) (trace : Trace) → turned_image h x ≡ Over halt trace → (k : Halt Term) × (x ≡ Over k trace)
over-of h (On g) halt trace e = absurd cc
over-of h (Over k t) halt trace e =
    let both : Over (halt_image h k) t ≡ Over halt trace = e in
    (k, ap (λ t. Over k t) cc)

pub first-drawn : (I : List ℕ) (halt : Halt ℕ) (trace : Trace) (s : Script) → IsFirst I halt trace s → draws_from I 0 trace.symbols ≡ drawn s
first-drawn I halt trace (Finished o d) f = f.1
first-drawn I halt trace (Asked q v d s) f = f.1

-- ---- numbers that symbols take

numbers-more : (I : List ℕ) (k : ℕ) (xs ys : List Bool) → as_input (draws_from I k (xs ++ ys)) ≡ as_input (draws_from I k xs) ++ as_input (draws_from I (k + length xs) ys)
numbers-more I k [] ys = ap (λ j. as_input (draws_from I j ys)) (let none : k ≡ k + 0 = omega arith in none)
numbers-more I k (x ∷ xs) ys =
    ap (λ l. taken I k x ∷ l)
    (numbers-more I (k + 1) xs ys ∙ ap (λ j. as_input (draws_from I (k + 1) xs) ++ as_input (draws_from I j ys)) (let next : k + 1 + length xs ≡ k + suc (length xs) = omega arith in next))

numbers-long : (I : List ℕ) (k : ℕ) (xs : List Bool) → length (as_input (draws_from I k xs)) ≡ length xs
numbers-long I k [] = refl
numbers-long I k (x ∷ xs) = ap suc (numbers-long I (k + 1) xs)

abbrev AreZeros : List ℕ → Type 0
AreZeros zs = AllByRecursion (λ z. z ≡ 0) zs

zero-taken : (I : List ℕ) (k : ℕ) (wide : Bool) → slice_index I k ≡ 0 → taken I k wide ≡ 0
zero-taken I k true e = ap (λ v. v % 2 ^ 64) e
zero-taken I k false e = ap (λ v. v % 2 ^ 32) e

zeros-taken : (I : List ℕ) (k : ℕ) (xs : List Bool) → ((j : ℕ) → k ≤ j → slice_index I j ≡ 0) → AreZeros (as_input (draws_from I k xs))
zeros-taken I k [] past = tt
zeros-taken I k (x ∷ xs) past = (zero-taken I k x (past k (omega arith)), zeros-taken I (k + 1) xs (λ j h. past j (omega (arith, h))))

index-past : (xs : List ℕ) (j : ℕ) → length xs ≤ j → slice_index xs j ≡ 0
index-past [] j h = refl
index-past (x ∷ xs) zero h = absurd (omega (arith, h))
index-past (x ∷ xs) (suc j) h = index-past xs j (omega (arith, h))

index-zeros : (zs : List ℕ) (k : ℕ) → AreZeros zs → slice_index zs k ≡ 0
index-zeros [] k h = refl
index-zeros (z ∷ zs) zero h = h.0
index-zeros (z ∷ zs) (suc k) h = index-zeros zs k h.1

zeros-same : (xs zs : List ℕ) → AreZeros zs → (k : ℕ) → slice_index xs k ≡ slice_index (xs ++ zs) k
zeros-same [] zs h k = sym (index-zeros zs k h)
zeros-same (x ∷ xs) zs h zero = refl
zeros-same (x ∷ xs) zs h (suc k) = zeros-same xs zs h k

zeros-least : (zs ms : List ℕ) → AreZeros zs → length zs ≡ length ms → IsAtMost zs ms
zeros-least [] ms h long = tt
zeros-least (z ∷ zs) [] h long = absurd (omega (arith, long))
zeros-least (z ∷ zs) (zero ∷ ms) h long = inr (h.0, zeros-least zs ms h.1 (omega (arith, long)))
zeros-least (z ∷ zs) (suc m ∷ ms) h long = inl (omega (arith, h.0))

at-most-more : (xs ys zs ms : List ℕ) → length xs ≡ length ys → AreZeros zs → length zs ≡ length ms → IsAtMost xs ys → IsAtMost (xs ++ zs) (ys ++ ms)
at-most-more [] [] zs ms long h counted less = zeros-least zs ms h counted
at-most-more [] (y ∷ ys) zs ms long h counted less = absurd (omega (arith, long))
at-most-more (x ∷ xs) [] zs ms long h counted less = absurd (omega (arith, long))
at-most-more (x ∷ xs) (y ∷ ys) zs ms long h counted less =
    ⊎_elim (λ a. inl a) (λ a. inr (a.0, at-most-more xs ys zs ms (omega (arith, long)) h counted a.1)) less

-- ---- what members draw

alike-widths : (s t : Script) → Alike s t → widths (drawn s) ≡ widths (drawn t)
alike-widths (Finished o d) (Finished p e) h = h.1
alike-widths (Finished o d) (Asked q v e t) h = absurd h
alike-widths (Asked q v d s) (Finished p e) h = absurd h
alike-widths (Asked q v d s) (Asked p w e t) h = h.1

draws-counted : (ds : List Draw) → length (as_input ds) ≡ length (widths ds)
draws-counted [] = refl
draws-counted (d ∷ ds) = ap suc (draws-counted ds)

module _ (m : Node) (can : CanExplore m.invocation) (T : ℕ) (draws : List Bool) (there : symbols (over_terms m T) ≡ draws) where
  -- first what the path has drawn, and then what comes until the next question
  member-draws : (I : List ℕ) (left : Script) → IsMemberAt m I left → (more : List Bool) × (draws_before left ≡ numbers_taken I draws ++ as_input (draws_from I (0 + length draws) more))
  member-draws I left at =
      let i = m.invocation in
      let c = left-comes i.«module» i.entry i.args I i.steps Passes m.answers at.script left at.is_script at.past in
      let o = over-of (value_of I) (over_terms m c.turns) c.halt c.trace (sym (listed m can I c.turns) ∙ c.over) in
      let late : symbols (over_terms m (T + c.turns)) ≡ c.trace.symbols = ap symbols (stays m c.turns T o.0 c.trace o.1) in
      let order : c.turns + T ≡ T + c.turns = omega arith in
      let grown : Extends (symbols (over_terms m T)) (symbols (over_terms m (T + c.turns))) = subst (λ k. Extends (symbols (over_terms m T)) (symbols (over_terms m k))) order (later-extends m T c.turns) in
      let all : c.trace.symbols ≡ draws ++ grown.0 = sym late ∙ grown.1 ∙ ap (λ l. l ++ grown.0) there in (
        grown.0,
        ap as_input (sym (first-drawn I c.halt c.trace left c.first))
            ∙ ap (λ l. as_input (draws_from I 0 l)) all
            ∙ numbers-more I 0 draws grown.0,
      )

  pub least-kept : (L : List ℕ) → IsMember m L → SameInput L (numbers_taken L draws) → ((O : List ℕ) → IsMember m O → IsAtMost (numbers_taken L draws) (numbers_taken O draws))
      → (w : List ℕ) × IsLeastOf m w × SameInput L w
  least-kept L mine over least =
      let i = m.invocation in
      let left = mine.0 in
      let d = member-draws L left mine.1 in
      let a = numbers_taken L draws in
      let zs = as_input (draws_from L (0 + length draws) d.0) in
      let past : (j : ℕ) → 0 + length draws ≤ j → slice_index L j ≡ 0 = λ j h. over j ∙ index-past a j (omega (arith, h, numbers-long L 0 draws)) in
      let none : AreZeros zs = zeros-taken L (0 + length draws) d.0 past in
      let same : SameInput L (draws_before left) = λ k. over k ∙ zeros-same a zs none k ∙ ap (λ l. slice_index l k) (sym d.1) in (
        draws_before left,
        record {
          input = L;
          left = left;
          member = mine.1;
          draws_are = refl;
          least = λ O rest at.
              let e = member-draws O rest at in
              let b = numbers_taken O draws in
              let ms = as_input (draws_from O (0 + length draws) e.0) in
              let alike : Alike left rest =
              firsts-alike i.«module» i.entry i.args i.steps can.has_numbers can.can.valid can.can.ready can.fitting m.answers L O left rest
              (left-comes i.«module» i.entry i.args L i.steps Passes m.answers mine.1.script left mine.1.is_script mine.1.past)
              (left-comes i.«module» i.entry i.args O i.steps Passes m.answers at.script rest at.is_script at.past) in
              let counted : length (draws_before left) ≡ length (draws_before rest) = draws-counted (drawn left) ∙ ap (λ l. length l) (alike-widths left rest alike) ∙ sym (draws-counted (drawn rest)) in
              let long : length a ≡ length b = numbers-long L 0 draws ∙ sym (numbers-long O 0 draws) in
              let rest_long : length zs ≡ length ms =
              omega (arith, counted, long, ap (λ l. length l) d.1, ap (λ l. length l) e.1, length-append a zs, length-append b ms) in
              subst (λ l. IsAtMost l (draws_before rest)) (sym d.1) (subst (λ l. IsAtMost (a ++ zs) l) (sym e.1) (at-most-more a b zs ms long none rest_long (least O (rest, at))));
        },
        same,
      )

pub least-follows : (n : Node) (p : Path) → CanExplore n.invocation → Follows n p → IsLeastGiven p.conditions p.draws p.least → Least n p
least-follows n p can h given =
    least-kept n can h.place.turns p.draws (sym h.place.draws) p.least h.least given.over
    (λ O member. given.least O ((h.members O).1 member))

pub least-before : (n m : Node) (q : Question) (t : Term) (p : Path) → CanExplore n.invocation → m.invocation ≡ n.invocation → BeginsWith m.answers n.answers → FollowsBefore n m q t p
    → IsLeastGiven p.conditions p.draws p.least → Least m p
least-before n m q t p can same begins h given =
    let i = n.invocation in
    let T = h.place.turns in
    let longer : over i (n.answers ++ begins.0) T ≡ over_terms n T = runs-longer terms terms.symbol i.«module» i.entry i.args i.steps T n.answers begins.0 (over_terms n T) (at-answered p.stage (over_terms n T) h.place.stage) refl in
    let alike : over_terms m T ≡ over_terms n T = ap (λ i. over i m.answers T) same ∙ ap (λ A. over i A T) begins.1 ∙ longer in
    least-kept m (subst (λ i. CanExplore i) (sym same) can) T p.draws (ap symbols alike ∙ sym h.place.draws) p.least h.least given.over
    (λ O member. given.least O ((h.members O).1 member))
