-- The draws of a run lead, as an input, to where it stands.
use Rattle.std.proofs.Common.{◌≡◌, ℕ, zero, suc, ◌+◌, ◌%◌, ◌^◌, ◌<◌, List, [], ◌∷◌, ◌++◌, map, length, refl, sym, ap, ◌∙◌, subst, append_assoc, append-nil, arith}
use Rattle.std.specs.Prelude.{Bool, true, false, ◌&&◌, nat_lt, nat_le, if◌then◌else◌, Option, Some, None, slice_get, slice_index}
use Rattle.std.proofs.lemmas.Nat.{mod_below, pow_pos}
use Rattle.std.proofs.Math.Nat.{mod-eq_of_lt}
use Rattle.wasm_ast.specs.declared.modules.Module.{Module}
use Rattle.wasm_ast.specs.declared.runs.Value.{Value as PlainValue}
use Rattle.wasm_ast.specs.declared.runs.Draw.{Draw}
use Rattle.wasm_rules.specs.Words.{numbers, bits_where, taken}
use Rattle.wasm_reduction.specs.Configurations.{Config, Question, Next, Goes, Draws, Asks, Ends}
use Rattle.wasm_reduction.specs.Steps.{step, with_symbol}
use Rattle.wasm_reduction.specs.Instantiation.{first_config}
use Rattle.wasm_reduction.specs.Runs.{Trace, Going, Halt, Stands, Bound, Deep, Turned, On, Over, Reply, replied, follow_by, is_due, most_frames, follow, then_follow, follows, runs, answer_of, by_list, outcome_of, draws_from}
use Rattle.wasm_reduction.specs.RunImages.{trace_of}
use Rattle.wasm_reduction.specs.Scripts.{Script, Finished, Asked, drawn, IsFirst, ComesTo, IsScriptAfter, IsScript, Through, SameFirst, widths, as_input, StandsAt}
use Rattle.wasm_reduction.proofs.ListedRuns.{runs-longer}
use Rattle.wasm_reduction.proofs.ScriptRuns.{Listed, Start, from-start, ahead, first-of, comes-of}
use Rattle.wasm_reduction.proofs.ScriptLaws.{left-after}
use Rattle.wasm_reduction.proofs.ScriptPlaces.{place, widths-drawn}

-- ---- the symbols of a run, and two ways to draw them

abbrev pub Extends : List Bool → List Bool → Type 0
Extends xs ys = (zs : List Bool) × (ys ≡ xs ++ zs)

pub extends-self : (xs : List Bool) → Extends xs xs
extends-self xs = ([], sym (append-nil xs))

pub extends-more : (xs ys zs : List Bool) → Extends xs ys → Extends ys zs → Extends xs zs
extends-more xs ys zs h k = (h.0 ++ k.0, k.1 ∙ ap (λ l. l ++ k.0) h.1 ∙ append_assoc xs h.0 k.0)

last-get : (xs : List Bool) (wide : Bool) (zs : List Bool) → slice_get ((xs ++ wide ∷ []) ++ zs) (length xs) ≡ Some wide
last-get [] wide zs = refl
last-get (x ∷ xs) wide zs = last-get xs wide zs

module _ (draw draw' : ℕ → Bool → ℕ) (reply : Reply ℕ) (m : Module) (steps : ℕ) where
  -- both draw the same for each of these symbols
  abbrev pub Agree : List Bool → Type 0
  Agree symbols = (k : ℕ) (wide : Bool) → slice_get symbols k ≡ Some wide → draw k wide ≡ draw' k wide

  abbrev Symbols : Turned ℕ → List Bool
  Symbols x = (trace_of x).symbols

  -- a turn adds symbols, and where both draw the same for them it is the same
  abbrev Same : Going ℕ → Turned ℕ → Turned ℕ → Type 0
  Same g x y = Extends g.trace.symbols (Symbols x) × ((zs : List Bool) → Extends (Symbols x) zs → Agree zs → y ≡ x)

  choice-same : (g : Going ℕ) (b : Bool) (over x y : Turned ℕ) → Symbols over ≡ g.trace.symbols → Same g x y → Same g (if b then over else x) (if b then over else y)
  choice-same g true over x y e h = (subst (Extends g.trace.symbols) (sym e) (extends-self g.trace.symbols), λ zs ext agree. refl)
  choice-same g false over x y e h = h

  by-same : (g : Going ℕ) (x : Next ℕ) → Same g (follow_by draw reply g x) (follow_by draw' reply g x)
  by-same g (Goes c) = (extends-self g.trace.symbols, λ zs ext agree. refl)
  by-same g (Draws wide c) = (
    (wide ∷ [], refl),
    λ zs ext agree.
        ap (λ w. On (record { config = with_symbol c wide w; trace = record (g.trace) { symbols = g.trace.symbols ++ wide ∷ [] } }))
        (sym (agree (length g.trace.symbols) wide (ap (λ l. slice_get l (length g.trace.symbols)) ext.1 ∙ last-get g.trace.symbols wide ext.0))),
  )
  by-same g (Asks q v) = at (reply q v g.trace.answers)
    where
      at : (o : Option ℕ) → Same g (replied g q v o) (replied g q v o)
      at None = (extends-self g.trace.symbols, λ zs ext agree. refl)
      at (Some n) = (extends-self g.trace.symbols, λ zs ext agree. refl)
  by-same g (Ends e) = (extends-self g.trace.symbols, λ zs ext agree. refl)

  turn-same : (g : Going ℕ) → Same g (follow numbers draw reply m steps g) (follow numbers draw' reply m steps g)
  turn-same g =
      choice-same g (nat_lt most_frames (length g.config.callers)) (Over Deep g.trace) _ _ refl
      (choice-same g (is_due g.config.frame.here.code g.config.callers && nat_le steps g.config.units) (Over Bound g.trace) _ _ refl (by-same g (step numbers m g.config)))

  pub follows-same : (n : ℕ) (g : Going ℕ) → Same g (follows numbers draw reply m steps n g) (follows numbers draw' reply m steps n g)
  follows-same zero g = (extends-self g.trace.symbols, λ zs ext agree. refl)
  follows-same (suc n) g = at (λ v. follows-same n v) (follow numbers draw reply m steps g) (turn-same g)
    where
      at : ((v : Going ℕ) → Same v (follows numbers draw reply m steps n v) (follows numbers draw' reply m steps n v)) → (x : Turned ℕ) → Same g x (follow numbers draw' reply m steps g) →
          Same g (then_follow x (follows numbers draw reply m steps n)) (then_follow (follow numbers draw' reply m steps g) (follows numbers draw' reply m steps n))
      at rec (On v) first =
          let rest = rec v in (
            extends-more g.trace.symbols v.trace.symbols (Symbols (follows numbers draw reply m steps n v)) first.0 rest.0,
            λ zs ext agree.
                ap (λ y. then_follow y (follows numbers draw' reply m steps n)) (first.1 zs (extends-more v.trace.symbols (Symbols (follows numbers draw reply m steps n v)) zs rest.0 ext) agree) ∙ rest.1 zs ext agree,
          )
      at rec (Over halt trace) first = (first.0, λ zs ext agree. ap (λ y. then_follow y (follows numbers draw' reply m steps n)) (first.1 zs ext agree))

-- ---- draws

draws-append : (input : List ℕ) (k : ℕ) (xs ys : List Bool) → draws_from input k (xs ++ ys) ≡ draws_from input k xs ++ draws_from input (k + length xs) ys
draws-append input k [] ys = ap (λ n. draws_from input n ys) (omega arith)
draws-append input k (x ∷ xs) ys =
    ap (λ l. record { wide = x; value = taken input k x } ∷ l) (draws-append input (k + 1) xs ys ∙ ap (λ n. draws_from input (k + 1) xs ++ draws_from input n ys) (omega arith))

abbrev draw_of : Bool → ℕ → Draw
draw_of wide n = record { wide = wide; value = n }

-- an input gives these draws
abbrev GivesDraws : List ℕ → ℕ → List Draw → Type 0
GivesDraws input k draws = draws_from input k (widths draws) ≡ draws

gives-part : (input : List ℕ) (k : ℕ) (d e : List Draw) → GivesDraws input k (d ++ e) → GivesDraws input k d
gives-part input k [] e h = refl
gives-part input k (x ∷ d) e h =
    let first : record { wide = x.wide; value = taken input k x.wide } ≡ x = cc in
    let rest : GivesDraws input (k + 1) (d ++ e) = cc in
    ap (λ y. y ∷ draws_from input (k + 1) (widths d)) first ∙ ap (λ l. x ∷ l) (gives-part input (k + 1) d e rest)

-- two inputs that give the same draws
given-same : (I O : List ℕ) (o : ℕ) (symbols : List Bool) → draws_from I o symbols ≡ draws_from O o symbols → (k : ℕ) (wide : Bool) → slice_get symbols k ≡ Some wide → taken I (o + k) wide ≡ taken O (o + k) wide
given-same I O o [] e k wide f = absurd cc
given-same I O o (x ∷ symbols) e zero wide f =
    let same : x ≡ wide = cc in
    let first : draw_of x (taken I o x) ≡ draw_of x (taken O o x) = cc in
    let values : taken I o x ≡ taken O o x = ap (λ d. d.value) first in
    subst (λ n. taken I n wide ≡ taken O n wide) (omega arith) (subst (λ x. taken I o x ≡ taken O o x) same values)
given-same I O o (x ∷ symbols) e (suc k) wide f =
    let rest : draws_from I (o + 1) symbols ≡ draws_from O (o + 1) symbols = cc in
    subst (λ n. taken I n wide ≡ taken O n wide) (omega arith) (given-same I O (o + 1) symbols rest k wide f)

index-past : (xs : List ℕ) (v : ℕ) (ys : List ℕ) → slice_index (xs ++ v ∷ ys) (length xs) ≡ v
index-past [] v ys = refl
index-past (x ∷ xs) v ys = index-past xs v ys

length-last : (xs : List ℕ) (v : ℕ) → length (xs ++ v ∷ []) ≡ length xs + 1
length-last [] v = refl
length-last (x ∷ xs) v = omega (arith, length-last xs v)

-- draws, read as an input, give themselves
read-again : (I : List ℕ) (o : ℕ) (symbols : List Bool) (before : List ℕ) → GivesDraws (before ++ as_input (draws_from I o symbols)) (length before) (draws_from I o symbols)
read-again I o [] before = refl
read-again I o (wide ∷ symbols) before =
    let v : ℕ = taken I o wide in
    let rest : List ℕ = as_input (draws_from I (o + 1) symbols) in
    let value : taken (before ++ v ∷ rest) (length before) wide ≡ v =
    ap (λ n. n % 2 ^ bits_where wide) (index-past before v rest) ∙ mod-eq_of_lt (mod_below (slice_index I o) (2 ^ bits_where wide) (pow_pos (bits_where wide))) in
    let others : GivesDraws (before ++ v ∷ rest) (length before + 1) (draws_from I (o + 1) symbols) =
    subst (λ n. GivesDraws (before ++ v ∷ rest) n (draws_from I (o + 1) symbols)) (length-last before v)
    (subst (λ l. GivesDraws l (length (before ++ v ∷ [])) (draws_from I (o + 1) symbols)) (append_assoc before (v ∷ []) rest) (read-again I (o + 1) symbols (before ++ v ∷ []))) in
    ap (λ n. record { wide = wide; value = n } ∷ draws_from (before ++ v ∷ rest) (length before + 1) (widths (draws_from I (o + 1) symbols))) value
    ∙ ap (λ l. record { wide = wide; value = v } ∷ l) others

-- ---- scripts

module _ (m : Module) (entry : ℕ) (args : List PlainValue) (steps : ℕ) where
  abbrev By : List ℕ → List ℕ → ℕ → Turned ℕ
  By input A n = Listed m entry args input steps A n

  abbrev After : List ℕ → List ℕ → Script → Type 0
  After input A s = IsScriptAfter m entry args input steps A s

  -- what comes first has its draws of the input
  first-drawn : (I : List ℕ) (halt : Halt ℕ) (trace : Trace) (s : Script) → IsFirst I halt trace s → draws_from I 0 trace.symbols ≡ drawn s
  first-drawn I halt trace (Finished o d) f = f.1
  first-drawn I halt trace (Asked q v d s) f = f.1

  first-again : (I O : List ℕ) (halt : Halt ℕ) (trace : Trace) (s t : Script) → IsFirst I halt trace s → IsFirst O halt trace t → draws_from O 0 trace.symbols ≡ draws_from I 0 trace.symbols → SameFirst s t
  first-again I O halt trace (Finished o d) (Finished p e) f g same = let both : Some o ≡ Some p = sym f.0 ∙ g.0 in (cc, sym f.1 ∙ sym same ∙ g.1)
  first-again I O halt trace (Finished o d) (Asked q v e t) f g same = let both : Some o ≡ None = sym f.0 ∙ ap outcome_of g.0 in absurd cc
  first-again I O halt trace (Asked q v d s) (Finished p e) f g same = let both : Some p ≡ None = sym g.0 ∙ ap outcome_of f.0 in absurd cc
  first-again I O halt trace (Asked q v d s) (Asked p w e t) f g same = let both : Stands q v ≡ Stands p w = sym f.0 ∙ g.0 in (cc, cc, sym f.1 ∙ sym same ∙ g.1)

  -- a run whose first draws are those of another input comes to the same
  comes-again : (I O A : List ℕ) (s t : Script) → ComesTo m entry args I steps A s → ComesTo m entry args O steps A t → GivesDraws O 0 (drawn s) → SameFirst s t
  comes-again I O A s t c k gives =
      let mine : draws_from I 0 c.trace.symbols ≡ drawn s = first-drawn I c.halt c.trace s c.first in
      let theirs : draws_from O 0 c.trace.symbols ≡ draws_from I 0 c.trace.symbols =
      ap (draws_from O 0) (sym (widths-drawn I 0 c.trace.symbols) ∙ ap widths mine) ∙ gives ∙ sym mine in
      let agree : Agree (taken I) (taken O) (by_list A) m steps c.trace.symbols = λ k wide e. subst (λ n. taken I n wide ≡ taken O n wide) (omega arith) (given-same I O 0 c.trace.symbols (sym theirs) k wide e) in
      let over : By O A c.turns ≡ Over c.halt c.trace = at (Start m entry args I steps) agree c.over in
      first-again I O c.halt c.trace s t c.first (first-of m entry args O steps A t k c.turns c.halt c.trace over) theirs
    where
      at : (x : Turned ℕ) → Agree (taken I) (taken O) (by_list A) m steps c.trace.symbols → then_follow x (follows numbers (taken I) (by_list A) m steps c.turns) ≡ Over c.halt c.trace →
          then_follow x (follows numbers (taken O) (by_list A) m steps c.turns) ≡ Over c.halt c.trace
      at (Over halt trace) agree e = e
      at (On g) agree e =
          (follows-same (taken I) (taken O) (by_list A) m steps c.turns g).1 c.trace.symbols (subst (λ x. Extends (trace_of x).symbols c.trace.symbols) (sym e) (extends-self c.trace.symbols)) agree ∙ e

  -- draws are never taken back
  draws-grow : (I A : List ℕ) (q : Question) (v : ℕ) (d : List Draw) (rest : Script) → After I A (Asked q v d rest) → (more : List Draw) × (drawn rest ≡ d ++ more)
  draws-grow I A q v d rest h =
      let over : By I A h.0.turns ≡ Over (Stands q v) h.0.trace = h.0.over ∙ ap (λ halt. Over halt h.0.trace) h.0.first.0 in
      let p = place m entry args I steps A q v h.0.turns h.0.trace over in
      let longer : By I (A ++ answer_of q v ∷ []) p.1.turns ≡ On p.0 = runs-longer numbers (taken I) m entry args steps p.1.turns A (answer_of q v ∷ []) (On p.0) tt p.1.comes in
      let c = comes-of m entry args I steps (A ++ answer_of q v ∷ []) rest h.1 in
      let j = ahead m entry args I steps (by_list (A ++ answer_of q v ∷ [])) (Start m entry args I steps) p.1.turns c.turns p.0 c.halt c.trace longer c.over in
      let grown : Extends p.0.trace.symbols c.trace.symbols =
      subst (λ x. Extends p.0.trace.symbols (trace_of x).symbols) j.1 (follows-same (taken I) (taken I) (by_list (A ++ answer_of q v ∷ [])) m steps j.0 p.0).0 in
      let before : draws_from I 0 p.0.trace.symbols ≡ d = ap (λ t. draws_from I 0 t.symbols) p.2 ∙ h.0.first.1 in (
        draws_from I (0 + length p.0.trace.symbols) grown.0,
        sym (first-drawn I c.halt c.trace rest c.first) ∙ ap (draws_from I 0) grown.1 ∙ draws-append I 0 p.0.trace.symbols grown.0
            ∙ ap (λ l. l ++ draws_from I (0 + length p.0.trace.symbols) grown.0) before,
      )

  draws-grown : (Says : Question → ℕ → Type 0) (I A B : List ℕ) (s left : Script) → After I B s → Through Says A s left → (more : List Draw) × (drawn left ≡ drawn s ++ more)
  draws-grown Says I [] B s left h e = ([], ap drawn (sym e) ∙ sym (append-nil (drawn s)))
  draws-grown Says I (a ∷ A) B (Finished o d) left h e = absurd e
  draws-grown Says I (a ∷ A) B (Asked q v d s) left h e =
      let first = draws-grow I B q v d s h in
      let rest = draws-grown Says I A (B ++ answer_of q v ∷ []) s left h.1 e.2 in
      (first.0 ++ rest.0, rest.1 ∙ ap (λ l. l ++ rest.0) first.1 ∙ append_assoc d first.0 rest.0)

  -- the first answers are the same, and so is what comes after them
  again-after : (Says : Question → ℕ → Type 0) (I O A B : List ℕ) (s t left : Script) → After I B s → After O B t → Through Says A s left → GivesDraws O 0 (drawn left) →
      (other : Script) × Through Says A t other × SameFirst left other
  again-after Says I O [] B s t left h k e gives =
      let same : SameFirst s t = comes-again I O B s t (comes-of m entry args I steps B s h) (comes-of m entry args O steps B t k) (subst (λ s. GivesDraws O 0 (drawn s)) (sym e) gives) in
      (t, refl, subst (λ s. SameFirst s t) e same)
  again-after Says I O (a ∷ A) B (Finished o d) t left h k e gives = absurd e
  again-after Says I O (a ∷ A) B (Asked q v d s) t left h k e gives =
      let more = draws-grown Says I (a ∷ A) B (Asked q v d s) left h e in
      let first : GivesDraws O 0 d = gives-part O 0 d more.0 (subst (GivesDraws O 0) more.1 gives) in
      let same : SameFirst (Asked q v d s) t = comes-again I O B (Asked q v d s) t (comes-of m entry args I steps B (Asked q v d s) h) (comes-of m entry args O steps B t k) first in
      at (λ t k. again-after Says I O A (B ++ answer_of q v ∷ []) s t left h.1 k e.2 gives) t k same
    where
      at : ((t : Script) → After O (B ++ answer_of q v ∷ []) t → (other : Script) × Through Says A t other × SameFirst left other) → (t : Script) → After O B t → SameFirst (Asked q v d s) t →
          (other : Script) × Through Says (a ∷ A) t other × SameFirst left other
      at rec (Finished o x) k same = absurd same
      at rec (Asked p w x t) k same =
          let answers : answer_of p w ≡ answer_of q v = ap (λ q. answer_of q w) (sym same.0) ∙ ap (answer_of q) (sym same.1) in
          let rest = rec t (subst (λ a. After O (B ++ a ∷ []) t) answers k.1) in
          (rest.0, (answers ∙ e.0, subst (λ q. Says q w) same.0 (subst (Says q) same.1 e.1), rest.1), rest.2)

  pub again : (Says : Question → ℕ → Type 0) (I A : List ℕ) (s left t : Script) → IsScript m entry args I steps s → Through Says A s left → IsScript m entry args (as_input (drawn left)) steps t →
      (other : Script) × Through Says A t other × SameFirst left other
  again Says I A s left t h e k =
      let c = comes-of m entry args I steps A left (left-after m entry args I steps Says A [] s left h e) in
      let mine : draws_from I 0 c.trace.symbols ≡ drawn left = first-drawn I c.halt c.trace left c.first in
      let gives : GivesDraws (as_input (drawn left)) 0 (drawn left) = subst (λ d. GivesDraws (as_input d) 0 d) mine (read-again I 0 c.trace.symbols []) in
      again-after Says I (as_input (drawn left)) A [] s t left h k e gives
