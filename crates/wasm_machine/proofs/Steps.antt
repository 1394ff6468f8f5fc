-- What the machine's moves are to the configuration that its state stands for.
use Rattle.std.proofs.Common.{◌≡◌, ℕ, zero, suc, ◌+◌, ◌-◌, ◌<◌, ◌≤◌, ◌^◌, List, [], ◌∷◌, ◌++◌, take, drop, length, reverse, refl, sym, ap, ◌∙◌, subst, arith, length-append}
use Rattle.std.specs.Prelude.{Bool, true, false, slice_set, slice_get, Some}
use Rattle.std.proofs.lemmas.List.{take-set-le, drop-set-add, length-reverse, length-drop, take-append-drop, reverse-append, take-append-le, drop-append-le, take-take, drop-drop, length-take-le, drop-take, drop_all}
use Rattle.std.proofs.Math.Seq.{take-length, drop-length, drop-append_seam, take-append_seam}
use Rattle.std.proofs.lemmas.Bool.{le-ltb}
use Rattle.wasm_ast.specs.declared.instructions.Instr.{Instr}
use Rattle.wasm_ast.specs.declared.modules.Func.{Func}
use Rattle.wasm_ast.specs.declared.modules.Module.{Module}
use Rattle.wasm_reduction.specs.Configurations.{Value, Label, Frame, Config, Goes}
use Rattle.wasm_reduction.specs.Combinators.{cost_under, past, holding, with_locals}
use Rattle.wasm_check.specs.Trees.{seq_of}
use Rattle.wasm_reduction.specs.Control.{give_back, finish, entering, branch}
use Rattle.wasm_machine.specs.declared.machine.Label.{Label as CodeLabel}
use Rattle.wasm_machine.specs.declared.machine.Frame.{Frame as CodeFrame}
use Rattle.wasm_machine.specs.States.{State, own, cost, passed}
use Rattle.wasm_machine.specs.code.Moves.{pushed, without, replaced, with_local, entered, kept, again_place, left, jumped, returned, called}
use Rattle.wasm_machine.specs.Configurations.{seqs_of, code_of, again_of, label_of, labels_of, enclosing_labels, frames_of, config_of, Fall, AreFramesWellFormed, Short, IsWellFormed}
use Rattle.wasm_machine.proofs.Lists.{drop-suc, drop_split, take-reverse, drop-reverse, reverse-reverse}

-- the floor is the lowest
pub fall-floor : (floor : ℕ) (ks : List CodeLabel) (n : ℕ) → Fall floor ks n → floor ≤ n
fall-floor floor [] n h = h
fall-floor floor (k ∷ ks) n h = let l : floor ≤ k.height = fall-floor floor ks k.height h.1 in omega arith

-- ---- operands

-- what is above the height doesn't matter to the frames below
below : {X : Type 0} (s : State X) (ops : List X) → IsWellFormed s → take s.frame.here.height ops ≡ take s.frame.here.height s.operands → take s.frame.floor ops ≡ take s.frame.floor s.operands
below s ops l e =
    let low : s.frame.floor ≤ s.frame.here.height = fall-floor s.frame.floor (enclosing_labels s.frame s.labels) s.frame.here.height l.frame.falls in
    sym (take-take s.frame.floor s.frame.here.height ops low) ∙ ap (λ o. take s.frame.floor o) e ∙ take-take s.frame.floor s.frame.here.height s.operands low

pub config_of-above : {W : Type 0} (m : Module) (b : List W) (s : State (Value W)) (ops : List (Value W)) → IsWellFormed s → take s.frame.here.height ops ≡ take s.frame.here.height s.operands →
    config_of m b (record s { operands = ops }) ≡ holding (config_of m b s) (reverse (drop s.frame.here.height ops))
config_of-above m b s ops l e = rw (e, below s ops l e)

pub well_formed-above : {X : Type 0} (s : State X) (ops : List X) → IsWellFormed s → take s.frame.here.height ops ≡ take s.frame.here.height s.operands → s.frame.here.height ≤ length ops → IsWellFormed (record s { operands = ops })
well_formed-above s ops l e h = record {
  frame = record { height = h; falls = l.frame.falls; labels_within = l.frame.labels_within; base_within = l.frame.base_within };
  callers = rw (below s ops l e) l.callers;
  short = l.short;
}

pub length-own : {X : Type 0} (s : State X) → length (own s) ≡ length s.operands - s.frame.here.height
length-own s = length-reverse (drop s.frame.here.height s.operands) ∙ length-drop s.frame.here.height s.operands

-- so many own operands are there
pub room-own : {X : Type 0} (s : State X) (n : ℕ) → IsWellFormed s → n ≤ length (own s) → s.frame.here.height + n ≤ length s.operands
room-own s n l h = omega (arith, h, length-own s, l.frame.height)

-- the last n of all operands are the first n of the own ones
pub last_own : {X : Type 0} (n : ℕ) (s : State X) → s.frame.here.height + n ≤ length s.operands → reverse (drop (length s.operands - n) s.operands) ≡ take n (own s)
last_own n s h =
    let there : n ≤ length (drop s.frame.here.height s.operands) = omega (arith, length-drop s.frame.here.height s.operands) in
    let sums : s.frame.here.height + (length (drop s.frame.here.height s.operands) - n) ≡ length s.operands - n = omega (arith, length-drop s.frame.here.height s.operands) in
    sym (take-reverse n (drop s.frame.here.height s.operands) there ∙
    ap (λ o. reverse o) (drop-drop (length (drop s.frame.here.height s.operands) - n) s.frame.here.height s.operands ∙ ap (λ i. drop i s.operands) sums))

-- the own operands without the first n
pub own_rest : {X : Type 0} (n : ℕ) (s : State X) → s.frame.here.height + n ≤ length s.operands → reverse (drop s.frame.here.height (take (length s.operands - n) s.operands)) ≡ drop n (own s)
own_rest n s h =
    let there : n ≤ length (drop s.frame.here.height s.operands) = omega (arith, length-drop s.frame.here.height s.operands) in
    let sums : s.frame.here.height + (length (drop s.frame.here.height s.operands) - n) ≡ length s.operands - n = omega (arith, length-drop s.frame.here.height s.operands) in
    sym (drop-reverse n (drop s.frame.here.height s.operands) there ∙
    ap (λ o. reverse o) (sym (drop-take s.frame.here.height (length (drop s.frame.here.height s.operands) - n) s.operands) ∙ ap (λ i. drop s.frame.here.height (take i s.operands)) sums))

take-cut : {X : Type 0} (n : ℕ) (s : State X) → s.frame.here.height + n ≤ length s.operands → take s.frame.here.height (take (length s.operands - n) s.operands) ≡ take s.frame.here.height s.operands
take-cut n s h = take-take s.frame.here.height (length s.operands - n) s.operands (omega arith)

length-cut : {X : Type 0} (n : ℕ) (xs : List X) → length (take (length xs - n) xs) ≡ length xs - n
length-cut n xs = length-take-le (length xs - n) xs (omega arith)

pub config_of-pushed : {W : Type 0} (m : Module) (b : List W) (s : State (Value W)) (x : Value W) → IsWellFormed s → config_of m b (pushed x s) ≡ holding (config_of m b s) (x ∷ own s)
config_of-pushed m b s x l =
    config_of-above m b s (s.operands ++ x ∷ []) l (take-append-le s.frame.here.height s.operands (x ∷ []) l.frame.height) ∙
    ap (λ o. holding (config_of m b s) o) (rw (drop-append-le s.frame.here.height s.operands (x ∷ []) l.frame.height) (reverse-append (drop s.frame.here.height s.operands) (x ∷ [])))

pub well_formed-pushed : {X : Type 0} (s : State X) (x : X) → IsWellFormed s → IsWellFormed (pushed x s)
well_formed-pushed s x l = well_formed-above s (s.operands ++ x ∷ []) l (take-append-le s.frame.here.height s.operands (x ∷ []) l.frame.height) (omega (arith, l.frame.height, length-append s.operands (x ∷ [])))

pub config_of-without : {W : Type 0} (m : Module) (b : List W) (s : State (Value W)) (n : ℕ) → IsWellFormed s → n ≤ length (own s) → config_of m b (without n s) ≡ holding (config_of m b s) (drop n (own s))
config_of-without m b s n l h =
    let room : s.frame.here.height + n ≤ length s.operands = room-own s n l h in
    config_of-above m b s (take (length s.operands - n) s.operands) l (take-cut n s room) ∙ ap (λ o. holding (config_of m b s) o) (own_rest n s room)

pub well_formed-without : {X : Type 0} (s : State X) (n : ℕ) → IsWellFormed s → n ≤ length (own s) → IsWellFormed (without n s)
well_formed-without s n l h =
    let room : s.frame.here.height + n ≤ length s.operands = room-own s n l h in
    well_formed-above s (take (length s.operands - n) s.operands) l (take-cut n s room) (omega (arith, room, length-cut n s.operands))

pub own-without : {X : Type 0} (s : State X) (n : ℕ) → IsWellFormed s → n ≤ length (own s) → own (without n s) ≡ drop n (own s)
own-without s n l h = own_rest n s (room-own s n l h)

pub config_of-replaced : {W : Type 0} (m : Module) (b : List W) (s : State (Value W)) (n : ℕ) (x : Value W) → IsWellFormed s → n ≤ length (own s) → config_of m b (replaced n x s) ≡ holding (config_of m b s) (x ∷ drop n (own s))
config_of-replaced m b s n x l h =
    config_of-pushed m b (without n s) x (well_formed-without s n l h) ∙
    ap (λ o. holding (config_of m b (without n s)) (x ∷ o)) (own-without s n l h) ∙
    ap (λ c. holding c (x ∷ drop n (own s))) (config_of-without m b s n l h)

-- ---- instructions

cost-append : (fs : List CodeFrame) (f : CodeFrame) → cost (fs ++ f ∷ []) ≡ 1
cost-append [] f = refl
cost-append (g ∷ fs) f = refl

cost-reverse : (fs : List CodeFrame) → cost (reverse fs) ≡ cost fs
cost-reverse [] = refl
cost-reverse (f ∷ fs) = rw (reverse-append (f ∷ []) fs) (cost-append (reverse fs) f)

cost-frames : {W : Type 0} (m : Module) (entry : ℕ) (ps : List CodeFrame) (labels : List CodeLabel) (ops locals : List (Value W)) → cost_under (frames_of m entry ps labels ops locals) ≡ cost ps
cost-frames m entry [] labels ops locals = refl
cost-frames m entry (p ∷ ps) labels ops locals = refl

pub cost-callers : {W : Type 0} (m : Module) (b : List W) (s : State (Value W)) → cost_under (config_of m b s).callers ≡ cost s.callers
cost-callers m b s = cost-frames m s.entry (reverse s.callers) (take s.frame.labels s.labels) (take s.frame.floor s.operands) (take s.frame.base s.locals) ∙ cost-reverse s.callers

pub config_of-passed : {W : Type 0} (m : Module) (b : List W) (s : State (Value W)) (i : Instr) (is : List Instr) → (config_of m b s).frame.here.code ≡ i ∷ is → config_of m b (passed s) ≡ past (config_of m b s) is
config_of-passed {W = W} m b s i is e =
    ap (λ l. let c : Config W = config_of m b s in let d : Config W = record c { frame = record (c.frame) { here = record (c.frame.here) { code = l } }; answers = []; units = s.units + cost s.callers } in d)
    (drop-suc s.frame.here.place (code_of m s.entry s.frame.func s.frame.here.seq) i is e) ∙
    ap (λ n. let c : Config W = config_of m b s in let d : Config W = record c { frame = record (c.frame) { here = record (c.frame.here) { code = is } }; answers = []; units = s.units + n } in d) (sym (cost-callers m b s))

pub well_formed-passed : {X : Type 0} (s : State X) → IsWellFormed s → IsWellFormed (passed s)
well_formed-passed s l = record {
  frame = record { height = l.frame.height; falls = l.frame.falls; labels_within = l.frame.labels_within; base_within = l.frame.base_within };
  callers = l.callers;
  short = l.short;
}

-- ---- variables

pub config_of-local : {W : Type 0} (m : Module) (b : List W) (s : State (Value W)) (x : ℕ) (v : Value W) →
    config_of m b (with_local x v s) ≡ with_locals (config_of m b s) (slice_set (config_of m b s).frame.locals x v)
config_of-local m b s x v = rw (drop-set-add s.frame.base s.locals x v, take-set-le s.frame.base s.locals (s.frame.base + x) v (omega arith))

pub well_formed-local : {X : Type 0} (s : State X) (x : ℕ) (v : X) → IsWellFormed s → length (with_local x v s).locals ≡ length s.locals → IsWellFormed (with_local x v s)
well_formed-local s x v l long = record {
  frame = record { height = l.frame.height; falls = l.frame.falls; labels_within = l.frame.labels_within; base_within = omega (arith, long, l.frame.base_within) };
  callers = rw (take-set-le s.frame.base s.locals (s.frame.base + x) v (omega arith)) l.callers;
  short = l.short;
}

-- ---- labels

short-append : (ps : List CodeLabel) (p : CodeLabel) → Short ps → p.place + 1 < 2 ^ 64 → Short (ps ++ p ∷ [])
short-append [] p h k = (k, tt)
short-append (q ∷ qs) p h k = (h.0, short-append qs p h.1 k)

pub short-take : (n : ℕ) (ps : List CodeLabel) → Short ps → Short (take n ps)
short-take zero ps h = tt
short-take (suc n) [] h = tt
short-take (suc n) (p ∷ ps) h = (h.0, short-take n ps h.1)

pub config_of-entered : {W : Type 0} (m : Module) (b : List W) (s : State (Value W)) (f seq n arity : ℕ) (again : Bool) → IsWellFormed s → s.frame.func ≡ Some f → n ≤ length (own s) →
    entering (config_of m b (passed s)) (take n (own s)) (drop n (own s)) arity (again_of (code_of m s.entry s.frame.func) again (s.frame.here ∷ [])) (seq_of (seqs_of m s.frame.func) seq) ≡
    Goes (config_of m b (entered seq n arity again s))
config_of-entered {W = W} m b s f seq n arity again l func h =
    let room : s.frame.here.height + n ≤ length s.operands = room-own s n l h in
    let floor : s.frame.floor ≤ length s.operands - n = omega (arith, fall-floor s.frame.floor (enclosing_labels s.frame s.labels) s.frame.here.height l.frame.falls) in
    let code : seq_of (seqs_of m s.frame.func) seq ≡ code_of m s.entry s.frame.func seq = rw func refl in
    by again code room floor
  where
    by : (again : Bool) → seq_of (seqs_of m s.frame.func) seq ≡ code_of m s.entry s.frame.func seq → s.frame.here.height + n ≤ length s.operands → s.frame.floor ≤ length s.operands - n →
        entering (config_of m b (passed s)) (take n (own s)) (drop n (own s)) arity (again_of (code_of m s.entry s.frame.func) again (s.frame.here ∷ [])) (seq_of (seqs_of m s.frame.func) seq) ≡
        Goes (config_of m b (entered seq n arity again s))
    by true code room floor = rw (
      code,
      last_own n s room,
      drop-append-le s.frame.labels s.labels (s.frame.here ∷ []) l.frame.labels_within,
      take-append-le s.frame.labels s.labels (s.frame.here ∷ []) l.frame.labels_within,
      reverse-append (drop s.frame.labels s.labels) (s.frame.here ∷ []),
      own_rest n s room,
      take-cut n s room,
    )
    by false code room floor = rw (
      code,
      last_own n s room,
      drop-append-le s.frame.labels s.labels (s.frame.here ∷ []) l.frame.labels_within,
      take-append-le s.frame.labels s.labels (s.frame.here ∷ []) l.frame.labels_within,
      reverse-append (drop s.frame.labels s.labels) (s.frame.here ∷ []),
      own_rest n s room,
      take-cut n s room,
    )

pub well_formed-entered : {X : Type 0} (s : State X) (seq n arity : ℕ) (again : Bool) → IsWellFormed s → n ≤ length (own s) → s.frame.here.place + 1 < 2 ^ 64 → IsWellFormed (entered seq n arity again s)
well_formed-entered s seq n arity again l h place =
    let room : s.frame.here.height + n ≤ length s.operands = room-own s n l h in
    let low : s.frame.here.height ≤ length s.operands - n = omega arith in
    record {
      frame = record {
        height = omega arith;
        falls = rw (drop-append-le s.frame.labels s.labels (s.frame.here ∷ []) l.frame.labels_within, reverse-append (drop s.frame.labels s.labels) (s.frame.here ∷ [])) (low, l.frame.falls);
        labels_within = omega (arith, l.frame.labels_within, length-append s.labels (s.frame.here ∷ []));
        base_within = l.frame.base_within;
      };
      callers = rw (take-append-le s.frame.labels s.labels (s.frame.here ∷ []) l.frame.labels_within) l.callers;
      short = short-append s.labels s.frame.here l.short place;
    }

pub config_of-left : {W : Type 0} (m : Module) (b : List W) (s : State (Value W)) (p : CodeLabel) (r : List CodeLabel) → IsWellFormed s → s.labels ≡ r ++ p ∷ [] → s.frame.labels ≤ length r →
    finish (config_of m b s) (own s) (config_of m b s).frame.outer ≡ Goes (config_of m b (left p r s))
config_of-left m b s p r l e k =
    let labels : enclosing_labels s.frame s.labels ≡ p ∷ enclosing_labels s.frame r = rw (e, drop-append-le s.frame.labels r (p ∷ []) k, reverse-append (drop s.frame.labels r) (p ∷ [])) in
    let falls : Fall s.frame.floor (p ∷ enclosing_labels s.frame r) s.frame.here.height = subst (λ ks. Fall s.frame.floor ks s.frame.here.height) labels l.frame.falls in
    let cut : take s.frame.labels s.labels ≡ take s.frame.labels r = rw (e, take-append-le s.frame.labels r (p ∷ []) k) in
    rw (
      labels,
      cut,
      drop_split p.height s.frame.here.height s.operands falls.0 l.frame.height,
      reverse-append (drop p.height (take s.frame.here.height s.operands)) (drop s.frame.here.height s.operands),
      take-take p.height s.frame.here.height s.operands falls.0,
    )

short-front : (r : List CodeLabel) (p : CodeLabel) → Short (r ++ p ∷ []) → Short r
short-front [] p h = tt
short-front (q ∷ qs) p h = (h.0, short-front qs p h.1)

pub well_formed-left : {X : Type 0} (s : State X) (p : CodeLabel) (r : List CodeLabel) → IsWellFormed s → s.labels ≡ r ++ p ∷ [] → s.frame.labels ≤ length r → IsWellFormed (left p r s)
well_formed-left s p r l e k =
    let labels : enclosing_labels s.frame s.labels ≡ p ∷ enclosing_labels s.frame r = rw (e, drop-append-le s.frame.labels r (p ∷ []) k, reverse-append (drop s.frame.labels r) (p ∷ [])) in
    let falls : Fall s.frame.floor (p ∷ enclosing_labels s.frame r) s.frame.here.height = subst (λ ks. Fall s.frame.floor ks s.frame.here.height) labels l.frame.falls in
    let cut : take s.frame.labels s.labels ≡ take s.frame.labels r = rw (e, take-append-le s.frame.labels r (p ∷ []) k) in
    let h : p.height ≤ length s.operands = omega (arith, falls.0, l.frame.height) in
    record {
      frame = record { height = h; falls = falls.1; labels_within = k; base_within = l.frame.base_within };
      callers = subst (λ ms. AreFramesWellFormed (reverse s.callers) ms (take s.frame.floor s.operands) (take s.frame.base s.locals)) cut l.callers;
      short = short-front r p (subst (λ ls. Short ls) e l.short);
    }

take-kept : {X : Type 0} (a height n : ℕ) (ops : List X) → a ≤ height → height ≤ length ops → take a (kept height n ops) ≡ take a (take height ops)
take-kept a height n ops h k =
    let long : a ≤ length (take height ops) = omega (arith, length-take-le height ops k) in
    take-append-le a (take height ops) (drop (length ops - n) ops) long

drop-kept : {X : Type 0} (a height n : ℕ) (ops : List X) → a ≤ height → height ≤ length ops → drop a (kept height n ops) ≡ drop a (take height ops) ++ drop (length ops - n) ops
drop-kept a height n ops h k =
    let long : a ≤ length (take height ops) = omega (arith, length-take-le height ops k) in
    drop-append-le a (take height ops) (drop (length ops - n) ops) long

length-kept : {X : Type 0} (height n : ℕ) (ops : List X) → height + n ≤ length ops → length (kept height n ops) ≡ height + n
length-kept height n ops h =
    let low : height ≤ length ops = omega arith in
    omega (arith, length-append (take height ops) (drop (length ops - n) ops), length-take-le height ops low, length-drop (length ops - n) ops)

-- ---- branches

-- the label that a branch past k labels means, and those around it
abbrev pub target : CodeLabel → List CodeLabel → ℕ → CodeLabel × List CodeLabel
target here ks zero = (here, ks)
target here [] (suc k) = (here, [])
target here (p ∷ ps) (suc k) = target p ps k

pub target-low : (floor k : ℕ) (here : CodeLabel) (ks : List CodeLabel) → Fall floor ks here.height → (target here ks k).0.height ≤ here.height
target-low floor zero here ks h = omega arith
target-low floor (suc k) here [] h = omega arith
target-low floor (suc k) here (p ∷ ps) h = omega (arith, target-low floor k p ps h.1, h.0)

target-falls : (floor k : ℕ) (here : CodeLabel) (ks : List CodeLabel) → Fall floor ks here.height → k ≤ length ks → Fall floor (target here ks k).1 (target here ks k).0.height
target-falls floor zero here ks h n = h
target-falls floor (suc k) here [] h n = absurd (omega arith)
target-falls floor (suc k) here (p ∷ ps) h n = target-falls floor k p ps h.1 (omega arith)

-- the labels that a branch past k labels meets
abbrev target_label : {W : Type 0} → (ℕ → List Instr) → CodeLabel × List CodeLabel → Label W
target_label code t = record { arity = t.0.arity; again = again_of code t.0.again t.1; vals = []; code = [] }

branch-target : {W : Type 0} (code : ℕ → List Instr) (c : Config W) (vs : List (Value W)) (floor k : ℕ) (here : CodeLabel) (place : ℕ) (ks : List CodeLabel) (ops : List (Value W)) → Fall floor ks here.height → k ≤ length ks →
    branch c vs (drop k (label_of code here place ks ops ∷ labels_of code ks (take here.height ops))) ≡
    branch c vs (target_label code (target here ks k) ∷ labels_of code (target here ks k).1 (take (target here ks k).0.height ops))
branch-target code c vs floor zero here place [] ops h n = refl
branch-target code c vs floor zero here place (p ∷ ps) ops h n = refl
branch-target code c vs floor (suc k) here place [] ops h n = absurd (omega arith)
branch-target code c vs floor (suc k) here place (p ∷ ps) ops h n =
    branch-target code c vs floor k p (p.place + 1) ps (take here.height ops) h.1 (omega arith) ∙
    ap (λ o. branch c vs (target_label code (target p ps k) ∷ labels_of code (target p ps k).1 o))
    (take-take (target p ps k).0.height here.height ops (omega (arith, target-low floor k p ps h.1, h.0)))

code_again : (code : ℕ → List Instr) (b : Bool) (p : CodeLabel) (ps : List CodeLabel) → again_of code b (p ∷ ps) ++ drop (p.place + 1) (code p.seq) ≡ drop (again_place b p.place) (code p.seq)
code_again code true p ps = ap (λ o. take 1 (drop p.place (code p.seq)) ++ o) (sym (drop-drop 1 p.place (code p.seq))) ∙ take-append-drop 1 (drop p.place (code p.seq))
code_again code false p ps = refl

-- a branch to a label that isn't the frame's last
pub config_of-jumped : {W : Type 0} (m : Module) (b : List W) (s : State (Value W)) (k : ℕ) (t p : CodeLabel) (ps r : List CodeLabel) → IsWellFormed s → k ≤ length (enclosing_labels s.frame s.labels) →
    target s.frame.here (enclosing_labels s.frame s.labels) k ≡ (t, p ∷ ps) → enclosing_labels s.frame r ≡ ps → take s.frame.labels r ≡ take s.frame.labels s.labels →
    t.arity ≤ length (own s) →
    branch (config_of m b s) (own s) (drop k ((config_of m b s).frame.here ∷ (config_of m b s).frame.outer)) ≡ Goes (config_of m b (jumped t p r (again_place t.again p.place) s))
config_of-jumped m b s k t p ps r l n e g q long =
    let room : s.frame.here.height + t.arity ≤ length s.operands = room-own s t.arity l long in
    let low : t.height ≤ s.frame.here.height = subst (λ x. x.0.height ≤ s.frame.here.height) e (target-low s.frame.floor k s.frame.here (enclosing_labels s.frame s.labels) l.frame.falls) in
    let falls : Fall s.frame.floor (p ∷ ps) t.height = subst (λ x. Fall s.frame.floor x.1 x.0.height) e (target-falls s.frame.floor k s.frame.here (enclosing_labels s.frame s.labels) l.frame.falls n) in
    let high : t.height ≤ length s.operands = omega (arith, l.frame.height) in
    let floor : s.frame.floor ≤ t.height = fall-floor s.frame.floor (p ∷ ps) t.height falls in
    branch-target (code_of m s.entry s.frame.func) (config_of m b s) (own s) s.frame.floor k s.frame.here s.frame.here.place (enclosing_labels s.frame s.labels) s.operands l.frame.falls n ∙
    rw (
      e,
      g,
      le-ltb (length (own s)) t.arity long,
      q,
      code_again (code_of m s.entry s.frame.func) t.again p ps,
      drop-kept p.height t.height t.arity s.operands falls.0 high,
      take-kept p.height t.height t.arity s.operands falls.0 high,
      reverse-append (drop p.height (take t.height s.operands)) (drop (length s.operands - t.arity) s.operands),
      last_own t.arity s room,
      take-kept s.frame.floor t.height t.arity s.operands floor high,
      take-take s.frame.floor t.height s.operands floor,
    )

pub well_formed-jumped : {X : Type 0} (s : State X) (k : ℕ) (t p : CodeLabel) (ps r : List CodeLabel) (place : ℕ) → IsWellFormed s → k ≤ length (enclosing_labels s.frame s.labels) →
    target s.frame.here (enclosing_labels s.frame s.labels) k ≡ (t, p ∷ ps) → enclosing_labels s.frame r ≡ ps → take s.frame.labels r ≡ take s.frame.labels s.labels → s.frame.labels ≤ length r → Short r →
    t.arity ≤ length (own s) → IsWellFormed (jumped t p r place s)
well_formed-jumped s k t p ps r place l n e g q w short long =
    let room : s.frame.here.height + t.arity ≤ length s.operands = room-own s t.arity l long in
    let low : t.height ≤ s.frame.here.height = subst (λ x. x.0.height ≤ s.frame.here.height) e (target-low s.frame.floor k s.frame.here (enclosing_labels s.frame s.labels) l.frame.falls) in
    let falls : Fall s.frame.floor (p ∷ ps) t.height = subst (λ x. Fall s.frame.floor x.1 x.0.height) e (target-falls s.frame.floor k s.frame.here (enclosing_labels s.frame s.labels) l.frame.falls n) in
    let high : t.height ≤ length s.operands = omega (arith, l.frame.height) in
    let floor : s.frame.floor ≤ t.height = fall-floor s.frame.floor (p ∷ ps) t.height falls in
    let room' : t.height + t.arity ≤ length s.operands = omega arith in
    record {
      frame = record { height = omega (arith, length-kept t.height t.arity s.operands room', falls.0); falls = rw g falls.1; labels_within = w; base_within = l.frame.base_within };
      callers = rw (q, take-kept s.frame.floor t.height t.arity s.operands floor high, take-take s.frame.floor t.height s.operands floor) l.callers;
      short = short;
    }

-- a branch to the frame's last label
pub branch-out : {W : Type 0} (m : Module) (b : List W) (s : State (Value W)) (k : ℕ) (t : CodeLabel) → IsWellFormed s → k ≤ length (enclosing_labels s.frame s.labels) → target s.frame.here (enclosing_labels s.frame s.labels) k ≡ (t, []) →
    t.arity ≤ length (own s) →
    branch (config_of m b s) (own s) (drop k ((config_of m b s).frame.here ∷ (config_of m b s).frame.outer)) ≡ give_back (config_of m b s) (take t.arity (own s)) (config_of m b s).callers
branch-out m b s k t l n e long =
    branch-target (code_of m s.entry s.frame.func) (config_of m b s) (own s) s.frame.floor k s.frame.here s.frame.here.place (enclosing_labels s.frame s.labels) s.operands l.frame.falls n ∙ rw (e, le-ltb (length (own s)) t.arity long)

-- ---- frames

pub config_of-returned : {W : Type 0} (m : Module) (b : List W) (s : State (Value W)) (p : CodeFrame) (r : List CodeFrame) (n : ℕ) → IsWellFormed s → s.callers ≡ r ++ p ∷ [] → n ≤ length (own s) →
    give_back (config_of m b s) (take n (own s)) (config_of m b s).callers ≡ Goes (config_of m b (returned p r n s))
config_of-returned m b s p r n l e long =
    let room : s.frame.here.height + n ≤ length s.operands = room-own s n l long in
    let back : reverse s.callers ≡ p ∷ reverse r = rw (e, reverse-append r (p ∷ [])) in
    let lie : AreFramesWellFormed (p ∷ reverse r) (take s.frame.labels s.labels) (take s.frame.floor s.operands) (take s.frame.base s.locals) = subst (λ cs. AreFramesWellFormed cs (take s.frame.labels s.labels) (take s.frame.floor s.operands) (take s.frame.base s.locals)) back l.callers in
    let low : s.frame.floor ≤ length s.operands = omega (arith, fall-floor s.frame.floor (enclosing_labels s.frame s.labels) s.frame.here.height l.frame.falls, l.frame.height) in
    let here : p.here.height ≤ s.frame.floor = omega (arith, lie.0.height, length-take-le s.frame.floor s.operands low) in
    let floor : p.floor ≤ s.frame.floor = omega (arith, fall-floor p.floor _ p.here.height lie.0.falls) in
    rw (
      back,
      drop-kept p.here.height s.frame.floor n s.operands here low,
      take-kept p.here.height s.frame.floor n s.operands here low,
      take-kept p.floor s.frame.floor n s.operands floor low,
      reverse-append (drop p.here.height (take s.frame.floor s.operands)) (drop (length s.operands - n) s.operands),
      last_own n s room,
    )

pub well_formed-returned : {X : Type 0} (s : State X) (p : CodeFrame) (r : List CodeFrame) (n : ℕ) → IsWellFormed s → s.callers ≡ r ++ p ∷ [] → n ≤ length (own s) → IsWellFormed (returned p r n s)
well_formed-returned s p r n l e long =
    let room : s.frame.here.height + n ≤ length s.operands = room-own s n l long in
    let back : reverse s.callers ≡ p ∷ reverse r = rw (e, reverse-append r (p ∷ [])) in
    let lie : AreFramesWellFormed (p ∷ reverse r) (take s.frame.labels s.labels) (take s.frame.floor s.operands) (take s.frame.base s.locals) = subst (λ cs. AreFramesWellFormed cs (take s.frame.labels s.labels) (take s.frame.floor s.operands) (take s.frame.base s.locals)) back l.callers in
    let low : s.frame.floor ≤ length s.operands = omega (arith, fall-floor s.frame.floor (enclosing_labels s.frame s.labels) s.frame.here.height l.frame.falls, l.frame.height) in
    let room' : s.frame.floor + n ≤ length s.operands = omega (arith, fall-floor s.frame.floor (enclosing_labels s.frame s.labels) s.frame.here.height l.frame.falls) in
    let floor : p.floor ≤ s.frame.floor = omega (arith, fall-floor p.floor _ p.here.height lie.0.falls, lie.0.height, length-take-le s.frame.floor s.operands low) in
    record {
      frame = record { height = omega (arith, length-kept s.frame.floor n s.operands room', lie.0.height, length-take-le s.frame.floor s.operands low); falls = lie.0.falls; labels_within = lie.0.labels_within; base_within = lie.0.base_within };
      callers = rw (take-kept p.floor s.frame.floor n s.operands floor low) lie.1;
      short = short-take s.frame.labels s.labels l.short;
    }

pub config_of-called : {W : Type 0} (m : Module) (b : List W) (s : State (Value W)) (g : ℕ) (f : Func) (n arity : ℕ) (others : List (Value W)) → IsWellFormed s → slice_get m.funcs g ≡ Some f → n ≤ length (own s) →
    (let c : Config W = config_of m b s in
    let here : Label W = record { arity = arity; again = []; vals = []; code = seq_of f.body.seqs 0 } in
    let frame : Frame W = record { arity = arity; locals = reverse (take n (own s)) ++ others; seqs = f.body.seqs; here = here; outer = [] } in
    let d : Config W = record c { frame = frame; callers = (holding c (drop n (own s))).frame ∷ c.callers } in
    d ≡ config_of m b (called g n others arity s))
config_of-called m b s g f n arity others l e long =
    let room : s.frame.here.height + n ≤ length s.operands = room-own s n l long in
    let args : reverse (take n (own s)) ≡ drop (length s.operands - n) s.operands = ap (λ o. reverse o) (sym (last_own n s room)) ∙ reverse-reverse (drop (length s.operands - n) s.operands) in
    let cut : length s.operands - n ≤ length s.operands = omega arith in
    let none : drop (length s.operands - n) (take (length s.operands - n) s.operands) ≡ [] = drop_all (length s.operands - n) (take (length s.operands - n) s.operands) (omega (arith, length-take-le (length s.operands - n) s.operands cut)) in
    let low : s.frame.here.height ≤ length s.operands - n = omega arith in
    let floor : s.frame.floor ≤ length s.operands - n = omega (arith, fall-floor s.frame.floor (enclosing_labels s.frame s.labels) s.frame.here.height l.frame.falls) in
    rw (
      args,
      e,
      none,
      drop-append_seam s.locals (drop (length s.operands - n) s.operands ++ others),
      take-append_seam s.locals (drop (length s.operands - n) s.operands ++ others),
      drop-length s.labels,
      take-length s.labels,
      reverse-append s.callers (s.frame ∷ []),
      take-take (length s.operands - n) (length s.operands - n) s.operands (omega arith),
      own_rest n s room,
      take-take s.frame.here.height (length s.operands - n) s.operands low,
      take-take s.frame.floor (length s.operands - n) s.operands floor,
    )

pub well_formed-called : {X : Type 0} (s : State X) (g n arity : ℕ) (others : List X) → IsWellFormed s → n ≤ length (own s) → IsWellFormed (called g n others arity s)
well_formed-called s g n arity others l h =
    let room : s.frame.here.height + n ≤ length s.operands = room-own s n l h in
    let cut : length s.operands - n ≤ length s.operands = omega arith in
    let long : length (take (length s.operands - n) s.operands) ≡ length s.operands - n = length-take-le (length s.operands - n) s.operands cut in
    let floor : s.frame.floor ≤ length s.operands - n = omega (arith, fall-floor s.frame.floor (enclosing_labels s.frame s.labels) s.frame.here.height l.frame.falls) in
    record {
      frame = record { height = omega (arith, long); falls = rw (drop-length s.labels) (omega arith); labels_within = omega arith; base_within = omega (arith, length-append s.locals (drop (length s.operands - n) s.operands ++ others)) };
      callers = rw (reverse-append s.callers (s.frame ∷ []), take-length s.labels, take-take (length s.operands - n) (length s.operands - n) s.operands (omega arith), take-append_seam s.locals (drop (length s.operands - n) s.operands ++ others)) (
        record { height = omega (arith, long); falls = l.frame.falls; labels_within = l.frame.labels_within; base_within = l.frame.base_within },
        rw (take-take s.frame.floor (length s.operands - n) s.operands floor) l.callers,
      );
      short = l.short;
    }
