-- The labels that branches meet.
use Rattle.std.proofs.Common.{◌≡◌, ℕ, zero, suc, ◌+◌, ◌-◌, ◌^◌, ◌<◌, ◌≤◌, List, [], ◌∷◌, take, drop, length, reverse, refl, sym, ap, ◌∙◌, arith, inl, inr}
use Rattle.std.specs.Prelude.{slice_get, unwrap_or}
use Rattle.std.proofs.lemmas.List.{reverse-append, drop-append-le, length-take-le, length-reverse, length-drop, drop_all}
use Rattle.std.proofs.Math.Seq.{take-length}
use Rattle.std.proofs.Math.Nat.{eq-or-lt_of_le}
use Rattle.wasm_ast.specs.declared.instructions.Instr.{Instr}
use Rattle.wasm_reduction.specs.Configurations.{Value}
use Rattle.wasm_machine.specs.declared.machine.Label.{Label as CodeLabel}
use Rattle.wasm_machine.specs.declared.machine.Frame.{Frame as CodeFrame}
use Rattle.wasm_machine.specs.States.{State, own}
use Rattle.wasm_machine.specs.code.Moves.{from_end}
use Rattle.wasm_machine.specs.Configurations.{labels_of, enclosing_labels, Short, IsWellFormed}
use Rattle.wasm_machine.proofs.Lists.{take_more_at}
use Rattle.wasm_machine.proofs.Steps.{fall-floor, length-own, target, target-low}

-- the last label of a frame
enclosing_more : (p : CodeFrame) (here : CodeLabel) (labels : List CodeLabel) (k : ℕ) → p.labels + k < length labels → enclosing_labels p (take (length labels - k) labels) ≡ from_end here labels (k + 1) ∷ enclosing_labels p (take (length labels - (k + 1)) labels)
enclosing_more p here labels k h =
    let j = length labels - (k + 1) in
    let one : k + 1 ≡ suc k = omega arith in
    let up : length labels - k ≡ j + 1 = omega arith in
    let in_range : j < length labels = omega arith in
    let low : p.labels ≤ length (take j labels) = omega (arith, length-take-le j labels (omega arith)) in
    let last : from_end here labels (k + 1) ≡ unwrap_or (slice_get labels j) here = rw one refl in
    rw (up, take_more_at labels j here in_range, drop-append-le p.labels (take j labels) (unwrap_or (slice_get labels j) here ∷ []) low, reverse-append (drop p.labels (take j labels)) (unwrap_or (slice_get labels j) here ∷ []), last)

target-suc : (k : ℕ) (here : CodeLabel) (ks : List CodeLabel) (t p : CodeLabel) (ps : List CodeLabel) → target here ks k ≡ (t, p ∷ ps) → target here ks (suc k) ≡ (p, ps)
target-suc zero here [] t p ps e = let f : [] ≡ p ∷ ps = ap (λ x. x.1) e in cc
target-suc zero here (q ∷ qs) t p ps e = let f : q ∷ qs ≡ p ∷ ps = ap (λ x. x.1) e in cc
target-suc (suc k) here [] t p ps e = let f : [] ≡ p ∷ ps = ap (λ x. x.1) e in cc
target-suc (suc k) here (q ∷ qs) t p ps e = target-suc k q qs t p ps e

-- what a branch past k labels meets
pub targets : (p : CodeFrame) (labels : List CodeLabel) (k : ℕ) → p.labels + k < length labels →
    target p.here (enclosing_labels p labels) k ≡ (from_end p.here labels k, from_end p.here labels (k + 1) ∷ enclosing_labels p (take (length labels - (k + 1)) labels))
targets p labels zero h =
    let all : length labels - 0 ≡ length labels = omega arith in
    ap (λ ks. target p.here (enclosing_labels p ks) 0) (sym (take-length labels) ∙ ap (λ n. take n labels) (sym all)) ∙ ap (λ ks. target p.here ks 0) (enclosing_more p p.here labels 0 h)
targets p labels (suc k) h =
    let one : k + 1 ≡ suc k = omega arith in
    let e = targets p labels k (omega arith) in
    let f : enclosing_labels p (take (length labels - suc k) labels) ≡ from_end p.here labels (suc k + 1) ∷ enclosing_labels p (take (length labels - (suc k + 1)) labels) = enclosing_more p p.here labels (suc k) (omega arith) in
    target-suc k p.here (enclosing_labels p labels) _ _ _ e ∙ ap (λ n. (from_end p.here labels n, enclosing_labels p (take (length labels - n) labels))) one ∙ ap (λ ks. (from_end p.here labels (suc k), ks)) f

-- a branch past all waiting labels of a frame
pub target_last : (p : CodeFrame) (labels : List CodeLabel) (k : ℕ) → p.labels + k ≡ length labels → target p.here (enclosing_labels p labels) k ≡ (from_end p.here labels k, [])
target_last p labels zero h = rw (drop_all p.labels labels (omega arith))
target_last p labels (suc k) h =
    let one : k + 1 ≡ suc k = omega arith in
    let e = targets p labels k (omega arith) in
    let none : enclosing_labels p (take (length labels - suc k) labels) ≡ [] = ap (λ l. reverse l) (drop_all p.labels (take (length labels - suc k) labels) (omega (arith, length-take-le (length labels - suc k) labels (omega arith)))) in
    target-suc k p.here (enclosing_labels p labels) _ _ _ e ∙ ap (λ n. (from_end p.here labels n, enclosing_labels p (take (length labels - n) labels))) one ∙ ap (λ ks. (from_end p.here labels (suc k), ks)) none

pub length-enclosing : (p : CodeFrame) (labels : List CodeLabel) → length (enclosing_labels p labels) ≡ length labels - p.labels
length-enclosing p labels = length-reverse (drop p.labels labels) ∙ length-drop p.labels labels

pub length-labels : {W : Type 0} (code : ℕ → List Instr) (ks : List CodeLabel) (ops : List (Value W)) → length (labels_of code ks ops) ≡ length ks
length-labels code [] ops = refl
length-labels code (k ∷ ks) ops = omega (arith, length-labels code ks (take k.height ops))

-- the label of a branch lies no higher than the innermost one
pub label-low : {X : Type 0} (s : State X) (k : ℕ) → IsWellFormed s → s.frame.labels + k ≤ length s.labels → (from_end s.frame.here s.labels k).height ≤ s.frame.here.height
label-low s k l within =
    let low : (target s.frame.here (enclosing_labels s.frame s.labels) k).0.height ≤ s.frame.here.height = target-low s.frame.floor k s.frame.here (enclosing_labels s.frame s.labels) l.frame.falls in
    let e : (target s.frame.here (enclosing_labels s.frame s.labels) k).0 ≡ from_end s.frame.here s.labels k =
    elim (eq-or-lt_of_le within) [ inl q ↦ ap (λ x. x.0) (target_last s.frame s.labels k q) | inr q ↦ ap (λ x. x.0) (targets s.frame s.labels k q) ] in
    omega (arith, low, ap (λ t. t.height) e)

-- there is room for what a branch carries
pub branch-room : {X : Type 0} (s : State X) (k : ℕ) → IsWellFormed s → s.frame.labels + k ≤ length s.labels → (from_end s.frame.here s.labels k).arity ≤ length (own s) →
    (from_end s.frame.here s.labels k).height + (from_end s.frame.here s.labels k).arity ≤ length s.operands
branch-room s k l within n = omega (arith, label-low s k l within, n, length-own s, l.frame.height)

pub back-room : {X : Type 0} (s : State X) (n : ℕ) → IsWellFormed s → n ≤ length (own s) → s.frame.floor + n ≤ length s.operands
back-room s n l h = omega (arith, fall-floor s.frame.floor (enclosing_labels s.frame s.labels) s.frame.here.height l.frame.falls, length-own s, l.frame.height, h)

short-get : (ps : List CodeLabel) (j : ℕ) (d : CodeLabel) → Short ps → j < length ps → (unwrap_or (slice_get ps j) d).place + 1 < 2 ^ 64
short-get [] j d h k = absurd (omega arith)
short-get (p ∷ ps) zero d h k = h.0
short-get (p ∷ ps) (suc j) d h k = short-get ps j d h.1 (omega arith)

pub label-short : (here : CodeLabel) (ps : List CodeLabel) (k : ℕ) → Short ps → k < length ps → (from_end here ps (k + 1)).place + 1 < 2 ^ 64
label-short here ps k h l = let one : k + 1 ≡ suc k = omega arith in rw one (short-get ps (length ps - suc k) here h (omega arith))
