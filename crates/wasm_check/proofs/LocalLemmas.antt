-- Locals by number: the groups in which they stand aren't unrolled.
use Rattle.std.proofs.Common.{◌≡◌, ℕ, zero, suc, ◌+◌, ◌-◌, ◌<◌, ◌≤◌, List, [], ◌∷◌, ◌++◌, length, take, refl, sym, ap, ◌∙◌, arith, inl, inr}
use Rattle.std.specs.Prelude.{Some, None, slice_get, slice_index, sum_by, replicate}
use Rattle.std.proofs.lemmas.Bool.{cases_eq}
use Rattle.std.proofs.lemmas.List.{take_all, length-append, get_or_append_left}
use Rattle.std.proofs.Math.Seq.{get_or-append_seam}
use Rattle.std.proofs.lemmas.List.Sums.{sum_by-cons}
use Rattle.std.proofs.lemmas.Option.{slice_get_past}
use Rattle.wasm_ast.specs.declared.types.ValType.{ValType}
use Rattle.wasm_ast.specs.declared.modules.Group.{Group}
use Rattle.wasm_check.specs.Contexts.{locals_of}
use Rattle.wasm_check.specs.code.Sections.{AreEnds, IsGroupOf}

pub ends-more : (groups : List Group) (ends : List ℕ) (k end : ℕ) → AreEnds groups k ends → end ≡ sum_by (λ g. g.count) (take (k + 1) groups) → AreEnds groups (k + 1) (ends ++ end ∷ [])
ends-more groups ends k end are e = record {
  long = omega (arith, length-append ends (end ∷ []), are.long);
  each = λ i lt. elim (cases_eq i k) [
    | inl same ↦
        let at : i ≡ length ends = omega (arith, same, are.long) in
        ap (λ n. slice_index (ends ++ end ∷ []) n) at ∙ get_or-append_seam ends end [] 0 ∙ e ∙ ap (λ n. sum_by (λ (g : Group). g.count) (take (n + 1) groups)) (sym same)
    | inr ne ↦ get_or_append_left ends (end ∷ []) 0 i (omega (arith, are.long)) ∙ are.each i (omega arith)
  ];
}

-- ---- what stands in the list of the locals

-- of a list that begins with so many copies of one element
get-copy : (n x : ℕ) (a : ValType) (ys : List ValType) → x < n → slice_get (replicate n a ++ ys) x ≡ Some a
get-copy zero x a ys lt = absurd (omega (arith, lt))
get-copy (suc n) zero a ys lt = refl
get-copy (suc n) (suc x) a ys lt = get-copy n x a ys (omega (arith, lt))

get-past : (n x : ℕ) (a : ValType) (ys : List ValType) → n ≤ x → slice_get (replicate n a ++ ys) x ≡ slice_get ys (x - n)
get-past zero x a ys le = ap (slice_get ys) (let e : x ≡ x - 0 = omega arith in e)
get-past (suc n) zero a ys le = absurd (omega (arith, le))
get-past (suc n) (suc x) a ys le = get-past n x a ys (omega (arith, le)) ∙ ap (slice_get ys) (let e : x - n ≡ suc x - suc n = omega arith in e)

sum-cons : (g : Group) (groups : List Group) (k : ℕ) → sum_by (λ g. g.count) (take (suc k) (g ∷ groups)) ≡ g.count + sum_by (λ g. g.count) (take k groups)
sum-cons g groups k = sum_by-cons (λ (g : Group). g.count) g (take k groups)

local-at : (groups : List Group) (x k : ℕ) (g : Group) → slice_get groups k ≡ Some g → sum_by (λ g. g.count) (take k groups) ≤ x →
    x < sum_by (λ g. g.count) (take (k + 1) groups) → slice_get (locals_of groups) x ≡ Some g.kind
local-at [] x k g e le lt = cc
local-at (h ∷ groups) x zero g e le lt =
    let same : h ≡ g = cc in
    let first : x < sum_by (λ (g : Group). g.count) (take (suc 0) (h ∷ groups)) = lt in
    let none : sum_by (λ (g : Group). g.count) (take 0 groups) ≡ 0 = refl in
    let count : x < h.count = omega (arith, first, none, sum-cons h groups 0) in
    get-copy h.count x h.kind (locals_of groups) count ∙ ap (λ (g : Group). Some g.kind) same
local-at (h ∷ groups) x (suc k) g e le lt =
    let next : suc k + 1 ≡ suc (k + 1) = omega arith in
    let past : h.count + sum_by (λ (g : Group). g.count) (take k groups) ≤ x = omega (arith, le, sum-cons h groups k) in
    let within : x < h.count + sum_by (λ (g : Group). g.count) (take (k + 1) groups) = omega (arith, rw next at lt, sum-cons h groups (k + 1)) in
    get-past h.count x h.kind (locals_of groups) (omega (arith, past)) ∙ local-at groups (x - h.count) k g e (omega (arith, past)) (omega (arith, past, within))

local-past : (groups : List Group) (x : ℕ) → sum_by (λ g. g.count) groups ≤ x → slice_get (locals_of groups) x ≡ None
local-past [] x le = slice_get_past (locals_of []) x (omega arith)
local-past (h ∷ groups) x le =
    let parts = sum_by-cons (λ (g : Group). g.count) h groups in
    get-past h.count x h.kind (locals_of groups) (omega (arith, le, parts)) ∙ local-past groups (x - h.count) (omega (arith, le, parts))

pub group-some : (groups : List Group) (x k : ℕ) (g : Group) → IsGroupOf groups x k → slice_get groups k ≡ Some g → k < length groups → slice_get (locals_of groups) x ≡ Some g.kind
group-some groups x k g is e lt = local-at groups x k g e is.before (is.after lt)

pub group-none : (groups : List Group) (x k : ℕ) → IsGroupOf groups x k → length groups ≤ k → slice_get (locals_of groups) x ≡ None
group-none groups x k is past =
    let all : take k groups ≡ groups = take_all k groups past in
    local-past groups x (omega (arith, rw all at is.before))
