-- Of host functions: what is kept for each imported function.
use Rattle.std.proofs.Common.{◌≡◌, ℕ, zero, suc, ◌+◌, ◌<◌, List, [], ◌∷◌, ◌++◌, length, get_or, take, refl, sym, ap, ◌∙◌, subst, append-nil}
use Rattle.std.specs.Prelude.{Bool, true, false, cond, Option, Some, None, MatchOption, All, filter, is_some, slice_get}
use Rattle.std.specs.List.{AllZip}
use Rattle.std.proofs.lemmas.Bool.{false≢true}
use Rattle.std.proofs.lemmas.Option.{none-some, same_Some, get_or_from_slice_get, slice_get_within}
use Rattle.std.proofs.lemmas.List.Elements.{All-more, filter_more}
use Rattle.wasm_ast.specs.declared.modules.Import.{Import}
use Rattle.wasm_ast.specs.declared.modules.Module.{Module}
use Rattle.wasm_check.specs.Contexts.{func_import}
use Rattle.wasm_image.specs.declared.hosts.Host.{Host}
use Rattle.wasm_image.specs.Functions.{imported_functions}
use Rattle.wasm_image.specs.Hosts.{IsHost, IsLinked, IsHostFunction}
use Rattle.wasm_image.specs.Kept.{IsHostOf, AreHosts}

-- ---- two lists side by side

zip-push : {A B : Type 0} (R : A → B → Type 0) (xs : List A) (ys : List B) (x : A) (y : B) → AllZip R xs ys → R x y → AllZip R (xs ++ x ∷ []) (ys ++ y ∷ [])
zip-push R [] [] x y h r = (r, tt)
zip-push R [] (b ∷ ys) x y h r = absurd h
zip-push R (a ∷ xs) [] x y h r = absurd h
zip-push R (a ∷ xs) (b ∷ ys) x y h r = (h.0, zip-push R xs ys x y h.1 r)

pub zip-length : {A B : Type 0} (R : A → B → Type 0) (xs : List A) (ys : List B) → AllZip R xs ys → length ys ≡ length xs
zip-length R [] [] h = refl
zip-length R [] (b ∷ ys) h = absurd h
zip-length R (a ∷ xs) [] h = absurd h
zip-length R (a ∷ xs) (b ∷ ys) h = ap suc (zip-length R xs ys h.1)

-- beside each item of the second list stands one of the first
zip-beside : {A B : Type 0} (R : A → B → Type 0) (xs : List A) (ys : List B) (k : ℕ) (y : B) → AllZip R xs ys → slice_get ys k ≡ Some y → (x : A) × (slice_get xs k ≡ Some x) × R x y
zip-beside R [] [] k y h e = absurd (none-some y e)
zip-beside R [] (b ∷ ys) k y h e = absurd h
zip-beside R (a ∷ xs) [] k y h e = absurd h
zip-beside {A} {B} R (a ∷ xs) (b ∷ ys) zero y h e = (a, refl, subst (λ (y : B). R a y) (same_Some b y e) h.0)
zip-beside R (a ∷ xs) (b ∷ ys) (suc k) y h e = zip-beside R xs ys k y h.1 e

-- past the end of the second list is past that of the first
zip-past : {A B : Type 0} (R : A → B → Type 0) (xs : List A) (ys : List B) (k : ℕ) (x : A) → AllZip R xs ys → slice_get ys k ≡ None → slice_get xs k ≡ Some x → ⊥
zip-past R [] [] k x h past e = none-some x e
zip-past R [] (b ∷ ys) k x h past e = absurd h
zip-past R (a ∷ xs) [] k x h past e = absurd h
zip-past R (a ∷ xs) (b ∷ ys) zero x h past e = none-some b (sym past)
zip-past R (a ∷ xs) (b ∷ ys) (suc k) x h past e = zip-past R xs ys k x h.1 past e

-- ---- the loop over the imports

abbrev is_function : Import → Bool
is_function i = is_some (func_import i.kind)

-- what is kept for the first i imports
abbrev pub AreHostsBelow : Module → ℕ → List (Option Host) → Type 0
AreHostsBelow m i hosts = AllZip (IsHostOf m) (filter is_function (take i m.imports)) hosts

-- one more that is a function
pub host-more : (m : Module) (i : ℕ) (x : Import) (found : Option Host) (hosts : List (Option Host)) → i < length m.imports → x ≡ get_or m.imports i x → is_function x ≡ true → AreHostsBelow m i hosts → IsHostOf m x found →
    AreHostsBelow m (i + 1) (hosts ++ found ∷ [])
host-more m i x found hosts lt here is before it =
    let test : is_function (get_or m.imports i x) ≡ true = ap is_function (sym here) ∙ is in
    let kept : filter is_function (take (i + 1) m.imports) ≡ filter is_function (take i m.imports) ++ x ∷ [] =
    filter_more is_function m.imports i x lt
    ∙ ap (λ (b : Bool). filter is_function (take i m.imports) ++ cond b (get_or m.imports i x ∷ []) []) test
    ∙ ap (λ (y : Import). filter is_function (take i m.imports) ++ y ∷ []) (sym here) in
    subst (λ (xs : List Import). AllZip (IsHostOf m) xs (hosts ++ found ∷ [])) (sym kept)
    (zip-push (IsHostOf m) (filter is_function (take i m.imports)) hosts x found before it)

-- one more that is no function
pub host-same : (m : Module) (i : ℕ) (x : Import) (hosts : List (Option Host)) → i < length m.imports → x ≡ get_or m.imports i x → is_function x ≡ false → AreHostsBelow m i hosts → AreHostsBelow m (i + 1) hosts
host-same m i x hosts lt here is before =
    let test : is_function (get_or m.imports i x) ≡ false = ap is_function (sym here) ∙ is in
    let kept : filter is_function (take (i + 1) m.imports) ≡ filter is_function (take i m.imports) =
    filter_more is_function m.imports i x lt
    ∙ ap (λ (b : Bool). filter is_function (take i m.imports) ++ cond b (get_or m.imports i x ∷ []) []) test
    ∙ append-nil (filter is_function (take i m.imports)) in
    subst (λ (xs : List Import). AllZip (IsHostOf m) xs hosts) (sym kept) before

-- ---- what is found there

pub host-found : (m : Module) (hosts : List (Option Host)) (f : ℕ) (r : Option Host) → AreHosts m hosts → slice_get hosts f ≡ Some r → MatchOption r ((h : Host) → ¬ IsHostFunction m f h) (IsHostFunction m f)
host-found m hosts f None are e =
    let beside = zip-beside (IsHostOf m) (imported_functions m) hosts f None are e in
    λ h it. beside.2 (h, subst (λ (i : Import). IsHost m i h) (same_Some it.entry beside.0 (sym it.there ∙ beside.1)) it.host)
host-found m hosts f (Some h) are e =
    let beside = zip-beside (IsHostOf m) (imported_functions m) hosts f (Some h) are e in
    record { entry = beside.0; there = beside.1; host = beside.2 }

pub host-past : (m : Module) (hosts : List (Option Host)) (f : ℕ) (h : Host) → AreHosts m hosts → slice_get hosts f ≡ None → ¬ IsHostFunction m f h
host-past m hosts f h are past it = zip-past (IsHostOf m) (imported_functions m) hosts f it.entry are past it.there

-- ---- the first import that is no host function

pub linked-more : (m : Module) (k : ℕ) (x : Import) → slice_get m.imports k ≡ Some x → IsLinked m x → All (IsLinked m) (take k m.imports) → All (IsLinked m) (take (k + 1) m.imports)
linked-more m k x at linked before =
    All-more (IsLinked m) m.imports k x (slice_get_within m.imports k x at) before
    (subst (IsLinked m) (sym (get_or_from_slice_get m.imports k x x at)) linked)

pub linked-unless : (m : Module) (x : Import) (found : Option Host) → IsHostOf m x found → is_some found ≡ true → IsLinked m x
linked-unless m x None it e = absurd (false≢true e)
linked-unless m x (Some h) it e = (h, it)
