-- Values of their types.
use Rattle.std.proofs.Common.{◌≡◌, ℕ, zero, suc, ◌<◌, List, [], ◌∷◌, ◌++◌, map, take, drop, length, reverse, refl, ap, ◌∙◌, subst, arith}
use Rattle.std.specs.Prelude.{Some, slice_get, slice_set, replicate}
use Rattle.std.specs.List.{AllByRecursion}
use Rattle.std.proofs.lemmas.List.{reverse-append, reverse-reverse, length-reverse, length-map}
use Rattle.wasm_ast.specs.declared.types.ValType.{ValType}
use Rattle.wasm_ast.specs.declared.modules.Module.{Module}
use Rattle.wasm_check.specs.declared.operands.Operand.{Operand}
use Rattle.wasm_check.specs.declared.operands.Operand.TheVariants.{Of, Bottom}
use Rattle.wasm_check.specs.Operands.{Matches, AllMatch, operands, Takes}
use Rattle.wasm_reduction.specs.Configurations.{Reference, Value}
use Rattle.wasm_soundness.specs.Values.{ReferenceIs, ValueIs, OperandIs, Hold, ofs}
use Rattle.wasm_soundness.specs.Configurations.{AreReferences}
use Rattle.wasm_check.proofs.Rules.{operands-length}

-- ---- lists

pub get-within : {A : Type 0} (xs : List A) (k : ℕ) → k < length xs → (x : A) × (slice_get xs k ≡ Some x)
get-within [] k l = absurd (omega (arith, l))
get-within (x ∷ xs) zero l = (x, refl)
get-within (x ∷ xs) (suc k) l = get-within xs k (omega (arith, l))

pub get-mapped : {A B : Type 0} (f : A → B) (xs : List A) (k : ℕ) (y : B) → slice_get (map f xs) k ≡ Some y → (x : A) × (slice_get xs k ≡ Some x) × (f x ≡ y)
get-mapped f [] k y e = absurd cc
get-mapped f (x ∷ xs) zero y e = (x, refl, cc)
get-mapped f (x ∷ xs) (suc k) y e = get-mapped f xs k y e

-- ---- what operands take

takes-split : (xs ys ts rest : List Operand) → Takes ts (xs ++ ys) rest → (mid : List Operand) × Takes ts xs mid × Takes mid ys rest
takes-split [] ys ts rest h = (ts, refl, h)
takes-split (x ∷ xs) ys ts rest h = let k = takes-split xs ys h.1 rest h.4 in (k.0, (h.0, h.1, h.2, h.3, k.1), k.2)

pub takes-self : (ts us : List Operand) → Takes (ts ++ us) ts us
takes-self [] us = refl
takes-self (t ∷ ts) us = (t, ts ++ us, refl, self t, takes-self ts us)
  where
    self : (t : Operand) → Matches t t
    self (Of t) = refl
    self Bottom = tt

-- ---- values

module _ {W : Type 0} (m : Module) where
  pub matched : (v : Value W) (t u : Operand) → OperandIs m v t → Matches t u → OperandIs m v u
  matched v (Of t) u h e = subst (OperandIs m v) e h
  matched v Bottom u h e = absurd h

  pub hold-match : (vs : List (Value W)) (ts us : List Operand) → Hold m vs ts → AllMatch ts us → Hold m vs us
  hold-match [] [] [] h a = tt
  hold-match (v ∷ vs) (t ∷ ts) (u ∷ us) h a = (matched v t u h.0 a.0, hold-match vs ts us h.1 a.1)
  hold-match [] (t ∷ ts) us h a = absurd h
  hold-match (v ∷ vs) [] us h a = absurd h
  hold-match [] [] (u ∷ us) h a = absurd a
  hold-match (v ∷ vs) (t ∷ ts) [] h a = absurd a

  pub hold-append : (vs ws : List (Value W)) (ts us : List Operand) → Hold m vs ts → Hold m ws us → Hold m (vs ++ ws) (ts ++ us)
  hold-append [] ws [] us h k = k
  hold-append (v ∷ vs) ws (t ∷ ts) us h k = (h.0, hold-append vs ws ts us h.1 k)
  hold-append [] ws (t ∷ ts) us h k = absurd h
  hold-append (v ∷ vs) ws [] us h k = absurd h

  pub hold-length : (vs : List (Value W)) (ts : List Operand) → Hold m vs ts → length vs ≡ length ts
  hold-length [] [] h = refl
  hold-length (v ∷ vs) (t ∷ ts) h = ap suc (hold-length vs ts h.1)
  hold-length [] (t ∷ ts) h = absurd h
  hold-length (v ∷ vs) [] h = absurd h

  -- the first of the values, and the others
  pub hold-first : (vs : List (Value W)) (ts us : List Operand) → Hold m vs (ts ++ us) → Hold m (take (length ts) vs) ts
  hold-first vs [] us h = tt
  hold-first [] (t ∷ ts) us h = absurd h
  hold-first (v ∷ vs) (t ∷ ts) us h = (h.0, hold-first vs ts us h.1)

  pub hold-others : (vs : List (Value W)) (ts us : List Operand) → Hold m vs (ts ++ us) → Hold m (drop (length ts) vs) us
  hold-others vs [] us h = h
  hold-others [] (t ∷ ts) us h = absurd h
  hold-others (v ∷ vs) (t ∷ ts) us h = hold-others vs ts us h.1

  pub hold-reverse : (vs : List (Value W)) (ts : List Operand) → Hold m vs ts → Hold m (reverse vs) (reverse ts)
  hold-reverse [] [] h = tt
  hold-reverse (v ∷ vs) (t ∷ ts) h =
      rw (reverse-append (v ∷ []) vs, reverse-append (t ∷ []) ts) (hold-append (reverse vs) (v ∷ []) (reverse ts) (t ∷ []) (hold-reverse vs ts h.1) (h.0, tt))
  hold-reverse [] (t ∷ ts) h = absurd h
  hold-reverse (v ∷ vs) [] h = absurd h

  -- in the order in which they are written
  pub hold-reversed : (vs : List (Value W)) (ts : List ValType) → Hold m vs (operands ts) → Hold m (reverse vs) (ofs ts)
  hold-reversed vs ts h = subst (Hold m (reverse vs)) (reverse-reverse (ofs ts)) (hold-reverse vs (operands ts) h)

  -- what is taken is of the types that are wanted
  pub hold-takes : (vs : List (Value W)) (ts a rest : List Operand) → Hold m vs ts → Takes ts a rest → Hold m vs (a ++ rest)
  hold-takes vs ts [] rest h k = subst (Hold m vs) k h
  hold-takes [] ts (u ∷ a) rest h k = absurd (subst (Hold {W = W} m []) k.2 h)
  hold-takes (v ∷ vs) ts (u ∷ a) rest h k =
      let i : Hold m (v ∷ vs) (k.0 ∷ k.1) = subst (Hold m (v ∷ vs)) k.2 h in
      (matched v k.0 u i.0 k.3, hold-takes vs k.1 a rest i.1 k.4)

  pub hold-get : (vs : List (Value W)) (ts : List ValType) (x : ℕ) (t : ValType) → Hold m vs (ofs ts) → slice_get ts x ≡ Some t → (v : Value W) × (slice_get vs x ≡ Some v) × ValueIs m v t
  hold-get [] [] x t h e = absurd cc
  hold-get (v ∷ vs) (u ∷ ts) zero t h e = let same : u ≡ t = cc in (v, refl, subst (ValueIs m v) same h.0)
  hold-get (v ∷ vs) (u ∷ ts) (suc x) t h e = hold-get vs ts x t h.1 e
  hold-get [] (t ∷ ts) x u h e = absurd h
  hold-get (v ∷ vs) [] x t h e = absurd h

  pub hold-set : (vs : List (Value W)) (ts : List ValType) (x : ℕ) (t : ValType) (v : Value W) → Hold m vs (ofs ts) → slice_get ts x ≡ Some t → ValueIs m v t → Hold m (slice_set vs x v) (ofs ts)
  hold-set [] [] x t v h e p = tt
  hold-set (w ∷ vs) (u ∷ ts) zero t v h e p = let same : t ≡ u = cc in (subst (ValueIs m v) same p, h.1)
  hold-set (w ∷ vs) (u ∷ ts) (suc x) t v h e p = (h.0, hold-set vs ts x t v h.1 e p)
  hold-set [] (u ∷ ts) x t v h e p = absurd h
  hold-set (w ∷ vs) [] x t v h e p = absurd h

-- ---- references

pub references-get : (m : Module) (rss : List (List Reference)) (ts : List ValType) (x : ℕ) (t : ValType) → AreReferences m rss ts → slice_get ts x ≡ Some t →
    (rs : List Reference) × (slice_get rss x ≡ Some rs) × AllByRecursion (ReferenceIs m t) rs
references-get m [] [] x t h e = absurd cc
references-get m (rs ∷ rss) (u ∷ ts) zero t h e = let same : u ≡ t = cc in (rs, refl, subst (λ u. AllByRecursion (ReferenceIs m u) rs) same h.0)
references-get m (rs ∷ rss) (u ∷ ts) (suc x) t h e = references-get m rss ts x t h.1 e
references-get m [] (u ∷ ts) x t h e = absurd h
references-get m (rs ∷ rss) [] x t h e = absurd h

pub references-set : (m : Module) (rss : List (List Reference)) (ts : List ValType) (x : ℕ) (t : ValType) (rs : List Reference) → AreReferences m rss ts → slice_get ts x ≡ Some t →
    AllByRecursion (ReferenceIs m t) rs → AreReferences m (slice_set rss x rs) ts
references-set m [] [] x t rs h e p = tt
references-set m (qs ∷ rss) (u ∷ ts) zero t rs h e p = let same : t ≡ u = cc in (subst (λ u. AllByRecursion (ReferenceIs m u) rs) same p, h.1)
references-set m (qs ∷ rss) (u ∷ ts) (suc x) t rs h e p = (h.0, references-set m rss ts x t rs h.1 e p)
references-set m [] (u ∷ ts) x t rs h e p = absurd h
references-set m (qs ∷ rss) [] x t rs h e p = absurd h

pub references-length : (m : Module) (rss : List (List Reference)) (ts : List ValType) → AreReferences m rss ts → length rss ≡ length ts
references-length m [] [] h = refl
references-length m (rs ∷ rss) (t ∷ ts) h = ap suc (references-length m rss ts h.1)
references-length m [] (t ∷ ts) h = absurd h
references-length m (rs ∷ rss) [] h = absurd h

pub each-replicate : {A : Type 0} (P : A → Type 0) (n : ℕ) (x : A) → P x → AllByRecursion P (replicate n x)
each-replicate P zero x p = tt
each-replicate P (suc n) x p = (p, each-replicate P n x p)

pub each-take : {A : Type 0} (P : A → Type 0) (n : ℕ) (xs : List A) → AllByRecursion P xs → AllByRecursion P (take n xs)
each-take P zero xs h = tt
each-take P (suc n) [] h = tt
each-take P (suc n) (x ∷ xs) h = (h.0, each-take P n xs h.1)
