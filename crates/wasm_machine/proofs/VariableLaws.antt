-- Variable instructions.
use Rattle.std.proofs.Common.{◌≡◌, ℕ, ◌+◌, ◌-◌, ◌<◌, ◌≤◌, List, [], ◌∷◌, map, drop, length, refl, sym, ap, ◌∙◌, subst, arith}
use Rattle.std.specs.Prelude.{Option, Some, None, slice_get, slice_set, option_map}
use Rattle.std.proofs.lemmas.Option.{slice_get_within, slice_get-map}
use Rattle.std.proofs.lemmas.List.{drop-map, length-drop}
use Rattle.wasm_ast.specs.declared.instructions.Instr.TheVariants.{LocalGet, LocalSet, LocalTee, GlobalGet, GlobalSet}
use Rattle.wasm_ast.specs.declared.modules.Module.{Module}
use Rattle.wasm_rules.specs.Words.{Kind}
use Rattle.wasm_reduction.specs.Configurations.{Value, Next, Goes, Ends, Stuck}
use Rattle.wasm_reduction.specs.Combinators.{holding, with_locals, with_globals, with_found}
use Rattle.wasm_machine.specs.declared.values.Value.{Value as CodeValue}
use Rattle.wasm_machine.specs.declared.next.Next.TheVariants.{Goes as CodeGoes, Ends as CodeEnds}
use Rattle.wasm_machine.specs.declared.next.End.TheVariants.{Stuck as CodeStuck}
use Rattle.wasm_machine.specs.States.{State, own, passed}
use Rattle.wasm_machine.specs.code.Moves.{pushed, without, with_local, with_global}
use Rattle.wasm_machine.specs.Values.{value, ValueHeld}
use Rattle.wasm_machine.specs.Configurations.{image, config_of, configuration}
use Rattle.wasm_machine.specs.Acts.{Sane, Acts}
use Rattle.wasm_machine.proofs.Lists.{all-get, all-drop}
use Rattle.wasm_machine.proofs.Steps.{config_of-local, well_formed-passed}
use Rattle.wasm_machine.proofs.Images.{own-image, own-held, kept-same, image-local, image-global, sane-passed, sane-without, sane-local, sane-global}
use Rattle.wasm_machine.proofs.Operands.{found-value, no-value}
use Rattle.wasm_machine.proofs.ActLaws.{push-acts, stuck-acts, drop-config}

-- ---- a variable, in the meaning of the state

local-there : {V M : Type 0} (h : V → M) (s : State (CodeValue V)) (x : ℕ) (o : Option (CodeValue V)) → o ≡ slice_get (drop s.frame.base s.locals) x → slice_get (drop s.frame.base (map (value h) s.locals)) x ≡ option_map (value h) o
local-there h s x o e = ap (λ l. slice_get l x) (drop-map (value h) s.frame.base s.locals) ∙ slice_get-map (value h) (drop s.frame.base s.locals) x ∙ ap (λ o. option_map (value h) o) (sym e)

global-there : {V M : Type 0} (h : V → M) (s : State (CodeValue V)) (x : ℕ) (o : Option (CodeValue V)) → o ≡ slice_get s.globals x → slice_get (map (value h) s.globals) x ≡ option_map (value h) o
global-there h s x o e = slice_get-map (value h) s.globals x ∙ ap (λ o. option_map (value h) o) (sym e)

found : {M : Type 0} (o : Option (Value M)) (v : Value M) (go : Value M → Next M) → o ≡ Some v → with_found o go ≡ go v
found o v go e = ap (λ o. with_found o go) e

lacks : {M : Type 0} (o : Option (Value M)) (go : Value M → Next M) → o ≡ None → with_found o go ≡ Ends Stuck
lacks o go e = ap (λ o. with_found o go) e

-- ---- reading

pub local-stuck : {A V M : Type 0} (H : A → V → Type 0) (means : A → V → M) (K : Kind M) (m : Module) (a : A) (s : State (CodeValue V)) (x : ℕ) → None ≡ slice_get (drop s.frame.base s.locals) x → Acts H means K m (LocalGet x) a s a s (CodeEnds CodeStuck)
local-stuck H means K m a s x e = stuck-acts H means K m (LocalGet x) a a s s (λ b. lacks _ _ (local-there (means a) s x None e))

pub local-goes : {A V M : Type 0} (H : A → V → Type 0) (means : A → V → M) (K : Kind M) (m : Module) (a : A) (s p t : State (CodeValue V)) (x : ℕ) (v : CodeValue V) → Sane H a s → Some v ≡ slice_get (drop s.frame.base s.locals) x →
    p ≡ passed s → t ≡ pushed v p → Acts H means K m (LocalGet x) a s a t CodeGoes
local-goes H means K m a s p t x v sane e d r =
    push-acts H means K m (LocalGet x) a a (kept-same H means a) s p t v (value (means a) v) sane d r
    (all-get (ValueHeld (H a)) (drop s.frame.base s.locals) x v (all-drop (ValueHeld (H a)) s.frame.base s.locals sane.locals) (sym e)) refl
    (λ b. found _ _ _ (local-there (means a) s x (Some v) e))

pub global-stuck : {A V M : Type 0} (H : A → V → Type 0) (means : A → V → M) (K : Kind M) (m : Module) (a : A) (s : State (CodeValue V)) (x : ℕ) → None ≡ slice_get s.globals x → Acts H means K m (GlobalGet x) a s a s (CodeEnds CodeStuck)
global-stuck H means K m a s x e = stuck-acts H means K m (GlobalGet x) a a s s (λ b. lacks _ _ (global-there (means a) s x None e))

pub global-goes : {A V M : Type 0} (H : A → V → Type 0) (means : A → V → M) (K : Kind M) (m : Module) (a : A) (s p t : State (CodeValue V)) (x : ℕ) (v : CodeValue V) → Sane H a s → Some v ≡ slice_get s.globals x →
    p ≡ passed s → t ≡ pushed v p → Acts H means K m (GlobalGet x) a s a t CodeGoes
global-goes H means K m a s p t x v sane e d r =
    push-acts H means K m (GlobalGet x) a a (kept-same H means a) s p t v (value (means a) v) sane d r (all-get (ValueHeld (H a)) s.globals x v sane.globals (sym e)) refl
    (λ b. found _ _ _ (global-there (means a) s x (Some v) e))

-- ---- writing

pub set-lacks-local : {A V M : Type 0} (H : A → V → Type 0) (means : A → V → M) (K : Kind M) (m : Module) (a : A) (s : State (CodeValue V)) (x : ℕ) → None ≡ slice_get (drop s.frame.base s.locals) x → Acts H means K m (LocalSet x) a s a s (CodeEnds CodeStuck)
set-lacks-local H means K m a s x e = stuck-acts H means K m (LocalSet x) a a s s (λ b. lacks _ _ (local-there (means a) s x None e))

pub set-lacks-value : {A V M : Type 0} (H : A → V → Type 0) (means : A → V → M) (K : Kind M) (m : Module) (a : A) (s : State (CodeValue V)) (x : ℕ) (old : CodeValue V) → Some old ≡ slice_get (drop s.frame.base s.locals) x → None ≡ slice_get (own s) 0 → Acts H means K m (LocalSet x) a s a s (CodeEnds CodeStuck)
set-lacks-value H means K m a s x old e f = stuck-acts H means K m (LocalSet x) a a s s (λ b. found _ _ _ (local-there (means a) s x (Some old) e) ∙ no-value (means a) s 0 _ f)

pub tee-lacks-local : {A V M : Type 0} (H : A → V → Type 0) (means : A → V → M) (K : Kind M) (m : Module) (a : A) (s : State (CodeValue V)) (x : ℕ) → None ≡ slice_get (drop s.frame.base s.locals) x → Acts H means K m (LocalTee x) a s a s (CodeEnds CodeStuck)
tee-lacks-local H means K m a s x e = stuck-acts H means K m (LocalTee x) a a s s (λ b. lacks _ _ (local-there (means a) s x None e))

pub tee-lacks-value : {A V M : Type 0} (H : A → V → Type 0) (means : A → V → M) (K : Kind M) (m : Module) (a : A) (s : State (CodeValue V)) (x : ℕ) (old : CodeValue V) → Some old ≡ slice_get (drop s.frame.base s.locals) x → None ≡ slice_get (own s) 0 → Acts H means K m (LocalTee x) a s a s (CodeEnds CodeStuck)
tee-lacks-value H means K m a s x old e f = stuck-acts H means K m (LocalTee x) a a s s (λ b. found _ _ _ (local-there (means a) s x (Some old) e) ∙ no-value (means a) s 0 _ f)

pub set-lacks-global : {A V M : Type 0} (H : A → V → Type 0) (means : A → V → M) (K : Kind M) (m : Module) (a : A) (s : State (CodeValue V)) (x : ℕ) → None ≡ slice_get s.globals x → Acts H means K m (GlobalSet x) a s a s (CodeEnds CodeStuck)
set-lacks-global H means K m a s x e = stuck-acts H means K m (GlobalSet x) a a s s (λ b. lacks _ _ (global-there (means a) s x None e))

pub global-lacks-value : {A V M : Type 0} (H : A → V → Type 0) (means : A → V → M) (K : Kind M) (m : Module) (a : A) (s : State (CodeValue V)) (x : ℕ) (old : CodeValue V) → Some old ≡ slice_get s.globals x → None ≡ slice_get (own s) 0 → Acts H means K m (GlobalSet x) a s a s (CodeEnds CodeStuck)
global-lacks-value H means K m a s x old e f = stuck-acts H means K m (GlobalSet x) a a s s (λ b. found _ _ _ (global-there (means a) s x (Some old) e) ∙ no-value (means a) s 0 _ f)

-- the last operand put back
first-again : {V M : Type 0} (h : V → M) (s : State (CodeValue V)) (v : CodeValue V) → Some v ≡ slice_get (own s) 0 → value h v ∷ drop 1 (own (image h s)) ≡ own (image h s)
first-again {V = V} h s v e = rw (own-image h s) (by (own s) e)
  where
    by : (vs : List (CodeValue V)) → Some v ≡ slice_get vs 0 → value h v ∷ drop 1 (map (value h) vs) ≡ map (value h) vs
    by [] e = cc
    by (x ∷ xs) e = let f : v ≡ x = cc in ap (λ y. value h y ∷ map (value h) xs) f

local-config : {V M : Type 0} (h : V → M) (m : Module) (b : List M) (u : State (CodeValue V)) (x : ℕ) (v : CodeValue V) →
    configuration h m b (with_local x v u) ≡ with_locals (configuration h m b u) (slice_set (configuration h m b u).frame.locals x (value h v))
local-config h m b u x v = ap (λ s. config_of m b s) (image-local h x v u) ∙ config_of-local m b (image h u) x (value h v)

pub set-goes : {A V M : Type 0} (H : A → V → Type 0) (means : A → V → M) (K : Kind M) (m : Module) (a : A) (s p q t : State (CodeValue V)) (x : ℕ) (old v : CodeValue V) → Sane H a s → Some old ≡ slice_get (drop s.frame.base s.locals) x → Some v ≡ slice_get (own s) 0 →
    p ≡ passed s → q ≡ without 1 p → t ≡ with_local x v q → Acts H means K m (LocalSet x) a s a t CodeGoes
set-goes H means K m a s p q t x old v sane e f d r w =
    let some : 1 ≤ length (own s) = omega (arith, slice_get_within (own s) 0 v (sym f)) in
    let is : t ≡ with_local x v (without 1 (passed s)) = w ∙ ap (λ q. with_local x v q) (r ∙ ap (λ p. without 1 p) d) in
    record {
      gives = λ b. found _ _ _ (local-there (means a) s x (Some old) e) ∙ found-value (means a) s 0 v _ f ∙
          ap (λ c. Goes (with_locals c (slice_set c.frame.locals x (value (means a) v)))) (sym (drop-config (means a) m b (passed s) 1 (well_formed-passed s sane.well_formed) some)) ∙
          ap (λ c. Goes c) (sym (local-config (means a) m b (without 1 (passed s)) x v)) ∙ ap (λ t. Goes (configuration (means a) m b t)) (sym is);
      after = subst (λ t. Sane H a t) (sym is) (sane-local H a (without 1 (passed s)) x v (sane-without H a (passed s) 1 (sane-passed H a s sane) some) (all-get (ValueHeld (H a)) (own s) 0 v (own-held H a s sane) (sym f)));
    }

pub tee-goes : {A V M : Type 0} (H : A → V → Type 0) (means : A → V → M) (K : Kind M) (m : Module) (a : A) (s p t : State (CodeValue V)) (x : ℕ) (old v : CodeValue V) → Sane H a s → Some old ≡ slice_get (drop s.frame.base s.locals) x → Some v ≡ slice_get (own s) 0 →
    p ≡ passed s → t ≡ with_local x v p → Acts H means K m (LocalTee x) a s a t CodeGoes
tee-goes H means K m a s p t x old v sane e f d w =
    let is : t ≡ with_local x v (passed s) = w ∙ ap (λ p. with_local x v p) d in
    record {
      gives = λ b. found _ _ _ (local-there (means a) s x (Some old) e) ∙ found-value (means a) s 0 v _ f ∙
          ap (λ vs. Goes (with_locals (holding (configuration (means a) m b (passed s)) vs) (slice_set (configuration (means a) m b (passed s)).frame.locals x (value (means a) v)))) (first-again (means a) s v f) ∙
          ap (λ c. Goes c) (sym (local-config (means a) m b (passed s) x v)) ∙ ap (λ t. Goes (configuration (means a) m b t)) (sym is);
      after = subst (λ t. Sane H a t) (sym is) (sane-local H a (passed s) x v (sane-passed H a s sane) (all-get (ValueHeld (H a)) (own s) 0 v (own-held H a s sane) (sym f)));
    }

pub global-set-goes : {A V M : Type 0} (H : A → V → Type 0) (means : A → V → M) (K : Kind M) (m : Module) (a : A) (s p q t : State (CodeValue V)) (x : ℕ) (old v : CodeValue V) → Sane H a s → Some old ≡ slice_get s.globals x → Some v ≡ slice_get (own s) 0 →
    p ≡ passed s → q ≡ without 1 p → t ≡ with_global x v q → Acts H means K m (GlobalSet x) a s a t CodeGoes
global-set-goes H means K m a s p q t x old v sane e f d r w =
    let some : 1 ≤ length (own s) = omega (arith, slice_get_within (own s) 0 v (sym f)) in
    let is : t ≡ with_global x v (without 1 (passed s)) = w ∙ ap (λ q. with_global x v q) (r ∙ ap (λ p. without 1 p) d) in
    record {
      gives = λ b. found _ _ _ (global-there (means a) s x (Some old) e) ∙ found-value (means a) s 0 v _ f ∙
          ap (λ c. Goes (with_globals c (slice_set c.store.globals x (value (means a) v)))) (sym (drop-config (means a) m b (passed s) 1 (well_formed-passed s sane.well_formed) some)) ∙
          ap (λ s. Goes (config_of m b s)) (sym (image-global (means a) x v (without 1 (passed s)))) ∙ ap (λ t. Goes (configuration (means a) m b t)) (sym is);
      after = subst (λ t. Sane H a t) (sym is) (sane-global H a (without 1 (passed s)) x v (sane-without H a (passed s) 1 (sane-passed H a s sane) some) (all-get (ValueHeld (H a)) (own s) 0 v (own-held H a s sane) (sym f)));
    }

-- the locals of the frame that runs
pub local-within : {V : Type 0} (s q : State (CodeValue V)) (x : ℕ) (old : CodeValue V) → Some old ≡ slice_get (drop s.frame.base s.locals) x → q.locals ≡ s.locals → q.frame.base ≡ s.frame.base → q.frame.base + x < length q.locals
local-within s q x old e f k =
    let h : x < length (drop s.frame.base s.locals) = slice_get_within (drop s.frame.base s.locals) x old (sym e) in
    let n : s.frame.base + x < length s.locals = omega (arith, h, length-drop s.frame.base s.locals) in
    rw (f, k) n
