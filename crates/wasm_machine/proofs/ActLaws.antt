-- What the functions of instructions come to, by their shape.
use Rattle.std.proofs.Common.{◌≡◌, ℕ, ◌-◌, ◌≤◌, List, ◌∷◌, drop, length, refl, sym, ap, ◌∙◌, subst}
use Rattle.wasm_ast.specs.declared.instructions.Instr.{Instr}
use Rattle.wasm_ast.specs.declared.runs.Cause.{Cause}
use Rattle.wasm_ast.specs.declared.modules.Module.{Module}
use Rattle.wasm_rules.specs.Words.{Kind, Kept}
use Rattle.wasm_reduction.specs.Configurations.{Value, Next, Goes, Asks, Ends, Traps, Stuck}
use Rattle.wasm_reduction.specs.Combinators.{holding}
use Rattle.wasm_reduction.specs.Steps.{act}
use Rattle.wasm_machine.specs.declared.values.Value.{Value as CodeValue}
use Rattle.wasm_machine.specs.declared.next.Question.{Question as CodeQuestion}
use Rattle.wasm_machine.specs.declared.next.End.TheVariants.{Traps as CodeTraps, Stuck as CodeStuck}
use Rattle.wasm_machine.specs.declared.next.Next.TheVariants.{Goes as CodeGoes, Asks as CodeAsks, Ends as CodeEnds}
use Rattle.wasm_machine.specs.States.{State, own, passed}
use Rattle.wasm_machine.specs.code.Moves.{pushed, without, replaced}
use Rattle.wasm_machine.specs.Values.{question, value, ValueHeld}
use Rattle.wasm_machine.specs.Configurations.{IsWellFormed, config_of, image, configuration}
use Rattle.wasm_machine.specs.Acts.{Sane, Acts}
use Rattle.wasm_machine.proofs.Steps.{config_of-pushed, config_of-without, config_of-replaced, well_formed-passed}
use Rattle.wasm_machine.proofs.Images.{well_formed-image, image-pushed, image-without, image-replaced, image-kept, length-own-image, sane-kept, sane-passed, sane-pushed, sane-without}

-- what the reduction says of the instruction that is next in the state s
abbrev pub acting : {A V M : Type 0} → (A → V → M) → Kind M → Module → Instr → A → State (CodeValue V) → List M → Next M
acting means K m i a s b = act K m (configuration (means a) m b (passed s)) (own (image (means a) s)) s.answers i

-- a value in place of the last n operands of a state
pub put-config : {A V M : Type 0} (H : A → V → Type 0) (means : A → V → M) (m : Module) (b : List M) (a a' : A) → Kept H means a a' → (p : State (CodeValue V)) (n : ℕ) (v : CodeValue V) (made : Value M) → Sane H a p → n ≤ length (own p) → value (means a') v ≡ made →
    configuration (means a') m b (replaced n v p) ≡ holding (configuration (means a) m b p) (made ∷ drop n (own (image (means a) p)))
put-config H means m b a a' k p n v made h long e =
    ap (λ s. config_of m b s) (image-replaced (means a') n v p ∙ ap (λ s. replaced n (value (means a') v) s) (image-kept H means a a' k p h) ∙ ap (λ x. replaced n x (image (means a) p)) e) ∙
    config_of-replaced m b (image (means a) p) n made (well_formed-image (means a) p h.well_formed) (rw (length-own-image (means a) p) long)

pub push-config : {A V M : Type 0} (H : A → V → Type 0) (means : A → V → M) (m : Module) (b : List M) (a a' : A) → Kept H means a a' → (p : State (CodeValue V)) (v : CodeValue V) (made : Value M) → Sane H a p → value (means a') v ≡ made →
    configuration (means a') m b (pushed v p) ≡ holding (configuration (means a) m b p) (made ∷ own (image (means a) p))
push-config H means m b a a' k p v made h e =
    ap (λ s. config_of m b s) (image-pushed (means a') v p ∙ ap (λ s. pushed (value (means a') v) s) (image-kept H means a a' k p h) ∙ ap (λ x. pushed x (image (means a) p)) e) ∙
    config_of-pushed m b (image (means a) p) made (well_formed-image (means a) p h.well_formed)

pub drop-config : {V M : Type 0} (h : V → M) (m : Module) (b : List M) (p : State (CodeValue V)) (n : ℕ) → IsWellFormed p → n ≤ length (own p) →
    configuration h m b (without n p) ≡ holding (configuration h m b p) (drop n (own (image h p)))
drop-config h m b p n l long = ap (λ s. config_of m b s) (image-without h n p) ∙ config_of-without m b (image h p) n (well_formed-image h p l) (rw (length-own-image h p) long)

-- ---- the instruction goes on

-- with a value in place of its n operands
pub put-acts : {A V M : Type 0} (H : A → V → Type 0) (means : A → V → M) (K : Kind M) (m : Module) (i : Instr) (a a' : A) → Kept H means a a' → (s p t : State (CodeValue V)) (n : ℕ) (v : CodeValue V) (made : Value M) → Sane H a s → n ≤ length (own s) → p ≡ passed s → t ≡ replaced n v p →
    ValueHeld (H a') v → value (means a') v ≡ made →
    ((b : List M) → acting means K m i a s b ≡ Goes (holding (configuration (means a) m b (passed s)) (made ∷ drop n (own (image (means a) s))))) →
    Acts H means K m i a s a' t CodeGoes
put-acts H means K m i a a' k s p t n v made h long d e0 held is f = let e : t ≡ replaced n v (passed s) = e0 ∙ ap (λ p. replaced n v p) d in record {
  gives = λ b. f b ∙ ap (λ c. Goes c) (sym (ap (λ t. configuration (means a') m b t) e ∙ put-config H means m b a a' k (passed s) n v made (sane-passed H a s h) long is));
  after = subst (λ t. Sane H a' t) (sym e) (sane-pushed H a' (without n (passed s)) v (sane-without H a' (passed s) n (sane-passed H a' s (sane-kept H means a a' k s h)) long) held);
}

-- with one more value
pub push-acts : {A V M : Type 0} (H : A → V → Type 0) (means : A → V → M) (K : Kind M) (m : Module) (i : Instr) (a a' : A) → Kept H means a a' → (s p t : State (CodeValue V)) (v : CodeValue V) (made : Value M) → Sane H a s → p ≡ passed s → t ≡ pushed v p →
    ValueHeld (H a') v → value (means a') v ≡ made →
    ((b : List M) → acting means K m i a s b ≡ Goes (holding (configuration (means a) m b (passed s)) (made ∷ own (image (means a) s)))) →
    Acts H means K m i a s a' t CodeGoes
push-acts H means K m i a a' k s p t v made h d e0 held is f = let e : t ≡ pushed v (passed s) = e0 ∙ ap (λ p. pushed v p) d in record {
  gives = λ b. f b ∙ ap (λ c. Goes c) (sym (ap (λ t. configuration (means a') m b t) e ∙ push-config H means m b a a' k (passed s) v made (sane-passed H a s h) is));
  after = subst (λ t. Sane H a' t) (sym e) (sane-pushed H a' (passed s) v (sane-passed H a' s (sane-kept H means a a' k s h)) held);
}

-- without its n operands
pub drop-acts : {A V M : Type 0} (H : A → V → Type 0) (means : A → V → M) (K : Kind M) (m : Module) (i : Instr) (a : A) (s p t : State (CodeValue V)) (n : ℕ) → Sane H a s → n ≤ length (own s) → p ≡ passed s → t ≡ without n p →
    ((b : List M) → acting means K m i a s b ≡ Goes (holding (configuration (means a) m b (passed s)) (drop n (own (image (means a) s))))) →
    Acts H means K m i a s a t CodeGoes
drop-acts H means K m i a s p t n h long d e0 f = let e : t ≡ without n (passed s) = e0 ∙ ap (λ p. without n p) d in record {
  gives = λ b. f b ∙ ap (λ c. Goes c) (sym (ap (λ t. configuration (means a) m b t) e ∙ drop-config (means a) m b (passed s) n (well_formed-passed s h.well_formed) long));
  after = subst (λ t. Sane H a t) (sym e) (sane-without H a (passed s) n (sane-passed H a s h) long);
}

-- with nothing changed
pub pass-acts : {A V M : Type 0} (H : A → V → Type 0) (means : A → V → M) (K : Kind M) (m : Module) (i : Instr) (a : A) (s t : State (CodeValue V)) → Sane H a s → t ≡ passed s →
    ((b : List M) → acting means K m i a s b ≡ Goes (configuration (means a) m b (passed s))) →
    Acts H means K m i a s a t CodeGoes
pass-acts H means K m i a s t h e f = record {
  gives = λ b. f b ∙ ap (λ t. Goes (configuration (means a) m b t)) (sym e);
  after = subst (λ t. Sane H a t) (sym e) (sane-passed H a s h);
}

-- ---- it asks, before anything changes

pub ask-acts : {A V M : Type 0} (H : A → V → Type 0) (means : A → V → M) (K : Kind M) (m : Module) (i : Instr) (a a' : A) → Kept H means a a' → (s : State (CodeValue V)) (q : CodeQuestion) (w : V) → Sane H a s → H a' w →
    ((b : List M) → acting means K m i a s b ≡ Asks (question q) (means a' w)) →
    Acts H means K m i a s a' s (CodeAsks q w)
ask-acts H means K m i a a' k s q w h held f = record { gives = f; after = (sane-kept H means a a' k s h, refl, held) }

-- ---- it ends

pub trap-acts : {A V M : Type 0} (H : A → V → Type 0) (means : A → V → M) (K : Kind M) (m : Module) (i : Instr) (a a' : A) (s t : State (CodeValue V)) (cause : Cause) →
    ((b : List M) → acting means K m i a s b ≡ Ends (Traps cause)) → Acts H means K m i a s a' t (CodeEnds (CodeTraps cause))
trap-acts H means K m i a a' s t cause f = record { gives = f; after = tt }

pub stuck-acts : {A V M : Type 0} (H : A → V → Type 0) (means : A → V → M) (K : Kind M) (m : Module) (i : Instr) (a a' : A) (s t : State (CodeValue V)) →
    ((b : List M) → acting means K m i a s b ≡ Ends Stuck) → Acts H means K m i a s a' t (CodeEnds CodeStuck)
stuck-acts H means K m i a a' s t f = record { gives = f; after = tt }
