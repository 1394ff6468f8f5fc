-- Parametric instructions.
use Rattle.std.proofs.Common.{◌≡◌, ◌≢◌, ℕ, zero, suc, ◌≤◌, List, [], ◌∷◌, drop, length, refl, sym, ap, ◌∙◌, subst, arith}
use Rattle.std.specs.Prelude.{Bool, true, false, Some, None, slice_get, option_and_then}
use Rattle.std.proofs.lemmas.Option.{slice_get_within}
use Rattle.wasm_ast.specs.declared.types.ValType.{ValType}
use Rattle.wasm_ast.specs.declared.instructions.Instr.TheVariants.{Discard, Select, SelectTyped}
use Rattle.wasm_ast.specs.declared.modules.Module.{Module}
use Rattle.wasm_rules.specs.Words.{Kind, Kept}
use Rattle.wasm_reduction.specs.Configurations.{Value, I32, I64, Ref, Config, Test, Next, Goes, Asks, Ends, Stuck}
use Rattle.wasm_reduction.specs.Combinators.{holding, valued, testing}
use Rattle.wasm_reduction.specs.Parametric.{selecting}
use Rattle.wasm_machine.specs.declared.values.Reference.{Reference as CodeReference}
use Rattle.wasm_machine.specs.declared.values.Value.{Value as CodeValue}
use Rattle.wasm_machine.specs.declared.values.Value.TheVariants.{I32 as CodeI32, I64 as CodeI64, Ref as CodeRef}
use Rattle.wasm_machine.specs.declared.next.Question.TheVariants.{Test as CodeTest}
use Rattle.wasm_machine.specs.declared.next.Next.{Next as CodeNext}
use Rattle.wasm_machine.specs.declared.next.Next.TheVariants.{Goes as CodeGoes, Asks as CodeAsks, Ends as CodeEnds}
use Rattle.wasm_machine.specs.declared.next.End.TheVariants.{Stuck as CodeStuck}
use Rattle.wasm_machine.specs.States.{State, own, passed}
use Rattle.wasm_machine.specs.code.Moves.{without, replaced}
use Rattle.wasm_machine.specs.Values.{reference, value, word_of as code_word, reference_of as code_reference, valued as code_valued, word_at, ValueHeld}
use Rattle.wasm_machine.specs.Configurations.{image, configuration}
use Rattle.wasm_machine.specs.code.SelectOperands.{SelectOperands, by_answer}
use Rattle.wasm_machine.specs.Acts.{Sane, Acts}
use Rattle.wasm_machine.proofs.Images.{kept-same, valued-image, valued-held}
use Rattle.wasm_machine.proofs.NumericLaws.{own-within}
use Rattle.wasm_machine.proofs.Operands.{found-word, no-word, found-value, no-value}
use Rattle.wasm_machine.proofs.ActLaws.{acting, put-acts, drop-acts, ask-acts, stuck-acts}

-- ---- answers

-- the first answer, 0 or another
pub testing-asks : {W : Type 0} (w : W) (ns : List ℕ) (z o : List ℕ → Next W) → None ≡ slice_get ns 0 → testing w ns z o ≡ Asks Test w
testing-asks w [] z o e = refl
testing-asks w (n ∷ ns) z o e = cc

pub testing-zero : {W : Type 0} (w : W) (ns : List ℕ) (n : ℕ) (z o : List ℕ → Next W) → Some n ≡ slice_get ns 0 → n ≡ 0 → testing w ns z o ≡ z (drop 1 ns)
testing-zero w [] n z o e f = cc
testing-zero w (zero ∷ ns) n z o e f = refl
testing-zero w (suc k ∷ ns) n z o e f = cc

pub testing-other : {W : Type 0} (w : W) (ns : List ℕ) (n : ℕ) (z o : List ℕ → Next W) → Some n ≡ slice_get ns 0 → n ≢ 0 → testing w ns z o ≡ o (drop 1 ns)
testing-other w [] n z o e f = cc
testing-other w (zero ∷ ns) n z o e f = let g : n ≡ 0 = cc in absurd (f g)
testing-other w (suc k ∷ ns) n z o e f = refl

-- ---- drop

pub discard-stuck : {A V M : Type 0} (H : A → V → Type 0) (means : A → V → M) (K : Kind M) (m : Module) (a : A) (s : State (CodeValue V)) → None ≡ slice_get (own s) 0 → Acts H means K m Discard a s a s (CodeEnds CodeStuck)
discard-stuck H means K m a s e = stuck-acts H means K m Discard a a s s (λ b. no-value (means a) s 0 _ e)

pub discard-goes : {A V M : Type 0} (H : A → V → Type 0) (means : A → V → M) (K : Kind M) (m : Module) (a : A) (s p t : State (CodeValue V)) (v : CodeValue V) → Sane H a s → Some v ≡ slice_get (own s) 0 → p ≡ passed s → t ≡ without 1 p → Acts H means K m Discard a s a t CodeGoes
discard-goes H means K m a s p t v sane e d r = drop-acts H means K m Discard a s p t 1 sane (omega (arith, slice_get_within (own s) 0 v (sym e))) d r (λ b. found-value (means a) s 0 v _ e)

-- ---- select

pub select-lacks-condition : {A V M : Type 0} (H : A → V → Type 0) (means : A → V → M) (K : Kind M) (m : Module) (a : A) (s : State (CodeValue V)) → None ≡ word_at false (own s) 0 → Acts H means K m Select a s a s (CodeEnds CodeStuck)
select-lacks-condition H means K m a s e = stuck-acts H means K m Select a a s s (λ b. no-word (means a) s false 0 _ e)

pub select-lacks-second : {A V M : Type 0} (H : A → V → Type 0) (means : A → V → M) (K : Kind M) (m : Module) (a : A) (s : State (CodeValue V)) (w : V) → Some w ≡ word_at false (own s) 0 → None ≡ slice_get (own s) 1 → Acts H means K m Select a s a s (CodeEnds CodeStuck)
select-lacks-second H means K m a s w e f = stuck-acts H means K m Select a a s s (λ b. found-word (means a) s false 0 w _ e ∙ no-value (means a) s 1 _ f)

pub select-lacks-first : {A V M : Type 0} (H : A → V → Type 0) (means : A → V → M) (K : Kind M) (m : Module) (a : A) (s : State (CodeValue V)) (w : V) (v : CodeValue V) → Some w ≡ word_at false (own s) 0 → Some v ≡ slice_get (own s) 1 → None ≡ slice_get (own s) 2 → Acts H means K m Select a s a s (CodeEnds CodeStuck)
select-lacks-first H means K m a s w v e f g = stuck-acts H means K m Select a a s s (λ b. found-word (means a) s false 0 w _ e ∙ found-value (means a) s 1 v _ f ∙ no-value (means a) s 2 _ g)

pub select-is : {A V M : Type 0} (means : A → V → M) (K : Kind M) (m : Module) (a : A) (s : State (CodeValue V)) (w : V) (first second : CodeValue V) → SelectOperands s w first second → (b : List M) →
    acting means K m Select a s b ≡ selecting K (configuration (means a) m b (passed s)) (drop 3 (own (image (means a) s))) s.answers (means a w) (value (means a) first) (value (means a) second)
select-is means K m a s w first second t b = found-word (means a) s false 0 w _ t.condition ∙ found-value (means a) s 1 second _ t.second_is ∙ found-value (means a) s 2 first _ t.first_is

three-there : {V : Type 0} (s : State (CodeValue V)) (w : V) (first second : CodeValue V) → SelectOperands s w first second → 3 ≤ length (own s)
three-there s w first second t = omega (arith, slice_get_within (own s) 2 first (sym t.first_is))

pub select-puts : {A V M : Type 0} (H : A → V → Type 0) (means : A → V → M) (K : Kind M) (m : Module) (a a' : A) → Kept H means a a' → (s p t : State (CodeValue V)) (w : V) (first second v : CodeValue V) → Sane H a s → SelectOperands s w first second →
    ((c : Config M) (rest : List (Value M)) → selecting K c rest s.answers (means a w) (value (means a) first) (value (means a) second) ≡ Goes (holding c (value (means a') v ∷ rest))) →
    ValueHeld (H a') v → p ≡ passed s → t ≡ replaced 3 v p → Acts H means K m Select a s a' t CodeGoes
select-puts H means K m a a' k s p t w first second v sane three f held d r =
    put-acts H means K m Select a a' k s p t 3 v (value (means a') v) sane (three-there s w first second three) d r held refl (λ b. select-is means K m a s w first second three b ∙ f (configuration (means a) m b (passed s)) (drop 3 (own (image (means a) s))))

-- ---- of two words

chosen-words : {V M : Type 0} (h : V → M) (K : Kind M) (c : Config M) (rest : List (Value M)) (ns : List ℕ) (w : M) (wide : Bool) (x y : V) (second : CodeValue V) → Some y ≡ code_word wide second →
    selecting K c rest ns w (value h (code_valued wide x)) (value h second) ≡ Goes (holding c (valued wide (K.choose wide w (h x) (h y)) ∷ rest))
chosen-words h K c rest ns w false x y (CodeI32 z) e = let f : z ≡ y = cc in ap (λ z. Goes (holding c (I32 (K.choose false w (h x) (h z)) ∷ rest))) f
chosen-words h K c rest ns w true x y (CodeI32 z) e = cc
chosen-words h K c rest ns w false x y (CodeI64 z) e = cc
chosen-words h K c rest ns w true x y (CodeI64 z) e = let f : z ≡ y = cc in ap (λ z. Goes (holding c (I64 (K.choose true w (h x) (h z)) ∷ rest))) f
chosen-words h K c rest ns w false x y (CodeRef r) e = cc
chosen-words h K c rest ns w true x y (CodeRef r) e = cc

unlike-words : {V M : Type 0} (h : V → M) (K : Kind M) (c : Config M) (rest : List (Value M)) (ns : List ℕ) (w : M) (wide : Bool) (x : V) (second : CodeValue V) → None ≡ code_word wide second →
    selecting K c rest ns w (value h (code_valued wide x)) (value h second) ≡ Ends Stuck
unlike-words h K c rest ns w false x (CodeI32 z) e = cc
unlike-words h K c rest ns w true x (CodeI32 z) e = refl
unlike-words h K c rest ns w false x (CodeI64 z) e = refl
unlike-words h K c rest ns w true x (CodeI64 z) e = cc
unlike-words h K c rest ns w false x (CodeRef r) e = refl
unlike-words h K c rest ns w true x (CodeRef r) e = refl

pub word-unlike : {A V M : Type 0} (H : A → V → Type 0) (means : A → V → M) (K : Kind M) (m : Module) (a : A) (s : State (CodeValue V)) (w : V) (wide : Bool) (x : V) (second : CodeValue V) → SelectOperands s w (code_valued wide x) second → None ≡ code_word wide second →
    Acts H means K m Select a s a s (CodeEnds CodeStuck)
word-unlike H means K m a s w wide x second three e = stuck-acts H means K m Select a a s s (λ b. select-is means K m a s w (code_valued wide x) second three b ∙
    unlike-words (means a) K (configuration (means a) m b (passed s)) (drop 3 (own (image (means a) s))) s.answers (means a w) wide x second e)

pub word-chosen : {A V M : Type 0} (H : A → V → Type 0) (means : A → V → M) (K : Kind M) (m : Module) (a a' : A) → Kept H means a a' → (s p t : State (CodeValue V)) (w : V) (wide : Bool) (x y z : V) (second : CodeValue V) → Sane H a s → SelectOperands s w (code_valued wide x) second → Some y ≡ code_word wide second →
    H a' z → means a' z ≡ K.choose wide (means a w) (means a x) (means a y) → p ≡ passed s → t ≡ replaced 3 (code_valued wide z) p → Acts H means K m Select a s a' t CodeGoes
word-chosen H means K m a a' k s p t w wide x y z second sane three e held is d r =
    select-puts H means K m a a' k s p t w (code_valued wide x) second (code_valued wide z) sane three
    (λ c rest. chosen-words (means a) K c rest s.answers (means a w) wide x y second e ∙ ap (λ v. Goes (holding c (v ∷ rest))) (sym (valued-image (means a') wide z ∙ ap (λ z. valued wide z) is)))
    (valued-held (H a') wide z held) d r

-- what the call requires
pub valued-word : {V : Type 0} (s : State (CodeValue V)) (k : ℕ) (wide : Bool) (x : V) → Some (code_valued wide x) ≡ slice_get (own s) k → Some x ≡ word_at wide (own s) k
valued-word s k false x e = ap (λ o. option_and_then (code_word false) o) e
valued-word s k true x e = ap (λ o. option_and_then (code_word true) o) e

pub other-word : {V : Type 0} (s : State (CodeValue V)) (k : ℕ) (wide : Bool) (y : V) (v : CodeValue V) → Some v ≡ slice_get (own s) k → Some y ≡ code_word wide v → Some y ≡ word_at wide (own s) k
other-word s k wide y v e f = f ∙ ap (λ o. option_and_then (code_word wide) o) e

pub three-within : {V : Type 0} (s p : State (CodeValue V)) (w : V) (first second : CodeValue V) → SelectOperands s w first second → p ≡ passed s → 3 ≤ length p.operands
three-within s p w first second three e = own-within s p 3 e (three-there s w first second three)

-- ---- of two references

other-reference : {V : Type 0} (r : CodeReference) (v : CodeValue V) → Some r ≡ code_reference v → v ≡ CodeRef r
other-reference r (CodeI32 w) e = cc
other-reference r (CodeI64 w) e = cc
other-reference r (CodeRef q) e = let f : q ≡ r = cc in ap (λ r. CodeRef r) f

unlike-reference : {V M : Type 0} (h : V → M) (K : Kind M) (c : Config M) (rest : List (Value M)) (ns : List ℕ) (w : M) (r : CodeReference) (second : CodeValue V) → None ≡ code_reference second → selecting K c rest ns w (Ref (reference r)) (value h second) ≡ Ends Stuck
unlike-reference h K c rest ns w r (CodeI32 x) e = refl
unlike-reference h K c rest ns w r (CodeI64 x) e = refl
unlike-reference h K c rest ns w r (CodeRef q) e = cc

pub reference-unlike : {A V M : Type 0} (H : A → V → Type 0) (means : A → V → M) (K : Kind M) (m : Module) (a : A) (s : State (CodeValue V)) (w : V) (r : CodeReference) (second : CodeValue V) → SelectOperands s w (CodeRef r) second → None ≡ code_reference second →
    Acts H means K m Select a s a s (CodeEnds CodeStuck)
reference-unlike H means K m a s w r second three e = stuck-acts H means K m Select a a s s (λ b. select-is means K m a s w (CodeRef r) second three b ∙
    unlike-reference (means a) K (configuration (means a) m b (passed s)) (drop 3 (own (image (means a) s))) s.answers (means a w) r second e)

three-references : {V : Type 0} (s : State (CodeValue V)) (w : V) (first r : CodeReference) (second : CodeValue V) → SelectOperands s w (CodeRef first) second → Some r ≡ code_reference second → SelectOperands s w (CodeRef first) (CodeRef r)
three-references s w first r second three e = subst (λ v. SelectOperands s w (CodeRef first) v) (other-reference r second e) three

pub select-asks : {A V M : Type 0} (H : A → V → Type 0) (means : A → V → M) (K : Kind M) (m : Module) (a : A) (s : State (CodeValue V)) (w : V) (first other : CodeReference) (second : CodeValue V) → Sane H a s → SelectOperands s w (CodeRef first) second → Some other ≡ code_reference second → H a w →
    None ≡ slice_get s.answers 0 → Acts H means K m Select a s a s (CodeAsks CodeTest w)
select-asks H means K m a s w first other second sane three o held e =
    ask-acts H means K m Select a a (kept-same H means a) s CodeTest w sane held (λ b. select-is means K m a s w (CodeRef first) (CodeRef other) (three-references s w first other second three o) b ∙ testing-asks (means a w) s.answers _ _ e)

one-of : {M : Type 0} (c : Config M) (rest : List (Value M)) (w : M) (ns : List ℕ) (n : ℕ) (first other : CodeReference) → Some n ≡ slice_get ns 0 →
    testing w ns (λ ns. Goes (holding c (Ref (reference other) ∷ rest))) (λ ns. Goes (holding c (Ref (reference first) ∷ rest))) ≡ Goes (holding c (Ref (reference (by_answer n other first)) ∷ rest))
one-of c rest w [] n first other e = cc
one-of c rest w (zero ∷ ns) zero first other e = refl
one-of c rest w (zero ∷ ns) (suc n) first other e = cc
one-of c rest w (suc k ∷ ns) zero first other e = cc
one-of c rest w (suc k ∷ ns) (suc n) first other e = refl

pub select-refers : {A V M : Type 0} (H : A → V → Type 0) (means : A → V → M) (K : Kind M) (m : Module) (a : A) (s p t : State (CodeValue V)) (w : V) (first other r : CodeReference) (second : CodeValue V) (n : ℕ) → Sane H a s → SelectOperands s w (CodeRef first) second → Some other ≡ code_reference second →
    Some n ≡ slice_get s.answers 0 → r ≡ by_answer n other first → p ≡ passed s → t ≡ replaced 3 (CodeRef r) p → Acts H means K m Select a s a t CodeGoes
select-refers H means K m a s p t w first other r second n sane three o e q d i =
    select-puts H means K m a a (kept-same H means a) s p t w (CodeRef first) (CodeRef other) (CodeRef r) sane (three-references s w first other second three o)
    (λ c rest. one-of c rest (means a w) s.answers n first other e ∙ ap (λ r. Goes (holding c (Ref (reference r) ∷ rest))) (sym q)) tt d i

-- ---- with types

pub select-typed : {A V M : Type 0} (H : A → V → Type 0) (means : A → V → M) (K : Kind M) (m : Module) (kinds : List ValType) (a a' : A) (s t : State (CodeValue V)) (x : CodeNext V) → Acts H means K m Select a s a' t x → Acts H means K m (SelectTyped kinds) a s a' t x
select-typed H means K m kinds a a' s t x r = record { gives = r.gives; after = r.after }
