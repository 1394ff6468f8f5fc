-- Calls.
use Rattle.std.proofs.Common.{◌≡◌, ◌≢◌, ℕ, zero, suc, ◌+◌, ◌-◌, ◌<◌, ◌≤◌, List, [], ◌∷◌, ◌++◌, map, take, drop, length, reverse, refl, sym, ap, ◌∙◌, subst, arith, length-append}
use Rattle.std.specs.Prelude.{Bool, false, slice_get, Option, Some, None, option_map, filter, filter_map, replicate, is_some, cond}
use Rattle.std.specs.List.{AllByRecursion, cons_option}
use Rattle.std.proofs.lemmas.Bool.{le-ltb}
use Rattle.std.proofs.lemmas.Option.{slice_get_past}
use Rattle.std.proofs.lemmas.List.{take-map, drop-map, length-map, map-append, length-take-le, length-drop}
use Rattle.wasm_ast.specs.declared.types.ValType.{ValType}
use Rattle.wasm_ast.specs.declared.types.ValType.TheVariants.{I32 as I32Type, I64 as I64Type, FuncRef as FuncRefType, ExternRef as ExternRefType}
use Rattle.wasm_ast.specs.declared.types.FuncType.{FuncType}
use Rattle.wasm_ast.specs.declared.instructions.Instr.TheVariants.{Call}
use Rattle.wasm_ast.specs.declared.modules.Group.{Group}
use Rattle.wasm_ast.specs.declared.modules.Func.{Func}
use Rattle.wasm_ast.specs.declared.modules.Import.{Import}
use Rattle.wasm_ast.specs.declared.modules.Module.{Module}
use Rattle.wasm_rules.specs.Words.{Kind, Kept}
use Rattle.wasm_check.specs.Trees.{seq_of}
use Rattle.wasm_check.specs.Contexts.{func_import}
use Rattle.wasm_image.specs.declared.hosts.Host.{Host}
use Rattle.wasm_image.specs.declared.hosts.Host.TheVariants.{Assume as AssumeHost, Assert as AssertHost}
use Rattle.wasm_image.specs.Functions.{imported_functions}
use Rattle.wasm_image.specs.Hosts.{IsHostFunction, AreLinked}
use Rattle.wasm_image.proofs.ImageLaws.{each_host}
use Rattle.wasm_reduction.specs.Configurations.{Value, I32, I64, Config, Assume, Next, Goes, Draws, Asks}
use Rattle.wasm_reduction.specs.Combinators.{holding, with_found, with_word, with_last, assuming}
use Rattle.wasm_reduction.specs.Functions.{Code, Function, imported_as, defined_as, functions, default, first_locals}
use Rattle.wasm_reduction.specs.Control.{frame_of, calling_host, calling, call}
use Rattle.wasm_reduction.proofs.ImageFunctions.{runs-host, runs-code}
use Rattle.wasm_machine.specs.declared.values.Value.{Value as CodeValue}
use Rattle.wasm_machine.specs.declared.next.Question.TheVariants.{Test as CodeTest, Assume as CodeAssume}
use Rattle.wasm_machine.specs.declared.next.End.TheVariants.{Stuck as CodeStuck, Assumes as CodeAssumes, Fails as CodeFails}
use Rattle.wasm_machine.specs.declared.next.Next.{Next as CodeNext}
use Rattle.wasm_machine.specs.declared.next.Next.TheVariants.{Goes as CodeGoes, Draws as CodeDraws, Asks as CodeAsks, Ends as CodeEnds}
use Rattle.wasm_machine.specs.States.{State, own, passed}
use Rattle.wasm_machine.specs.code.Moves.{without, called}
use Rattle.wasm_machine.specs.Values.{value, word_at, default_value, first_locals_of, ValueHeld, ValuesHeld}
use Rattle.wasm_machine.specs.Configurations.{image, config_of, configuration, IsWellFormed}
use Rattle.wasm_machine.specs.Acts.{Sane, Acts}
use Rattle.wasm_machine.specs.code.Simulation.{Simulates}
use Rattle.wasm_machine.proofs.Lists.{all-append, all-take, all-drop}
use Rattle.wasm_machine.proofs.Steps.{length-own, config_of-called, well_formed-called, well_formed-passed, own-without}
use Rattle.wasm_machine.proofs.Images.{well_formed-image, length-own-image, image-kept, sane-kept, sane-passed, sane-without}
use Rattle.wasm_machine.proofs.Operands.{found-word, no-word}
use Rattle.wasm_machine.proofs.ParametricLaws.{testing-asks, testing-zero, testing-other}
use Rattle.wasm_machine.proofs.ControlLaws.{own-image-without}
use Rattle.wasm_machine.proofs.ActLaws.{drop-config}

-- ---- answers that were given before

get-drop : {X : Type 0} (xs : List X) (j : ℕ) → slice_get (drop j xs) 0 ≡ slice_get xs j
get-drop [] zero = refl
get-drop [] (suc j) = refl
get-drop (x ∷ xs) zero = refl
get-drop (x ∷ xs) (suc j) = get-drop xs j

assuming-asks : {W : Type 0} (w : W) (ns : List ℕ) (z o : Next W) → None ≡ slice_get ns 0 → assuming w ns z o ≡ Asks Assume w
assuming-asks w [] z o e = refl
assuming-asks w (n ∷ ns) z o e = cc

assuming-zero : {W : Type 0} (w : W) (ns : List ℕ) (n : ℕ) (z o : Next W) → Some n ≡ slice_get ns 0 → n ≡ 0 → assuming w ns z o ≡ z
assuming-zero w [] n z o e f = cc
assuming-zero w (zero ∷ ns) n z o e f = refl
assuming-zero w (suc k ∷ ns) n z o e f = cc

assuming-other : {W : Type 0} (w : W) (ns : List ℕ) (n : ℕ) (z o : Next W) → Some n ≡ slice_get ns 0 → n ≢ 0 → assuming w ns z o ≡ o
assuming-other w [] n z o e f = cc
assuming-other w (zero ∷ ns) n z o e f = let g : n ≡ 0 = cc in absurd (f g)
assuming-other w (suc k ∷ ns) n z o e f = refl

-- ---- host functions

-- what the reduction says of a host function, k operands and j answers further
abbrev pub hosting : {A V M : Type 0} → (A → V → M) → Module → A → State (CodeValue V) → ℕ → ℕ → Host → List M → Next M
hosting means m a s k j h b = calling_host (configuration (means a) m b (passed s)) (drop k (own (image (means a) s))) (drop j s.answers) (Some h)

pub symbol-tells : {A V M : Type 0} (H : A → V → Type 0) (means : A → V → M) (m : Module) (a : A) (s p t : State (CodeValue V)) (k j : ℕ) (wide : Bool) (h : Host) → Sane H a s → k ≤ length (own s) → p ≡ passed s → t ≡ without k p →
    ((c : Config M) (vs : List (Value M)) (ns : List ℕ) → calling_host c vs ns (Some h) ≡ Draws wide (holding c vs)) →
    Simulates H means m a s t (CodeDraws wide) (hosting means m a s k j h)
symbol-tells H means m a s p t k j wide h sane some d i f =
    let e : t ≡ without k (passed s) = i ∙ ap (λ p. without k p) d in
    record {
      gives = λ b. f (configuration (means a) m b (passed s)) (drop k (own (image (means a) s))) (drop j s.answers) ∙
          ap (λ c. Draws wide c) (sym (drop-config (means a) m b (passed s) k (well_formed-passed s sane.well_formed) some)) ∙ ap (λ t. Draws wide (configuration (means a) m b t)) (sym e);
      after = subst (λ t. Sane H a t) (sym e) (sane-without H a (passed s) k (sane-passed H a s sane) some);
    }

pub host-stuck : {A V M : Type 0} (H : A → V → Type 0) (means : A → V → M) (m : Module) (a : A) (s : State (CodeValue V)) (k j : ℕ) (h : Host) → None ≡ word_at false (own s) k →
    ((c : Config M) (vs : List (Value M)) (ns : List ℕ) → (go : M → List (Value M) → Next M) × (calling_host c vs ns (Some h) ≡ with_word false vs go)) →
    Simulates H means m a s s (CodeEnds CodeStuck) (hosting means m a s k j h)
host-stuck H means m a s k j h e f = record {
  gives = λ b. let g = f (configuration (means a) m b (passed s)) (drop k (own (image (means a) s))) (drop j s.answers) in g.1 ∙ no-word (means a) s false k g.0 e;
  after = tt;
}

pub assume-asks : {A V M : Type 0} (H : A → V → Type 0) (means : A → V → M) (m : Module) (a : A) (s : State (CodeValue V)) (k j : ℕ) (w : V) → Sane H a s → Some w ≡ word_at false (own s) k → H a w → None ≡ slice_get s.answers j →
    Simulates H means m a s s (CodeAsks CodeAssume w) (hosting means m a s k j AssumeHost)
assume-asks H means m a s k j w sane e held f = record {
  gives = λ b. found-word (means a) s false k w _ e ∙ assuming-asks (means a w) (drop j s.answers) _ _ (f ∙ sym (get-drop s.answers j));
  after = (sane, refl, held);
}

pub assume-ends : {A V M : Type 0} (H : A → V → Type 0) (means : A → V → M) (m : Module) (a : A) (s : State (CodeValue V)) (k j : ℕ) (w : V) (n : ℕ) → Some w ≡ word_at false (own s) k → Some n ≡ slice_get s.answers j → n ≡ 0 →
    Simulates H means m a s s (CodeEnds CodeAssumes) (hosting means m a s k j AssumeHost)
assume-ends H means m a s k j w n e f z = record {
  gives = λ b. found-word (means a) s false k w _ e ∙ assuming-zero (means a w) (drop j s.answers) n _ _ (f ∙ sym (get-drop s.answers j)) z;
  after = tt;
}

below-one : {A V M : Type 0} (H : A → V → Type 0) (means : A → V → M) (m : Module) (a : A) (s p t : State (CodeValue V)) (k : ℕ) (e : List M → Next M) → Sane H a s → k + 1 ≤ length (own s) → p ≡ passed s → t ≡ without (k + 1) p →
    ((b : List M) → e b ≡ Goes (holding (configuration (means a) m b (passed s)) (drop (k + 1) (own (image (means a) s))))) → Simulates H means m a s t CodeGoes e
below-one H means m a s p t k e sane some d i f =
    let g : t ≡ without (k + 1) (passed s) = i ∙ ap (λ p. without (k + 1) p) d in
    record {
      gives = λ b. f b ∙ ap (λ c. Goes c) (sym (drop-config (means a) m b (passed s) (k + 1) (well_formed-passed s sane.well_formed) some)) ∙ ap (λ t. Goes (configuration (means a) m b t)) (sym g);
      after = subst (λ t. Sane H a t) (sym g) (sane-without H a (passed s) (k + 1) (sane-passed H a s sane) some);
    }

pub assume-goes : {A V M : Type 0} (H : A → V → Type 0) (means : A → V → M) (m : Module) (a : A) (s p t : State (CodeValue V)) (k j : ℕ) (w : V) (n : ℕ) → Sane H a s → Some w ≡ word_at false (own s) k → k + 1 ≤ length (own s) → Some n ≡ slice_get s.answers j → n ≢ 0 →
    p ≡ passed s → t ≡ without (k + 1) p → Simulates H means m a s t CodeGoes (hosting means m a s k j AssumeHost)
assume-goes H means m a s p t k j w n sane e some f z d i = below-one H means m a s p t k _ sane some d i (λ b.
    found-word (means a) s false k w _ e ∙ assuming-other (means a w) (drop j s.answers) n _ _ (f ∙ sym (get-drop s.answers j)) z)

pub assert-asks : {A V M : Type 0} (H : A → V → Type 0) (means : A → V → M) (m : Module) (a : A) (s : State (CodeValue V)) (k j : ℕ) (w : V) → Sane H a s → Some w ≡ word_at false (own s) k → H a w → None ≡ slice_get s.answers j →
    Simulates H means m a s s (CodeAsks CodeTest w) (hosting means m a s k j AssertHost)
assert-asks H means m a s k j w sane e held f = record {
  gives = λ b. found-word (means a) s false k w _ e ∙ testing-asks (means a w) (drop j s.answers) _ _ (f ∙ sym (get-drop s.answers j));
  after = (sane, refl, held);
}

pub assert-ends : {A V M : Type 0} (H : A → V → Type 0) (means : A → V → M) (m : Module) (a : A) (s : State (CodeValue V)) (k j : ℕ) (w : V) (n : ℕ) → Some w ≡ word_at false (own s) k → Some n ≡ slice_get s.answers j → n ≡ 0 →
    Simulates H means m a s s (CodeEnds CodeFails) (hosting means m a s k j AssertHost)
assert-ends H means m a s k j w n e f z = record {
  gives = λ b. found-word (means a) s false k w _ e ∙ testing-zero (means a w) (drop j s.answers) n _ _ (f ∙ sym (get-drop s.answers j)) z;
  after = tt;
}

pub assert-goes : {A V M : Type 0} (H : A → V → Type 0) (means : A → V → M) (m : Module) (a : A) (s p t : State (CodeValue V)) (k j : ℕ) (w : V) (n : ℕ) → Sane H a s → Some w ≡ word_at false (own s) k → k + 1 ≤ length (own s) → Some n ≡ slice_get s.answers j → n ≢ 0 →
    p ≡ passed s → t ≡ without (k + 1) p → Simulates H means m a s t CodeGoes (hosting means m a s k j AssertHost)
assert-goes H means m a s p t k j w n sane e some f z d i = below-one H means m a s p t k _ sane some d i (λ b.
    found-word (means a) s false k w _ e ∙ testing-other (means a w) (drop j s.answers) n _ _ (f ∙ sym (get-drop s.answers j)) z)

-- ---- locals as they begin

default-image : {V M : Type 0} (h : V → M) (K : Kind M) (nought : V) (kind : ValType) → h nought ≡ K.number 0 → value h (default_value nought kind) ≡ default K kind
default-image h K nought I32Type e = ap (λ w. I32 w) e
default-image h K nought I64Type e = ap (λ w. I64 w) e
default-image h K nought FuncRefType e = refl
default-image h K nought ExternRefType e = refl

map-replicate : {X Y : Type 0} (h : X → Y) (n : ℕ) (x : X) → map h (replicate n x) ≡ replicate n (h x)
map-replicate h zero x = refl
map-replicate h (suc n) x = ap (λ l. h x ∷ l) (map-replicate h n x)

pub locals-image : {V M : Type 0} (h : V → M) (K : Kind M) (nought : V) (groups : List Group) → h nought ≡ K.number 0 → map (value h) (first_locals_of nought groups) ≡ first_locals K groups
locals-image h K nought [] e = refl
locals-image h K nought (g ∷ gs) e =
    map-append (value h) (replicate g.count (default_value nought g.kind)) (first_locals_of nought gs) ∙
    ap (λ l. l ++ map (value h) (first_locals_of nought gs)) (map-replicate (value h) g.count (default_value nought g.kind) ∙ ap (λ v. replicate g.count v) (default-image h K nought g.kind e)) ∙
    ap (λ l. replicate g.count (default K g.kind) ++ l) (locals-image h K nought gs e)

all-replicate : {X : Type 0} (P : X → Type 0) (n : ℕ) (x : X) → P x → AllByRecursion P (replicate n x)
all-replicate P zero x h = tt
all-replicate P (suc n) x h = (h, all-replicate P n x h)

default-held : {V : Type 0} (H : V → Type 0) (nought : V) (kind : ValType) → H nought → ValueHeld H (default_value nought kind)
default-held H nought I32Type h = h
default-held H nought I64Type h = h
default-held H nought FuncRefType h = tt
default-held H nought ExternRefType h = tt

locals-held : {V : Type 0} (H : V → Type 0) (nought : V) (groups : List Group) → H nought → ValuesHeld H (first_locals_of nought groups)
locals-held H nought [] h = tt
locals-held H nought (g ∷ gs) h = all-append (ValueHeld H) (replicate g.count (default_value nought g.kind)) (first_locals_of nought gs) (all-replicate (ValueHeld H) g.count (default_value nought g.kind) (default-held H nought g.kind h)) (locals-held H nought gs h)

-- ---- functions with code

-- what the reduction says of a function with code, k operands further
abbrev pub coding : {A V M : Type 0} → (A → V → M) → Kind M → Module → A → State (CodeValue V) → ℕ → Func → List ℕ → List M → Next M
coding means K m a s k f ns b = calling K m (configuration (means a) m b (passed s)) (drop k (own (image (means a) s))) ns (defined_as f) (Code f)

pub code-lacks : {A V M : Type 0} (H : A → V → Type 0) (means : A → V → M) (K : Kind M) (m : Module) (a : A) (s : State (CodeValue V)) (k : ℕ) (f : Func) (ns : List ℕ) → slice_get m.types f.ty ≡ None →
    Simulates H means m a s s (CodeEnds CodeStuck) (coding means K m a s k f ns)
code-lacks {M = M} H means K m a s k f ns e = record {
  gives = λ b. let c : Config M = configuration (means a) m b (passed s) in
      ap (λ o. with_found o (λ t. with_last (length t.params) (drop k (own (image (means a) s))) (λ args rest.
      Goes (record c { frame = frame_of K t f (reverse args); callers = (holding c rest).frame ∷ c.callers })))) e;
  after = tt;
}

image-called : {V M : Type 0} (h : V → M) (g n arity : ℕ) (others : List (CodeValue V)) (s : State (CodeValue V)) → image h (called g n others arity s) ≡ called g n (map (value h) others) arity (image h s)
image-called h g n arity others s = sym (rw (length-map s.operands (value h), length-map s.locals (value h))
    (ap (λ o. record (image h (called g n others arity s)) { operands = o; locals = map (value h) s.locals ++ (drop (length s.operands - n) (map (value h) s.operands) ++ map (value h) others) }) (take-map (value h) (length s.operands - n) s.operands) ∙
    ap (λ l. record (image h (called g n others arity s)) { locals = map (value h) s.locals ++ l }) (ap (λ l. l ++ map (value h) others) (drop-map (value h) (length s.operands - n) s.operands) ∙ sym (map-append (value h) (drop (length s.operands - n) s.operands) others)) ∙
    ap (λ l. record (image h (called g n others arity s)) { locals = l }) (sym (map-append (value h) s.locals (drop (length s.operands - n) s.operands ++ others)))))

-- the frame of a call
abbrev framed : {W : Type 0} → Config W → List (Value W) → ℕ → ℕ → List (Value W) → Func → Config W
framed c vs n arity others f =
    record c {
      frame = record { arity = arity; locals = reverse (take n vs) ++ others; seqs = f.body.seqs; here = record { arity = arity; again = []; vals = []; code = seq_of f.body.seqs 0 }; outer = [] };
      callers = (holding c (drop n vs)).frame ∷ c.callers;
    }

pub code-goes : {A V M : Type 0} (H : A → V → Type 0) (means : A → V → M) (K : Kind M) (m : Module) (a a' : A) → Kept H means a a' → (s p q t : State (CodeValue V)) (k g n arity : ℕ) (nought : V) (f : Func) (type : FuncType) (ns : List ℕ) → Sane H a s → k ≤ length (own s) →
    slice_get m.funcs g ≡ Some f → slice_get m.types f.ty ≡ Some type → n ≡ length type.params → arity ≡ length type.results → length type.params ≤ length (own s) - k → H a' nought → means a' nought ≡ K.number 0 →
    p ≡ passed s → q ≡ without k p → t ≡ called g n (first_locals_of nought f.locals) arity q → Simulates H means m a' s t CodeGoes (coding means K m a s k f ns)
code-goes {A = A} {V = V} {M = M} H means K m a a' kept s p q t k g n arity nought f type ns sane some there typed params results long held is d i w =
    let u : State (CodeValue V) = without k (passed s) in
    let S = image (means a) s in
    let U = image (means a) u in
    let well_formed : IsWellFormed u = (sane-without H a (passed s) k (sane-passed H a s sane) some).well_formed in
    let sane' : Sane H a' u = sane-kept H means a a' kept u (sane-without H a (passed s) k (sane-passed H a s sane) some) in
    let e : t ≡ called g n (first_locals_of nought f.locals) arity u = w ∙ ap (λ q. called g n (first_locals_of nought f.locals) arity q) (i ∙ ap (λ p. without k p) d) in
    let owns : own U ≡ drop k (own S) = own-image-without (means a) (passed s) k (well_formed-passed s sane.well_formed) some in
    let here : length (own u) ≡ length (own s) - k = ap (λ l. length l) (own-without (passed s) k (well_formed-passed s sane.well_formed) some) ∙ length-drop k (own s) in
    let enough : n ≤ length (own u) = omega (arith, here, params, long) in
    let args : length type.params ≤ length (drop k (own S)) = omega (arith, long, length-own-image (means a) s, length-drop k (own S)) in
    record {
      gives = λ b. let c : Config M = configuration (means a) m b (passed s) in
          ap (λ o. with_found o (λ t. with_last (length t.params) (drop k (own S)) (λ args rest.
          Goes (record c { frame = frame_of K t f (reverse args); callers = (holding c rest).frame ∷ c.callers })))) typed ∙
          rw (le-ltb (length (drop k (own S))) (length type.params) args)
          (ap (λ z. Goes (framed c (drop k (own S)) z (length type.results) (first_locals K f.locals) f)) (sym params) ∙
          ap (λ z. Goes (framed c (drop k (own S)) n z (first_locals K f.locals) f)) (sym results) ∙
          ap (λ l. Goes (framed c (drop k (own S)) n arity l f)) (sym (locals-image (means a') K nought f.locals is)) ∙
          ap (λ vs. Goes (framed (holding c (drop k (own S))) vs n arity (map (value (means a')) (first_locals_of nought f.locals)) f)) (sym owns) ∙
          ap (λ c. Goes (framed c (own U) n arity (map (value (means a')) (first_locals_of nought f.locals)) f)) (sym (drop-config (means a) m b (passed s) k (well_formed-passed s sane.well_formed) some)) ∙
          ap (λ c. Goes c) (config_of-called m b U g f n arity (map (value (means a')) (first_locals_of nought f.locals)) (well_formed-image (means a) u well_formed) there (rw (length-own-image (means a) u) enough)) ∙
          ap (λ s. Goes (config_of m b (called g n (map (value (means a')) (first_locals_of nought f.locals)) arity s))) (sym (image-kept H means a a' kept u (sane-without H a (passed s) k (sane-passed H a s sane) some))) ∙
          ap (λ s. Goes (config_of m b s)) (sym (image-called (means a') g n arity (first_locals_of nought f.locals) u)) ∙ ap (λ t. Goes (configuration (means a') m b t)) (sym e));
      after = subst (λ t. Sane H a' t) (sym e) (record {
        well_formed = well_formed-called u g n arity (first_locals_of nought f.locals) well_formed enough;
        operands = all-take (ValueHeld (H a')) (length u.operands - n) u.operands sane'.operands;
        locals = all-append (ValueHeld (H a')) u.locals (drop (length u.operands - n) u.operands ++ first_locals_of nought f.locals) sane'.locals
            (all-append (ValueHeld (H a')) (drop (length u.operands - n) u.operands) (first_locals_of nought f.locals) (all-drop (ValueHeld (H a')) (length u.operands - n) u.operands sane'.operands) (locals-held (H a') nought f.locals held));
        globals = sane'.globals;
      });
    }

-- ---- functions by their indices

-- what the reduction says of a call, k operands and j answers further
abbrev pub function_says : {A V M : Type 0} → (A → V → M) → Kind M → Module → A → State (CodeValue V) → ℕ → ℕ → ℕ → List M → Next M
function_says means K m a s x k j b = call K m (configuration (means a) m b (passed s)) (drop k (own (image (means a) s))) (drop j s.answers) x

pub calls-host : {A V M : Type 0} (H : A → V → Type 0) (means : A → V → M) (K : Kind M) (m : Module) (a : A) (s t : State (CodeValue V)) (x k j : ℕ) (h : Host) (r : CodeNext V) → IsHostFunction m x h →
    Simulates H means m a s t r (hosting means m a s k j h) → Simulates H means m a s t r (function_says means K m a s x k j)
calls-host H means K m a s t x k j h r is tells =
    let found = runs-host m x h is in
    record {
      gives = λ b. ap (λ o. with_found o (λ f. calling K m (configuration (means a) m b (passed s)) (drop k (own (image (means a) s))) (drop j s.answers) f f.body)) found.1 ∙ tells.gives b;
      after = tells.after;
    }

pub calls-code : {A V M : Type 0} (H : A → V → Type 0) (means : A → V → M) (K : Kind M) (m : Module) (a a' : A) (s t : State (CodeValue V)) (x g k j : ℕ) (f : Func) (r : CodeNext V) → x ≡ length (imported_functions m) + g → slice_get m.funcs g ≡ Some f →
    Simulates H means m a' s t r (coding means K m a s k f (drop j s.answers)) → Simulates H means m a' s t r (function_says means K m a s x k j)
calls-code H means K m a a' s t x g k j f r e there tells = record {
  gives = λ b. ap (λ o. with_found o (λ f. calling K m (configuration (means a) m b (passed s)) (drop k (own (image (means a) s))) (drop j s.answers) f f.body)) (ap (λ x. slice_get (functions m) x) e ∙ runs-code m g f there) ∙ tells.gives b;
  after = tells.after;
}

import-count : (is : List Import) → length (filter (λ i. is_some (func_import i.kind)) is) ≡ length (filter_map (λ i. option_map (imported_as i) (func_import i.kind)) is)
import-count [] = refl
import-count (i ∷ is) = one (func_import i.kind) _ _ (import-count is)
  where
    one : (o : Option ℕ) (js : List Import) (fs : List Function) → length js ≡ length fs → length (cond (is_some o) (i ∷ js) js) ≡ length (cons_option (option_map (imported_as i) o) fs)
    one None js fs e = e
    one (Some ty) js fs e = ap suc e

pub calls-none : {A V M : Type 0} (H : A → V → Type 0) (means : A → V → M) (K : Kind M) (m : Module) (a : A) (s : State (CodeValue V)) (x k j : ℕ) → length (imported_functions m) + length m.funcs ≤ x → Simulates H means m a s s (CodeEnds CodeStuck) (function_says means K m a s x k j)
calls-none H means K m a s x k j h =
    let imports = filter_map (λ i. option_map (imported_as i) (func_import i.kind)) m.imports in
    let all : length (functions m) ≤ x = omega (arith, h, import-count m.imports, length-append imports (map defined_as m.funcs), length-map m.funcs defined_as) in
    record {
      gives = λ b. ap (λ o. with_found o (λ f. calling K m (configuration (means a) m b (passed s)) (drop k (own (image (means a) s))) (drop j s.answers) f f.body)) (slice_get_past (functions m) x all);
      after = tt;
    }

pub linked-host : (m : Module) (x : ℕ) → AreLinked m → ((h : Host) → IsHostFunction m x h → ⊥) → x < length (imported_functions m) → ⊥
linked-host m x linked none h = let e = each_host m x linked h in none e.0 e.1

pub call-acts : {A V M : Type 0} (H : A → V → Type 0) (means : A → V → M) (K : Kind M) (m : Module) (a a' : A) (s t : State (CodeValue V)) (x : ℕ) (r : CodeNext V) → Simulates H means m a' s t r (function_says means K m a s x 0 0) → Acts H means K m (Call x) a s a' t r
call-acts H means K m a a' s t x r tells = record { gives = tells.gives; after = tells.after }

-- the arguments lie among the operands
pub args-within : {V : Type 0} (s p q : State (CodeValue V)) (k n : ℕ) → p ≡ passed s → q ≡ without k p → n ≤ length (own s) - k → n ≤ length q.operands
args-within s p q k n d i h =
    let e : q ≡ without k (passed s) = i ∙ ap (λ p. without k p) d in
    subst (λ q. n ≤ length q.operands) (sym e) (let long : length (take (length s.operands - k) s.operands) ≡ length s.operands - k = length-take-le (length s.operands - k) s.operands (omega arith) in
    let r : n ≤ length (take (length s.operands - k) s.operands) = omega (arith, h, length-own s, long) in r)
