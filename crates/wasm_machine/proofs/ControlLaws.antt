-- Blocks, and the ends of labels and frames.
use Rattle.std.proofs.Common.{◌≡◌, ℕ, zero, suc, ◌+◌, ◌-◌, ◌^◌, ◌<◌, ◌≤◌, List, [], ◌∷◌, ◌++◌, map, take, drop, length, reverse, refl, sym, ap, ◌∙◌, subst, arith}
use Rattle.std.specs.Prelude.{Bool, true, false, slice_get, Option, Some, None, option_map}
use Rattle.std.specs.declared.vec.Vec.{Vec}
use Rattle.std.specs.declared.alloc.Global.{Global}
use Rattle.std.proofs.lemmas.Bool.{le-ltb}
use Rattle.std.proofs.lemmas.List.{take-map, drop-map, length-map, length-take-le, map-append}
use Rattle.std.proofs.Math.Seq.{take-length}
use Rattle.wasm_ast.specs.declared.types.BlockType.{BlockType}
use Rattle.wasm_ast.specs.declared.types.FuncType.{FuncType}
use Rattle.wasm_ast.specs.declared.instructions.Instr.{Instr}
use Rattle.wasm_ast.specs.declared.instructions.Instr.TheVariants.{Block, Loop, If}
use Rattle.wasm_ast.specs.declared.modules.Module.{Module}
use Rattle.wasm_rules.specs.Words.{Kind}
use Rattle.wasm_check.specs.Trees.{seq_of}
use Rattle.wasm_reduction.specs.Configurations.{Value, Config, Next, Goes, Ends, Returns, Stuck}
use Rattle.wasm_reduction.specs.Combinators.{holding, with_found, with_last, testing}
use Rattle.wasm_reduction.specs.Functions.{block_type}
use Rattle.wasm_reduction.specs.Control.{give_back, finish, entering, block}
use Rattle.wasm_machine.specs.declared.values.Value.{Value as CodeValue}
use Rattle.wasm_machine.specs.declared.machine.Label.{Label as CodeLabel}
use Rattle.wasm_machine.specs.declared.machine.Frame.{Frame as CodeFrame}
use Rattle.wasm_machine.specs.declared.control.Arities.{Arities}
use Rattle.wasm_machine.specs.declared.next.Question.TheVariants.{Test as CodeTest}
use Rattle.wasm_machine.specs.declared.next.End.TheVariants.{Returns as CodeReturns, Stuck as CodeStuck}
use Rattle.wasm_machine.specs.declared.next.Next.{Next as CodeNext}
use Rattle.wasm_machine.specs.declared.next.Next.TheVariants.{Goes as CodeGoes, Draws as CodeDraws, Asks as CodeAsks, Ends as CodeEnds}
use Rattle.wasm_machine.specs.States.{State, own, passed}
use Rattle.wasm_machine.specs.code.Moves.{without, entered, kept, left, returned, from_end}
use Rattle.wasm_machine.specs.Values.{value, word_at, ValueHeld, ValuesHeld}
use Rattle.wasm_machine.specs.Configurations.{seqs_of, code_of, again_of, enclosing_labels, frames_of, image, config_of, configuration, IsWellFormed}
use Rattle.wasm_machine.specs.Acts.{Sane, Acts, After}
use Rattle.wasm_machine.specs.code.Simulation.{Going, SimulatesWithoutAsking, arities_of, carried_by, opening, IsOpening}
use Rattle.wasm_machine.specs.code.SelectOperands.{by_answer}
use Rattle.wasm_machine.proofs.Lists.{all-append, all-take, all-drop, take_more_at, reverse-reverse}
use Rattle.wasm_machine.proofs.Steps.{config_of-entered, well_formed-entered, config_of-left, well_formed-left, config_of-returned, well_formed-returned, room-own, last_own, own-without, well_formed-passed}
use Rattle.wasm_machine.proofs.Images.{well_formed-image, image-without, length-own-image, kept-same}
use Rattle.wasm_machine.proofs.Operands.{found-word, no-word}
use Rattle.wasm_machine.proofs.ParametricLaws.{testing-asks}
use Rattle.wasm_machine.proofs.LabelLaws.{length-enclosing, length-labels}
use Rattle.wasm_machine.proofs.ActLaws.{ask-acts, stuck-acts, drop-config}

-- ---- it asks nothing

pub going-after : {A V : Type 0} (H : A → V → Type 0) (a : A) (s t : State (CodeValue V)) (x : CodeNext V) → Going H a t x → After H a s t x
going-after H a s t CodeGoes h = h
going-after H a s t (CodeDraws wide) h = h
going-after H a s t (CodeAsks q w) h = absurd h
going-after H a s t (CodeEnds e) h = h

pub says-stuck : {A V M : Type 0} (H : A → V → Type 0) (means : A → V → M) (m : Module) (a : A) (t : State (CodeValue V)) (e : List M → Next M) → ((b : List M) → e b ≡ Ends Stuck) → SimulatesWithoutAsking H means m a t (CodeEnds CodeStuck) e
says-stuck H means m a t e f = record { gives = f; going = tt }

-- ---- blocks

image-entered : {V M : Type 0} (h : V → M) (seq n arity : ℕ) (again : Bool) (s : State (CodeValue V)) → image h (entered seq n arity again s) ≡ entered seq n arity again (image h s)
image-entered h seq n arity again s = rw (length-map s.operands (value h))

-- what a branch to the label puts before what follows
abbrev pub repeats : BlockType → ℕ → Bool → List Instr
repeats ty body false = []
repeats ty body true = Loop ty body ∷ []

-- where the type is found
pub opening-is : {W : Type 0} (m : Module) (c : Config W) (vs : List (Value W)) (ty : BlockType) (body : ℕ) (again : Bool) (t : FuncType) → block_type m ty ≡ Some t → length t.params ≤ length vs →
    opening again m c vs ty body ≡ entering c (take (length t.params) vs) (drop (length t.params) vs) (carried_by (arities_of t) again) (repeats ty body again) (seq_of c.frame.seqs body)
opening-is m c vs ty body false t e h = ap (λ o. with_found o (λ t. with_last (length t.params) vs (λ params rest. entering c params rest (length t.results) [] (seq_of c.frame.seqs body)))) e ∙ rw (le-ltb (length vs) (length t.params) h)
opening-is m c vs ty body true t e h = ap (λ o. with_found o (λ t. with_last (length t.params) vs (λ params rest. entering c params rest (length t.params) (Loop ty body ∷ []) (seq_of c.frame.seqs body)))) e ∙ rw (le-ltb (length vs) (length t.params) h)

pub opening-lacks : {W : Type 0} (m : Module) (c : Config W) (vs : List (Value W)) (ty : BlockType) (body : ℕ) (again : Bool) → block_type m ty ≡ None → opening again m c vs ty body ≡ Ends Stuck
opening-lacks m c vs ty body false e = ap (λ o. with_found o (λ t. with_last (length t.params) vs (λ params rest. entering c params rest (length t.results) [] (seq_of c.frame.seqs body)))) e
opening-lacks m c vs ty body true e = ap (λ o. with_found o (λ t. with_last (length t.params) vs (λ params rest. entering c params rest (length t.params) (Loop ty body ∷ []) (seq_of c.frame.seqs body)))) e

-- the type of a block, by its arities
found-type : (o : Option FuncType) (n : Arities) → Some n ≡ option_map arities_of o → (t : FuncType) × (o ≡ Some t) × (n ≡ arities_of t)
found-type None n e = cc
found-type (Some t) n e = let f : n ≡ arities_of t = cc in (t, refl, f)

no-type : (o : Option FuncType) → None ≡ option_map arities_of o → o ≡ None
no-type None e = refl
no-type (Some t) e = cc

pub open-lacks : {A V M : Type 0} (H : A → V → Type 0) (means : A → V → M) (m : Module) (a : A) (s : State (CodeValue V)) (ty : BlockType) (body : ℕ) (again : Bool) → None ≡ option_map arities_of (block_type m ty) →
    SimulatesWithoutAsking H means m a s (CodeEnds CodeStuck) (λ b. opening again m (configuration (means a) m b (passed s)) (own (image (means a) s)) ty body)
open-lacks H means m a s ty body again e = says-stuck H means m a s _ (λ b. opening-lacks m (configuration (means a) m b (passed s)) (own (image (means a) s)) ty body again (no-type (block_type m ty) e))

-- the loop that a branch starts again
again-is : {X : Type 0} (m : Module) (s : State X) (again : Bool) (ty : BlockType) (body : ℕ) → IsOpening m s again ty body → repeats ty body again ≡ again_of (code_of m s.entry s.frame.func) again (s.frame.here ∷ [])
again-is m s false ty body o = refl
again-is m s true ty body o = sym (ap (λ l. take 1 l) o.is)

function-of : {X : Type 0} (m : Module) (s : State X) (again : Bool) (ty : BlockType) (body : ℕ) → IsOpening m s again ty body → (f : ℕ) × (s.frame.func ≡ Some f)
function-of m s false ty body o = o
function-of m s true ty body o = (o.f, o.there)

pub open-goes : {A V M : Type 0} (H : A → V → Type 0) (means : A → V → M) (m : Module) (a : A) (s t : State (CodeValue V)) (ty : BlockType) (body : ℕ) (again : Bool) (n : Arities) (arity : ℕ) → Sane H a s → s.frame.here.place + 1 < 2 ^ 64 →
    IsOpening m s again ty body → Some n ≡ option_map arities_of (block_type m ty) → n.params ≤ length (own s) → arity ≡ carried_by n again → t ≡ entered body n.params arity again s →
    SimulatesWithoutAsking H means m a t CodeGoes (λ b. opening again m (configuration (means a) m b (passed s)) (own (image (means a) s)) ty body)
open-goes H means m a s t ty body again n arity sane place o e h q d =
    let S = image (means a) s in
    let f = found-type (block_type m ty) n e in
    let long : n.params ≤ length (own S) = rw (length-own-image (means a) s) h in
    let params : length f.0.params ≡ n.params = sym (ap (λ n. n.params) f.2) in
    let func = function-of m s again ty body o in
    record {
      gives = λ b.
          opening-is m (configuration (means a) m b (passed s)) (own S) ty body again f.0 f.1 (rw params long) ∙
          ap (λ k. entering (configuration (means a) m b (passed s)) (take k (own S)) (drop k (own S)) (carried_by (arities_of f.0) again) (repeats ty body again) (seq_of (seqs_of m s.frame.func) body)) params ∙
          ap (λ k. entering (configuration (means a) m b (passed s)) (take n.params (own S)) (drop n.params (own S)) k (repeats ty body again) (seq_of (seqs_of m s.frame.func) body)) (sym (q ∙ ap (λ n. carried_by n again) f.2)) ∙
          ap (λ l. entering (configuration (means a) m b (passed s)) (take n.params (own S)) (drop n.params (own S)) arity l (seq_of (seqs_of m s.frame.func) body)) (again-is m s again ty body o) ∙
          config_of-entered m b S func.0 body n.params arity again (well_formed-image (means a) s sane.well_formed) func.1 long ∙
          ap (λ s. Goes (config_of m b s)) (sym (image-entered (means a) body n.params arity again s)) ∙ ap (λ t. Goes (configuration (means a) m b t)) (sym d);
      going = subst (λ t. Sane H a t) (sym d) (record { well_formed = well_formed-entered s body n.params arity again sane.well_formed h place; operands = sane.operands; locals = sane.locals; globals = sane.globals });
    }

pub block-acts : {A V M : Type 0} (H : A → V → Type 0) (means : A → V → M) (K : Kind M) (m : Module) (a : A) (s t : State (CodeValue V)) (ty : BlockType) (body : ℕ) (x : CodeNext V) →
    SimulatesWithoutAsking H means m a t x (λ b. opening false m (configuration (means a) m b (passed s)) (own (image (means a) s)) ty body) → Acts H means K m (Block ty body) a s a t x
block-acts H means K m a s t ty body x r = record { gives = r.gives; after = going-after H a s t x r.going }

pub loop-acts : {A V M : Type 0} (H : A → V → Type 0) (means : A → V → M) (K : Kind M) (m : Module) (a : A) (s t : State (CodeValue V)) (ty : BlockType) (body : ℕ) (x : CodeNext V) →
    SimulatesWithoutAsking H means m a t x (λ b. opening true m (configuration (means a) m b (passed s)) (own (image (means a) s)) ty body) → Acts H means K m (Loop ty body) a s a t x
loop-acts H means K m a s t ty body x r = record { gives = r.gives; after = going-after H a s t x r.going }

-- ---- if

pub if-stuck : {A V M : Type 0} (H : A → V → Type 0) (means : A → V → M) (K : Kind M) (m : Module) (a : A) (s : State (CodeValue V)) (ty : BlockType) (first other : ℕ) → None ≡ word_at false (own s) 0 → Acts H means K m (If ty first other) a s a s (CodeEnds CodeStuck)
if-stuck H means K m a s ty first other e = stuck-acts H means K m (If ty first other) a a s s (λ b. no-word (means a) s false 0 _ e)

pub if-asks : {A V M : Type 0} (H : A → V → Type 0) (means : A → V → M) (K : Kind M) (m : Module) (a : A) (s : State (CodeValue V)) (ty : BlockType) (first other : ℕ) (w : V) → Sane H a s → Some w ≡ word_at false (own s) 0 → H a w → None ≡ slice_get s.answers 0 →
    Acts H means K m (If ty first other) a s a s (CodeAsks CodeTest w)
if-asks H means K m a s ty first other w sane e held f =
    ask-acts H means K m (If ty first other) a a (kept-same H means a) s CodeTest w sane held (λ b. found-word (means a) s false 0 w _ e ∙ testing-asks (means a w) s.answers _ _ f)

chooses-block : {W : Type 0} (m : Module) (c : Config W) (vs : List (Value W)) (w : W) (ns : List ℕ) (n : ℕ) (ty : BlockType) (first other : ℕ) → Some n ≡ slice_get ns 0 →
    testing w ns (λ ns. block m c vs ty other) (λ ns. block m c vs ty first) ≡ block m c vs ty (by_answer n other first)
chooses-block m c vs w [] n ty first other e = cc
chooses-block m c vs w (zero ∷ ns) zero ty first other e = refl
chooses-block m c vs w (zero ∷ ns) (suc n) ty first other e = cc
chooses-block m c vs w (suc k ∷ ns) zero ty first other e = cc
chooses-block m c vs w (suc k ∷ ns) (suc n) ty first other e = refl

pub own-image-without : {V M : Type 0} (h : V → M) (s : State (CodeValue V)) (n : ℕ) → IsWellFormed s → n ≤ length (own s) → own (image h (without n s)) ≡ drop n (own (image h s))
own-image-without h s n l k = ap (λ s. own s) (image-without h n s) ∙ own-without (image h s) n (well_formed-image h s l) (rw (length-own-image h s) k)

pub if-goes : {A V M : Type 0} (H : A → V → Type 0) (means : A → V → M) (K : Kind M) (m : Module) (a : A) (s u t : State (CodeValue V)) (ty : BlockType) (first other body : ℕ) (w : V) (n : ℕ) (x : CodeNext V) → Sane H a s → Some w ≡ word_at false (own s) 0 → Some n ≡ slice_get s.answers 0 →
    1 ≤ length (own s) → u ≡ without 1 s → body ≡ by_answer n other first →
    SimulatesWithoutAsking H means m a t x (λ b. opening false m (configuration (means a) m b (passed u)) (own (image (means a) u)) ty body) → Acts H means K m (If ty first other) a s a t x
if-goes H means K m a s u t ty first other body w n x sane e f some d q r = record {
  gives = λ b. found-word (means a) s false 0 w _ e ∙
      chooses-block m (configuration (means a) m b (passed s)) (drop 1 (own (image (means a) s))) (means a w) s.answers n ty first other f ∙
      ap (λ body. block m (configuration (means a) m b (passed s)) (drop 1 (own (image (means a) s))) ty body) (sym q) ∙
      ap (λ vs. block m (holding (configuration (means a) m b (passed s)) (drop 1 (own (image (means a) s)))) vs ty body) (sym (own-image-without (means a) s 1 sane.well_formed some)) ∙
      ap (λ c. block m c (own (image (means a) (without 1 s))) ty body) (sym (drop-config (means a) m b (passed s) 1 (well_formed-passed s sane.well_formed) some)) ∙
      ap (λ u. block m (configuration (means a) m b (passed u)) (own (image (means a) u)) ty body) (sym d) ∙ r.gives b;
  after = going-after H a s t x r.going;
}

-- ---- the ends

frames-none : {W : Type 0} (m : Module) (b : List W) (s : State (Value W)) → s.callers ≡ [] → (config_of m b s).callers ≡ []
frames-none m b s e = ap (λ cs. frames_of m s.entry (reverse cs) (take s.frame.labels s.labels) (take s.frame.floor s.operands) (take s.frame.base s.locals)) e

pub image-kept_operands : {V M : Type 0} (h : V → M) (f n : ℕ) (ops : List V) → kept f n (map h ops) ≡ map h (kept f n ops)
image-kept_operands h f n ops = rw (map-append h (take f ops) (drop (length ops - n) ops), length-map ops h) (ap (λ l. l ++ drop (length ops - n) (map h ops)) (take-map h f ops) ∙ ap (λ l. map h (take f ops) ++ l) (drop-map h (length ops - n) ops))

pub image-returned : {V M : Type 0} (h : V → M) (p : CodeFrame) (r : List CodeFrame) (n : ℕ) (s : State (CodeValue V)) → image h (returned p r n s) ≡ returned p r n (image h s)
image-returned h p r n s = sym (
    ap (λ o. record (returned p r n (image h s)) { operands = o }) (image-kept_operands (value h) s.frame.floor n s.operands) ∙
    ap (λ o. record (image h (returned p r n s)) { locals = o }) (take-map (value h) s.frame.base s.locals))

pub back-goes : {A V M : Type 0} (H : A → V → Type 0) (means : A → V → M) (m : Module) (a : A) (s t : State (CodeValue V)) (n : ℕ) → Sane H a s → n ≤ length (own s) →
    (p : CodeFrame) × (r : List CodeFrame) × (s.callers ≡ r ++ p ∷ []) × (t ≡ returned p r n s) →
    SimulatesWithoutAsking H means m a t CodeGoes (λ b. give_back (configuration (means a) m b s) (take n (own (image (means a) s))) (configuration (means a) m b s).callers)
back-goes H means m a s t n sane h q = record {
  gives = λ b. config_of-returned m b (image (means a) s) q.0 q.1 n (well_formed-image (means a) s sane.well_formed) q.2 (rw (length-own-image (means a) s) h) ∙
      ap (λ s. Goes (config_of m b s)) (sym (image-returned (means a) q.0 q.1 n s)) ∙ ap (λ t. Goes (configuration (means a) m b t)) (sym q.3);
  going = subst (λ t. Sane H a t) (sym q.3) (record {
    well_formed = well_formed-returned s q.0 q.1 n sane.well_formed q.2 h;
    operands = all-append (ValueHeld (H a)) (take s.frame.floor s.operands) (drop (length s.operands - n) s.operands) (all-take (ValueHeld (H a)) s.frame.floor s.operands sane.operands) (all-drop (ValueHeld (H a)) (length s.operands - n) s.operands sane.operands);
    locals = all-take (ValueHeld (H a)) s.frame.base s.locals sane.locals;
    globals = sane.globals;
  });
}

pub back-ends : {A V M : Type 0} (H : A → V → Type 0) (means : A → V → M) (m : Module) (a : A) (s t : State (CodeValue V)) (n : ℕ) (v : Vec (CodeValue V) Global) → Sane H a s → n ≤ length (own s) →
    (s.callers ≡ []) × (t ≡ s) → v.items ≡ drop (length s.operands - n) s.operands →
    SimulatesWithoutAsking H means m a t (CodeEnds (CodeReturns v)) (λ b. give_back (configuration (means a) m b s) (take n (own (image (means a) s))) (configuration (means a) m b s).callers)
back-ends H means m a s t n v sane h q e =
    let S = image (means a) s in
    let room : S.frame.here.height + n ≤ length S.operands = rw (length-map s.operands (value (means a))) (room-own s n sane.well_formed h) in
    let values : reverse (take n (own S)) ≡ map (value (means a)) v.items =
    ap (λ l. reverse l) (sym (last_own n S room)) ∙ reverse-reverse (drop (length S.operands - n) S.operands) ∙ ap (λ k. drop (k - n) S.operands) (length-map s.operands (value (means a))) ∙
    drop-map (value (means a)) (length s.operands - n) s.operands ∙ ap (λ l. map (value (means a)) l) (sym e) in
    record {
      gives = λ b. ap (λ cs. give_back (configuration (means a) m b s) (take n (own S)) cs) (frames-none m b S q.0) ∙ ap (λ l. Ends (Returns l)) values;
      going = subst (λ l. ValuesHeld (H a) l) (sym e) (all-drop (ValueHeld (H a)) (length s.operands - n) s.operands sane.operands);
    }

pub end-leaves : {A V M : Type 0} (H : A → V → Type 0) (means : A → V → M) (m : Module) (a : A) (s t : State (CodeValue V)) → Sane H a s → s.frame.labels < length s.labels →
    t ≡ left (from_end s.frame.here s.labels 1) (take (length s.labels - 1) s.labels) s →
    SimulatesWithoutAsking H means m a t CodeGoes (λ b. finish (configuration (means a) m b s) (own (image (means a) s)) (configuration (means a) m b s).frame.outer)
end-leaves H means m a s t sane h d =
    let p : CodeLabel = from_end s.frame.here s.labels 1 in
    let r : List CodeLabel = take (length s.labels - 1) s.labels in
    let all : length s.labels - 1 + 1 ≡ length s.labels = omega arith in
    let f : s.labels ≡ r ++ p ∷ [] = sym (take-length s.labels) ∙ ap (λ n. take n s.labels) (sym all) ∙ take_more_at s.labels (length s.labels - 1) s.frame.here (omega arith) in
    let long : s.frame.labels ≤ length r = omega (arith, length-take-le (length s.labels - 1) s.labels (omega arith)) in
    record {
      gives = λ b. config_of-left m b (image (means a) s) p r (well_formed-image (means a) s sane.well_formed) f long ∙ ap (λ t. Goes (configuration (means a) m b t)) (sym d);
      going = subst (λ t. Sane H a t) (sym d) (record { well_formed = well_formed-left s p r sane.well_formed f long; operands = sane.operands; locals = sane.locals; globals = sane.globals });
    }

labels-none : {W : Type 0} (m : Module) (b : List W) (s : State (Value W)) → length s.labels ≤ s.frame.labels → (config_of m b s).frame.outer ≡ []
labels-none m b s h = none (config_of m b s).frame.outer (omega (arith, length-labels (code_of m s.entry s.frame.func) (enclosing_labels s.frame s.labels) (take s.frame.here.height s.operands), length-enclosing s.frame s.labels, h))
  where
    none : {X : Type 0} (xs : List X) → length xs ≤ 0 → xs ≡ []
    none [] h = refl
    none (x ∷ xs) h = absurd (omega arith)

pub end-backs : {A V M : Type 0} (H : A → V → Type 0) (means : A → V → M) (m : Module) (a : A) (s t : State (CodeValue V)) (n : ℕ) (x : CodeNext V) → length s.labels ≤ s.frame.labels → n ≡ length (own s) →
    SimulatesWithoutAsking H means m a t x (λ b. give_back (configuration (means a) m b s) (take n (own (image (means a) s))) (configuration (means a) m b s).callers) →
    SimulatesWithoutAsking H means m a t x (λ b. finish (configuration (means a) m b s) (own (image (means a) s)) (configuration (means a) m b s).frame.outer)
end-backs H means m a s t n x h e r =
    let S = image (means a) s in
    let whole : take n (own S) ≡ own S = ap (λ n. take n (own S)) (e ∙ sym (length-own-image (means a) s)) ∙ take-length (own S) in
    record {
      gives = λ b. ap (λ ls. finish (configuration (means a) m b s) (own S) ls) (labels-none m b S h) ∙ ap (λ o. give_back (configuration (means a) m b s) o (configuration (means a) m b s).callers) (sym whole) ∙ r.gives b;
      going = r.going;
    }
