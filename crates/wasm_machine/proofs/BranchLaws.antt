-- Branches.
use Rattle.std.proofs.Common.{◌≡◌, ◌≢◌, ℕ, zero, suc, ◌+◌, ◌-◌, ◌<◌, ◌≤◌, List, [], ◌∷◌, take, drop, length, refl, sym, ap, ◌∙◌, subst, arith}
use Rattle.std.specs.Prelude.{false, slice_get, slice_index, Some, None}
use Rattle.std.proofs.Math.Nat.{eq-or-lt_of_le}
use Rattle.std.proofs.Common.{inl, inr}
use Rattle.std.proofs.lemmas.Bool.{le-ltb, lt-ltb}
use Rattle.std.proofs.lemmas.List.{length-take-le, take-take, drop_all}
use Rattle.wasm_ast.specs.declared.instructions.Instr.{Instr}
use Rattle.wasm_ast.specs.declared.instructions.Instr.TheVariants.{Br, BrIf, BrTable, Return}
use Rattle.wasm_ast.specs.declared.modules.Module.{Module}
use Rattle.wasm_rules.specs.Words.{Kind, Kept}
use Rattle.wasm_reduction.specs.Configurations.{Value, Label, Config, Test, Next, Goes, Asks, Ends, Stuck}
use Rattle.wasm_reduction.specs.Combinators.{holding}
use Rattle.wasm_reduction.specs.Control.{give_back, branch, br, choosing}
use Rattle.wasm_machine.specs.declared.values.Value.{Value as CodeValue}
use Rattle.wasm_machine.specs.declared.machine.Label.{Label as CodeLabel}
use Rattle.wasm_machine.specs.declared.branches.Choice.{Choice}
use Rattle.wasm_machine.specs.declared.branches.Choice.TheVariants.{Ask, Label as ToLabel}
use Rattle.wasm_machine.specs.declared.next.Question.TheVariants.{Test as CodeTest}
use Rattle.wasm_machine.specs.declared.next.End.TheVariants.{Stuck as CodeStuck}
use Rattle.wasm_machine.specs.declared.next.Next.{Next as CodeNext}
use Rattle.wasm_machine.specs.declared.next.Next.TheVariants.{Goes as CodeGoes, Asks as CodeAsks, Ends as CodeEnds}
use Rattle.wasm_machine.specs.States.{State, own, passed}
use Rattle.wasm_machine.specs.code.Moves.{without, kept, again_place, from_end, branched}
use Rattle.wasm_machine.specs.Values.{value, word_at, ValueHeld}
use Rattle.wasm_machine.specs.Configurations.{code_of, label_of, labels_of, enclosing_labels, image, config_of, configuration, IsWellFormed}
use Rattle.wasm_machine.specs.code.Choices.{choice_of}
use Rattle.wasm_machine.specs.Acts.{Sane, Acts}
use Rattle.wasm_machine.specs.code.Simulation.{SimulatesWithoutAsking}
use Rattle.wasm_machine.proofs.Lists.{all-append, all-take, all-drop}
use Rattle.wasm_machine.proofs.Steps.{config_of-jumped, well_formed-jumped, branch-out, length-own, short-take, target, well_formed-passed}
use Rattle.wasm_machine.proofs.Images.{well_formed-image, length-own-image, kept-same, sane-passed, sane-without}
use Rattle.wasm_machine.proofs.Operands.{found-word, no-word}
use Rattle.wasm_machine.proofs.ParametricLaws.{testing-asks, testing-zero, testing-other}
use Rattle.wasm_machine.proofs.LabelLaws.{targets, target_last, length-enclosing, length-labels}
use Rattle.wasm_machine.proofs.ActLaws.{ask-acts, drop-acts, stuck-acts, drop-config}
use Rattle.wasm_machine.proofs.ControlLaws.{going-after, says-stuck, image-kept_operands, own-image-without}

-- ---- a branch

-- past all labels
branch-past : {W : Type 0} (c : Config W) (vs : List (Value W)) (ls : List (Label W)) (l : ℕ) → length ls ≤ l → branch c vs (drop l ls) ≡ Ends Stuck
branch-past c vs ls l h = ap (λ ls. branch c vs ls) (drop_all l ls h)

pub branch-beyond : {A V M : Type 0} (H : A → V → Type 0) (means : A → V → M) (m : Module) (a : A) (s : State (CodeValue V)) (l : ℕ) → length s.labels - s.frame.labels < l →
    SimulatesWithoutAsking H means m a s (CodeEnds CodeStuck) (λ b. br (configuration (means a) m b s) (own (image (means a) s)) l)
branch-beyond H means m a s l h = says-stuck H means m a s _ (λ b.
    branch-past (configuration (means a) m b s) (own (image (means a) s)) ((configuration (means a) m b s).frame.here ∷ (configuration (means a) m b s).frame.outer) l
    (omega (arith, h, length-labels (code_of m s.entry s.frame.func) (enclosing_labels s.frame s.labels) (take s.frame.here.height (image (means a) s).operands), length-enclosing s.frame s.labels)))

-- the label at l carries more than there is
few-there : {W : Type 0} (c : Config W) (vs : List (Value W)) (t : Label W) (ls : List (Label W)) → length vs < t.arity → branch c vs (t ∷ ls) ≡ Ends Stuck
few-there c vs t [] h = rw (lt-ltb (length vs) t.arity h)
few-there c vs t (l ∷ ls) h = rw (lt-ltb (length vs) t.arity h)

few-target : {W : Type 0} (code : ℕ → List Instr) (c : Config W) (vs : List (Value W)) (k : ℕ) (here : CodeLabel) (place : ℕ) (ks : List CodeLabel) (ops : List (Value W)) → k ≤ length ks → length vs < (target here ks k).0.arity →
    branch c vs (drop k (label_of code here place ks ops ∷ labels_of code ks (take here.height ops))) ≡ Ends Stuck
few-target code c vs zero here place ks ops n h = few-there c vs (label_of code here place ks ops) (labels_of code ks (take here.height ops)) h
few-target code c vs (suc k) here place [] ops n h = absurd (omega arith)
few-target code c vs (suc k) here place (p ∷ ps) ops n h = few-target code c vs k p (p.place + 1) ps (take here.height ops) (omega arith) h

target-is : {X : Type 0} (s : State X) (k : ℕ) → IsWellFormed s → k ≤ length s.labels - s.frame.labels → (target s.frame.here (enclosing_labels s.frame s.labels) k).0 ≡ from_end s.frame.here s.labels k
target-is s k l h = elim (eq-or-lt_of_le within) [ inl q ↦ ap (λ x. x.0) (target_last s.frame s.labels k q) | inr q ↦ ap (λ x. x.0) (targets s.frame s.labels k q) ]
  where
    within : s.frame.labels + k ≤ length s.labels
    within = omega (arith, h, l.frame.labels_within)

pub branch-few : {A V M : Type 0} (H : A → V → Type 0) (means : A → V → M) (m : Module) (a : A) (s : State (CodeValue V)) (l : ℕ) → Sane H a s → l ≤ length s.labels - s.frame.labels → length (own s) < (from_end s.frame.here s.labels l).arity →
    SimulatesWithoutAsking H means m a s (CodeEnds CodeStuck) (λ b. br (configuration (means a) m b s) (own (image (means a) s)) l)
branch-few H means m a s l sane within h = says-stuck H means m a s _ (λ b.
    few-target (code_of m s.entry s.frame.func) (configuration (means a) m b s) (own (image (means a) s)) l s.frame.here s.frame.here.place (enclosing_labels s.frame s.labels) (image (means a) s).operands
    (omega (arith, within, length-enclosing s.frame s.labels))
    (rw (length-own-image (means a) s) (subst (λ t. length (own s) < t.arity) (sym (target-is s l sane.well_formed within)) h)))

pub branch-last : {A V M : Type 0} (H : A → V → Type 0) (means : A → V → M) (m : Module) (a : A) (s t : State (CodeValue V)) (l : ℕ) (x : CodeNext V) → Sane H a s → l ≡ length s.labels - s.frame.labels → (from_end s.frame.here s.labels l).arity ≤ length (own s) →
    SimulatesWithoutAsking H means m a t x (λ b. give_back (configuration (means a) m b s) (take (from_end s.frame.here s.labels l).arity (own (image (means a) s))) (configuration (means a) m b s).callers) →
    SimulatesWithoutAsking H means m a t x (λ b. br (configuration (means a) m b s) (own (image (means a) s)) l)
branch-last H means m a s t l x sane e h r =
    let S = image (means a) s in
    let last : s.frame.labels + l ≡ length s.labels = omega (arith, e, sane.well_formed.frame.labels_within) in
    record {
      gives = λ b. branch-out m b S l (from_end s.frame.here s.labels l) (well_formed-image (means a) s sane.well_formed) (omega (arith, e, length-enclosing s.frame s.labels)) (target_last s.frame s.labels l last) (rw (length-own-image (means a) s) h) ∙ r.gives b;
      going = r.going;
    }

image-branched : {V M : Type 0} (h : V → M) (k : ℕ) (s : State (CodeValue V)) → image h (branched k s) ≡ branched k (image h s)
image-branched h k s = ap (λ o. record (branched k (image h s)) { operands = o }) (sym (image-kept_operands (value h) (from_end s.frame.here s.labels k).height (from_end s.frame.here s.labels k).arity s.operands))

pub branch-goes : {A V M : Type 0} (H : A → V → Type 0) (means : A → V → M) (m : Module) (a : A) (s t : State (CodeValue V)) (l : ℕ) → Sane H a s → l < length s.labels - s.frame.labels → (from_end s.frame.here s.labels l).arity ≤ length (own s) → t ≡ branched l s →
    SimulatesWithoutAsking H means m a t CodeGoes (λ b. br (configuration (means a) m b s) (own (image (means a) s)) l)
branch-goes H means m a s u l sane h n d =
    let S = image (means a) s in
    let t : CodeLabel = from_end s.frame.here s.labels l in
    let p : CodeLabel = from_end s.frame.here s.labels (l + 1) in
    let r : List CodeLabel = take (length s.labels - (l + 1)) s.labels in
    let inside : s.frame.labels + l < length s.labels = omega (arith, h, sane.well_formed.frame.labels_within) in
    let e : target s.frame.here (enclosing_labels s.frame s.labels) l ≡ (t, p ∷ enclosing_labels s.frame r) = targets s.frame s.labels l inside in
    let within : l ≤ length (enclosing_labels s.frame s.labels) = omega (arith, h, length-enclosing s.frame s.labels) in
    let cut : take s.frame.labels r ≡ take s.frame.labels s.labels = take-take s.frame.labels (length s.labels - (l + 1)) s.labels (omega arith) in
    let long : s.frame.labels ≤ length r = omega (arith, length-take-le (length s.labels - (l + 1)) s.labels (omega arith)) in
    record {
      gives = λ b. config_of-jumped m b S l t p (enclosing_labels s.frame r) r (well_formed-image (means a) s sane.well_formed) within e refl cut (rw (length-own-image (means a) s) n) ∙
          ap (λ s. Goes (config_of m b s)) (sym (image-branched (means a) l s)) ∙ ap (λ t. Goes (configuration (means a) m b t)) (sym d);
      going = subst (λ t. Sane H a t) (sym d) (record {
        well_formed = well_formed-jumped s l t p (enclosing_labels s.frame r) r (again_place t.again p.place) sane.well_formed within e refl cut long (short-take (length s.labels - (l + 1)) s.labels sane.well_formed.short) n;
        operands = all-append (ValueHeld (H a)) (take t.height s.operands) (drop (length s.operands - t.arity) s.operands) (all-take (ValueHeld (H a)) t.height s.operands sane.operands) (all-drop (ValueHeld (H a)) (length s.operands - t.arity) s.operands sane.operands);
        locals = sane.locals;
        globals = sane.globals;
      });
    }

-- ---- br, br_if, br_table

pub br-acts : {A V M : Type 0} (H : A → V → Type 0) (means : A → V → M) (K : Kind M) (m : Module) (a : A) (s p t : State (CodeValue V)) (l : ℕ) (x : CodeNext V) → p ≡ passed s →
    SimulatesWithoutAsking H means m a t x (λ b. br (configuration (means a) m b p) (own (image (means a) p)) l) → Acts H means K m (Br l) a s a t x
br-acts H means K m a s p t l x d r = record { gives = λ b. ap (λ p. br (configuration (means a) m b p) (own (image (means a) p)) l) (sym d) ∙ r.gives b; after = going-after H a s t x r.going }

-- a branch doesn't look at the operands of the innermost label
br-held : {W : Type 0} (c : Config W) (ws vs : List (Value W)) (l : ℕ) → br c vs l ≡ br (holding c ws) vs l
br-held {W = W} c ws vs zero = by c.frame.outer
  where
    by : (ls : List (Label W)) → branch c vs (c.frame.here ∷ ls) ≡ branch (holding c ws) vs ((holding c ws).frame.here ∷ ls)
    by [] = refl
    by (l ∷ ls) = refl
br-held {W = W} c ws vs (suc k) = by (drop k c.frame.outer)
  where
    by : (ls : List (Label W)) → branch c vs ls ≡ branch (holding c ws) vs ls
    by [] = refl
    by (t ∷ []) = refl
    by (t ∷ l ∷ ls) = refl

-- a branch without the last operand
br-below : {V M : Type 0} (h : V → M) (m : Module) (b : List M) (s q : State (CodeValue V)) (l : ℕ) → IsWellFormed s → 1 ≤ length (own s) → q ≡ without 1 (passed s) →
    br (configuration h m b (passed s)) (drop 1 (own (image h s))) l ≡ br (configuration h m b q) (own (image h q)) l
br-below h m b s q l well_formed some d =
    br-held (configuration h m b (passed s)) (drop 1 (own (image h s))) (drop 1 (own (image h s))) l ∙
    ap (λ vs. br (holding (configuration h m b (passed s)) (drop 1 (own (image h s)))) vs l) (sym (own-image-without h (passed s) 1 (well_formed-passed s well_formed) some)) ∙
    ap (λ c. br c (own (image h (without 1 (passed s)))) l) (sym (drop-config h m b (passed s) 1 (well_formed-passed s well_formed) some)) ∙
    ap (λ q. br (configuration h m b q) (own (image h q)) l) (sym d)

pub br_if-stuck : {A V M : Type 0} (H : A → V → Type 0) (means : A → V → M) (K : Kind M) (m : Module) (a : A) (s : State (CodeValue V)) (l : ℕ) → None ≡ word_at false (own s) 0 → Acts H means K m (BrIf l) a s a s (CodeEnds CodeStuck)
br_if-stuck H means K m a s l e = stuck-acts H means K m (BrIf l) a a s s (λ b. no-word (means a) s false 0 _ e)

pub br_if-asks : {A V M : Type 0} (H : A → V → Type 0) (means : A → V → M) (K : Kind M) (m : Module) (a : A) (s : State (CodeValue V)) (l : ℕ) (w : V) → Sane H a s → Some w ≡ word_at false (own s) 0 → H a w → None ≡ slice_get s.answers 0 → Acts H means K m (BrIf l) a s a s (CodeAsks CodeTest w)
br_if-asks H means K m a s l w sane e held f = ask-acts H means K m (BrIf l) a a (kept-same H means a) s CodeTest w sane held (λ b. found-word (means a) s false 0 w _ e ∙ testing-asks (means a w) s.answers _ _ f)

pub br_if-falls : {A V M : Type 0} (H : A → V → Type 0) (means : A → V → M) (K : Kind M) (m : Module) (a : A) (s p t : State (CodeValue V)) (l : ℕ) (w : V) (n : ℕ) → Sane H a s → Some w ≡ word_at false (own s) 0 → 1 ≤ length (own s) → Some n ≡ slice_get s.answers 0 → n ≡ 0 →
    p ≡ passed s → t ≡ without 1 p → Acts H means K m (BrIf l) a s a t CodeGoes
br_if-falls H means K m a s p t l w n sane e some f z d r = drop-acts H means K m (BrIf l) a s p t 1 sane some d r (λ b. found-word (means a) s false 0 w _ e ∙ testing-zero (means a w) s.answers n _ _ f z)

pub br_if-goes : {A V M : Type 0} (H : A → V → Type 0) (means : A → V → M) (K : Kind M) (m : Module) (a : A) (s p q t : State (CodeValue V)) (l : ℕ) (w : V) (n : ℕ) (x : CodeNext V) → Sane H a s → Some w ≡ word_at false (own s) 0 → 1 ≤ length (own s) → Some n ≡ slice_get s.answers 0 → n ≢ 0 →
    p ≡ passed s → q ≡ without 1 p → SimulatesWithoutAsking H means m a t x (λ b. br (configuration (means a) m b q) (own (image (means a) q)) l) → Acts H means K m (BrIf l) a s a t x
br_if-goes H means K m a s p q t l w n x sane e some f z d i r = record {
  gives = λ b. found-word (means a) s false 0 w _ e ∙ testing-other (means a w) s.answers n _ _ f z ∙ br-below (means a) m b s q l sane.well_formed some (i ∙ ap (λ p. without 1 p) d) ∙ r.gives b;
  after = going-after H a s t x r.going;
}

pub sane-below : {A V : Type 0} (H : A → V → Type 0) (a : A) (s p q : State (CodeValue V)) (n : ℕ) → Sane H a s → n ≤ length (own s) → p ≡ passed s → q ≡ without n p → Sane H a q
sane-below H a s p q n sane some d i = subst (λ q. Sane H a q) (sym (i ∙ ap (λ p. without n p) d)) (sane-without H a (passed s) n (sane-passed H a s sane) some)

-- where the questions of br_table stand
abbrev pub choosing_says : {W : Type 0} → Kind W → W → (ℕ → Next W) → Choice → Next W
choosing_says K index go (Ask k) = Asks Test (K.binary 0x47 index (K.number k))
choosing_says K index go (ToLabel l) = go l

choosing-is : {W : Type 0} (K : Kind W) (index : W) (k : ℕ) (labels : List ℕ) (last : ℕ) (ns : List ℕ) (go : ℕ → Next W) → choosing K index k labels last ns go ≡ choosing_says K index go (choice_of labels last ns k)
choosing-is K index k [] last ns go = refl
choosing-is K index k (l ∷ ls) last [] go = refl
choosing-is K index k (l ∷ ls) last (zero ∷ ns) go = refl
choosing-is K index k (l ∷ ls) last (suc n ∷ ns) go = choosing-is K index (k + 1) ls last ns go

pub table-stuck : {A V M : Type 0} (H : A → V → Type 0) (means : A → V → M) (K : Kind M) (m : Module) (a : A) (s : State (CodeValue V)) (labels : List ℕ) (last : ℕ) → None ≡ word_at false (own s) 0 → Acts H means K m (BrTable labels last) a s a s (CodeEnds CodeStuck)
table-stuck H means K m a s labels last e = stuck-acts H means K m (BrTable labels last) a a s s (λ b. no-word (means a) s false 0 _ e)

pub table-asks : {A V M : Type 0} (H : A → V → Type 0) (means : A → V → M) (K : Kind M) (m : Module) (a a' : A) → Kept H means a a' → (s : State (CodeValue V)) (labels : List ℕ) (last : ℕ) (index w : V) (k : ℕ) (ns : List ℕ) → Sane H a s → Some index ≡ word_at false (own s) 0 →
    ns ≡ s.answers → Ask k ≡ choice_of labels last ns 0 → H a' w → means a' w ≡ K.binary 0x47 (means a index) (K.number k) → Acts H means K m (BrTable labels last) a s a' s (CodeAsks CodeTest w)
table-asks H means K m a a' kept s labels last index w k ns sane e g f held is = ask-acts H means K m (BrTable labels last) a a' kept s CodeTest w sane held (λ b.
    found-word (means a) s false 0 index _ e ∙ choosing-is K (means a index) 0 labels last s.answers _ ∙
    ap (λ c. choosing_says K (means a index) (λ l. br (configuration (means a) m b (passed s)) (drop 1 (own (image (means a) s))) l) c) (ap (λ l. choice_of labels last l 0) (sym g) ∙ sym f) ∙ ap (λ v. Asks Test v) (sym is))

pub table-goes : {A V M : Type 0} (H : A → V → Type 0) (means : A → V → M) (K : Kind M) (m : Module) (a : A) (s p q t : State (CodeValue V)) (labels : List ℕ) (last : ℕ) (index : V) (l : ℕ) (ns : List ℕ) (x : CodeNext V) → Sane H a s → Some index ≡ word_at false (own s) 0 → 1 ≤ length (own s) →
    ns ≡ s.answers → ToLabel l ≡ choice_of labels last ns 0 → p ≡ passed s → q ≡ without 1 p → SimulatesWithoutAsking H means m a t x (λ b. br (configuration (means a) m b q) (own (image (means a) q)) l) → Acts H means K m (BrTable labels last) a s a t x
table-goes H means K m a s p q t labels last index l ns x sane e some g f d i r = record {
  gives = λ b. found-word (means a) s false 0 index _ e ∙ choosing-is K (means a index) 0 labels last s.answers _ ∙
      ap (λ c. choosing_says K (means a index) (λ l. br (configuration (means a) m b (passed s)) (drop 1 (own (image (means a) s))) l) c) (ap (λ l. choice_of labels last l 0) (sym g) ∙ sym f) ∙
      br-below (means a) m b s q l sane.well_formed some (i ∙ ap (λ p. without 1 p) d) ∙ r.gives b;
  after = going-after H a s t x r.going;
}

-- the place that is asked of is one of the labels
pub choice-small : (labels : List ℕ) (last : ℕ) (ns : List ℕ) (k j : ℕ) → Ask j ≡ choice_of labels last ns k → j < k + length labels
choice-small [] last ns k j e = cc
choice-small (l ∷ ls) last [] k j e = let f : j ≡ k = cc in omega (arith, f)
choice-small (l ∷ ls) last (zero ∷ ns) k j e = cc
choice-small (l ∷ ls) last (suc n ∷ ns) k j e = omega (arith, choice-small ls last ns (k + 1) j e)

-- ---- return

pub return-few : {A V M : Type 0} (H : A → V → Type 0) (means : A → V → M) (K : Kind M) (m : Module) (a : A) (s : State (CodeValue V)) → length (own s) < s.frame.arity → Acts H means K m Return a s a s (CodeEnds CodeStuck)
return-few H means K m a s h =
    let few : length (own (image (means a) s)) < s.frame.arity = rw (length-own-image (means a) s) h in
    stuck-acts H means K m Return a a s s (λ b. rw (lt-ltb (length (own (image (means a) s))) s.frame.arity few))

pub return-goes : {A V M : Type 0} (H : A → V → Type 0) (means : A → V → M) (K : Kind M) (m : Module) (a : A) (s p t : State (CodeValue V)) (n : ℕ) (x : CodeNext V) → n ≡ s.frame.arity → n ≤ length (own s) → p ≡ passed s →
    SimulatesWithoutAsking H means m a t x (λ b. give_back (configuration (means a) m b p) (take n (own (image (means a) p))) (configuration (means a) m b p).callers) → Acts H means K m Return a s a t x
return-goes H means K m a s p t n x e h d r =
    let enough : s.frame.arity ≤ length (own (image (means a) s)) = rw (length-own-image (means a) s) (subst (λ n. n ≤ length (own s)) e h) in
    record {
      gives = λ b. rw (le-ltb (length (own (image (means a) s))) s.frame.arity enough)
          (ap (λ n. give_back (configuration (means a) m b (passed s)) (take n (own (image (means a) s))) (configuration (means a) m b (passed s)).callers) (sym e) ∙
          ap (λ p. give_back (configuration (means a) m b p) (take n (own (image (means a) p))) (configuration (means a) m b p).callers) (sym d) ∙ r.gives b);
      after = going-after H a s t x r.going;
    }

-- so many own operands are there, by their count
pub arity-within : {X : Type 0} (s : State X) (arity len count : ℕ) → count ≡ length s.operands - s.frame.here.height → arity ≤ count → arity ≤ length (own s)
arity-within s arity len count e h = omega (arith, e, h, length-own s)

-- ---- the answers of br_table, looked at one after another

index-drop : (xs : List ℕ) (k : ℕ) → k < length xs → drop k xs ≡ slice_index xs k ∷ drop (k + 1) xs
index-drop [] k h = absurd (omega arith)
index-drop (x ∷ xs) zero h = refl
index-drop (x ∷ xs) (suc k) h = let one : suc k + 1 ≡ suc (k + 1) = omega arith in rw one (index-drop xs k (omega arith))

pub choice-asks : (labels : List ℕ) (last : ℕ) (ns : List ℕ) (k : ℕ) → k < length labels → length ns ≤ k → choice_of (drop k labels) last (drop k ns) k ≡ Ask k
choice-asks labels last ns k h g = ap (λ l. choice_of l last (drop k ns) k) (index-drop labels k h) ∙ ap (λ l. choice_of (slice_index labels k ∷ drop (k + 1) labels) last l k) (drop_all k ns g)

pub choice-labels : (labels : List ℕ) (last : ℕ) (ns : List ℕ) (k : ℕ) → k < length labels → k < length ns → slice_index ns k ≡ 0 → choice_of (drop k labels) last (drop k ns) k ≡ ToLabel (slice_index labels k)
choice-labels labels last ns k h g z = ap (λ l. choice_of l last (drop k ns) k) (index-drop labels k h) ∙ ap (λ l. choice_of (slice_index labels k ∷ drop (k + 1) labels) last l k) (index-drop ns k g ∙ ap (λ n. n ∷ drop (k + 1) ns) z)

choice-other : (l : ℕ) (ls : List ℕ) (last n : ℕ) (ns : List ℕ) (k : ℕ) → n ≢ 0 → choice_of (l ∷ ls) last (n ∷ ns) k ≡ choice_of ls last ns (k + 1)
choice-other l ls last zero ns k h = absurd (h refl)
choice-other l ls last (suc n) ns k h = refl

pub choice-goes : (labels : List ℕ) (last : ℕ) (ns : List ℕ) (k : ℕ) → k < length labels → k < length ns → slice_index ns k ≢ 0 → choice_of (drop k labels) last (drop k ns) k ≡ choice_of (drop (k + 1) labels) last (drop (k + 1) ns) (k + 1)
choice-goes labels last ns k h g z = ap (λ l. choice_of l last (drop k ns) k) (index-drop labels k h) ∙ ap (λ l. choice_of (slice_index labels k ∷ drop (k + 1) labels) last l k) (index-drop ns k g) ∙
    choice-other (slice_index labels k) (drop (k + 1) labels) last (slice_index ns k) (drop (k + 1) ns) k z

pub choice-last : (labels : List ℕ) (last : ℕ) (ns : List ℕ) (k : ℕ) → length labels ≤ k → choice_of (drop k labels) last (drop k ns) k ≡ ToLabel last
choice-last labels last ns k h = ap (λ l. choice_of l last (drop k ns) k) (drop_all k labels h)
