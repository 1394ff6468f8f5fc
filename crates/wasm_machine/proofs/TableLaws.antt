-- Table instructions.
use Rattle.std.proofs.Common.{◌≡◌, ℕ, zero, suc, ◌<◌, ◌≤◌, ◌^◌, List, [], ◌∷◌, ◌++◌, map, drop, length, refl, sym, ap, ap₂, ◌∙◌, subst, arith}
use Rattle.std.specs.Prelude.{false, Option, Some, None, slice_get, slice_set, replicate, option_map, unwrap_or}
use Rattle.std.specs.List.{AllByRecursion}
use Rattle.std.proofs.lemmas.List.{length-map, map-set}
use Rattle.wasm_ast.specs.declared.instructions.Instr.{Instr}
use Rattle.wasm_ast.specs.declared.instructions.Instr.TheVariants.{TableGet, TableSet, TableSize, TableGrow, TableFill, TableCopy, TableInit}
use Rattle.wasm_ast.specs.declared.runs.Cause.{Cause}
use Rattle.wasm_ast.specs.declared.runs.Cause.TheVariants.{Table}
use Rattle.wasm_ast.specs.declared.modules.Module.{Module}
use Rattle.wasm_image.specs.Sizes.{most_elements}
use Rattle.wasm_rules.specs.Words.{Kind, Kept}
use Rattle.wasm_reduction.specs.Configurations.{Reference, Value, I32, Ref, Config, Next, Goes, Ends, Traps, Stuck}
use Rattle.wasm_reduction.specs.Combinators.{holding, with_tables, with_elems, with_found, with_word, with_reference, written, part}
use Rattle.wasm_reduction.specs.Ranges.{with_element, indexing, filling, copying, growing, growth_limit, with_copy}
use Rattle.wasm_reduction.specs.Tables.{with_table as table_with}
use Rattle.wasm_machine.specs.declared.values.Reference.{Reference as CodeReference}
use Rattle.wasm_machine.specs.declared.values.Value.{Value as CodeValue}
use Rattle.wasm_machine.specs.declared.next.Next.TheVariants.{Goes as CodeGoes}
use Rattle.wasm_machine.specs.declared.progress.Progress.{Progress}
use Rattle.wasm_machine.specs.declared.ranges.FillRange.{FillRange}
use Rattle.wasm_machine.specs.declared.ranges.CopyRange.{CopyRange}
use Rattle.wasm_machine.specs.declared.ranges.Growth.{Growth}
use Rattle.wasm_machine.specs.States.{State, own, passed}
use Rattle.wasm_machine.specs.code.Moves.{without, replaced, with_table, without_elem}
use Rattle.wasm_machine.specs.Stores.{list_at}
use Rattle.wasm_machine.specs.Values.{value, reference, ValueHeld}
use Rattle.wasm_machine.specs.Configurations.{IsWellFormed, image, config_of, configuration}
use Rattle.wasm_machine.specs.Acts.{Sane, Acts}
use Rattle.wasm_machine.specs.code.RangeProgress.{grows}
use Rattle.wasm_machine.specs.code.InstructionProgress.{came_to}
use Rattle.wasm_machine.proofs.Steps.{well_formed-passed}
use Rattle.wasm_machine.proofs.Images.{image-kept, sane-kept, sane-passed, sane-pushed, sane-without}
use Rattle.wasm_machine.proofs.ActLaws.{acting, drop-config, put-config}
use Rattle.wasm_machine.proofs.ProgressLaws.{Found}

-- ---- a list of several

pub found-list : {W : Type 0} (ls : List (List CodeReference)) (x n : ℕ) (go : List Reference → Next W) → Some n ≡ option_map length (slice_get ls x) → with_found (slice_get (map (λ t. map reference t) ls) x) go ≡ go (map reference (unwrap_or (slice_get ls x) []))
found-list [] x n go e = cc
found-list (l ∷ ls) zero n go e = refl
found-list (l ∷ ls) (suc x) n go e = found-list ls x n go e

pub no-list : {W : Type 0} (ls : List (List CodeReference)) (x : ℕ) (go : List Reference → Next W) → None ≡ option_map length (slice_get ls x) → with_found (slice_get (map (λ t. map reference t) ls) x) go ≡ Ends Stuck
no-list [] x go e = refl
no-list (l ∷ ls) zero go e = cc
no-list (l ∷ ls) (suc x) go e = no-list ls x go e

pub list-length : (ls : List (List CodeReference)) (x n : ℕ) → Some n ≡ option_map length (slice_get ls x) → length (unwrap_or (slice_get ls x) []) ≡ n
list-length [] x n e = cc
list-length (l ∷ ls) zero n e = cc
list-length (l ∷ ls) (suc x) n e = list-length ls x n e

pub list-there : (ls : List (List CodeReference)) (x n : ℕ) → Some n ≡ option_map length (slice_get ls x) → x < length ls
list-there [] x n e = cc
list-there (l ∷ ls) zero n e = omega arith
list-there (l ∷ ls) (suc x) n e = omega (arith, list-there ls x n e)

pub found-element : {W : Type 0} (cause : Cause) (l : List CodeReference) (i : ℕ) (r : CodeReference) (go : Reference → Next W) → Some r ≡ slice_get l i → with_element cause (slice_get (map reference l) i) go ≡ go (reference r)
found-element cause [] i r go e = cc
found-element cause (x ∷ l) zero r go e = let same : x ≡ r = cc in ap (λ x. go (reference x)) same
found-element cause (x ∷ l) (suc i) r go e = found-element cause l i r go e

pub no-element : {W : Type 0} (cause : Cause) (l : List CodeReference) (i : ℕ) (go : Reference → Next W) → None ≡ slice_get l i → with_element cause (slice_get (map reference l) i) go ≡ Ends (Traps cause)
no-element cause [] i go e = refl
no-element cause (x ∷ l) zero go e = cc
no-element cause (x ∷ l) (suc i) go e = no-element cause l i go e

pub some-element : {W : Type 0} (cause : Cause) (l : List CodeReference) (i : ℕ) (next : Next W) → i < length l → with_element cause (slice_get (map reference l) i) (λ r. next) ≡ next
some-element cause [] i next h = absurd (omega arith)
some-element cause (x ∷ l) zero next h = refl
some-element cause (x ∷ l) (suc i) next h = some-element cause l i next (omega (arith, h))

pub list-small : (ls : List (List CodeReference)) (x n : ℕ) → AllByRecursion (λ t. length t < 2 ^ 32) ls → Some n ≡ option_map length (slice_get ls x) → n < 2 ^ 32
list-small [] x n h e = cc
list-small (l ∷ ls) zero n h e = let same : length l ≡ n = cc in subst (λ k. k < 2 ^ 32) same h.0
list-small (l ∷ ls) (suc x) n h e = list-small ls x n h.1 e

-- ---- limits

pub limited : {W X : Type 0} (f : X → ℕ) (o : Option X) (most : ℕ) (F : ℕ → Next W) → Some most ≡ option_map f o → with_found o (λ t. F (f t)) ≡ F most
limited f None most F e = cc
limited f (Some t) most F e = let same : f t ≡ most = cc in ap F same

pub no-limit : {W X : Type 0} (f : X → ℕ) (o : Option X) (go : X → Next W) → None ≡ option_map f o → with_found o go ≡ Ends Stuck
no-limit f None go e = refl
no-limit f (Some t) go e = cc

-- ---- a state with other elements in a table

pub table-config : {V M : Type 0} (h : V → M) (m : Module) (b : List M) (p : State (CodeValue V)) (x : ℕ) (elements : List CodeReference) →
    configuration h m b (with_table x elements p) ≡ table_with (configuration h m b p) x (map reference elements)
table-config h m b p x elements = ap (λ ts. with_tables (configuration h m b p) ts) (map-set (λ t. map reference t) p.tables x elements)

pub elem-config : {V M : Type 0} (h : V → M) (m : Module) (b : List M) (p : State (CodeValue V)) (e : ℕ) →
    configuration h m b (without_elem e p) ≡ with_elems (configuration h m b p) (slice_set (map (λ t. map reference t) p.elems) e [])
elem-config h m b p e = ap (λ es. with_elems (configuration h m b p) es) (map-set (λ t. map reference t) p.elems e [])

well_formed-table : {X : Type 0} (p : State X) (x : ℕ) (elements : List CodeReference) → IsWellFormed p → IsWellFormed (with_table x elements p)
well_formed-table p x elements l = record { frame = l.frame; callers = l.callers; short = l.short }

pub sane-table : {A V : Type 0} (H : A → V → Type 0) (a : A) (p : State (CodeValue V)) (x : ℕ) (elements : List CodeReference) → Sane H a p → Sane H a (with_table x elements p)
sane-table H a p x elements h = record { well_formed = well_formed-table p x elements h.well_formed; operands = h.operands; locals = h.locals; globals = h.globals }

pub sane-elem : {A V : Type 0} (H : A → V → Type 0) (a : A) (p : State (CodeValue V)) (e : ℕ) → Sane H a p → Sane H a (without_elem e p)
sane-elem H a p e h = record { well_formed = record { frame = h.well_formed.frame; callers = h.well_formed.callers; short = h.well_formed.short }; operands = h.operands; locals = h.locals; globals = h.globals }

module _ {A V M : Type 0} (H : A → V → Type 0) (means : A → V → M) (K : Kind M) (m : Module) (a : A) (s : State (CodeValue V)) (sane : Sane H a s) where
  -- an instruction goes on with other elements in a table, without its n operands
  pub table-acts : (i : Instr) (a' : A) → Kept H means a a' → (x : ℕ) (elements : List CodeReference) (now : List Reference) (p q t : State (CodeValue V)) (n : ℕ) → n ≤ length (own s) → p ≡ passed s → q ≡ without n p → t ≡ with_table x elements q
      → map reference elements ≡ now
      → ((b : List M) → acting means K m i a s b ≡ Goes (table_with (holding (configuration (means a) m b (passed s)) (drop n (own (image (means a) s)))) x now))
      → Acts H means K m i a s a' t CodeGoes
  table-acts i a' kept x elements now p q t n long d e0 e1 is f =
      let e : t ≡ with_table x elements (without n (passed s)) = e1 ∙ ap (λ q. with_table x elements q) (e0 ∙ ap (λ p. without n p) d) in
      let left : Sane H a (without n (passed s)) = sane-without H a (passed s) n (sane-passed H a s sane) long in record {
        gives = λ b. f b ∙ ap (λ c. Goes c) (sym (ap (λ t. configuration (means a') m b t) e
            ∙ table-config (means a') m b (without n (passed s)) x elements
            ∙ ap₂ (λ c now. table_with c x now)
            (ap (λ p. config_of m b p) (image-kept H means a a' kept (without n (passed s)) left) ∙ drop-config (means a) m b (passed s) n (well_formed-passed s sane.well_formed) long)
            is));
        after = subst (λ t. Sane H a' t) (sym e) (sane-table H a' (without n (passed s)) x elements (sane-kept H means a a' kept (without n (passed s)) left));
      }

  -- ---- table.get and table.set

  pub get-came : (h : V → M) (y : Progress V ℕ) (x size : ℕ) → Some size ≡ option_map length (slice_get s.tables x)
      → ((elements : List Reference) (go : ℕ → Reference → List (Value M) → Next M) → length elements ≡ size → with_word false (own (image (means a) s)) (λ index rest. indexing K Table index elements s.answers (λ i r ns. go i r rest)) ≡ came_to h (λ i. with_element Table (slice_get elements i) (λ r. go i r (drop 1 (own (image (means a) s))))) y)
      → (b : List M) → acting means K m (TableGet x) a s b ≡ came_to h (λ i. with_element Table (slice_get (map reference (list_at s.tables x)) i) (λ r. Goes (holding (configuration (means a) m b (passed s)) (Ref r ∷ drop 1 (own (image (means a) s)))))) y
  get-came h y x size known says b =
      found-list s.tables x size (λ elements. with_word false (own (image (means a) s)) (λ index rest. indexing K Table index elements s.answers (λ i r ns. Goes (holding (configuration (means a) m b (passed s)) (Ref r ∷ rest))))) known
      ∙ says (map reference (list_at s.tables x)) (λ i r rest. Goes (holding (configuration (means a) m b (passed s)) (Ref r ∷ rest))) (length-map (list_at s.tables x) reference ∙ list-length s.tables x size known)

  pub set-came : (h : V → M) (y : Progress V ℕ) (x size : ℕ) (r : CodeReference) → Some size ≡ option_map length (slice_get s.tables x)
      → ((go : Reference → List (Value M) → Next M) → with_reference (own (image (means a) s)) go ≡ go (reference r) (drop 1 (own (image (means a) s))))
      → ((elements : List Reference) (go : ℕ → Reference → List (Value M) → Next M) → length elements ≡ size → with_word false (drop 1 (own (image (means a) s))) (λ index rest. indexing K Table index elements s.answers (λ i r ns. go i r rest)) ≡ came_to h (λ i. with_element Table (slice_get elements i) (λ r. go i r (drop 2 (own (image (means a) s))))) y)
      → (b : List M) → acting means K m (TableSet x) a s b ≡ came_to h (λ i. with_element Table (slice_get (map reference (list_at s.tables x)) i) (λ old. Goes (table_with (holding (configuration (means a) m b (passed s)) (drop 2 (own (image (means a) s)))) x (slice_set (map reference (list_at s.tables x)) i (reference r))))) y
  set-came h y x size r known found says b =
      found-list s.tables x size (λ elements. with_reference (own (image (means a) s)) (λ r rest. with_word false rest (λ index rest. indexing K Table index elements s.answers (λ i old ns. Goes (table_with (holding (configuration (means a) m b (passed s)) rest) x (slice_set elements i r)))))) known
      ∙ found (λ r rest. with_word false rest (λ index rest. indexing K Table index (map reference (list_at s.tables x)) s.answers (λ i old ns. Goes (table_with (holding (configuration (means a) m b (passed s)) rest) x (slice_set (map reference (list_at s.tables x)) i r)))))
      ∙ says (map reference (list_at s.tables x)) (λ i old rest. Goes (table_with (holding (configuration (means a) m b (passed s)) rest) x (slice_set (map reference (list_at s.tables x)) i (reference r)))) (length-map (list_at s.tables x) reference ∙ list-length s.tables x size known)

  -- ---- table.size

  pub size-says : (x size : ℕ) → Some size ≡ option_map length (slice_get s.tables x) → (b : List M) → acting means K m (TableSize x) a s b ≡ Goes (holding (configuration (means a) m b (passed s)) (I32 (K.number size) ∷ own (image (means a) s)))
  size-says x size known b =
      found-list s.tables x size (λ elements. Goes (holding (configuration (means a) m b (passed s)) (I32 (K.number (length elements)) ∷ own (image (means a) s)))) known
      ∙ ap (λ n. Goes (holding (configuration (means a) m b (passed s)) (I32 (K.number n) ∷ own (image (means a) s)))) (length-map (list_at s.tables x) reference ∙ list-length s.tables x size known)

  -- ---- table.fill

  pub table-fill-came : (h : V → M) (y : Progress V FillRange) (x size : ℕ) (count : M) (r : CodeReference) → Some size ≡ option_map length (slice_get s.tables x)
      → Found (own (image (means a) s)) 0 count
      → ((go : Reference → List (Value M) → Next M) → with_reference (drop 1 (own (image (means a) s))) go ≡ go (reference r) (drop 2 (own (image (means a) s))))
      → ((go : ℕ → ℕ → List (Value M) → Next M) → with_word false (drop 2 (own (image (means a) s))) (λ to rest. filling K Table to count size s.answers (λ t n. go t n rest)) ≡ came_to h (λ r. go r.to r.count (drop 3 (own (image (means a) s)))) y)
      → (b : List M) → acting means K m (TableFill x) a s b ≡ came_to h (λ z. Goes (table_with (holding (configuration (means a) m b (passed s)) (drop 3 (own (image (means a) s)))) x (written z.to (replicate z.count (reference r)) (map reference (list_at s.tables x))))) y
  table-fill-came h y x size count r known first found says b =
      found-list s.tables x size (λ elements. with_word false (own (image (means a) s)) (λ count rest. with_reference rest (λ r rest. with_word false rest (λ to rest. filling K Table to count (length elements) s.answers (λ t n. Goes (table_with (holding (configuration (means a) m b (passed s)) rest) x (written t (replicate n r) elements))))))) known
      ∙ first (λ count rest. with_reference rest (λ r rest. with_word false rest (λ to rest. filling K Table to count (length (map reference (list_at s.tables x))) s.answers (λ t n. Goes (table_with (holding (configuration (means a) m b (passed s)) rest) x (written t (replicate n r) (map reference (list_at s.tables x))))))))
      ∙ found (λ r rest. with_word false rest (λ to rest. filling K Table to count (length (map reference (list_at s.tables x))) s.answers (λ t n. Goes (table_with (holding (configuration (means a) m b (passed s)) rest) x (written t (replicate n r) (map reference (list_at s.tables x)))))))
      ∙ ap (λ size. with_word false (drop 2 (own (image (means a) s))) (λ to rest. filling K Table to count size s.answers (λ t n. Goes (table_with (holding (configuration (means a) m b (passed s)) rest) x (written t (replicate n (reference r)) (map reference (list_at s.tables x))))))) (length-map (list_at s.tables x) reference ∙ list-length s.tables x size known)
      ∙ says (λ t n rest. Goes (table_with (holding (configuration (means a) m b (passed s)) rest) x (written t (replicate n (reference r)) (map reference (list_at s.tables x)))))

  -- ---- table.copy and table.init

  pub table-copy-came : (h : V → M) (z : Progress V CopyRange) (x y target source : ℕ) → Some target ≡ option_map length (slice_get s.tables x) → Some source ≡ option_map length (slice_get s.tables y)
      → ((go : ℕ → ℕ → ℕ → List (Value M) → Next M) → with_copy (own (image (means a) s)) (λ to from count rest. copying K Table to from count target source s.answers (λ t f n. go t f n rest)) ≡ came_to h (λ r. go r.to r.from r.count (drop 3 (own (image (means a) s)))) z)
      → (b : List M) → acting means K m (TableCopy x y) a s b ≡ came_to h (λ r. Goes (table_with (holding (configuration (means a) m b (passed s)) (drop 3 (own (image (means a) s)))) x (written r.to (part r.from r.count (map reference (list_at s.tables y))) (map reference (list_at s.tables x))))) z
  table-copy-came h z x y target source known also says b =
      found-list s.tables x target (λ elements. with_found (slice_get (map (λ t. map reference t) s.tables) y) (λ others. with_copy (own (image (means a) s)) (λ to from count rest. copying K Table to from count (length elements) (length others) s.answers (λ t f n. Goes (table_with (holding (configuration (means a) m b (passed s)) rest) x (written t (part f n others) elements)))))) known
      ∙ found-list s.tables y source (λ others. with_copy (own (image (means a) s)) (λ to from count rest. copying K Table to from count (length (map reference (list_at s.tables x))) (length others) s.answers (λ t f n. Goes (table_with (holding (configuration (means a) m b (passed s)) rest) x (written t (part f n others) (map reference (list_at s.tables x))))))) also
      ∙ ap₂ (λ target source. with_copy (own (image (means a) s)) (λ to from count rest. copying K Table to from count target source s.answers (λ t f n. Goes (table_with (holding (configuration (means a) m b (passed s)) rest) x (written t (part f n (map reference (list_at s.tables y))) (map reference (list_at s.tables x)))))))
      (length-map (list_at s.tables x) reference ∙ list-length s.tables x target known) (length-map (list_at s.tables y) reference ∙ list-length s.tables y source also)
      ∙ says (λ t f n rest. Goes (table_with (holding (configuration (means a) m b (passed s)) rest) x (written t (part f n (map reference (list_at s.tables y))) (map reference (list_at s.tables x)))))

  pub table-init-came : (h : V → M) (z : Progress V CopyRange) (e x target source : ℕ) → Some target ≡ option_map length (slice_get s.tables x) → Some source ≡ option_map length (slice_get s.elems e)
      → ((go : ℕ → ℕ → ℕ → List (Value M) → Next M) → with_copy (own (image (means a) s)) (λ to from count rest. copying K Table to from count target source s.answers (λ t f n. go t f n rest)) ≡ came_to h (λ r. go r.to r.from r.count (drop 3 (own (image (means a) s)))) z)
      → (b : List M) → acting means K m (TableInit e x) a s b ≡ came_to h (λ r. Goes (table_with (holding (configuration (means a) m b (passed s)) (drop 3 (own (image (means a) s)))) x (written r.to (part r.from r.count (map reference (list_at s.elems e))) (map reference (list_at s.tables x))))) z
  table-init-came h z e x target source known also says b =
      found-list s.tables x target (λ elements. with_found (slice_get (map (λ t. map reference t) s.elems) e) (λ others. with_copy (own (image (means a) s)) (λ to from count rest. copying K Table to from count (length elements) (length others) s.answers (λ t f n. Goes (table_with (holding (configuration (means a) m b (passed s)) rest) x (written t (part f n others) elements)))))) known
      ∙ found-list s.elems e source (λ others. with_copy (own (image (means a) s)) (λ to from count rest. copying K Table to from count (length (map reference (list_at s.tables x))) (length others) s.answers (λ t f n. Goes (table_with (holding (configuration (means a) m b (passed s)) rest) x (written t (part f n others) (map reference (list_at s.tables x))))))) also
      ∙ ap₂ (λ target source. with_copy (own (image (means a) s)) (λ to from count rest. copying K Table to from count target source s.answers (λ t f n. Goes (table_with (holding (configuration (means a) m b (passed s)) rest) x (written t (part f n (map reference (list_at s.elems e))) (map reference (list_at s.tables x)))))))
      (length-map (list_at s.tables x) reference ∙ list-length s.tables x target known) (length-map (list_at s.elems e) reference ∙ list-length s.elems e source also)
      ∙ says (λ t f n rest. Goes (table_with (holding (configuration (means a) m b (passed s)) rest) x (written t (part f n (map reference (list_at s.elems e))) (map reference (list_at s.tables x)))))

  -- ---- table.grow

  -- what it comes to where the table may grow to so many elements
  abbrev pub TableFrom : ℕ → List Reference → List M → ℕ → Next M
  TableFrom x elements b most = with_word false (own (image (means a) s)) (λ count rest. with_reference rest (λ r rest. growing K (configuration (means a) m b (passed s)) rest count (length elements) most s.answers (λ n. table_with (configuration (means a) m b (passed s)) x (elements ++ replicate n r))))

  pub to-limit : (x size most : ℕ) → Some size ≡ option_map length (slice_get s.tables x) → Some most ≡ option_map (λ t. growth_limit t.limits.max most_elements) (slice_get m.tables x)
      → (b : List M) → acting means K m (TableGrow x) a s b ≡ TableFrom x (map reference (list_at s.tables x)) b most
  to-limit x size most known also b =
      found-list s.tables x size (λ elements. with_found (slice_get m.tables x) (λ type. TableFrom x elements b (growth_limit type.limits.max most_elements))) known
      ∙ limited (λ t. growth_limit t.limits.max most_elements) (slice_get m.tables x) most (TableFrom x (map reference (list_at s.tables x)) b) also

  pub table-no-limit : (x size : ℕ) → Some size ≡ option_map length (slice_get s.tables x) → None ≡ option_map (λ t. growth_limit t.limits.max most_elements) (slice_get m.tables x)
      → (b : List M) → acting means K m (TableGrow x) a s b ≡ Ends Stuck
  table-no-limit x size known none b =
      found-list s.tables x size (λ elements. with_found (slice_get m.tables x) (λ type. TableFrom x elements b (growth_limit type.limits.max most_elements))) known
      ∙ no-limit (λ t. growth_limit t.limits.max most_elements) (slice_get m.tables x) (λ type. TableFrom x (map reference (list_at s.tables x)) b (growth_limit type.limits.max most_elements)) none

  pub table-grows : (x size most : ℕ) (count : V) (r : CodeReference) (answers : List ℕ) (g : Growth V) → Some size ≡ option_map length (slice_get s.tables x) → Some most ≡ option_map (λ t. growth_limit t.limits.max most_elements) (slice_get m.tables x)
      → Found (own (image (means a) s)) 0 (means a count)
      → ((go : Reference → List (Value M) → Next M) → with_reference (drop 1 (own (image (means a) s))) go ≡ go (reference r) (drop 2 (own (image (means a) s))))
      → answers ≡ s.answers
      → ((h : V → M) (c : Config M) (rest : List (Value M)) (go : ℕ → Config M) → growing K c rest (h count) size most answers go ≡ grows K h c rest size go g)
      → (b : List M) → acting means K m (TableGrow x) a s b ≡ grows K (means a) (configuration (means a) m b (passed s)) (drop 2 (own (image (means a) s))) size
      (λ n. table_with (configuration (means a) m b (passed s)) x (map reference (list_at s.tables x) ++ replicate n (reference r))) g
  table-grows x size most count r answers g known also first second same says b =
      to-limit x size most known also b
      ∙ first (λ count rest. with_reference rest (λ r rest. growing K (configuration (means a) m b (passed s)) rest count (length (map reference (list_at s.tables x))) most s.answers (λ n. table_with (configuration (means a) m b (passed s)) x (map reference (list_at s.tables x) ++ replicate n r))))
      ∙ second (λ r rest. growing K (configuration (means a) m b (passed s)) rest (means a count) (length (map reference (list_at s.tables x))) most s.answers (λ n. table_with (configuration (means a) m b (passed s)) x (map reference (list_at s.tables x) ++ replicate n r)))
      ∙ ap₂ (λ size ns. growing K (configuration (means a) m b (passed s)) (drop 2 (own (image (means a) s))) (means a count) size most ns (λ n. table_with (configuration (means a) m b (passed s)) x (map reference (list_at s.tables x) ++ replicate n (reference r))))
      (length-map (list_at s.tables x) reference ∙ list-length s.tables x size known) (sym same)
      ∙ says (means a) (configuration (means a) m b (passed s)) (drop 2 (own (image (means a) s))) (λ n. table_with (configuration (means a) m b (passed s)) x (map reference (list_at s.tables x) ++ replicate n (reference r)))

  -- it goes on with other elements in a table, and a value in place of its n operands
  pub table-grown-acts : (i : Instr) (a' : A) → Kept H means a a' → (x : ℕ) (elements : List CodeReference) (now : List Reference) (p q t : State (CodeValue V)) (n : ℕ) (v : CodeValue V) (made : Value M) → n ≤ length (own s) → p ≡ passed s → q ≡ replaced n v p → t ≡ with_table x elements q
      → ValueHeld (H a') v → value (means a') v ≡ made → map reference elements ≡ now
      → ((b : List M) → acting means K m i a s b ≡ Goes (holding (table_with (configuration (means a) m b (passed s)) x now) (made ∷ drop n (own (image (means a) s)))))
      → Acts H means K m i a s a' t CodeGoes
  table-grown-acts i a' kept x elements now p q t n v made long d e0 e1 held value_is is f =
      let e : t ≡ with_table x elements (replaced n v (passed s)) = e1 ∙ ap (λ q. with_table x elements q) (e0 ∙ ap (λ p. replaced n v p) d) in record {
        gives = λ b. f b ∙ ap (λ c. Goes c) (sym (ap (λ t. configuration (means a') m b t) e
            ∙ table-config (means a') m b (replaced n v (passed s)) x elements
            ∙ ap₂ (λ c now. table_with c x now) (put-config H means m b a a' kept (passed s) n v made (sane-passed H a s sane) long value_is) is));
        after = subst (λ t. Sane H a' t) (sym e) (sane-table H a' (replaced n v (passed s)) x elements (sane-pushed H a' (without n (passed s)) v (sane-without H a' (passed s) n (sane-passed H a' s (sane-kept H means a a' kept s sane)) long) held));
      }
