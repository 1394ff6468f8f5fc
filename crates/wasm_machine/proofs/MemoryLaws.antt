-- Memory instructions.
use Rattle.std.proofs.Common.{◌≡◌, ℕ, zero, suc, ◌+◌, ◌*◌, ◌/◌, ◌<◌, List, [], ◌∷◌, ◌++◌, map, drop, length, All, refl, sym, ap, ap₂, ◌∙◌, subst, arith}
use Rattle.std.specs.Prelude.{false, Option, Some, None, slice_get, replicate, option_map}
use Rattle.std.specs.Option.{option_map_or}
use Rattle.std.proofs.lemmas.List.{length-map, map-append}
use Rattle.std.proofs.lemmas.List.Elements.{All-replicate, All-append, All-map, All-weaker, All-head, All-tail}
use Rattle.wasm_ast.specs.declared.instructions.Instr.TheVariants.{Load, Store, MemorySize, MemoryGrow, MemoryFill, MemoryCopy, MemoryInit}
use Rattle.wasm_ast.specs.declared.runs.Cause.TheVariants.{Memory}
use Rattle.wasm_ast.specs.declared.modules.Module.{Module}
use Rattle.wasm_ast.specs.declared.types.Limits.{Limits}
use Rattle.wasm_image.specs.Sizes.{most_pages}
use Rattle.wasm_rules.specs.declared.accesses.Access.{Access}
use Rattle.wasm_rules.specs.Words.{Kind, Kept}
use Rattle.wasm_rules.specs.Accesses.{load_of, store_of, load_bytes, loaded, stored, accessed, lowest_bytes}
use Rattle.wasm_rules.proofs.AccessLemmas.{load_bytes-is, store_bytes-is}
use Rattle.wasm_reduction.specs.Configurations.{Value, I32, Config, Next, Goes, Ends, Stuck}
use Rattle.wasm_reduction.specs.Combinators.{holding, with_memory, with_found, with_word, valued, written, part}
use Rattle.wasm_reduction.specs.Ranges.{addressing, filling, copying, growing, growth_limit, with_copy}
use Rattle.wasm_machine.specs.declared.values.Value.{Value as CodeValue}
use Rattle.wasm_machine.specs.declared.values.Value.TheVariants.{I32 as CodeI32}
use Rattle.wasm_machine.specs.declared.next.Next.TheVariants.{Goes as CodeGoes}
use Rattle.wasm_machine.specs.declared.progress.Progress.{Progress}
use Rattle.wasm_machine.specs.declared.progress.Progress.TheVariants.{At}
use Rattle.wasm_machine.specs.declared.ranges.FillRange.{FillRange}
use Rattle.wasm_machine.specs.declared.ranges.CopyRange.{CopyRange}
use Rattle.wasm_machine.specs.declared.ranges.Growth.{Growth}
use Rattle.wasm_machine.specs.States.{State, own, passed}
use Rattle.wasm_machine.specs.code.Moves.{pushed, without, replaced}
use Rattle.wasm_machine.specs.Values.{valued as code_valued}
use Rattle.wasm_machine.specs.Configurations.{image, configuration, datas_of}
use Rattle.wasm_machine.specs.Acts.{Sane, ActsOn}
use Rattle.wasm_machine.specs.code.RangeProgress.{grows}
use Rattle.wasm_machine.specs.code.InstructionProgress.{came_to, IfCame}
use Rattle.wasm_machine.proofs.Images.{valued-image, valued-held}
use Rattle.wasm_machine.proofs.ActLaws.{acting}
use Rattle.wasm_machine.proofs.ProgressLaws.{Found}
use Rattle.wasm_machine.proofs.AccessLaws.{put-acts-on, push-acts-on, write-acts-on, grow-acts-on}
use Rattle.wasm_machine.proofs.CellLemmas.{map-part, All-written, All-part, map-kept, All-kept, means-written}

-- what is known of what was picked
pub at-fact : {V P : Type 0} (F : P → Type 0) (x : Progress V P) (p : P) → x ≡ At p → IfCame x F → F p
at-fact F x p is h = subst (λ y. IfCame y F) is h

pub at-came : {V M P : Type 0} {next : Next M} (h : V → M) (go : P → Next M) (x : Progress V P) (p : P) → x ≡ At p → next ≡ came_to h go x → next ≡ go p
at-came h go x p is f = f ∙ ap (came_to h go) is

pub map-replicate : {X Y : Type 0} (f : X → Y) (n : ℕ) (x : X) → map f (replicate n x) ≡ replicate n (f x)
map-replicate f zero x = refl
map-replicate f (suc n) x = ap (λ l. f x ∷ l) (map-replicate f n x)

module _ {A V M : Type 0} (H : A → V → Type 0) (means : A → V → M) (K : Kind M) (m : Module) (a : A) (s : State (CodeValue V)) (sane : Sane H a s) (cells : List V) (each : All (H a) cells)
    (size : ℕ) (sized : size ≡ length cells) where
  -- ---- memory.copy

  pub copy-came : (h : V → M) (x : Progress V CopyRange)
      → ((go : ℕ → ℕ → ℕ → List (Value M) → Next M) → with_copy (own (image (means a) s)) (λ to from count rest. copying K Memory to from count size size s.answers (λ t f n. go t f n rest)) ≡ came_to h (λ r. go r.to r.from r.count (drop 3 (own (image (means a) s)))) x)
      → acting means K m MemoryCopy a s (map (means a) cells) ≡ came_to h (λ r. Goes (with_memory (holding (configuration (means a) m (map (means a) cells) (passed s)) (drop 3 (own (image (means a) s)))) (written r.to (part r.from r.count (map (means a) cells)) (map (means a) cells)))) x
  copy-came h x says =
      ap (λ n. with_copy (own (image (means a) s)) (λ to from count rest. copying K Memory to from count n n s.answers (λ t f n. Goes (with_memory (holding (configuration (means a) m (map (means a) cells) (passed s)) rest) (written t (part f n (map (means a) cells)) (map (means a) cells)))))) (length-map cells (means a) ∙ sym sized)
      ∙ says (λ t f n rest. Goes (with_memory (holding (configuration (means a) m (map (means a) cells) (passed s)) rest) (written t (part f n (map (means a) cells)) (map (means a) cells))))

  pub copy-acts : (a' : A) → Kept H means a a' → a' ≡ a → (r : CopyRange) (now : List V) (p t : State (CodeValue V)) → 2 < length (own s) → p ≡ passed s → t ≡ without 3 p
      → now ≡ written r.to (part r.from r.count cells) cells
      → acting means K m MemoryCopy a s (map (means a) cells) ≡ Goes (with_memory (holding (configuration (means a) m (map (means a) cells) (passed s)) (drop 3 (own (image (means a) s)))) (written r.to (part r.from r.count (map (means a) cells)) (map (means a) cells)))
      → ActsOn H means K m MemoryCopy a s cells a' t now CodeGoes
  copy-acts a' kept same r now p t there d e is f =
      write-acts-on H means K m MemoryCopy a a' kept s sane cells now
      (subst (All (H a')) (sym is) (All-written (H a') r.to (part r.from r.count cells) cells (All-part (H a') r.from r.count cells (All-kept H means a a' cells kept each)) (All-kept H means a a' cells kept each)))
      p t 3 (omega (arith, there)) d e
      (f ∙ ap (λ bytes. Goes (with_memory (holding (configuration (means a) m (map (means a) cells) (passed s)) (drop 3 (own (image (means a) s)))) bytes))
      (sym (ap (map (means a')) is ∙ means-written H means a a' r.to (part r.from r.count cells) cells (part r.from r.count (map (means a) cells)) kept each
      (map-part (means a') r.from r.count cells ∙ ap (part r.from r.count) (map-kept H means a a' cells kept each)))))

  -- ---- memory.fill

  pub fill-came : (h : V → M) (x : Progress V FillRange) (count w : M) → Found (own (image (means a) s)) 0 count → Found (own (image (means a) s)) 1 w
      → ((go : ℕ → ℕ → List (Value M) → Next M) → with_word false (drop 2 (own (image (means a) s))) (λ to rest. filling K Memory to count size s.answers (λ t n. go t n rest)) ≡ came_to h (λ r. go r.to r.count (drop 3 (own (image (means a) s)))) x)
      → acting means K m MemoryFill a s (map (means a) cells) ≡ came_to h (λ r. Goes (with_memory (holding (configuration (means a) m (map (means a) cells) (passed s)) (drop 3 (own (image (means a) s)))) (written r.to (replicate r.count (K.byte w 0)) (map (means a) cells)))) x
  fill-came h x count w first second says =
      first (λ count rest. with_word false rest (λ w rest. with_word false rest (λ to rest. filling K Memory to count (length (map (means a) cells)) s.answers (λ t n. Goes (with_memory (holding (configuration (means a) m (map (means a) cells) (passed s)) rest) (written t (replicate n (K.byte w 0)) (map (means a) cells)))))))
      ∙ second (λ w rest. with_word false rest (λ to rest. filling K Memory to count (length (map (means a) cells)) s.answers (λ t n. Goes (with_memory (holding (configuration (means a) m (map (means a) cells) (passed s)) rest) (written t (replicate n (K.byte w 0)) (map (means a) cells))))))
      ∙ ap (λ size. with_word false (drop 2 (own (image (means a) s))) (λ to rest. filling K Memory to count size s.answers (λ t n. Goes (with_memory (holding (configuration (means a) m (map (means a) cells) (passed s)) rest) (written t (replicate n (K.byte w 0)) (map (means a) cells)))))) (length-map cells (means a) ∙ sym sized)
      ∙ says (λ t n rest. Goes (with_memory (holding (configuration (means a) m (map (means a) cells) (passed s)) rest) (written t (replicate n (K.byte w 0)) (map (means a) cells))))

  pub fill-acts : (a' : A) → Kept H means a a' → (w : M) (r : FillRange) (byte : V) (now : List V) (p t : State (CodeValue V)) → 2 < length (own s) → p ≡ passed s → t ≡ without 3 p
      → H a' byte → means a' byte ≡ K.byte w 0 → now ≡ written r.to (replicate r.count byte) cells
      → acting means K m MemoryFill a s (map (means a) cells) ≡ Goes (with_memory (holding (configuration (means a) m (map (means a) cells) (passed s)) (drop 3 (own (image (means a) s)))) (written r.to (replicate r.count (K.byte w 0)) (map (means a) cells)))
      → ActsOn H means K m MemoryFill a s cells a' t now CodeGoes
  fill-acts a' kept w r byte now p t there d e held byte_is is f =
      write-acts-on H means K m MemoryFill a a' kept s sane cells now
      (subst (All (H a')) (sym is) (All-written (H a') r.to (replicate r.count byte) cells (All-replicate (H a') r.count byte held) (All-kept H means a a' cells kept each)))
      p t 3 (omega (arith, there)) d e
      (f ∙ ap (λ bytes. Goes (with_memory (holding (configuration (means a) m (map (means a) cells) (passed s)) (drop 3 (own (image (means a) s)))) bytes))
      (sym (ap (map (means a')) is ∙ means-written H means a a' r.to (replicate r.count byte) cells (replicate r.count (K.byte w 0)) kept each
      (map-replicate (means a') r.count byte ∙ ap (replicate r.count) byte_is))))

  -- ---- memory.init

  pub init-came : (h : V → M) (x : Progress V CopyRange) (index : ℕ) (source : List ℕ) → slice_get (datas_of s.dropped m.segments) index ≡ Some source
      → ((go : ℕ → ℕ → ℕ → List (Value M) → Next M) → with_copy (own (image (means a) s)) (λ to from count rest. copying K Memory to from count size (length source) s.answers (λ t f n. go t f n rest)) ≡ came_to h (λ r. go r.to r.from r.count (drop 3 (own (image (means a) s)))) x)
      → acting means K m (MemoryInit index) a s (map (means a) cells) ≡ came_to h (λ r. Goes (with_memory (holding (configuration (means a) m (map (means a) cells) (passed s)) (drop 3 (own (image (means a) s)))) (written r.to (map K.number (part r.from r.count source)) (map (means a) cells)))) x
  init-came h x index source found says =
      ap (λ o. with_found o (λ source. with_copy (own (image (means a) s)) (λ to from count rest. copying K Memory to from count (length (map (means a) cells)) (length source) s.answers (λ t f n. Goes (with_memory (holding (configuration (means a) m (map (means a) cells) (passed s)) rest) (written t (map K.number (part f n source)) (map (means a) cells))))))) found
      ∙ ap (λ size. with_copy (own (image (means a) s)) (λ to from count rest. copying K Memory to from count size (length source) s.answers (λ t f n. Goes (with_memory (holding (configuration (means a) m (map (means a) cells) (passed s)) rest) (written t (map K.number (part f n source)) (map (means a) cells)))))) (length-map cells (means a) ∙ sym sized)
      ∙ says (λ t f n rest. Goes (with_memory (holding (configuration (means a) m (map (means a) cells) (passed s)) rest) (written t (map K.number (part f n source)) (map (means a) cells))))

  pub init-acts : (a' : A) → Kept H means a a' → (index : ℕ) (source : List ℕ) (plain : ℕ → V) (r : CopyRange) (now : List V) (p t : State (CodeValue V)) → 2 < length (own s) → p ≡ passed s → t ≡ without 3 p
      → All (λ n. n < 256) source → ((n : ℕ) → n < 256 → H a' (plain n) × (means a' (plain n) ≡ K.number n))
      → now ≡ written r.to (map plain (part r.from r.count source)) cells
      → acting means K m (MemoryInit index) a s (map (means a) cells) ≡ Goes (with_memory (holding (configuration (means a) m (map (means a) cells) (passed s)) (drop 3 (own (image (means a) s)))) (written r.to (map K.number (part r.from r.count source)) (map (means a) cells)))
      → ActsOn H means K m (MemoryInit index) a s cells a' t now CodeGoes
  init-acts a' kept index source plain r now p t there d e small plain_is is f =
      write-acts-on H means K m (MemoryInit index) a a' kept s sane cells now
      (subst (All (H a')) (sym is) (All-written (H a') r.to (map plain (part r.from r.count source)) cells (held (part r.from r.count source) (All-part (λ n. n < 256) r.from r.count source small)) (All-kept H means a a' cells kept each)))
      p t 3 (omega (arith, there)) d e
      (f ∙ ap (λ bytes. Goes (with_memory (holding (configuration (means a) m (map (means a) cells) (passed s)) (drop 3 (own (image (means a) s)))) bytes))
      (sym (ap (map (means a')) is ∙ means-written H means a a' r.to (map plain (part r.from r.count source)) cells (map K.number (part r.from r.count source)) kept each
      (numbers (part r.from r.count source) (All-part (λ n. n < 256) r.from r.count source small)))))
    where
      held : (xs : List ℕ) → All (λ n. n < 256) xs → All (H a') (map plain xs)
      held xs below = All-map (H a') plain xs (All-weaker (λ n. n < 256) (λ n. H a' (plain n)) (λ n h. (plain_is n h).0) xs below)

      numbers : (xs : List ℕ) → All (λ n. n < 256) xs → map (means a') (map plain xs) ≡ map K.number xs
      numbers [] below = refl
      numbers (x ∷ xs) below = ap₂ (λ y ys. y ∷ ys) (plain_is x (All-head (λ n. n < 256) x xs below)).1 (numbers xs (All-tail (λ n. n < 256) x xs below))

  -- ---- loads

  pub load-came : (h : V → M) (x : Progress V ℕ) (op align offset extent : ℕ) (access : Access) → Some access ≡ load_of op → extent ≡ offset + access.bytes
      → ((go : ℕ → List (Value M) → Next M) → with_word false (own (image (means a) s)) (λ address rest. addressing K Memory address extent size s.answers (λ at. go at rest)) ≡ came_to h (λ at. go at (drop 1 (own (image (means a) s)))) x)
      → acting means K m (Load op align offset) a s (map (means a) cells) ≡ came_to h (λ at. Goes (holding (configuration (means a) m (map (means a) cells) (passed s)) (valued access.wide (accessed K access (part (at + offset) access.bytes (map (means a) cells))) ∷ drop 1 (own (image (means a) s))))) x
  load-came h x op align offset extent access known ends says =
      ap (λ o. with_found o (λ access. with_word false (own (image (means a) s)) (λ address rest. addressing K Memory address (offset + access.bytes) (length (map (means a) cells)) s.answers (λ at. Goes (holding (configuration (means a) m (map (means a) cells) (passed s)) (valued access.wide (accessed K access (part (at + offset) access.bytes (map (means a) cells))) ∷ rest)))))) (sym known)
      ∙ ap₂ (λ size extent. with_word false (own (image (means a) s)) (λ address rest. addressing K Memory address extent size s.answers (λ at. Goes (holding (configuration (means a) m (map (means a) cells) (passed s)) (valued access.wide (accessed K access (part (at + offset) access.bytes (map (means a) cells))) ∷ rest))))) (length-map cells (means a) ∙ sym sized) (sym ends)
      ∙ says (λ at rest. Goes (holding (configuration (means a) m (map (means a) cells) (passed s)) (valued access.wide (accessed K access (part (at + offset) access.bytes (map (means a) cells))) ∷ rest)))

  pub load-stuck : (op align offset : ℕ) → None ≡ load_of op → acting means K m (Load op align offset) a s (map (means a) cells) ≡ Ends Stuck
  load-stuck op align offset none = ap (λ o. with_found o (λ access. with_word false (own (image (means a) s)) (λ address rest. addressing K Memory address (offset + access.bytes) (length (map (means a) cells)) s.answers (λ at. Goes (holding (configuration (means a) m (map (means a) cells) (passed s)) (valued access.wide (accessed K access (part (at + offset) access.bytes (map (means a) cells))) ∷ rest)))))) (sym none)

  loaded-is : (op : ℕ) (access : Access) → Some access ≡ load_of op → (bytes : List M) → loaded K op bytes ≡ accessed K access bytes
  loaded-is op access known bytes = ap (λ (o : Option Access). option_map_or (λ access. accessed K access bytes) o (K.number 0)) (sym known)

  pub load-acts : (b a' : A) → Kept H means a a' → b ≡ a → (op align offset at : ℕ) (access : Access) (w : V) (p t : State (CodeValue V)) → 0 < length (own s) → p ≡ passed s → t ≡ replaced 1 (code_valued access.wide w) p
      → Some access ≡ load_of op → H a' w → means a' w ≡ loaded K op (map (means b) (part (at + offset) (load_bytes op) cells))
      → acting means K m (Load op align offset) a s (map (means a) cells) ≡ Goes (holding (configuration (means a) m (map (means a) cells) (passed s)) (valued access.wide (accessed K access (part (at + offset) access.bytes (map (means a) cells))) ∷ drop 1 (own (image (means a) s))))
      → ActsOn H means K m (Load op align offset) a s cells a' t cells CodeGoes
  load-acts b a' kept same op align offset at access w p t there d e known held is f =
      put-acts-on H means K m (Load op align offset) a a' kept s sane cells each p t 1 (code_valued access.wide w) (valued access.wide (accessed K access (part (at + offset) access.bytes (map (means a) cells))))
      (omega (arith, there)) d e (valued-held (H a') access.wide w held)
      (valued-image (means a') access.wide w ∙ ap (valued access.wide) (is ∙ ap (λ x. loaded K op (map (means x) (part (at + offset) (load_bytes op) cells))) same
      ∙ loaded-is op access known (map (means a) (part (at + offset) (load_bytes op) cells))
      ∙ ap (accessed K access) (map-part (means a) (at + offset) (load_bytes op) cells ∙ ap (λ n. part (at + offset) n (map (means a) cells)) (load_bytes-is op access known))))
      f

  -- ---- stores

  pub store-came : (h : V → M) (x : Progress V ℕ) (op align offset extent : ℕ) (access : Access) (w : M) → Some access ≡ store_of op → extent ≡ offset + access.bytes
      → ((go : M → List (Value M) → Next M) → with_word access.wide (own (image (means a) s)) go ≡ go w (drop 1 (own (image (means a) s))))
      → ((go : ℕ → List (Value M) → Next M) → with_word false (drop 1 (own (image (means a) s))) (λ address rest. addressing K Memory address extent size s.answers (λ at. go at rest)) ≡ came_to h (λ at. go at (drop 2 (own (image (means a) s)))) x)
      → acting means K m (Store op align offset) a s (map (means a) cells) ≡ came_to h (λ at. Goes (with_memory (holding (configuration (means a) m (map (means a) cells) (passed s)) (drop 2 (own (image (means a) s)))) (written (at + offset) (lowest_bytes K access.bytes w) (map (means a) cells)))) x
  store-came h x op align offset extent access w known ends found says =
      ap (λ o. with_found o (λ access. with_word access.wide (own (image (means a) s)) (λ w rest. with_word false rest (λ address rest. addressing K Memory address (offset + access.bytes) (length (map (means a) cells)) s.answers (λ at. Goes (with_memory (holding (configuration (means a) m (map (means a) cells) (passed s)) rest) (written (at + offset) (lowest_bytes K access.bytes w) (map (means a) cells)))))))) (sym known)
      ∙ found (λ w rest. with_word false rest (λ address rest. addressing K Memory address (offset + access.bytes) (length (map (means a) cells)) s.answers (λ at. Goes (with_memory (holding (configuration (means a) m (map (means a) cells) (passed s)) rest) (written (at + offset) (lowest_bytes K access.bytes w) (map (means a) cells))))))
      ∙ ap₂ (λ size extent. with_word false (drop 1 (own (image (means a) s))) (λ address rest. addressing K Memory address extent size s.answers (λ at. Goes (with_memory (holding (configuration (means a) m (map (means a) cells) (passed s)) rest) (written (at + offset) (lowest_bytes K access.bytes w) (map (means a) cells)))))) (length-map cells (means a) ∙ sym sized) (sym ends)
      ∙ says (λ at rest. Goes (with_memory (holding (configuration (means a) m (map (means a) cells) (passed s)) rest) (written (at + offset) (lowest_bytes K access.bytes w) (map (means a) cells))))

  pub store-stuck : (op align offset : ℕ) → None ≡ store_of op → acting means K m (Store op align offset) a s (map (means a) cells) ≡ Ends Stuck
  store-stuck op align offset none = ap (λ o. with_found o (λ access. with_word access.wide (own (image (means a) s)) (λ w rest. with_word false rest (λ address rest. addressing K Memory address (offset + access.bytes) (length (map (means a) cells)) s.answers (λ at. Goes (with_memory (holding (configuration (means a) m (map (means a) cells) (passed s)) rest) (written (at + offset) (lowest_bytes K access.bytes w) (map (means a) cells)))))))) (sym none)

  pub store-lacks : (op align offset : ℕ) (access : Access) → Some access ≡ store_of op
      → ((go : M → List (Value M) → Next M) → with_word access.wide (own (image (means a) s)) go ≡ Ends Stuck)
      → acting means K m (Store op align offset) a s (map (means a) cells) ≡ Ends Stuck
  store-lacks op align offset access known lacks =
      ap (λ o. with_found o (λ access. with_word access.wide (own (image (means a) s)) (λ w rest. with_word false rest (λ address rest. addressing K Memory address (offset + access.bytes) (length (map (means a) cells)) s.answers (λ at. Goes (with_memory (holding (configuration (means a) m (map (means a) cells) (passed s)) rest) (written (at + offset) (lowest_bytes K access.bytes w) (map (means a) cells)))))))) (sym known)
      ∙ lacks (λ w rest. with_word false rest (λ address rest. addressing K Memory address (offset + access.bytes) (length (map (means a) cells)) s.answers (λ at. Goes (with_memory (holding (configuration (means a) m (map (means a) cells) (passed s)) rest) (written (at + offset) (lowest_bytes K access.bytes w) (map (means a) cells))))))

  pub store-acts : (b a' : A) → Kept H means a a' → b ≡ a → (op align offset at : ℕ) (access : Access) (w : V) (now : List V) (p t : State (CodeValue V)) → 1 < length (own s) → p ≡ passed s → t ≡ without 2 p
      → Some access ≡ store_of op → All (H a') now → map (means a') now ≡ written (at + offset) (stored K op (means b w)) (map (means b) cells)
      → acting means K m (Store op align offset) a s (map (means a) cells) ≡ Goes (with_memory (holding (configuration (means a) m (map (means a) cells) (passed s)) (drop 2 (own (image (means a) s)))) (written (at + offset) (lowest_bytes K access.bytes (means a w)) (map (means a) cells)))
      → ActsOn H means K m (Store op align offset) a s cells a' t now CodeGoes
  store-acts b a' kept same op align offset at access w now p t there d e known held is f =
      write-acts-on H means K m (Store op align offset) a a' kept s sane cells now held p t 2 (omega (arith, there)) d e
      (f ∙ ap (λ bytes. Goes (with_memory (holding (configuration (means a) m (map (means a) cells) (passed s)) (drop 2 (own (image (means a) s)))) bytes))
      (sym (is ∙ ap (λ x. written (at + offset) (stored K op (means x w)) (map (means x) cells)) same ∙ ap (λ n. written (at + offset) (lowest_bytes K n (means a w)) (map (means a) cells)) (store_bytes-is op access known))))

  -- ---- memory.size

  pub size-acts : (a' : A) → Kept H means a a' → (w : V) (p t : State (CodeValue V)) → p ≡ passed s → t ≡ pushed (CodeI32 w) p → H a' w → means a' w ≡ K.number (size / 65536)
      → ActsOn H means K m MemorySize a s cells a' t cells CodeGoes
  size-acts a' kept w p t d e held is =
      push-acts-on H means K m MemorySize a a' kept s sane cells each p t (CodeI32 w) (I32 (K.number (size / 65536))) d e held (ap (λ x. I32 x) is)
      (ap (λ n. Goes (holding (configuration (means a) m (map (means a) cells) (passed s)) (I32 (K.number (n / 65536)) ∷ own (image (means a) s)))) (length-map cells (means a) ∙ sym sized))

  -- ---- memory.grow

  -- what it comes to where the memory may grow to so many pages
  abbrev pub GrowFrom : ℕ → Next M
  GrowFrom most = with_word false (own (image (means a) s)) (λ count rest. growing K (configuration (means a) m (map (means a) cells) (passed s)) rest count (length (map (means a) cells) / 65536) most s.answers (λ n. with_memory (configuration (means a) m (map (means a) cells) (passed s)) (map (means a) cells ++ replicate (n * 65536) (K.number 0))))

  limited : (o : Option Limits) (most : ℕ) → Some most ≡ option_map (λ l. growth_limit l.max most_pages) o → with_found o (λ limits. GrowFrom (growth_limit limits.max most_pages)) ≡ GrowFrom most
  limited None most e = cc
  limited (Some l) most e = let same : growth_limit l.max most_pages ≡ most = cc in ap GrowFrom same

  pub grow-lacks : (most : ℕ) → Some most ≡ option_map (λ l. growth_limit l.max most_pages) (slice_get m.memories 0) → ((go : M → List (Value M) → Next M) → with_word false (own (image (means a) s)) go ≡ Ends Stuck)
      → acting means K m MemoryGrow a s (map (means a) cells) ≡ Ends Stuck
  grow-lacks most known lacks = limited (slice_get m.memories 0) most known ∙ lacks (λ count rest. growing K (configuration (means a) m (map (means a) cells) (passed s)) rest count (length (map (means a) cells) / 65536) most s.answers (λ n. with_memory (configuration (means a) m (map (means a) cells) (passed s)) (map (means a) cells ++ replicate (n * 65536) (K.number 0))))

  pub memory-grows : (most : ℕ) (count : V) (answers : List ℕ) (g : Growth V) → Some most ≡ option_map (λ l. growth_limit l.max most_pages) (slice_get m.memories 0) → Found (own (image (means a) s)) 0 (means a count) → answers ≡ s.answers
      → ((h : V → M) (c : Config M) (rest : List (Value M)) (go : ℕ → Config M) → growing K c rest (h count) (size / 65536) most answers go ≡ grows K h c rest (size / 65536) go g)
      → acting means K m MemoryGrow a s (map (means a) cells) ≡ grows K (means a) (configuration (means a) m (map (means a) cells) (passed s)) (drop 1 (own (image (means a) s))) (size / 65536)
      (λ n. with_memory (configuration (means a) m (map (means a) cells) (passed s)) (map (means a) cells ++ replicate (n * 65536) (K.number 0))) g
  memory-grows most count answers g known found same says =
      limited (slice_get m.memories 0) most known
      ∙ found (λ count rest. growing K (configuration (means a) m (map (means a) cells) (passed s)) rest count (length (map (means a) cells) / 65536) most s.answers (λ n. with_memory (configuration (means a) m (map (means a) cells) (passed s)) (map (means a) cells ++ replicate (n * 65536) (K.number 0))))
      ∙ ap₂ (λ size ns. growing K (configuration (means a) m (map (means a) cells) (passed s)) (drop 1 (own (image (means a) s))) (means a count) (size / 65536) most ns (λ n. with_memory (configuration (means a) m (map (means a) cells) (passed s)) (map (means a) cells ++ replicate (n * 65536) (K.number 0)))) (length-map cells (means a) ∙ sym sized) (sym same)
      ∙ says (means a) (configuration (means a) m (map (means a) cells) (passed s)) (drop 1 (own (image (means a) s))) (λ n. with_memory (configuration (means a) m (map (means a) cells) (passed s)) (map (means a) cells ++ replicate (n * 65536) (K.number 0)))

  pub refused-acts : (a' : A) → Kept H means a a' → (w : V) (p t : State (CodeValue V)) → 0 < length (own s) → p ≡ passed s → t ≡ replaced 1 (CodeI32 w) p → H a' w → means a' w ≡ K.number 4294967295
      → acting means K m MemoryGrow a s (map (means a) cells) ≡ Goes (holding (configuration (means a) m (map (means a) cells) (passed s)) (I32 (K.number 4294967295) ∷ drop 1 (own (image (means a) s))))
      → ActsOn H means K m MemoryGrow a s cells a' t cells CodeGoes
  refused-acts a' kept w p t there d e held is f =
      put-acts-on H means K m MemoryGrow a a' kept s sane cells each p t 1 (CodeI32 w) (I32 (K.number 4294967295)) (omega (arith, there)) d e held (ap (λ x. I32 x) is) f

  pub grown-acts : (a' : A) → Kept H means a a' → (w zero_word : V) (n : ℕ) (now : List V) (p t : State (CodeValue V)) → 0 < length (own s) → p ≡ passed s → t ≡ replaced 1 (CodeI32 w) p → H a' w → means a' w ≡ K.number (size / 65536)
      → now ≡ cells ++ replicate (n * 65536) zero_word → H a' zero_word × (means a' zero_word ≡ K.number 0)
      → acting means K m MemoryGrow a s (map (means a) cells) ≡ Goes (holding (with_memory (configuration (means a) m (map (means a) cells) (passed s)) (map (means a) cells ++ replicate (n * 65536) (K.number 0))) (I32 (K.number (size / 65536)) ∷ drop 1 (own (image (means a) s))))
      → ActsOn H means K m MemoryGrow a s cells a' t now CodeGoes
  grown-acts a' kept w zero_word n now p t there d e held is grown zeros f =
      grow-acts-on H means K m MemoryGrow a a' kept s sane cells now
      (subst (All (H a')) (sym grown) (All-append (H a') cells (replicate (n * 65536) zero_word) (All-kept H means a a' cells kept each) (All-replicate (H a') (n * 65536) zero_word zeros.0)))
      p t 1 (CodeI32 w) (I32 (K.number (size / 65536))) (omega (arith, there)) d e held (ap (λ x. I32 x) is)
      (f ∙ ap (λ bytes. Goes (holding (with_memory (configuration (means a) m (map (means a) cells) (passed s)) bytes) (I32 (K.number (size / 65536)) ∷ drop 1 (own (image (means a) s)))))
      (sym (ap (map (means a')) grown ∙ map-append (means a') cells (replicate (n * 65536) zero_word)
      ∙ ap₂ (λ xs ys. xs ++ ys) (map-kept H means a a' cells kept each) (map-replicate (means a') (n * 65536) zero_word ∙ ap (replicate (n * 65536)) zeros.1))))
