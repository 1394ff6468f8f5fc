-- What the functions of instructions on tables and memories come to.
use Rattle.std.proofs.Common.{◌≡◌, ℕ, ◌≤◌, List, [], ◌∷◌, map, drop, length, All, refl, sym, ap, ◌∙◌, subst}
use Rattle.std.specs.List.{AllByRecursion}
use Rattle.std.proofs.lemmas.List.Elements.{All-head, All-tail}
use Rattle.wasm_ast.specs.declared.instructions.Instr.{Instr}
use Rattle.wasm_ast.specs.declared.modules.Module.{Module}
use Rattle.wasm_rules.specs.Words.{Kind, Kept}
use Rattle.wasm_reduction.specs.Configurations.{Value, Pick, Next, Goes, Asks, Ends, Stuck}
use Rattle.wasm_reduction.specs.Combinators.{holding, with_memory}
use Rattle.wasm_machine.specs.declared.values.Value.{Value as CodeValue}
use Rattle.wasm_machine.specs.declared.next.Next.{Next as CodeNext}
use Rattle.wasm_machine.specs.declared.next.Next.TheVariants.{Goes as CodeGoes, Draws as CodeDraws, Asks as CodeAsks, Ends as CodeEnds}
use Rattle.wasm_machine.specs.declared.next.Question.TheVariants.{Pick as CodePick}
use Rattle.wasm_machine.specs.declared.next.End.TheVariants.{Stuck as CodeStuck}
use Rattle.wasm_machine.specs.declared.progress.Progress.{Progress}
use Rattle.wasm_machine.specs.declared.progress.Progress.TheVariants.{Stops}
use Rattle.wasm_machine.specs.States.{State, own, passed}
use Rattle.wasm_machine.specs.code.Moves.{pushed, without, replaced}
use Rattle.wasm_machine.specs.Values.{value, ValueHeld}
use Rattle.wasm_machine.specs.Configurations.{config_of, image, configuration}
use Rattle.wasm_machine.specs.Acts.{Sane, Acts, ActsOn}
use Rattle.wasm_machine.specs.code.InstructionProgress.{said, came_to, SaidHeld, ProgressHeld}
use Rattle.wasm_machine.proofs.Steps.{well_formed-passed}
use Rattle.wasm_machine.proofs.Images.{image-kept, sane-kept, sane-passed, sane-pushed, sane-without}
use Rattle.wasm_machine.proofs.ActLaws.{acting, put-config, push-config, drop-config, ask-acts}
use Rattle.wasm_machine.proofs.CellLemmas.{map-kept, All-kept}

pub by_recursion : {X : Type 0} (P : X → Type 0) (xs : List X) → All P xs → AllByRecursion P xs
by_recursion P [] each = tt
by_recursion P (x ∷ xs) each = (All-head P x xs each, by_recursion P xs (All-tail P x xs each))

module _ {A V M : Type 0} (H : A → V → Type 0) (means : A → V → M) (K : Kind M) (m : Module) (i : Instr) (a a' : A) (kept : Kept H means a a') (s : State (CodeValue V)) (sane : Sane H a s) where
  -- ---- it says at once a question or an end

  pub said-acts : (n : CodeNext V) → SaidHeld (H a') n → ((b : List M) → acting means K m i a s b ≡ said (means a') n) → Acts H means K m i a s a' s n
  said-acts CodeGoes held f = absurd held
  said-acts (CodeDraws wide) held f = absurd held
  said-acts (CodeAsks q w) held f = ask-acts H means K m i a a' kept s q w sane held f
  said-acts (CodeEnds e) held f = record { gives = f; after = held }

  pub came-acts : {P : Type 0} (x : Progress V P) (n : CodeNext V) (go : List M → P → Next M) → ProgressHeld (H a') x → x ≡ Stops n → ((b : List M) → acting means K m i a s b ≡ came_to (means a') (go b) x) → Acts H means K m i a s a' s n
  came-acts x n go held is f = said-acts n (subst (ProgressHeld (H a')) is held) (λ b. f b ∙ ap (came_to (means a') (go b)) is)

  -- ---- the same, and more, of those that read or write the memory

  pub said-acts-on : (cells : List V) → All (H a) cells → (n : CodeNext V) → SaidHeld (H a') n → acting means K m i a s (map (means a) cells) ≡ said (means a') n → ActsOn H means K m i a s cells a' s cells n
  said-acts-on cells each CodeGoes held f = absurd held
  said-acts-on cells each (CodeDraws wide) held f = absurd held
  said-acts-on cells each (CodeAsks q w) held f = record { gives = f; after = (sane-kept H means a a' kept s sane, refl, held); bytes = (by_recursion (H a') cells (All-kept H means a a' cells kept each), refl) }
  said-acts-on cells each (CodeEnds e) held f = record { gives = f; after = held; bytes = tt }

  pub came-acts-on : {P : Type 0} (cells : List V) → All (H a) cells → (x : Progress V P) (n : CodeNext V) (go : P → Next M) → ProgressHeld (H a') x → x ≡ Stops n → acting means K m i a s (map (means a) cells) ≡ came_to (means a') go x → ActsOn H means K m i a s cells a' s cells n
  came-acts-on cells each x n go held is f = said-acts-on cells each n (subst (ProgressHeld (H a')) is held) (f ∙ ap (came_to (means a') go) is)

  pub stuck-acts-on : (cells : List V) → All (H a) cells → acting means K m i a s (map (means a) cells) ≡ Ends Stuck → ActsOn H means K m i a s cells a' s cells (CodeEnds CodeStuck)
  stuck-acts-on cells each f = said-acts-on cells each (CodeEnds CodeStuck) tt f

  pub pick-acts-on : (cells : List V) → All (H a) cells → (w : V) → H a' w → acting means K m i a s (map (means a) cells) ≡ Asks Pick (means a' w) → ActsOn H means K m i a s cells a' s cells (CodeAsks CodePick w)
  pick-acts-on cells each w held f = said-acts-on cells each (CodeAsks CodePick w) held f

  -- a value in place of its n operands
  pub put-acts-on : (cells : List V) → All (H a) cells → (p t : State (CodeValue V)) (n : ℕ) (v : CodeValue V) (made : Value M) → n ≤ length (own s) → p ≡ passed s → t ≡ replaced n v p →
      ValueHeld (H a') v → value (means a') v ≡ made →
      acting means K m i a s (map (means a) cells) ≡ Goes (holding (configuration (means a) m (map (means a) cells) (passed s)) (made ∷ drop n (own (image (means a) s)))) →
      ActsOn H means K m i a s cells a' t cells CodeGoes
  put-acts-on cells each p t n v made long d e0 held is f =
      let e : t ≡ replaced n v (passed s) = e0 ∙ ap (λ p. replaced n v p) d in record {
        gives = f ∙ ap (λ c. Goes c) (sym (ap (λ b. configuration (means a') m b t) (map-kept H means a a' cells kept each) ∙ ap (λ t. configuration (means a') m (map (means a) cells) t) e ∙ put-config H means m (map (means a) cells) a a' kept (passed s) n v made (sane-passed H a s sane) long is));
        after = subst (λ t. Sane H a' t) (sym e) (sane-pushed H a' (without n (passed s)) v (sane-without H a' (passed s) n (sane-passed H a' s (sane-kept H means a a' kept s sane)) long) held);
        bytes = by_recursion (H a') cells (All-kept H means a a' cells kept each);
      }

  -- one more value
  pub push-acts-on : (cells : List V) → All (H a) cells → (p t : State (CodeValue V)) (v : CodeValue V) (made : Value M) → p ≡ passed s → t ≡ pushed v p →
      ValueHeld (H a') v → value (means a') v ≡ made →
      acting means K m i a s (map (means a) cells) ≡ Goes (holding (configuration (means a) m (map (means a) cells) (passed s)) (made ∷ own (image (means a) s))) →
      ActsOn H means K m i a s cells a' t cells CodeGoes
  push-acts-on cells each p t v made d e0 held is f =
      let e : t ≡ pushed v (passed s) = e0 ∙ ap (λ p. pushed v p) d in record {
        gives = f ∙ ap (λ c. Goes c) (sym (ap (λ b. configuration (means a') m b t) (map-kept H means a a' cells kept each) ∙ ap (λ t. configuration (means a') m (map (means a) cells) t) e ∙ push-config H means m (map (means a) cells) a a' kept (passed s) v made (sane-passed H a s sane) is));
        after = subst (λ t. Sane H a' t) (sym e) (sane-pushed H a' (passed s) v (sane-passed H a' s (sane-kept H means a a' kept s sane)) held);
        bytes = by_recursion (H a') cells (All-kept H means a a' cells kept each);
      }

  -- other cells, without its n operands
  pub write-acts-on : (cells now : List V) → All (H a') now → (p t : State (CodeValue V)) (n : ℕ) → n ≤ length (own s) → p ≡ passed s → t ≡ without n p →
      acting means K m i a s (map (means a) cells) ≡ Goes (with_memory (holding (configuration (means a) m (map (means a) cells) (passed s)) (drop n (own (image (means a) s)))) (map (means a') now)) →
      ActsOn H means K m i a s cells a' t now CodeGoes
  write-acts-on cells now each p t n long d e0 f =
      let e : t ≡ without n (passed s) = e0 ∙ ap (λ p. without n p) d in
      let left : Sane H a (without n (passed s)) = sane-without H a (passed s) n (sane-passed H a s sane) long in record {
        gives = f ∙ ap (λ c. Goes c) (sym (ap (λ t. configuration (means a') m (map (means a') now) t) e
            ∙ ap (λ p. config_of m (map (means a') now) p) (image-kept H means a a' kept (without n (passed s)) left)
            ∙ ap (λ c. with_memory c (map (means a') now)) (drop-config (means a) m (map (means a) cells) (passed s) n (well_formed-passed s sane.well_formed) long)));
        after = subst (λ t. Sane H a' t) (sym e) (sane-kept H means a a' kept (without n (passed s)) left);
        bytes = by_recursion (H a') now each;
      }

  -- other cells, and a value in place of its n operands
  pub grow-acts-on : (cells now : List V) → All (H a') now → (p t : State (CodeValue V)) (n : ℕ) (v : CodeValue V) (made : Value M) → n ≤ length (own s) → p ≡ passed s → t ≡ replaced n v p →
      ValueHeld (H a') v → value (means a') v ≡ made →
      acting means K m i a s (map (means a) cells) ≡ Goes (holding (with_memory (configuration (means a) m (map (means a) cells) (passed s)) (map (means a') now)) (made ∷ drop n (own (image (means a) s)))) →
      ActsOn H means K m i a s cells a' t now CodeGoes
  grow-acts-on cells now each p t n v made long d e0 held is f =
      let e : t ≡ replaced n v (passed s) = e0 ∙ ap (λ p. replaced n v p) d in record {
        gives = f ∙ ap (λ c. Goes c) (sym (ap (λ t. configuration (means a') m (map (means a') now) t) e ∙ put-config H means m (map (means a') now) a a' kept (passed s) n v made (sane-passed H a s sane) long is));
        after = subst (λ t. Sane H a' t) (sym e) (sane-pushed H a' (without n (passed s)) v (sane-without H a' (passed s) n (sane-passed H a' s (sane-kept H means a a' kept s sane)) long) held);
        bytes = by_recursion (H a') now each;
      }
