-- Reference instructions.
use Rattle.std.proofs.Common.{◌≡◌, ℕ, ◌∷◌, refl, ap, arith}
use Rattle.std.specs.Prelude.{Some, None}
use Rattle.wasm_ast.specs.declared.types.ValType.{ValType}
use Rattle.wasm_ast.specs.declared.instructions.Instr.TheVariants.{RefNull, RefIsNull, RefFunc}
use Rattle.wasm_ast.specs.declared.modules.Module.{Module}
use Rattle.int_ops.specs.Integers.{truth}
use Rattle.wasm_rules.specs.Words.{Kind, Kept}
use Rattle.wasm_reduction.specs.Configurations.{FuncRef, I32, Ref, Goes}
use Rattle.wasm_reduction.specs.Combinators.{holding, with_found}
use Rattle.wasm_reduction.specs.Tables.{null_of, is_null}
use Rattle.wasm_machine.specs.declared.values.Reference.{Reference as CodeReference}
use Rattle.wasm_machine.specs.declared.values.Value.{Value as CodeValue}
use Rattle.wasm_machine.specs.declared.values.Value.TheVariants.{I32 as CodeI32, Ref as CodeRef}
use Rattle.wasm_machine.specs.declared.next.Next.TheVariants.{Goes as CodeGoes, Ends as CodeEnds}
use Rattle.wasm_machine.specs.declared.next.End.TheVariants.{Stuck as CodeStuck}
use Rattle.wasm_machine.specs.States.{State, own, passed}
use Rattle.wasm_machine.specs.code.Moves.{pushed, replaced}
use Rattle.wasm_machine.specs.Values.{reference, reference_at}
use Rattle.wasm_machine.specs.Configurations.{image, configuration}
use Rattle.wasm_machine.specs.Acts.{Sane, Acts}
use Rattle.wasm_machine.proofs.Images.{kept-same, reference_at-some}
use Rattle.wasm_machine.proofs.Operands.{found-reference, no-reference}
use Rattle.wasm_machine.proofs.ActLaws.{put-acts, push-acts, stuck-acts}

pub null-stuck : {A V M : Type 0} (H : A → V → Type 0) (means : A → V → M) (K : Kind M) (m : Module) (a : A) (s : State (CodeValue V)) (kind : ValType) → null_of kind ≡ None → Acts H means K m (RefNull kind) a s a s (CodeEnds CodeStuck)
null-stuck H means K m a s kind e = stuck-acts H means K m (RefNull kind) a a s s (λ b. ap (λ o. with_found o (λ r. Goes (holding (configuration (means a) m b (passed s)) (Ref r ∷ own (image (means a) s))))) e)

pub null-goes : {A V M : Type 0} (H : A → V → Type 0) (means : A → V → M) (K : Kind M) (m : Module) (a : A) (s p t : State (CodeValue V)) (kind : ValType) (r : CodeReference) → Sane H a s → null_of kind ≡ Some (reference r) → p ≡ passed s → t ≡ pushed (CodeRef r) p →
    Acts H means K m (RefNull kind) a s a t CodeGoes
null-goes H means K m a s p t kind r sane e d i = push-acts H means K m (RefNull kind) a a (kept-same H means a) s p t (CodeRef r) (Ref (reference r)) sane d i tt refl
    (λ b. ap (λ o. with_found o (λ r. Goes (holding (configuration (means a) m b (passed s)) (Ref r ∷ own (image (means a) s))))) e)

pub is_null-stuck : {A V M : Type 0} (H : A → V → Type 0) (means : A → V → M) (K : Kind M) (m : Module) (a : A) (s : State (CodeValue V)) → None ≡ reference_at (own s) 0 → Acts H means K m RefIsNull a s a s (CodeEnds CodeStuck)
is_null-stuck H means K m a s e = stuck-acts H means K m RefIsNull a a s s (λ b. no-reference (means a) s 0 _ e)

pub is_null-goes : {A V M : Type 0} (H : A → V → Type 0) (means : A → V → M) (K : Kind M) (m : Module) (a a' : A) → Kept H means a a' → (s p t : State (CodeValue V)) (r : CodeReference) (w : V) → Sane H a s → Some r ≡ reference_at (own s) 0 → H a' w →
    means a' w ≡ K.number (truth (is_null (reference r))) → p ≡ passed s → t ≡ replaced 1 (CodeI32 w) p → Acts H means K m RefIsNull a s a' t CodeGoes
is_null-goes H means K m a a' k s p t r w sane e held is d i =
    put-acts H means K m RefIsNull a a' k s p t 1 (CodeI32 w) (I32 (K.number (truth (is_null (reference r))))) sane (omega (arith, reference_at-some (own s) 0 r e)) d i held (ap (λ x. I32 x) is)
    (λ b. found-reference (means a) s 0 r _ e)

pub func-goes : {A V M : Type 0} (H : A → V → Type 0) (means : A → V → M) (K : Kind M) (m : Module) (a : A) (s p t : State (CodeValue V)) (x : ℕ) (r : CodeReference) → Sane H a s → reference r ≡ FuncRef (Some x) → p ≡ passed s → t ≡ pushed (CodeRef r) p →
    Acts H means K m (RefFunc x) a s a t CodeGoes
func-goes H means K m a s p t x r sane e d i = push-acts H means K m (RefFunc x) a a (kept-same H means a) s p t (CodeRef r) (Ref (FuncRef (Some x))) sane d i tt (ap (λ r. Ref r) e) (λ b. refl)
