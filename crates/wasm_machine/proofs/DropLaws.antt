-- data.drop and elem.drop
use Rattle.std.proofs.Common.{◌≡◌, ℕ, [], map, length, sym, ap, ◌∙◌, subst}
use Rattle.std.specs.Prelude.{Bool, Some, None, slice_get, slice_set, option_map}
use Rattle.wasm_ast.specs.declared.instructions.Instr.TheVariants.{DataDrop, ElemDrop}
use Rattle.wasm_ast.specs.declared.modules.Module.{Module}
use Rattle.wasm_rules.specs.Words.{Kind}
use Rattle.wasm_reduction.specs.Configurations.{Goes}
use Rattle.wasm_reduction.specs.Combinators.{with_datas, with_elems, with_found}
use Rattle.wasm_machine.specs.declared.values.Value.{Value as CodeValue}
use Rattle.wasm_machine.specs.declared.next.Next.TheVariants.{Goes as CodeGoes, Ends as CodeEnds}
use Rattle.wasm_machine.specs.declared.next.End.TheVariants.{Stuck as CodeStuck}
use Rattle.wasm_machine.specs.States.{State, passed}
use Rattle.wasm_machine.specs.code.Moves.{without_data, without_elem}
use Rattle.wasm_machine.specs.Values.{reference}
use Rattle.wasm_machine.specs.Configurations.{configuration, datas_of}
use Rattle.wasm_machine.specs.Acts.{Sane, Acts}
use Rattle.wasm_machine.proofs.Images.{sane-passed}
use Rattle.wasm_machine.proofs.ActLaws.{stuck-acts}
use Rattle.wasm_machine.proofs.StoreLemmas.{data_none, data_some, data_set}
use Rattle.wasm_machine.proofs.TableLaws.{found-list, no-list, elem-config, sane-elem}

module _ {A V M : Type 0} (H : A → V → Type 0) (means : A → V → M) (K : Kind M) (m : Module) (a : A) (s : State (CodeValue V)) (sane : Sane H a s) where
  pub data-stuck : (x : ℕ) → None ≡ slice_get s.dropped x → Acts H means K m (DataDrop x) a s a s (CodeEnds CodeStuck)
  data-stuck x e = stuck-acts H means K m (DataDrop x) a a s s (λ b. ap (λ o. with_found o (λ old. Goes (with_datas (configuration (means a) m b (passed s)) (slice_set (datas_of s.dropped m.segments) x [])))) (data_none s.dropped m.segments x e))

  pub data-drops : (x : ℕ) (d : Bool) (p t : State (CodeValue V)) → Some d ≡ slice_get s.dropped x → p ≡ passed s → t ≡ without_data x p → Acts H means K m (DataDrop x) a s a t CodeGoes
  data-drops x d p t found e0 e1 =
      let e : t ≡ without_data x (passed s) = e1 ∙ ap (λ p. without_data x p) e0 in
      let held = sane-passed H a s sane in record {
        gives = λ b. ap (λ o. with_found o (λ old. Goes (with_datas (configuration (means a) m b (passed s)) (slice_set (datas_of s.dropped m.segments) x [])))) (data_some s.dropped m.segments x d found).1
            ∙ ap (λ c. Goes c) (sym (ap (λ t. configuration (means a) m b t) e ∙ ap (λ ds. with_datas (configuration (means a) m b (passed s)) ds) (data_set s.dropped m.segments x)));
        after = subst (λ t. Sane H a t) (sym e) (record { well_formed = record { frame = held.well_formed.frame; callers = held.well_formed.callers; short = held.well_formed.short }; operands = held.operands; locals = held.locals; globals = held.globals });
      }

  pub elem-stuck : (e : ℕ) → None ≡ option_map length (slice_get s.elems e) → Acts H means K m (ElemDrop e) a s a s (CodeEnds CodeStuck)
  elem-stuck e none = stuck-acts H means K m (ElemDrop e) a a s s (λ b. no-list s.elems e (λ old. Goes (with_elems (configuration (means a) m b (passed s)) (slice_set (map (λ t. map reference t) s.elems) e []))) none)

  pub elem-drops : (e n : ℕ) (p t : State (CodeValue V)) → Some n ≡ option_map length (slice_get s.elems e) → p ≡ passed s → t ≡ without_elem e p → Acts H means K m (ElemDrop e) a s a t CodeGoes
  elem-drops x n p t found e0 e1 =
      let e : t ≡ without_elem x (passed s) = e1 ∙ ap (λ p. without_elem x p) e0 in record {
        gives = λ b. found-list s.elems x n (λ old. Goes (with_elems (configuration (means a) m b (passed s)) (slice_set (map (λ t. map reference t) s.elems) x []))) found
            ∙ ap (λ c. Goes c) (sym (ap (λ t. configuration (means a) m b t) e ∙ elem-config (means a) m b (passed s) x));
        after = subst (λ t. Sane H a t) (sym e) (sane-elem H a (passed s) x (sane-passed H a s sane));
      }
