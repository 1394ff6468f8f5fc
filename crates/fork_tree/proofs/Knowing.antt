-- The scripts of a valid and ready module are known to have answered alike, and so on.
use Rattle.std.proofs.Common.{◌≡◌, ℕ, zero, suc, List, [], ◌∷◌, ◌++◌, refl, ap, ◌∙◌}
use Rattle.std.specs.Prelude.{false}
use Rattle.wasm_ast.specs.declared.runs.Draw.{Draw}
use Rattle.wasm_ast.specs.declared.runs.Outcome.TheVariants.{Assumes as AssumeFailed}
use Rattle.wasm_reduction.specs.Configurations.{Question, Assume}
use Rattle.wasm_reduction.specs.Runs.{answer_of, MeetsAssumptions}
use Rattle.wasm_reduction.specs.Scripts.{Script, Finished, Asked, told, told_after, Through, Past, Passes}
use Rattle.wasm_reduction.proofs.ScriptRuns.{script-told}
use Rattle.wasm_reduction.proofs.ScriptLaws.{left-comes, script-of, one-script}
use Rattle.wasm_reduction.proofs.ScriptPlaces.{firsts-alike}
use Rattle.wasm_reduction.proofs.ScriptEnds.{failed, kept}
use Rattle.wasm_soundness.proofs.Runs.{has-one-run}
use Rattle.sym_state.specs.Nodes.{Invocation, CanExplore, IsScriptAt, IsMember, root}
use Rattle.fork_tree.specs.Nodes.{is_true}
use Rattle.fork_tree.specs.code.Known.{Known}
use Rattle.fork_tree.specs.code.Parts.{Meets}

-- the outcome of a script, whatever was answered before it
pub same-outcome : (A B : List ℕ) (s : Script) → (told_after A s).outcome ≡ (told_after B s).outcome
same-outcome A B (Finished o d) = refl
same-outcome A B (Asked q v d s) = same-outcome (A ++ answer_of q v ∷ []) (B ++ answer_of q v ∷ []) s

-- and of what is left of it
pub left-outcome : (Says : Question → ℕ → Type 0) (A : List ℕ) (s left : Script) → Through Says A s left → (told s).outcome ≡ (told left).outcome
left-outcome Says [] s left h = ap (λ s. (told s).outcome) h
left-outcome Says (a ∷ A) (Finished o d) left h = absurd h
left-outcome Says (a ∷ A) (Asked q v d s) left h = same-outcome (answer_of q v ∷ []) [] s ∙ left-outcome Says A s left h.2

false-zero : (v : ℕ) → is_true v ≡ false → v ≡ 0
false-zero zero e = refl
false-zero (suc v) e = cc

module _ (i : Invocation) (can : CanExplore i) where
  has-script : (I : List ℕ) → (s : Script) × IsScriptAt i I s
  has-script I =
      let one = has-one-run i.«module» i.entry i.args I i.steps can.can can.fit in
      let s = script-of i.«module» i.entry i.args I i.steps one.run one.is_run in
      (s.0, s.1)

  fails : (A I : List ℕ) (v : ℕ) (d : List Draw) (s left : Script) → IsScriptAt i I s → Past A s (Asked Assume v d left) → is_true v ≡ false → (told s).outcome ≡ AssumeFailed
  fails A I v d s left is h e =
      let ends : left ≡ Finished AssumeFailed d = failed i.«module» i.entry i.args I i.steps Passes A s left v d is h (false-zero v e) in
      left-outcome Passes A s (Asked Assume v d left) h ∙ same-outcome (answer_of Assume v ∷ []) [] left ∙ ap (λ s. (told s).outcome) ends

  pub knows : Known i
  knows = record {
    exists = has-script;
    one = λ I s t h k. one-script i.«module» i.entry i.args I i.steps s t h k;
    alike = λ A I J r q s t h k f g. firsts-alike i.«module» i.entry i.args i.steps can.has_numbers can.can.valid can.can.ready can.fitting A I J s t
        (left-comes i.«module» i.entry i.args I i.steps Passes A r s h f) (left-comes i.«module» i.entry i.args J i.steps Passes A q t k g);
    failed = fails;
    kept = λ A I o d s is h. kept i.«module» i.entry i.args I i.steps A s o d is h;
  }

  pub meets : (input : List ℕ) → MeetsAssumptions i.«module» i.entry i.args input i.steps → Meets i input
  meets input h s is = h (told s) (script-told i.«module» i.entry i.args input i.steps s is)

  -- each input is a member of the root
  pub in-root : (input : List ℕ) → IsMember (root i) input
  in-root input =
      let s = has-script input in
      (s.0, record { script = s.0; is_script = s.1; past = refl; allowed = tt })
