-- The examples of nodes, by computing.
use Rattle.std.proofs.Common.{◌≡◌, zero, suc, [], ◌∷◌, refl, sym, subst}
use Rattle.int_ops.specs.Operators.{operator_of}
use Rattle.wasm_ast.specs.declared.runs.Cause.TheVariants.{Table}
use Rattle.wasm_ast.specs.declared.runs.Outcome.TheVariants.{Returns, Traps}
use Rattle.wasm_ast.specs.declared.runs.Value.TheVariants.{I32}
use Rattle.wasm_rules.specs.Accesses.{load_of, store_of}
use Rattle.wasm_reduction.specs.Configurations.{Test, Pick}
use Rattle.wasm_reduction.specs.Examples.{draw32}
use Rattle.wasm_reduction.specs.Runs.{Over, Stands}
use Rattle.wasm_reduction.specs.Scripts.{Script, Finished, Asked, Past}
use Rattle.wasm_reduction.specs.ScriptExamples.{looks_up, looked_up, HasScript}
use Rattle.wasm_reduction.proofs.ScriptExampleRuns.{script_examples}
use Rattle.wasm_reduction.proofs.ScriptLaws.{one-script}
use Rattle.bv_terms.specs.Making.{made}
use Rattle.sym_state.specs.Nodes.{root, IsAllowed, IsMember}
use Rattle.sym_state.specs.States.{over_terms}
use Rattle.sym_state.specs.Examples.{looking_up, within, others, place, past_the_end, drawn_one, NodeExamples}

pub tests : over_terms (root looking_up) 80 ≡ Over (Stands Test past_the_end) (drawn_one [])
unfolding operator_of load_of store_of made
tests = refl

pub picks : over_terms within 80 ≡ Over (Stands Pick place) (drawn_one (0 ∷ []))
unfolding operator_of load_of store_of made
picks = refl

abbrev looked_up_first : Script
looked_up_first = Asked Test 0 (draw32 0 ∷ []) (Asked Pick 0 (draw32 0 ∷ []) (Finished (Returns (I32 1 ∷ [])) (draw32 0 ∷ [])))

first_is : HasScript looks_up (0 ∷ []) looked_up_first
unfolding operator_of load_of store_of
first_is = (record { turns = 80; halt = _; trace = _; over = refl; first = (refl, refl) }, (record { turns = 80; halt = _; trace = _; over = refl; first = (refl, refl) }, record { turns = 80; halt = _; trace = _; over = refl; first = (refl, refl) }))

abbrev past_end : Script
past_end = Asked Test 1 (draw32 5 ∷ []) (Finished (Traps Table) (draw32 5 ∷ []))

one-not-zero : suc zero ≡ zero → ⊥
one-not-zero e = cc

pub not-within : IsMember within (5 ∷ []) → ⊥
not-within m =
    let at = m.1 in
    let same : at.script ≡ past_end = one-script looks_up 4 [] (5 ∷ []) 100 at.script past_end at.is_script script_examples.place_past_the_end in
    let answers : Past (0 ∷ []) past_end m.0 = subst (λ s. Past (0 ∷ []) s m.0) same at.past in
    one-not-zero answers.0

pub not-others : IsMember others (1 ∷ []) → ⊥
not-others m =
    let at = m.1 in
    let same : at.script ≡ looked_up = one-script looks_up 4 [] (1 ∷ []) 100 at.script looked_up at.is_script script_examples.place_within in
    let answers : Past (0 ∷ []) looked_up m.0 = subst (λ s. Past (0 ∷ []) s m.0) same at.past in
    let allowed : IsAllowed (1 ∷ []) (Asked Pick 1 (draw32 1 ∷ []) (Finished (Returns (I32 1 ∷ [])) (draw32 1 ∷ []))) = subst (λ s. IsAllowed (1 ∷ []) s) (sym answers.2) at.allowed in
    allowed.0 refl

pub node_examples : NodeExamples
node_examples = record {
  tests = tests;
  picks = picks;
  root_has_all = (past_end, record { script = past_end; is_script = script_examples.place_past_the_end; past = refl; allowed = tt });
  one_is_within = (_, record { script = looked_up; is_script = script_examples.place_within; past = (refl, tt, refl); allowed = tt });
  five_is_past = (_, record { script = past_end; is_script = script_examples.place_past_the_end; past = (refl, tt, refl); allowed = tt });
  five_is_not_within = not-within;
  one_is_picked = (_, record { script = looked_up; is_script = script_examples.place_within; past = (refl, tt, (refl, tt, refl)); allowed = tt });
  zero_is_another = (_, record { script = looked_up_first; is_script = first_is; past = (refl, tt, refl); allowed = (λ e. cc, tt) });
  one_is_excluded = not-others;
}
