-- The examples of scripts, by computing.
use Rattle.std.proofs.Common.{◌≡◌, ℕ, refl, ap}
use Rattle.int_ops.specs.Operators.{operator_of}
use Rattle.wasm_rules.specs.Accesses.{load_of, store_of}
use Rattle.wasm_reduction.specs.Scripts.{Script}
use Rattle.wasm_reduction.specs.ScriptExamples.{ScriptExamples}

pub script_examples : ScriptExamples
unfolding operator_of load_of store_of
script_examples = record {
  place_within = (record { turns = 80; halt = _; trace = _; over = refl; first = (refl, refl) }, (record { turns = 80; halt = _; trace = _; over = refl; first = (refl, refl) }, record { turns = 80; halt = _; trace = _; over = refl; first = (refl, refl) }));
  place_past_the_end = (record { turns = 80; halt = _; trace = _; over = refl; first = (refl, refl) }, record { turns = 80; halt = _; trace = _; over = refl; first = (refl, refl) });
  assumption_holds = (record { turns = 80; halt = _; trace = _; over = refl; first = (refl, refl) }, record { turns = 80; halt = _; trace = _; over = refl; first = (refl, refl) });
  assumption_fails = (record { turns = 80; halt = _; trace = _; over = refl; first = (refl, refl) }, record { turns = 80; halt = _; trace = _; over = refl; first = (refl, refl) });
  no_unit_left = (record { turns = 80; halt = _; trace = _; over = refl; first = (refl, refl) }, (record { turns = 80; halt = _; trace = _; over = refl; first = (refl, refl) }, record { turns = 80; halt = _; trace = _; over = refl; first = (refl, refl) }));
  branch = (record { turns = 80; halt = _; trace = _; over = refl; first = (refl, refl) }, record { turns = 80; halt = _; trace = _; over = refl; first = (refl, refl) });
  past_two_answers = (refl, tt, (refl, tt, refl));
  past_an_assumption = (refl, λ e. cc, refl);
  after_other_answers = λ left h. let e : 0 ≡ 1 = h.0 in cc;
  after_no_assumption = λ left h. h.1 refl;
  alike = (refl, refl);
  unlike = λ h. cc;
  other_number = λ h. let e : 5 ≡ 6 = h.1 in cc;
}
