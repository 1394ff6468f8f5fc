-- The value at an input, and the run over terms at each member.
use Rattle.std.proofs.Common.{◌≡◌, ℕ, List, [], refl, ap, ◌∙◌}
use Rattle.std.specs.Prelude.{Some, None}
use Rattle.int_ops.specs.Operators.{result_bits}
use Rattle.int_ops.specs.Bytes.{joined}
use Rattle.wasm_rules.specs.Words.{bits_where, numbers, taken}
use Rattle.wasm_reduction.specs.Configurations.{Question}
use Rattle.wasm_reduction.specs.Maps.{KeepsOperations}
use Rattle.wasm_reduction.specs.Runs.{Trace, Stands, Ended, Bound, Deep, Turned, On, Over, by_list, runs}
use Rattle.wasm_reduction.specs.RunImages.{IsAnswered, KeepsSymbols, BeginsWith, turned_image}
use Rattle.wasm_reduction.specs.Scripts.{Script, Finished, Asked, IsFirst, Passes, answers_in, told}
use Rattle.wasm_reduction.proofs.WideStarts.{code-in-range}
use Rattle.wasm_reduction.proofs.MapRuns.{runs-image}
use Rattle.wasm_reduction.proofs.ListedRuns.{runs-there}
use Rattle.wasm_reduction.proofs.ScriptRuns.{script-told, first-of}
use Rattle.wasm_reduction.proofs.ScriptLaws.{left-comes, through-answers, told-answers}
use Rattle.bv_terms.specs.Terms.{Term, Symbol, Unary, Binary, Choose, Byte, Join, bytes_from, value_of, HasBits}
use Rattle.bv_terms.specs.Making.{terms}
use Rattle.bv_terms.proofs.RuleLemmas.{made-keeps}
use Rattle.bv_terms.proofs.KindLemmas.{has, some, join-width, values_of-bytes_from, terms-give}
use Rattle.sym_state.specs.Nodes.{Invocation, CanExplore, Node, IsMember}
use Rattle.sym_state.specs.NextNodes.{Begins, MembersAsk}
use Rattle.sym_state.specs.States.{over_terms, run_at}

module _ (I : List ℕ) where
  pub keeps-operations : KeepsOperations HasBits terms numbers (value_of I)
  keeps-operations = record {
    number = λ n. refl;
    unary = λ op a class h. (made-keeps (Unary op a) (result_bits op) (refl, class, h.0)).1 I;
    binary = λ op a b class h k. (made-keeps (Binary op a b) (result_bits op) (refl, class, h.0, k.0)).1 I;
    choose = λ wide c a b s h k. (made-keeps (Choose wide c a b) (bits_where wide) (refl, some c s, h.0, k.0)).1 I;
    byte = λ a i place s. (made-keeps (Byte a i) 8 (refl, place, some a s)).1 I;
    join = λ wide ts count each.
        (made-keeps (Join wide (bytes_from ts)) (bits_where wide) (join-width wide ts count (λ i d below. (each i d below).0))).1 I
        ∙ ap joined (values_of-bytes_from I ts);
  }

  pub keeps-symbols : KeepsSymbols HasBits (value_of I) terms.symbol (taken I)
  keeps-symbols = record {
    has = λ k wide. has (Symbol k wide) (bits_where wide) refl;
    value = λ k wide. refl;
  }

module _ (n : Node) (can : CanExplore n.invocation) where
  abbrev i : Invocation
  i = n.invocation

  -- the run over numbers that has the same answers
  pub listed : (I : List ℕ) (turns : ℕ) → runs numbers (taken I) (by_list n.answers) n.invocation.«module» n.invocation.entry n.invocation.args n.invocation.steps turns ≡ turned_image (value_of I) (over_terms n turns)
  listed I turns =
      runs-image (value_of I) terms.symbol (taken I) (keeps-symbols I).value (by_list n.answers) (by_list n.answers) (λ q x given. refl) HasBits terms numbers terms-give (keeps-operations I) i.«module» (code-in-range i.«module» can.has_numbers)
      i.steps (keeps-symbols I).has can.has_numbers can.can.valid can.can.ready i.entry i.args can.fitting turns

  still-answered : (I : List ℕ) (x : Turned Term) → IsAnswered x → IsAnswered (turned_image (value_of I) x)
  still-answered I (On g) h = tt
  still-answered I (Over (Stands q w) trace) h = absurd h
  still-answered I (Over (Ended e) trace) h = tt
  still-answered I (Over Bound trace) h = tt
  still-answered I (Over Deep trace) h = tt

  pub place-values : (I : List ℕ) (turns : ℕ) → IsMember n I → IsAnswered (over_terms n turns) → run_at n I turns ≡ turned_image (value_of I) (over_terms n turns)
  place-values I turns member answered =
      let left = member.0 in
      let at = member.1 in
      let begins : BeginsWith (told at.script).answers n.answers = (answers_in left, told-answers [] at.script ∙ through-answers Passes n.answers at.script left at.past) in
      runs-there i.«module» i.entry i.args I i.steps turns n.answers (told at.script) (turned_image (value_of I) (over_terms n turns))
      (still-answered I (over_terms n turns) answered)
      (script-told i.«module» i.entry i.args I i.steps at.script at.is_script)
      begins
      (listed I turns)

  pub members-ask : (q : Question) (t : Term) (turns : ℕ) (trace : Trace) → over_terms n turns ≡ Over (Stands q t) trace → MembersAsk n q t
  members-ask q t turns trace over I left at = go left first
    where
      first : IsFirst I (Stands q (value_of I t)) trace left
      first =
          first-of i.«module» i.entry i.args I i.steps n.answers left
          (left-comes i.«module» i.entry i.args I i.steps Passes n.answers at.script left at.is_script at.past)
          turns (Stands q (value_of I t)) trace
          (listed I turns ∙ ap (λ x. turned_image (value_of I) x) over)

      go : (left : Script) → IsFirst I (Stands q (value_of I t)) trace left → Begins q (value_of I t) left
      go (Finished o d) f = let none : None ≡ Some o = f.0 in absurd cc
      go (Asked p u d rest) f =
          let same : Stands q (value_of I t) ≡ Stands p u = f.0 in
          (cc, cc)
