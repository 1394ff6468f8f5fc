-- Calls, returns and branches out of a frame on the fast path: that they go on where a frame waits.
use Rattle.std.proofs.Common.{◌≡◌, ℕ, zero, suc, ◌+◌, ◌-◌, ◌^◌, ◌<◌, ◌≤◌, List, [], ◌∷◌, map, drop, length, reverse, refl, sym, ap, ◌∙◌, subst, arith}
use Rattle.std.specs.Prelude.{Bool, true, false, ◌||◌, nat_lt, slice_get, Option, Some, None}
use Rattle.std.proofs.lemmas.Bool.Decides.{nat_tests}
use Rattle.wasm_ast.specs.declared.instructions.Instr.TheVariants.{Br, BrIf, Return, Call}
use Rattle.wasm_ast.specs.declared.modules.Func.{Func}
use Rattle.wasm_ast.specs.declared.modules.Module.{Module}
use Rattle.wasm_rules.specs.Words.{numbers}
use Rattle.wasm_image.specs.declared.hosts.Host.{Host}
use Rattle.wasm_image.specs.Functions.{imported_functions}
use Rattle.wasm_image.specs.Hosts.{IsHostFunction, AreLinked}
use Rattle.wasm_reduction.specs.Configurations.{Value, Config, Goes}
use Rattle.wasm_reduction.specs.Combinators.{holding, with_found}
use Rattle.wasm_reduction.specs.Functions.{Code, defined_as, functions, type_of}
use Rattle.wasm_reduction.specs.Control.{frame_of, calling, call, br}
use Rattle.wasm_reduction.proofs.ImageFunctions.{runs-code}
use Rattle.wasm_machine.specs.declared.values.Value.{Value as CodeValue}
use Rattle.wasm_machine.specs.Configurations.{image}
use Rattle.wasm_machine.specs.States.{own, passed, State}
use Rattle.wasm_machine.specs.code.Moves.{noted}
use Rattle.wasm_machine.proofs.CallLaws.{calls-none, linked-host}
use Rattle.wasm_run.proofs.FastPathLemmas.{IsPlain, keeps_found, keeps_word, keeps_last, plain_br, plain_br_out, plain_return, outer_count}
use Rattle.wasm_run.proofs.FastTestLemmas.{past_at, acts_at, plain-tested}
use Rattle.wasm_machine.proofs.BoundLaws.{depth-is}

-- as many frames wait once a question is answered
pub noted-waits : (s u : State (CodeValue ℕ)) (n : ℕ) → u ≡ noted n s → 1 ≤ length s.callers → 1 ≤ length u.callers
noted-waits s u n e some = subst (λ u. 1 ≤ length u.callers) (sym e) some

module _ (m : Module) (b : List ℕ) (s : State (CodeValue ℕ)) where
  waits : 1 ≤ length s.callers → 1 ≤ length (past_at m b s).callers
  waits some = omega (arith, some, depth-is (λ n. n) m (map (λ n. n) b) (passed s))

  -- ---- out of a frame

  pub return-plain : 1 ≤ length s.callers → IsPlain (acts_at m b s s.answers Return)
  return-plain some = plain_return (past_at m b s) (own (image (λ n. n) s)) (waits some)

  pub br-out-plain : (l : ℕ) → 1 ≤ length s.callers → IsPlain (acts_at m b s s.answers (Br l))
  br-out-plain l some = plain_br_out (past_at m b s) (own (image (λ n. n) s)) l (waits some)

  pub br_if-out-plain : (l n : ℕ) → 1 ≤ length s.callers → IsPlain (acts_at m b s (n ∷ []) (BrIf l))
  br_if-out-plain l n some = keeps_word IsPlain refl false (own (image (λ n. n) s)) _ (λ w rest. plain-tested w n [] _ _ tt (plain_br_out (past_at m b s) rest l (waits some)))

  -- a branch to a label that waits, or out of a frame where one waits
  pub br-plain : (l : ℕ) (vs : List (Value ℕ)) → (nat_lt l (length s.labels - s.frame.labels) || nat_lt 0 (length s.callers)) ≡ true → IsPlain (br (past_at m b s) vs l)
  br-plain l vs leads = by (nat_lt l (length s.labels - s.frame.labels)) refl
    where
      by : (r : Bool) → nat_lt l (length s.labels - s.frame.labels) ≡ r → IsPlain (br (past_at m b s) vs l)
      by true is =
          let inside : l < length s.labels - s.frame.labels = grind (arith, nat_tests, is) in
          plain_br (past_at m b s) vs l (omega (arith, inside, outer_count m (map (λ n. n) b) (passed s)))
      by false is =
          let out : nat_lt 0 (length s.callers) ≡ true = sym (ap (λ r. r || nat_lt 0 (length s.callers)) is) ∙ leads in
          let some : 0 < length s.callers = grind (arith, nat_tests, out) in
          plain_br_out (past_at m b s) vs l (waits (omega (arith, some)))

  -- ---- calls

  plain-code : (c : Config ℕ) (vs : List (Value ℕ)) (ns : List ℕ) (f : Func) → IsPlain (calling numbers m c vs ns (defined_as f) (Code f))
  plain-code c vs ns f =
      keeps_found IsPlain refl (type_of m (defined_as f)) _ (λ t. keeps_last IsPlain refl (length t.params) vs
      (λ args rest. Goes (record c { frame = frame_of numbers t f (reverse args); callers = (holding c rest).frame ∷ c.callers })) (λ args rest. tt))

  none-past : {X : Type 0} (xs : List X) (k : ℕ) → slice_get xs k ≡ None → length xs ≤ k
  none-past [] k e = omega arith
  none-past (x ∷ xs) zero e = absurd cc
  none-past (x ∷ xs) (suc k) e = omega (arith, none-past xs k e)

  -- a call of a function that is no host function, where k operands lie above its arguments and j answers were given before
  pub function-plain : {A : Type 0} (a : A) (x k j : ℕ) → AreLinked m → ((h : Host) → IsHostFunction m x h → ⊥) → IsPlain (call numbers m (past_at m b s) (drop k (own (image (λ n. n) s))) (drop j s.answers) x)
  function-plain a x k j linked none = by (slice_get m.funcs (x - length (imported_functions m))) refl
    where
      own_one : x ≡ length (imported_functions m) + (x - length (imported_functions m))
      own_one = decide (nat_lt x (length (imported_functions m))) refl
        where
          decide : (r : Bool) → nat_lt x (length (imported_functions m)) ≡ r → x ≡ length (imported_functions m) + (x - length (imported_functions m))
          decide true is = absurd (linked-host m x linked none (grind (arith, nat_tests, is)))
          decide false is = let above : length (imported_functions m) ≤ x = grind (arith, nat_tests, is) in omega (arith, above)

      by : (o : Option Func) → slice_get m.funcs (x - length (imported_functions m)) ≡ o → IsPlain (call numbers m (past_at m b s) (drop k (own (image (λ n. n) s))) (drop j s.answers) x)
      by (Some f) e =
          subst IsPlain
          (sym (ap (λ o. with_found o (λ f. calling numbers m (past_at m b s) (drop k (own (image (λ n. n) s))) (drop j s.answers) f f.body)) (ap (λ x. slice_get (functions m) x) own_one ∙ runs-code m (x - length (imported_functions m)) f e)))
          (plain-code (past_at m b s) (drop k (own (image (λ n. n) s))) (drop j s.answers) f)
      by None e =
          let past : length m.funcs ≤ x - length (imported_functions m) = none-past m.funcs (x - length (imported_functions m)) e in
          subst IsPlain (sym ((calls-none (λ _ w. w < 2 ^ 64) (λ _ n. n) numbers m a s x k j (omega (arith, past, own_one))).gives (map (λ n. n) b))) refl

  pub call-plain : {A : Type 0} (a : A) (x : ℕ) → AreLinked m → ((h : Host) → IsHostFunction m x h → ⊥) → IsPlain (acts_at m b s s.answers (Call x))
  call-plain a x linked none = function-plain a x 0 0 linked none
