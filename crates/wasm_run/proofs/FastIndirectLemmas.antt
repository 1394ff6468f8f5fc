-- `call_indirect` on the fast path: that it goes on, once its questions are answered by the number of its index.
use Rattle.std.proofs.Common.{◌≡◌, ℕ, zero, suc, ◌^◌, ◌<◌, List, [], ◌∷◌, map, drop, length, refl, sym, ap, ◌∙◌, subst, arith}
use Rattle.std.specs.Prelude.{true, false, nat_le, slice_get, Option, Some, None, option_map, option_and_then, unwrap_or, Bool}
use Rattle.std.proofs.lemmas.Bool.Decides.{nat_tests}
use Rattle.wasm_ast.specs.declared.instructions.Instr.TheVariants.{CallIndirect}
use Rattle.wasm_ast.specs.declared.types.FuncType.{FuncType}
use Rattle.wasm_ast.specs.declared.modules.Module.{Module}
use Rattle.wasm_ast.specs.declared.runs.Cause.TheVariants.{Undefined}
use Rattle.int_ops.specs.Integers.{truth}
use Rattle.int_ops.specs.Operators.{operator_of}
use Rattle.wasm_rules.specs.Words.{HasNumber, numbers}
use Rattle.wasm_image.specs.Hosts.{AreLinked}
use Rattle.wasm_reduction.specs.Configurations.{FuncRef, Test, Pick, Asks}
use Rattle.wasm_reduction.specs.Combinators.{with_found}
use Rattle.wasm_reduction.specs.Ranges.{with_element}
use Rattle.wasm_reduction.specs.Functions.{Function, functions, type_of, same_function_type}
use Rattle.wasm_reduction.specs.Control.{calling, calling_of_type, calling_reference}
use Rattle.wasm_reduction.specs.Runs.{is_not_zero}
use Rattle.wasm_reduction.proofs.ImageFunctions.{has-type}
use Rattle.wasm_machine.specs.declared.values.Reference.{Reference as CodeReference}
use Rattle.wasm_machine.specs.declared.values.Value.{Value as CodeValue}
use Rattle.wasm_machine.specs.declared.next.Next.{Next as CodeNext}
use Rattle.wasm_machine.specs.declared.next.Next.TheVariants.{Goes as CodeGoes}
use Rattle.wasm_machine.specs.declared.next.Question.TheVariants.{Test as CodeTest, Pick as CodePick}
use Rattle.wasm_machine.specs.declared.ranges.Reached.TheVariants.{Ask as AskFor, At}
use Rattle.wasm_machine.specs.Acts.{Ready, IsNext, Acts, ActsOn}
use Rattle.wasm_machine.specs.Configurations.{image}
use Rattle.wasm_machine.specs.States.{own, State}
use Rattle.wasm_machine.specs.code.Moves.{noted}
use Rattle.wasm_machine.specs.Stores.{TablesSmall, list_at}
use Rattle.wasm_machine.specs.Values.{reference, word_at}
use Rattle.wasm_machine.proofs.IndirectLaws.{Indirect, indirect-says}
use Rattle.wasm_machine.proofs.StepLaws.{acts-on, small-state}
use Rattle.wasm_run.specs.code.Places.{IsOwnEntry, IsAtInstruction, IsFastStep}
use Rattle.wasm_run.proofs.PlaceLemmas.{Asking}
use Rattle.wasm_run.proofs.TurnLemmas.{asking_more}
use Rattle.wasm_run.proofs.FastPathLemmas.{IsPlain, ready-from}
use Rattle.wasm_run.proofs.FastTestLemmas.{past_at, acts_at, step-acts, next-noted, place-noted, answers-noted, asking-first, goes-on, carried-on, fast-step-by}
use Rattle.wasm_run.proofs.FastCallLemmas.{function-plain}

-- ---- the index

past-value : (w size : ℕ) → numbers.binary 0x4F w (numbers.number size) ≡ truth (nat_le size w)
unfolding operator_of
past-value w size = refl

index-within : (w size : ℕ) → w < size → 0 ≡ is_not_zero (numbers.binary 0x4F w (numbers.number size))
index-within w size inside = let below : nat_le size w ≡ false = grind (arith, nat_tests, inside) in sym (ap is_not_zero (past-value w size ∙ ap truth below))

some-below : {X : Type 0} (xs : List X) (k : ℕ) (x : X) → slice_get xs k ≡ Some x → k < length xs
some-below [] zero x e = absurd cc
some-below [] (suc k) x e = absurd cc
some-below (y ∷ ys) zero x e = omega arith
some-below (y ∷ ys) (suc k) x e = omega (arith, some-below ys k x e)

some-listed : (o : Option (List CodeReference)) (k : ℕ) (r : CodeReference) → slice_get (unwrap_or o []) k ≡ Some r → Some (length (unwrap_or o [])) ≡ option_map length o
some-listed None zero r e = absurd cc
some-listed None (suc k) r e = absurd cc
some-listed (Some xs) k r e = refl

-- the function whose type this is
typed-one : (m : Module) (o : Option Function) (t : FuncType) → option_and_then (type_of m) o ≡ Some t → (g : Function) × (o ≡ Some g) × (type_of m g ≡ Some t)
typed-one m None t e = cc
typed-one m (Some g) t e = (g, refl, e)

module _ {A : Type 0} (m : Module) (b : List ℕ) (a : A) (ty table w : ℕ) (linked : AreLinked m) (z : State (CodeValue ℕ)) (found : Some w ≡ word_at false (own z) 0) (is : IsOwnEntry m z ty table w) where
  abbrev size : ℕ
  size = length (list_at z.tables table)

  entry-indirect : (ns : List ℕ) → ns ≡ z.answers → Indirect m z ty table is.type size w ns
  entry-indirect ns e = record { typed = is.typed; table = some-listed (slice_get z.tables table) w _ is.there; index_is = found; answers = e }

  -- the index is asked whether it is past the table, then for its number
  pub entry-tests : [] ≡ z.answers → acts_at m b z z.answers (CallIndirect ty table) ≡ Asks Test (numbers.binary 0x4F w (numbers.number size))
  entry-tests e =
      indirect-says (λ _ n. n) numbers m a z ty table is.type size w [] (λ n. n) (AskFor CodeTest (numbers.binary 0x4F w (numbers.number size))) (entry-indirect [] e)
      (λ elements go long. ap (λ k. Asks Test (numbers.binary 0x4F w (numbers.number k))) long) (map (λ n. n) b)

  pub entry-picks : 0 ∷ [] ≡ z.answers → acts_at m b z z.answers (CallIndirect ty table) ≡ Asks Pick w
  entry-picks e = indirect-says (λ _ n. n) numbers m a z ty table is.type size w (0 ∷ []) (λ n. n) (AskFor CodePick w) (entry-indirect (0 ∷ []) e) (λ elements go long. refl) (map (λ n. n) b)

  pub entry-within : 0 ≡ is_not_zero (numbers.binary 0x4F w (numbers.number size))
  entry-within = index-within w size (some-below (list_at z.tables table) w _ is.there)

  -- and then the function is called
  pub entry-plain : 0 ∷ w ∷ [] ≡ z.answers → IsPlain (acts_at m b z z.answers (CallIndirect ty table))
  entry-plain e =
      let f = is.own_one.f in
      let one = is.own_one.own_one in
      let p = typed-one m (slice_get (functions m) f) one.has (has-type m f ∙ one.has_type) in
      let picked : calling_reference numbers m (past_at m b z) (drop 1 (own (image (λ n. n) z))) (drop 2 z.answers) is.type (FuncRef (Some f)) ≡ calling_of_type numbers m (past_at m b z) (drop 1 (own (image (λ n. n) z))) (drop 2 z.answers) p.0 true =
      ap (λ o. with_found o (λ g. with_found (type_of m g) (λ t. calling_of_type numbers m (past_at m b z) (drop 1 (own (image (λ n. n) z))) (drop 2 z.answers) g (same_function_type t is.type)))) p.1
      ∙ ap (λ o. with_found o (λ t. calling_of_type numbers m (past_at m b z) (drop 1 (own (image (λ n. n) z))) (drop 2 z.answers) p.0 (same_function_type t is.type))) p.2
      ∙ ap (λ r. calling_of_type numbers m (past_at m b z) (drop 1 (own (image (λ n. n) z))) (drop 2 z.answers) p.0 r) one.same in
      let calls : IsPlain (calling numbers m (past_at m b z) (drop 1 (own (image (λ n. n) z))) (drop 2 z.answers) p.0 (p.0).body) =
      subst (λ o. IsPlain (with_found o (λ f. calling numbers m (past_at m b z) (drop 1 (own (image (λ n. n) z))) (drop 2 z.answers) f f.body))) p.1 (function-plain m b z a f 1 2 linked one.no_host) in
      subst IsPlain
      (sym (indirect-says (λ _ n. n) numbers m a z ty table is.type size w (0 ∷ w ∷ []) (λ n. n) (At w) (entry-indirect (0 ∷ w ∷ []) e) (λ elements go long. refl) (map (λ n. n) b)
      ∙ ap (λ o. with_element Undefined (option_map reference o) (λ r. calling_reference numbers m (past_at m b z) (drop 1 (own (image (λ n. n) z))) (drop 2 z.answers) is.type r)) (is.there ∙ ap Some is.own_one.is)
      ∙ picked))
      calls

entry-noted : (m : Module) (ty table w n : ℕ) (s u : State (CodeValue ℕ)) → u ≡ noted n s → IsOwnEntry m s ty table w → IsOwnEntry m u ty table w
entry-noted m ty table w n s u e is =
    subst (λ u. IsOwnEntry m u ty table w) (sym e)
    (record { type = is.type; r = is.r; typed = is.typed; there = is.there; own_one = is.own_one })

found-noted : (w n : ℕ) (s u : State (CodeValue ℕ)) → u ≡ noted n s → Some w ≡ word_at false (own s) 0 → Some w ≡ word_at false (own u) 0
found-noted w n s u e found = subst (λ u. Some w ≡ word_at false (own u) 0) (sym e) found

-- ---- both questions

module _ {A : Type 0} {m : Module} {steps : ℕ} {a : A} {s : State (CodeValue ℕ)} {b : List ℕ} {ty table : ℕ} (at : IsAtInstruction m steps a s b (CallIndirect ty table)) (linked : AreLinked m) {u v : State (CodeValue ℕ)} {w : ℕ} (u_is : u ≡ noted 0 s) (v_is : v ≡ noted w u)
    (found : Some w ≡ word_at false (own s) 0) (is : IsOwnEntry m s ty table w) where
  entry0 : Asking m steps s b a s b
  entry0 = asking-first m steps s b a at.run.order at.run.fit

  entry1 : Asking m steps s b a u b
  entry1 =
      asking_more m steps s b a a s s u b b Test (numbers.binary 0x4F w (numbers.number (length (list_at s.tables table)))) 0 entry0
      (step-acts m (CallIndirect ty table) s b at.next ∙ entry-tests m b a ty table w linked s found is (sym at.first)) refl refl (entry-within m b a ty table w linked s found is) u_is at.run.order.sane at.run.order.cells

  once-next : IsNext m u (CallIndirect ty table)
  once-next = next-noted m (CallIndirect ty table) s u 0 u_is at.next

  once-answers : u.answers ≡ 0 ∷ []
  once-answers = answers-noted s u 0 [] u_is at.first

  once-found : Some w ≡ word_at false (own u) 0
  once-found = found-noted w 0 s u u_is found

  once-entry : IsOwnEntry m u ty table w
  once-entry = entry-noted m ty table w 0 s u u_is is

  entry2 : Asking m steps s b a v b
  entry2 =
      asking_more m steps s b a a u u v b b Pick w w entry1
      (step-acts m (CallIndirect ty table) u b once-next ∙ entry-picks m b a ty table w linked u once-found once-entry (sym once-answers)) refl refl refl v_is entry1.order.sane entry1.order.cells

  twice-next : IsNext m v (CallIndirect ty table)
  twice-next = next-noted m (CallIndirect ty table) u v w v_is once-next

  twice-answers : v.answers ≡ 0 ∷ w ∷ []
  twice-answers = answers-noted u v w (0 ∷ []) v_is once-answers

  pub entry-ready : Ready (λ _ w. w < 2 ^ 64) HasNumber (λ _ n. n) a v
  entry-ready = ready-from m steps a v b entry2.order entry2.fit at.run.few (place-noted u v w v_is (place-noted s u 0 u_is at.place))

  pub entry-small : TablesSmall v
  entry-small = small-state HasNumber (λ n. n) m (map (λ n. n) b) v entry2.fit.widths

  module _ {a' : A} {t : State (CodeValue ℕ)} {x : CodeNext ℕ} (acts : Acts (λ _ w. w < 2 ^ 64) (λ _ n. n) numbers m (CallIndirect ty table) a v a' t x) where
    entry-on : ActsOn (λ _ w. w < 2 ^ 64) (λ _ n. n) numbers m (CallIndirect ty table) a v b a' t b x
    entry-on = acts-on (λ _ w. w < 2 ^ 64) (λ _ n. n) numbers m (CallIndirect ty table) (CallIndirect ty table) a a' (λ w held. (held, refl)) v t b x entry2.order.cells refl acts

    pub entry-goes : x ≡ CodeGoes
    entry-goes =
        goes-on m steps s b a v b entry2 (CallIndirect ty table) twice-next a' t b x entry-on at.run.sound
        (entry-plain m b a ty table w linked v (found-noted w w u v v_is once-found) (entry-noted m ty table w w u v v_is once-entry) (sym twice-answers))

    pub entry-carried : {r : Bool} → r ≡ true → IsFastStep r m steps s b a' t b
    entry-carried is = fast-step-by s b is (carried-on m steps s b a v b entry2 (CallIndirect ty table) twice-next a' t b x entry-on entry-goes)
