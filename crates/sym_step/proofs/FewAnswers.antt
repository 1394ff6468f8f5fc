-- A run over terms that stands at a question has had few answers.
use Rattle.std.proofs.Common.{◌≡◌, ℕ, zero, suc, ◌*◌, ◌^◌, ◌≤◌, List, [], ◌∷◌, ◌++◌, length, map, refl, ap, ◌∙◌, subst, arith}
use Rattle.std.specs.Prelude.{All, Option, Some, None, option_map, slice_get, filter_map, Result, Ok, Err}
use Rattle.std.specs.List.{cons_option}
use Rattle.wasm_ast.specs.Shape.{InstrHasShape, SeqHasShape, FuncHasShape, HasShape}
use Rattle.wasm_ast.specs.declared.instructions.Instr.{Instr}
use Rattle.wasm_ast.specs.declared.instructions.Instr.TheVariants.{BrTable, Call}
use Rattle.wasm_ast.specs.declared.modules.Import.{Import}
use Rattle.wasm_ast.specs.declared.modules.Func.{Func}
use Rattle.wasm_ast.specs.declared.modules.Module.{Module}
use Rattle.bv_terms.specs.Terms.{Term}
use Rattle.bv_terms.specs.Making.{terms}
use Rattle.sym_state.specs.Nodes.{CanExplore, Node}
use Rattle.sym_state.specs.States.{over_terms, IsAtQuestion}
use Rattle.wasm_check.specs.Contexts.{func_import}
use Rattle.wasm_reduction.specs.Configurations.{Value, Store, End, Question}
use Rattle.wasm_reduction.specs.Functions.{host_of, Code, Imported, Function, functions, imported_as, defined_as}
use Rattle.wasm_reduction.specs.Instantiation.{start_call, invoked, instantiated}
use Rattle.wasm_reduction.specs.Runs.{Trace, Halt, Stands, Over, then_follow, follows, started_by, by_list}
use Rattle.wasm_reduction.specs.RunImages.{trace_of}
use Rattle.wasm_reduction.proofs.Moves.{most_questions}
use Rattle.wasm_reduction.proofs.Counting.{most, AreShort, AllShort, ModuleShort, Few, runs-few}

abbrev Each : {X : Type 0} → (X → Type 0) → List X → Type 0
Each P [] = Unit {0}
Each P (x ∷ xs) = P x × Each P xs

each-of : {X : Type 0} (P : X → Type 0) (xs : List X) → All P xs → Each P xs
each-of P [] h = tt
each-of P (x ∷ xs) h = (h 0 x (omega arith), each-of P xs (λ k d l. h (suc k) d (omega arith)))

each-append : {X : Type 0} (P : X → Type 0) (xs ys : List X) → Each P xs → Each P ys → Each P (xs ++ ys)
each-append P [] ys h k = k
each-append P (x ∷ xs) ys h k = (h.0, each-append P xs ys h.1 k)

each-get : {X : Type 0} (P : X → Type 0) (xs : List X) (n : ℕ) (x : X) → Each P xs → slice_get xs n ≡ Some x → P x
each-get P [] n x h e = absurd cc
each-get P (y ∷ ys) zero x h e = let same : y ≡ x = cc in subst P same h.0
each-get P (y ∷ ys) (suc n) x h e = each-get P ys n x h.1 e

instr-short : (i : Instr) → InstrHasShape i → most_questions i ≤ most
instr-short (BrTable labels last) h = omega (arith, h)
instr-short _ h = omega arith

are-short : (is : List Instr) → Each InstrHasShape is → AreShort is
are-short [] h = tt
are-short (i ∷ is) h = (instr-short i h.0, are-short is h.1)

all-short : (seqs : List (List Instr)) → Each SeqHasShape seqs → AllShort seqs
all-short [] h = tt
all-short (is ∷ rest) h = (are-short is (each-of InstrHasShape is h.0.each), all-short rest h.1)

abbrev BodyShort : Function → Type 0
BodyShort f = (code : Func) → f.body ≡ Code code → AllShort code.body.seqs

cons-short : (o : Option Function) (fs : List Function) → ((f : Function) → o ≡ Some f → BodyShort f) → Each BodyShort fs → Each BodyShort (cons_option o fs)
cons-short None fs h k = k
cons-short (Some f) fs h k = (h f refl, k)

imported-short : (i : Import) (ty : Option ℕ) (f : Function) → option_map (imported_as i) ty ≡ Some f → BodyShort f
imported-short i (Some ty) f e code is = absurd (let same : Imported (host_of i) ≡ f.body = let g : imported_as i ty ≡ f = cc in ap (λ f. f.body) g in let both : Imported (host_of i) ≡ Code code = same ∙ is in cc)
imported-short i None f e code is = absurd cc

imports-short : (is : List Import) → Each BodyShort (filter_map (λ i. option_map (imported_as i) (func_import i.kind)) is)
imports-short [] = tt
imports-short (i ∷ is) = cons-short (option_map (imported_as i) (func_import i.kind)) _ (imported-short i (func_import i.kind)) (imports-short is)

own-short : (fs : List Func) → Each FuncHasShape fs → Each BodyShort (map defined_as fs)
own-short [] h = tt
own-short (f ∷ fs) h = (λ code is. let same : f ≡ code = cc in subst (λ f. AllShort f.body.seqs) same (all-short f.body.seqs (each-of SeqHasShape f.body.seqs h.0.body.each)), own-short fs h.1)

module-short : (m : Module) → HasShape m → ModuleShort m
module-short m h x f code found is =
    each-get BodyShort (functions m) x f
    (each-append BodyShort (filter_map (λ i. option_map (imported_as i) (func_import i.kind)) m.imports) (map defined_as m.funcs)
    (imports-short m.imports) (own-short m.funcs (each-of FuncHasShape m.funcs h.funcs)))
    found code is

-- ---- the start of a run

first-few : {W : Type 0} (m : Module) (steps entry : ℕ) (s : Store W) (vals : List (Value W)) (start : Option ℕ) →
    Few m steps (record {
      store = s;
      frame = record { arity = 0; locals = []; seqs = []; here = record { arity = 0; again = []; vals = vals; code = start_call start ++ Call entry ∷ [] }; outer = [] };
      callers = [];
      answers = [];
      units = 0;
    }) 0
first-few m steps entry s vals None = record {
  ready = record { outer = refl; calls = ((entry, refl), tt) };
  short = record { frame = record { seqs = tt; here = record { again = tt; code = (omega arith, tt) }; outer = tt }; callers = tt };
  asked = omega arith;
  room = λ one some. absurd (omega arith);
  units = omega arith;
  few = omega arith;
  fewer = λ some. absurd (omega arith);
}
first-few m steps entry s vals (Some x) = record {
  ready = record { outer = refl; calls = ((x, refl), ((entry, refl), tt)) };
  short = record { frame = record { seqs = tt; here = record { again = tt; code = (omega arith, (omega arith, tt)) }; outer = tt }; callers = tt };
  asked = omega arith;
  room = λ one some. absurd (omega arith);
  units = omega arith;
  few = omega arith;
  fewer = λ some. absurd (omega arith);
}

module _ (n : Node) (can : CanExplore n.invocation) where
  over-few : (turns : ℕ) (halt : Halt Term) (trace : Trace) → over_terms n turns ≡ Over halt trace → length trace.answers ≤ 2 ^ 32 * n.invocation.steps
  over-few turns halt trace e = at (instantiated n.invocation.«module») e
    where
      m : Module
      m = n.invocation.«module»

      at : (x : Result (Store ℕ) (End ℕ)) → then_follow (started_by (invoked terms n.invocation.«module» n.invocation.entry n.invocation.args x)) (follows terms terms.symbol (by_list n.answers) n.invocation.«module» n.invocation.steps turns) ≡ Over halt trace
          → length trace.answers ≤ 2 ^ 32 * n.invocation.steps
      at (Err x) f = let none : [] ≡ trace.answers = ap (λ x. (trace_of x).answers) f in omega (arith, ap (λ l. length l) none)
      at (Ok s) f =
          let few : length trace.answers ≤ 4294967296 * n.invocation.steps =
          runs-few terms n.invocation.«module» (module-short n.invocation.«module» can.can.shape) n.invocation.steps terms.symbol (by_list n.answers) turns _ halt trace can.some
          (first-few n.invocation.«module» n.invocation.steps n.invocation.entry _ _ n.invocation.«module».start) f in
          omega (arith, few)

  -- at a question of the run, all answers so far are few
  pub few-at-question : (turns : ℕ) (q : Question) (t : Term) → IsAtQuestion n turns q t → (trace_of (over_terms n turns)).answers ≡ n.answers → length n.answers ≤ 2 ^ 32 * n.invocation.steps
  few-at-question turns q t at all =
      let few : length (trace_of (over_terms n turns)).answers ≤ 2 ^ 32 * n.invocation.steps = over-few (suc turns) (Stands q t) (trace_of (over_terms n turns)) at in
      omega (arith, few, ap (λ l. length l) all)
