-- What the machine's answers on the formula of conditions say of inputs.
use Rattle.std.proofs.Common.{◌≡◌, ℕ, zero, suc, ◌+◌, ◌-◌, ◌<◌, ◌≤◌, Bool, List, [], ◌∷◌, ◌++◌, length, map, take, refl, sym, ap, ◌∙◌, subst, arith, All, ◌⊎◌, inl, inr, Option, Some, None, Result, Err, IsOkUnless, length-append, get_or, ap₂, append_assoc}
use Rattle.bv_terms.specs.Terms.{Term, value_of}
use Rattle.refute_check.specs.Clauses.{IsUnsatisfiable}
use Rattle.refute_check.specs.Machine.{Trail, assigned}
use Rattle.refute_check.specs.Orders.{Names}
use Rattle.refute_check.specs.declared.formulas.Cnf.{Cnf}
use Rattle.refute_check.specs.Logs.{IsAccepted}
use Rattle.refute_check.specs.declared.logs.Chain.{Chain}
use Rattle.refute_check.specs.declared.refutation.Refutation.{Refutation}
use Rattle.refute_check.specs.declared.checker.AcceptBad.{AcceptBad}
use Rattle.refute_check.specs.declared.checker.AcceptBad.TheVariants.{Bad, NoMemory}
use Rattle.refute_check.proofs.Soundness.{accepted_refutes}
use Rattle.clause_solver.specs.Answers.{IsFormula, values_of, assignment_of, IsAnswer, IsCorrectAnswer}
use Rattle.clause_solver.specs.declared.answer.Answer.{Answer}
use Rattle.clause_solver.specs.declared.answer.Answer.TheVariants.{Model, Refuted}
use Rattle.bit_blast.specs.Formulas.{Condition, symbols_end, variables_from, built, formula}
use Rattle.bit_blast.specs.Meanings.{input_of, AreProper, CanBeLeast, Computes}
use Rattle.bit_blast.specs.Inputs.{IsBefore}
use Rattle.bit_blast.proofs.CountLemmas.{number_down}
use Rattle.bit_blast.proofs.LawLemmas.{meets-computes, computes-meets}
use Rattle.bit_blast.proofs.InputLemmas.{computed, input_computed, computes, input_fits}
use Rattle.bit_blast.proofs.OrderLemmas.{in_order}
use Rattle.bit_blast.proofs.TermRanges.{all_ranged, end_later}
use Rattle.bit_blast.proofs.DecisionLemmas.{formula_names, formula_only, formula_length, formula_literals}
use Rattle.bit_blast.proofs.LeastLemmas.{least_variables, least_value_is, least_count, decided}
use Rattle.path_ask.specs.Reading.{spelled_down}
use Rattle.path_ask.specs.Verdicts.{Meets, SomeMeets, IsLeastInput, IsLeastValue, IsPick}
use Rattle.path_ask.specs.declared.verdicts.Pick.TheVariants.{Least as LeastPick}
use Rattle.path_ask.proofs.ReadingLemmas.{spelled_is}
use Rattle.clause_solver.proofs.Models.{length-values}

-- what comes after the variables that are decided first
abbrev later_order : List Condition → List Bool → Option Term → List ℕ
later_order conditions draws first =
    variables_from 2 ((built conditions draws first).circuit.first - 2)
    ++ (1 ∷ variables_from (built conditions draws first).circuit.first (length (built conditions draws first).circuit.gates - length (built conditions draws first).result.least))

order_split : (conditions : List Condition) (draws : List Bool) (first : Option Term) → (formula conditions draws first).order ≡ least_variables conditions draws first ++ later_order conditions draws first
order_split conditions draws first =
    append_assoc (least_variables conditions draws first) (variables_from 2 ((built conditions draws first).circuit.first - 2))
    (1 ∷ variables_from (built conditions draws first).circuit.first (length (built conditions draws first).circuit.gates - length (built conditions draws first).result.least))

get-names : (xs : List ℕ) (k d : ℕ) → k < length xs → Names xs (get_or xs k d)
get-names [] k d h = absurd (omega arith)
get-names (x ∷ xs) zero d h = inl refl
get-names (x ∷ xs) (suc k) d h = inr (get-names xs k d (omega arith))

taken-names : (n : ℕ) (xs : List ℕ) (v : ℕ) → Names (take n xs) v → Names xs v
taken-names zero xs v h = absurd h
taken-names (suc n) [] v h = absurd h
taken-names (suc n) (x ∷ xs) v (inl e) = inl e
taken-names (suc n) (x ∷ xs) v (inr h) = inr (taken-names n xs v h)

take_front : (xs ys : List ℕ) → take (length xs) (xs ++ ys) ≡ xs
take_front [] ys = refl
take_front (x ∷ xs) ys = ap (λ (zs : List ℕ). x ∷ zs) (take_front xs ys)

module _ (conditions : List Condition) (draws : List Bool) (first : Option Term) (proper : AreProper draws conditions) (least : CanBeLeast draws first) where
  -- the formula is one that the solver takes
  pub formula_ok : IsFormula (formula conditions draws first)
  formula_ok = record {
    names = formula_names conditions draws first proper least;
    only = formula_only conditions draws first proper least;
    once = formula_length conditions draws first proper least;
    literals = formula_literals conditions draws first proper least;
  }

  -- a model has the values of the symbols' bits
  pub has_room : (bound : ℕ) (values : List Bool) → IsAnswer (formula conditions draws first) bound (Model values) → symbols_end 2 draws ≤ length values + 1
  has_room bound values a =
      let r = all_ranged conditions draws first (in_order draws conditions first proper least) in
      let starts = r.starts in
      let end = end_later 2 draws in
      let long : length values ≡ (formula conditions draws first).vars = ap (λ (vs : List Bool). length vs) a.2 ∙ length-values a.0 (formula conditions draws first).vars in
      omega arith

  -- a model's input meets the conditions
  pub model_meets : (values : List Bool) → IsCorrectAnswer (formula conditions draws first) (Model values) → Computes conditions draws first (assignment_of values)
  model_meets values r = meets-computes (assignment_of values) conditions draws first proper least r.0

  pub input_meets : (values : List Bool) → IsCorrectAnswer (formula conditions draws first) (Model values) → Meets conditions draws (input_of (assignment_of values) draws)
  input_meets values r = (input_fits (assignment_of values) 2 draws, (model_meets values r).answered)

  -- where no assignment meets the formula, no input meets the conditions
  pub none_meets : IsUnsatisfiable (formula conditions draws first).clauses → SomeMeets conditions draws → ⊥
  none_meets u some =
      u (computed conditions draws first some.0)
      (computes-meets (computed conditions draws first some.0) conditions draws first proper least (computes conditions draws first proper least some.0 some.1.0 some.1.1))

  -- of another input that meets the conditions: the bits decided first are higher, or the same, and then it is the same or after
  pub others : (values : List Bool) → IsCorrectAnswer (formula conditions draws first) (Model values) → (other : List ℕ) → Meets conditions draws other
      → (number_down (map (assignment_of values) (least_variables conditions draws first)) < number_down (map (computed conditions draws first other) (least_variables conditions draws first)))
      ⊎ ((map (assignment_of values) (least_variables conditions draws first) ≡ map (computed conditions draws first other) (least_variables conditions draws first))
      × ((other ≡ input_of (assignment_of values) draws) ⊎ IsBefore (input_of (assignment_of values) draws) other))
  others values r other meets =
      go (decided conditions draws first proper least (assignment_of values) (computed conditions draws first other)
      (r.1 (computed conditions draws first other) (computes-meets (computed conditions draws first other) conditions draws first proper least (computes conditions draws first proper least other meets.0 meets.1))))
    where
      is : input_of (computed conditions draws first other) draws ≡ other
      is = input_computed conditions draws first proper least other meets.0

      turn : IsBefore (input_of (assignment_of values) draws) (input_of (computed conditions draws first other) draws) ⊎ (input_of (assignment_of values) draws ≡ input_of (computed conditions draws first other) draws)
          → (other ≡ input_of (assignment_of values) draws) ⊎ IsBefore (input_of (assignment_of values) draws) other
      turn (inl before) = inr (subst (λ (ns : List ℕ). IsBefore (input_of (assignment_of values) draws) ns) is before)
      turn (inr e) = inl (sym is ∙ sym e)

      go : (number_down (map (assignment_of values) (least_variables conditions draws first)) < number_down (map (computed conditions draws first other) (least_variables conditions draws first)))
          ⊎ ((map (assignment_of values) (least_variables conditions draws first) ≡ map (computed conditions draws first other) (least_variables conditions draws first))
          × (IsBefore (input_of (assignment_of values) draws) (input_of (computed conditions draws first other) draws) ⊎ (input_of (assignment_of values) draws ≡ input_of (computed conditions draws first other) draws)))
          → (number_down (map (assignment_of values) (least_variables conditions draws first)) < number_down (map (computed conditions draws first other) (least_variables conditions draws first)))
          ⊎ ((map (assignment_of values) (least_variables conditions draws first) ≡ map (computed conditions draws first other) (least_variables conditions draws first))
          × ((other ≡ input_of (assignment_of values) draws) ⊎ IsBefore (input_of (assignment_of values) draws) other))
      go (inl less) = inl less
      go (inr h) = inr (h.0, turn h.1)

-- ---- the least input

pub least_input : (conditions : List Condition) (draws : List Bool) (proper : AreProper draws conditions) (values : List Bool) → IsCorrectAnswer (formula conditions draws None) (Model values)
    → (input : List ℕ) → input ≡ input_of (assignment_of values) draws → IsLeastInput conditions draws input
least_input conditions draws proper values r input e =
    subst (λ (ns : List ℕ). IsLeastInput conditions draws ns) (sym e) (record {
      meets = input_meets conditions draws None proper tt values r;
      least = λ other meets. go other (others conditions draws None proper tt values r other meets);
    })
  where
    go : (other : List ℕ) → (0 < 0) ⊎ ((◌≡◌ {A = List Bool} [] []) × ((other ≡ input_of (assignment_of values) draws) ⊎ IsBefore (input_of (assignment_of values) draws) other))
        → (other ≡ input_of (assignment_of values) draws) ⊎ IsBefore (input_of (assignment_of values) draws) other
    go other (inl less) = absurd (omega arith)
    go other (inr h) = h.1

-- ---- the least value

module _ (conditions : List Condition) (draws : List Bool) (t : Term) (proper : AreProper draws conditions) (least : CanBeLeast draws (Some t)) (values : List Bool)
    (r : IsCorrectAnswer (formula conditions draws (Some t)) (Model values)) where
  pub value_is : number_down (map (assignment_of values) (least_variables conditions draws (Some t))) ≡ value_of (input_of (assignment_of values) draws) t
  value_is = least_value_is conditions draws t proper least (assignment_of values) (model_meets conditions draws (Some t) proper least values r)

  other_value : (other : List ℕ) → Meets conditions draws other → number_down (map (computed conditions draws (Some t) other) (least_variables conditions draws (Some t))) ≡ value_of other t
  other_value other meets =
      least_value_is conditions draws t proper least (computed conditions draws (Some t) other) (computes conditions draws (Some t) proper least other meets.0 meets.1)
      ∙ ap (λ (ns : List ℕ). value_of ns t) (input_computed conditions draws (Some t) proper least other meets.0)

  pub least_value : (value : ℕ) (input : List ℕ) → value ≡ value_of input t → input ≡ input_of (assignment_of values) draws → IsLeastValue conditions draws t value input
  least_value value input e f =
      subst (λ (ns : List ℕ). IsLeastValue conditions draws t value ns) (sym f) (record {
        meets = input_meets conditions draws (Some t) proper least values r;
        gives = own;
        least_value = λ other meets. lower other meets (others conditions draws (Some t) proper least values r other meets);
        least_input = λ other meets same. before other meets same (others conditions draws (Some t) proper least values r other meets);
      })
    where
      own : value_of (input_of (assignment_of values) draws) t ≡ value
      own = ap (λ (ns : List ℕ). value_of ns t) (sym f) ∙ sym e

      After : List ℕ → Type 0
      After other =
          (number_down (map (assignment_of values) (least_variables conditions draws (Some t))) < number_down (map (computed conditions draws (Some t) other) (least_variables conditions draws (Some t))))
          ⊎ ((map (assignment_of values) (least_variables conditions draws (Some t)) ≡ map (computed conditions draws (Some t) other) (least_variables conditions draws (Some t)))
          × ((other ≡ input_of (assignment_of values) draws) ⊎ IsBefore (input_of (assignment_of values) draws) other))

      lower : (other : List ℕ) → Meets conditions draws other → After other → value ≤ value_of other t
      lower other meets (inl less) = let a = value_is in let b = other_value other meets in let c = own in omega arith
      lower other meets (inr h) = let a = value_is in let b = other_value other meets in let c = own in let d = ap number_down h.0 in omega arith

      before : (other : List ℕ) → Meets conditions draws other → value_of other t ≡ value → After other → (other ≡ input_of (assignment_of values) draws) ⊎ IsBefore (input_of (assignment_of values) draws) other
      before other meets same (inl less) = let a = value_is in let b = other_value other meets in let c = own in absurd (omega arith)
      before other meets same (inr h) = h.1

-- ---- as the code meets them

module _ (conditions : List Condition) (draws : List Bool) (first : Option Term) (proper : AreProper draws conditions) (least : CanBeLeast draws first) (cnf : Cnf)
    (is : cnf ≡ formula conditions draws first) where
  pub takes : IsFormula cnf
  takes = subst (λ (c : Cnf). IsFormula c) (sym is) (formula_ok conditions draws first proper least)

  pub room : (bound : ℕ) (answer : Answer) (values slice : List Bool) → IsAnswer cnf bound answer → answer ≡ Model values → slice ≡ values → symbols_end 2 draws ≤ length slice + 1
  room bound answer values slice a e f =
      subst (λ (vs : List Bool). symbols_end 2 draws ≤ length vs + 1) (sym f)
      (has_room conditions draws first proper least bound values (subst (λ (x : Answer). IsAnswer (formula conditions draws first) bound x) e (subst (λ (c : Cnf). IsAnswer c bound answer) is a)))

  pub right : (answer : Answer) (values : List Bool) → IsCorrectAnswer cnf answer → answer ≡ Model values → IsCorrectAnswer (formula conditions draws first) (Model values)
  right answer values r e = subst (λ (x : Answer). IsCorrectAnswer (formula conditions draws first) x) e (subst (λ (c : Cnf). IsCorrectAnswer c answer) is r)

  pub none_do : IsUnsatisfiable cnf.clauses → SomeMeets conditions draws → ⊥
  none_do u some = none_meets conditions draws first proper least (subst (λ (c : Cnf). IsUnsatisfiable c.clauses) is u) some

  pub not_refuted : (answer : Answer) (log : List Chain) → IsCorrectAnswer cnf answer → answer ≡ Refuted log → SomeMeets conditions draws → ⊥
  not_refuted answer log r e some = none_do (accepted_refutes cnf.clauses log (subst (λ (x : Answer). IsCorrectAnswer cnf x) e r)) some

  -- a log that the machine gave is not refused
  pub not_bad : (answer : Answer) (log : List Chain) (result : Result Refutation AcceptBad) (bad : AcceptBad) (number : ℕ) → IsCorrectAnswer cnf answer → answer ≡ Refuted log
      → (IsAccepted cnf.clauses log → IsOkUnless result NoMemory) → result ≡ Err bad → bad ≡ Bad number → ⊥
  not_bad answer log result bad number r e accepts refused kind =
      apart number (sym kind ∙ subst (λ (x : Result Refutation AcceptBad). IsOkUnless x NoMemory) refused (accepts (subst (λ (x : Answer). IsCorrectAnswer cnf x) e r)))
    where
      apart : (number : ℕ) → Bad number ≡ NoMemory → ⊥
      apart number e = cc

  -- the variables that are decided first are of the model
  pub decided_within : (bound count : ℕ) (answer : Answer) (values slice : List Bool) (order : List ℕ) → IsAnswer cnf bound answer → answer ≡ Model values → slice ≡ values → order ≡ cnf.order
      → All (λ v. (1 ≤ v) × (v ≤ length slice)) (take count order)
  decided_within bound count answer values slice order a e f g k d h =
      let named : Names (formula conditions draws first).order (get_or (take count order) k d) =
      subst (λ (ns : List ℕ). Names ns (get_or (take count order) k d)) (g ∙ ap (λ (c : Cnf). c.order) is) (taken-names count order (get_or (take count order) k d) (get-names (take count order) k d h)) in
      let r = formula_only conditions draws first proper least (get_or (take count order) k d) named in
      let m = subst (λ (x : Answer). IsAnswer (formula conditions draws first) bound x) e (subst (λ (c : Cnf). IsAnswer c bound answer) is a) in
      let long : length slice ≡ (formula conditions draws first).vars = ap (λ (vs : List Bool). length vs) (f ∙ m.2) ∙ length-values m.0 (formula conditions draws first).vars in
      let low = r.0 in
      let high = r.1 in
      (omega arith, omega arith)

-- so many variables are decided first as the term has bits
pub enough_decided : (conditions : List Condition) (draws : List Bool) (t : Term) (proper : AreProper draws conditions) (least : CanBeLeast draws (Some t)) (cnf : Cnf)
    → cnf ≡ formula conditions draws (Some t) → (order : List ℕ) → order ≡ cnf.order → 32 ≤ length order
enough_decided conditions draws t proper least cnf is order g =
    let whole : length order ≡ length (least_variables conditions draws (Some t) ++ later_order conditions draws (Some t)) = ap (λ (ns : List ℕ). length ns) (g ∙ ap (λ (c : Cnf). c.order) is ∙ order_split conditions draws (Some t)) in
    let parts = length-append (least_variables conditions draws (Some t)) (later_order conditions draws (Some t)) in
    let count = least_count conditions draws t proper least in
    omega arith

pub least_is : (conditions : List Condition) (draws : List Bool) (proper : AreProper draws conditions) (cnf : Cnf) → cnf ≡ formula conditions draws None
    → (answer : Answer) (values slice : List Bool) (input : List ℕ) → IsCorrectAnswer cnf answer → answer ≡ Model values → slice ≡ values → input ≡ input_of (assignment_of slice) draws
    → IsLeastInput conditions draws input
least_is conditions draws proper cnf is answer values slice input r e f g =
    least_input conditions draws proper values (right conditions draws None proper tt cnf is answer values r e) input (g ∙ ap (λ (vs : List Bool). input_of (assignment_of vs) draws) f)

module _ (conditions : List Condition) (draws : List Bool) (t : Term) (proper : AreProper draws conditions) (least : CanBeLeast draws (Some t)) (cnf : Cnf)
    (is : cnf ≡ formula conditions draws (Some t)) (answer : Answer) (values slice slice' : List Bool) (order : List ℕ) (value : ℕ) (input : List ℕ)
    (r : IsCorrectAnswer cnf answer) (e : answer ≡ Model values) (f : slice ≡ values) (f' : slice' ≡ values) (g : order ≡ cnf.order)
    (read : value ≡ spelled_down (map (assignment_of slice) (take 32 order))) (spelled : input ≡ input_of (assignment_of slice') draws) where
  input_is : input ≡ input_of (assignment_of values) draws
  input_is = spelled ∙ ap (λ (vs : List Bool). input_of (assignment_of vs) draws) f'

  first_are : take 32 order ≡ least_variables conditions draws (Some t)
  first_are =
      ap (take 32) (g ∙ ap (λ (c : Cnf). c.order) is ∙ order_split conditions draws (Some t))
      ∙ ap (λ (n : ℕ). take n (least_variables conditions draws (Some t) ++ later_order conditions draws (Some t))) (sym (least_count conditions draws t proper least))
      ∙ take_front (least_variables conditions draws (Some t)) (later_order conditions draws (Some t))

  pub value_given : value ≡ value_of input t
  value_given =
      read ∙ ap₂ (λ (vs : List Bool) (ns : List ℕ). spelled_down (map (assignment_of vs) ns)) f first_are
      ∙ spelled_is (map (assignment_of values) (least_variables conditions draws (Some t)))
      ∙ value_is conditions draws t proper least values (right conditions draws (Some t) proper least cnf is answer values r e)
      ∙ ap (λ (ns : List ℕ). value_of ns t) (sym input_is)

  pub least_value_given : IsLeastValue conditions draws t value input
  least_value_given = least_value conditions draws t proper least values (right conditions draws (Some t) proper least cnf is answer values r e) value input value_given input_is

  pub pick_is : (bound : ℕ) → IsAnswer cnf bound answer → IsPick conditions draws t bound (LeastPick value input)
  pick_is bound a =
      (values, subst (λ (x : Answer). IsAnswer (formula conditions draws (Some t)) bound x) e (subst (λ (c : Cnf). IsAnswer c bound answer) is a), input_is, value_given)
