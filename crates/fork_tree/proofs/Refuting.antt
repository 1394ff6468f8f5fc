-- The sides that a tree leaves out are refuted.
use Rattle.std.proofs.Common.{◌≡◌, ◌≢◌, inl, inr, ℕ, zero, suc, ◌^◌, ◌<◌, List, [], ◌∷◌, ◌++◌, length, All, append-nil, refl, sym, ap, ◌∙◌, subst, arith}
use Rattle.std.specs.Prelude.{Bool, true, false, not, ◌==◌, nat_lt, if◌then◌else◌}
use Rattle.std.proofs.lemmas.List.Elements.{All-head, All-tail, All-nil, All-push}
use Rattle.wasm_ast.specs.declared.runs.Draw.{Draw}
use Rattle.wasm_reduction.specs.Configurations.{Question, Test, Pick, Assume}
use Rattle.wasm_reduction.specs.Runs.{answer_of}
use Rattle.wasm_reduction.specs.Scripts.{Script, Finished, Asked, drawn, widths}
use Rattle.wasm_reduction.proofs.ScriptAgain.{Extends}
use Rattle.bv_terms.specs.Terms.{Term, Number, Symbol, Unary, Binary, Choose, Byte, Join, is_number, value_of}
use Rattle.refute_check.specs.declared.refutation.Refutation.{Refutation}
use Rattle.bit_blast.specs.Meanings.{AreProper, IsProper, IsAnswered}
use Rattle.path_ask.specs.Verdicts.{IsVerdict}
use Rattle.path_ask.specs.declared.verdicts.Verdict.{Verdict}
use Rattle.path_ask.specs.declared.verdicts.Verdict.TheVariants.{Least as FoundLeast, Dropped as Refuted, Undecided as NotDecided}
use Rattle.path_ask.proofs.VerdictLaws.{some_verdict, input_is_least, log_accepted}
use Rattle.sym_state.specs.Nodes.{Condition, IsMet, AreMet, Invocation, CanExplore, Node, root, IsMemberAt, IsMember}
use Rattle.sym_state.specs.NextNodes.{bit, Begins, MembersAsk, MembersAnswer, IsExact, IsOther, gone_on, assumed}
use Rattle.sym_state.proofs.ExactLemmas.{root-exact, test-exact, assume-exact, pick-exact, other-exact, goes-exact}
use Rattle.sym_state.proofs.MemberLemmas.{met-less}
use Rattle.sym_state.proofs.QuestionTurns.{Before, turn-before}
use Rattle.fork_tree.specs.Nodes.{IsLeastAt, IsLeastPick, Query, OfTest, OfPick, AsksOf, is_true, side_of, NoneAnswers}
use Rattle.fork_tree.specs.Marks.{Words, AreWords, Marks, AreMarks, Exactly, OnTerm, IsSpent, IsOtherSpent, condition_of, condition_at, differs_from}
use Rattle.fork_tree.specs.Tree.{child, passed, met, beside, leaf, Nobody, Under, Turn, Goes, EndsBy, Forks, Either, Queries, Assuming, Does, Turns}
use Rattle.fork_tree.specs.ShownTerms.{no_terms}
use Rattle.fork_tree.specs.declared.rows.Kind.TheVariants.{Void}
use Rattle.fork_tree.specs.Refutations.{ComesOf, IsBelow, side_conditions, IsLeftOut, IsRefutedBy}
use Rattle.fork_tree.specs.code.Parts.{Fits}
use Rattle.fork_tree.proofs.Same.{if-elim}
use Rattle.fork_tree.proofs.Sides.{bit-true, same-false}
use Rattle.fork_tree.proofs.AskedTerms.{KnownTerm, known-term, drawn-more, proper, proper-more, differs-held, differs-other, differs-no-number}

-- what is known of a node of the tree
pub record IsKnown (words : Words) (n : Node) : Type 0 where
  pub can : CanExplore n.invocation
  pub are : AreWords n.invocation words
  pub exact : IsExact n
  pub proper_conditions : (I : List ℕ) (left : Script) → IsMemberAt n I left → AreProper (widths (drawn left)) n.conditions

-- ---- conditions and sides

true-met : (I : List ℕ) (t : Term) (c : Bool) → is_true (value_of I t) ≡ c → IsMet I (t, c)
true-met I t true e = λ none. let same : is_true (value_of I t) ≡ false = ap is_true none in cc
true-met I t false e = zero-of (value_of I t) e
  where
    zero-of : (v : ℕ) → is_true v ≡ false → v ≡ 0
    zero-of zero e = refl
    zero-of (suc v) e = absurd cc

met-true : (I : List ℕ) (t : Term) (c : Bool) → IsMet I (t, c) → is_true (value_of I t) ≡ c
met-true I t true h = some (value_of I t) h
  where
    some : (v : ℕ) → v ≢ 0 → is_true v ≡ true
    some zero h = absurd (h refl)
    some (suc v) h = refl
met-true I t false h = ap is_true h

pick-below : (words : Words) (n : Node) → CanExplore n.invocation → AreWords n.invocation words → (a : ℕ) → IsLeastPick n a → a < 2 ^ 32
pick-below words n can are a h = at h.picked.1 h.picked.2 h.picked.3
  where
    at : (left : Script) → IsMemberAt n h.picked.0 left → AsksOf (λ v. v ≡ a) left → a < 2 ^ 32
    at (Finished o d) m e = absurd e
    at (Asked q v d rest) m e =
        let k = known-term words n can are h.picked.0 q v d rest m in
        subst (λ v. v < 2 ^ 32) (sym k.at.value ∙ e) (k.held.0.1 h.picked.0)

-- the condition of a side is met exactly by those on it
side-met : (t : Term) (q : Query) (c : Bool) → ((a : ℕ) → q ≡ OfPick a → IsOther (differs_from t a) t a) → (I : List ℕ) → IsMet I (condition_of t q c) → side_of q (value_of I t) ≡ c
side-met t OfTest c other I h = met-true I t c h
side-met t (OfPick a) true other I h = let differ : value_of I t ≢ a = λ e. h ((other a refl I).1 e) in grind (arith, differ)
side-met t (OfPick a) false other I h = same-false (value_of I t) a ((other a refl I).0 h)

met-by : (input : List ℕ) (conditions : List Condition) → All (IsAnswered input) conditions → AreMet input conditions
met-by input [] h = tt
met-by input ((t, true) ∷ conditions) h = (All-head (IsAnswered input) (t, true) conditions h, met-by input conditions (All-tail (IsAnswered input) (t, true) conditions h))
met-by input ((t, false) ∷ conditions) h = (All-head (IsAnswered input) (t, false) conditions h, met-by input conditions (All-tail (IsAnswered input) (t, false) conditions h))

-- ---- one node

module _ (words : Words) (n : Node) (known : IsKnown words n) (w : List ℕ) (k : Question) (v : ℕ) (d : List Draw) (rest : Script) (here : IsMemberAt n w (Asked k v d rest)) where
  abbrev t : Term
  t = words.asked n.answers

  term : KnownTerm n w k v d (words.asked n.answers)
  term = known-term words n known.can known.are w k v d rest here

  before : Before n (widths d)
  before = subst (λ symbols. Before n symbols) term.at.symbols (turn-before n term.at.turns k (words.asked n.answers) term.at.trace term.at.stands)

  other : (q : Query) (c : Bool) → Fits n k q c → (a : ℕ) → q ≡ OfPick a → IsOther (differs_from (words.asked n.answers) a) (words.asked n.answers) a
  other q c fits a e = differs-other (words.asked n.answers) a (below k (subst (λ q. Fits n k q c) e fits)) term.held.0
    where
      below : (k : Question) → Fits n k (OfPick a) c → a < 2 ^ 32
      below Test f = absurd f
      below Assume f = absurd f
      below Pick f = pick-below words n known.can known.are a f

  -- the condition of a side is proper
  side-proper : (q : Query) (c : Bool) → Fits n k q c → is_number (words.asked n.answers) ≡ false → IsProper (widths d) (condition_at words n q c).0
  side-proper OfTest c fits e = proper (widths d) 32 (words.asked n.answers) e term.held
  side-proper (OfPick a) c fits e =
      proper (widths d) 32 (differs_from (words.asked n.answers) a) (differs-no-number (words.asked n.answers) a e)
      (differs-held (widths d) (words.asked n.answers) a (below k fits) term.held)
    where
      below : (k : Question) → Fits n k (OfPick a) c → a < 2 ^ 32
      below Test f = absurd f
      below Assume f = absurd f
      below Pick f = pick-below words n known.can known.are a f

  all-proper : (q : Query) (c : Bool) → Fits n k q c → is_number (words.asked n.answers) ≡ false → AreProper (widths d) (side_conditions words n q c)
  all-proper q c fits e = All-push (λ condition. IsProper (widths d) condition.0) n.conditions (condition_at words n q c) (known.proper_conditions w (Asked k v d rest) here) (side-proper q c fits e)

  -- a member of a node with as many answers or more
  later-proper : (m : Node) (more : List ℕ) → m.invocation ≡ n.invocation → m.answers ≡ n.answers ++ more → AreProper (widths d) m.conditions
      → (I : List ℕ) (left : Script) → IsMemberAt m I left → AreProper (widths (drawn left)) m.conditions
  later-proper m more same answers h I left at =
      let grown : Extends (widths d) (widths (drawn left)) = drawn-more n m (subst (λ i. CanExplore i) (sym same) known.can) same more answers (widths d) before I left at in
      subst (λ draws. AreProper draws m.conditions) (sym grown.1) (proper-more (widths d) grown.0 m.conditions h)

  -- the member of one input is a member of its side
  number-known : is_number (words.asked n.answers) ≡ true → (I : List ℕ) → value_of I (words.asked n.answers) ≡ v
  number-known e I = same (words.asked n.answers) e ∙ sym term.at.value
    where
      same : (t : Term) → is_number t ≡ true → value_of I t ≡ value_of w t
      same (Number m) e = refl
      same (Symbol j wide) e = absurd cc
      same (Unary op a) e = absurd cc
      same (Binary op a b) e = absurd cc
      same (Choose wide a b c) e = absurd cc
      same (Byte a i) e = absurd cc
      same (Join wide bytes) e = absurd cc

  -- on a number all members are on one side
  one-side-only : is_number (words.asked n.answers) ≡ true → (q : Query) (c : Bool) → side_of q v ≡ not c → NoneAnswers n q c
  one-side-only e q c side I (Finished o ds) at on = on
  one-side-only e q c side I (Asked l u ds s) at on =
      let asked : Begins k (value_of I (words.asked n.answers)) (Asked l u ds s) = term.asks I (Asked l u ds s) at in
      let same : u ≡ v = asked.1 ∙ number-known e I in
      let both : not c ≡ c = sym side ∙ ap (side_of q) (sym same) ∙ on in
      apart c both
    where
      apart : (c : Bool) → not c ≡ c → ⊥
      apart true e = cc
      apart false e = cc

  -- where no member is on the other side, each is on this one
  all-on : (q : Query) (b : Bool) → NoneAnswers n q (not b) → (I : List ℕ) → IsMember n I → side_of q (value_of I (words.asked n.answers)) ≡ b
  all-on q b none I m = at m.0 m.1 (term.asks I m.0 m.1)
    where
      go : (x b : Bool) → (x ≡ not b → ⊥) → x ≡ b
      go true true h = refl
      go true false h = absurd (h refl)
      go false true h = absurd (h refl)
      go false false h = refl

      at : (left : Script) → IsMemberAt n I left → Begins k (value_of I (words.asked n.answers)) left → side_of q (value_of I (words.asked n.answers)) ≡ b
      at (Finished o ds) i asked = absurd asked
      at (Asked l u ds s) i asked = go (side_of q (value_of I (words.asked n.answers))) b (λ e. none I (Asked l u ds s) i (ap (side_of q) asked.1 ∙ e))

  asks-as : (p : Question) → k ≡ p → MembersAsk n p (words.asked n.answers)
  asks-as p is = subst (λ p. MembersAsk n p (words.asked n.answers)) is term.asks

  fits-as : (p : Question) → k ≡ p → (q : Query) (c : Bool) → Fits n p q c → Fits n k q c
  fits-as p is q c fits = subst (λ p. Fits n p q c) (sym is) fits

  pub test-known : k ≡ Test → is_number (words.asked n.answers) ≡ false → (c : Bool) → IsKnown words (child words n OfTest c)
  test-known is e c = record {
    can = known.can;
    are = known.are;
    exact = test-exact n known.exact w (words.asked n.answers) c (Asked k v d rest, here) (asks-as Test is);
    proper_conditions = later-proper (child words n OfTest c) (bit c ∷ []) refl refl (all-proper OfTest c (fits-as Test is OfTest c tt) e);
  }

  picked-value : (a : ℕ) (J : List ℕ) (left : Script) → IsMemberAt n J left → AsksOf (λ v. v ≡ a) left → value_of J (words.asked n.answers) ≡ a
  picked-value a J (Finished o ds) i h = absurd h
  picked-value a J (Asked l u ds s) i h = sym (term.asks J (Asked l u ds s) i).1 ∙ h

  pub pick-known : k ≡ Pick → is_number (words.asked n.answers) ≡ false → (a : ℕ) → IsLeastPick n a → (c : Bool) → IsKnown words (child words n (OfPick a) c)
  pick-known is e a h true = record {
    can = known.can;
    are = known.are;
    exact = other-exact n known.exact (words.asked n.answers) (differs_from (words.asked n.answers) a) a (asks-as Pick is) (other (OfPick a) true (fits-as Pick is (OfPick a) true h) a refl);
    proper_conditions = later-proper (child words n (OfPick a) true) [] refl (sym (append-nil n.answers)) (all-proper (OfPick a) true (fits-as Pick is (OfPick a) true h) e);
  }
  pick-known is e a h false = record {
    can = known.can;
    are = known.are;
    exact = pick-exact n known.exact known.can h.picked.0 (words.asked n.answers) (differs_from (words.asked n.answers) a) a (h.picked.1, h.picked.2) (asks-as Pick is)
        (other (OfPick a) false (fits-as Pick is (OfPick a) false h) a refl) (picked-value a h.picked.0 h.picked.1 h.picked.2 h.picked.3);
    proper_conditions = later-proper (child words n (OfPick a) false) (a ∷ []) refl refl (all-proper (OfPick a) false (fits-as Pick is (OfPick a) false h) e);
  }

  goes-known : (answer : ℕ) → MembersAnswer n k (words.asked n.answers) answer → (k ≡ Assume → answer ≢ 0) → IsKnown words (gone_on n answer)
  goes-known answer answers some = record {
    can = known.can;
    are = known.are;
    exact = goes-exact n known.exact known.can w k (words.asked n.answers) answer (Asked k v d rest, here) term.asks answers some;
    proper_conditions = later-proper (gone_on n answer) (answer ∷ []) refl refl (known.proper_conditions w (Asked k v d rest) here);
  }

  pub test-passed : k ≡ Test → (b : Bool) → NoneAnswers n OfTest (not b) → IsKnown words (passed n OfTest b)
  test-passed is b none =
      goes-known (bit b) (subst (λ p. MembersAnswer n p (words.asked n.answers) (bit b)) (sym is) (λ I m. bit-true (value_of I (words.asked n.answers)) ∙ ap bit (all-on OfTest b none I m)))
      (λ e. let both : Test ≡ Assume = sym is ∙ e in absurd cc)

  none-picks : (a : ℕ) → NoneAnswers n (OfPick a) false → (J : List ℕ) (left : Script) → IsMemberAt n J left → AsksOf (λ v. v ≡ a) left → ⊥
  none-picks a none J (Finished o ds) i h = h
  none-picks a none J (Asked l u ds s) i h = none J (Asked l u ds s) i (same-false u a h)

  pub pick-passed : k ≡ Pick → (a : ℕ) → IsLeastPick n a → (b : Bool) → NoneAnswers n (OfPick a) (not b) → IsKnown words (passed n (OfPick a) b)
  pick-passed is a h true none = absurd (none-picks a none h.picked.0 h.picked.1 h.picked.2 h.picked.3)
  pick-passed is a h false none =
      goes-known a (subst (λ p. MembersAnswer n p (words.asked n.answers) a) (sym is) (λ I m. let side : not (value_of I (words.asked n.answers) == a) ≡ false = all-on (OfPick a) false none I m in grind (arith, side)))
      (λ e. let both : Pick ≡ Assume = sym is ∙ e in absurd cc)

  pub met-known : k ≡ Assume → (is_number (words.asked n.answers) ≡ true → is_true v ≡ true) → IsKnown words (met words n)
  met-known is true_number = go (is_number (words.asked n.answers)) refl
    where
      one : is_true v ≡ true → (I : List ℕ) → is_number (words.asked n.answers) ≡ true → answer_of Assume (value_of I (words.asked n.answers)) ≡ 1
      one e I number = ap (answer_of Assume) (number-known number I) ∙ bit-true v ∙ ap bit e

      go : (b : Bool) → is_number (words.asked n.answers) ≡ b → IsKnown words (if b then gone_on n 1 else assumed n (words.asked n.answers))
      go true e =
          goes-known 1 (subst (λ p. MembersAnswer n p (words.asked n.answers) 1) (sym is) (λ I m. one (true_number e) I e))
          (λ f. λ zero. omega (arith, zero))
      go false e = record {
        can = known.can;
        are = known.are;
        exact = assume-exact n known.exact w (words.asked n.answers) (Asked k v d rest, here) (asks-as Assume is);
        proper_conditions = later-proper (assumed n (words.asked n.answers)) (1 ∷ []) refl refl (all-proper OfTest true (fits-as Assume is OfTest true refl) e);
      }

  -- ---- a side that is left out

  -- an input that meets the conditions of a side is a member on it
  on-it : (q : Query) (c : Bool) → Fits n k q c → (I : List ℕ) → AreMet I (side_conditions words n q c) → (left : Script) × IsMemberAt n I left × AsksOf (λ u. side_of q u ≡ c) left
  on-it q c fits I met =
      let both = met-less I n.conditions (condition_at words n q c) met in
      let m : IsMember n I = (known.exact I).0 both.0 in
      (m.0, m.1, at m.0 (term.asks I m.0 m.1) (side-met (words.asked n.answers) q c (λ a e. other q c fits a e) I both.1))
    where
      at : (left : Script) → Begins k (value_of I (words.asked n.answers)) left → side_of q (value_of I (words.asked n.answers)) ≡ c → AsksOf (λ u. side_of q u ≡ c) left
      at (Finished o ds) asked e = absurd asked
      at (Asked l u ds s) asked e = ap (side_of q) asked.1 ∙ e

  pub side-refuted : (bound : ℕ) (q : Query) (c : Bool) → Fits n k q c → is_number (words.asked n.answers) ≡ false → NoneAnswers n q c → (IsSpent (side_conditions words n q c) (widths d) bound → ⊥)
      → (refutation : Refutation) × IsRefutedBy (side_conditions words n q c) (widths d) bound refutation
  side-refuted bound q c fits e none unspent = go verdict.0 verdict.1
    where
      are_proper : AreProper (widths d) (side_conditions words n q c)
      are_proper = all-proper q c fits e

      verdict : (v : Verdict) × IsVerdict (side_conditions words n q c) (widths d) bound v
      verdict = some_verdict (side_conditions words n q c) (widths d) bound are_proper

      go : (v : Verdict) → IsVerdict (side_conditions words n q c) (widths d) bound v → (refutation : Refutation) × IsRefutedBy (side_conditions words n q c) (widths d) bound refutation
      go (FoundLeast input) h =
          let least = input_is_least (side_conditions words n q c) (widths d) bound input are_proper h in
          let o = on-it q c fits input (met-by input (side_conditions words n q c) least.meets.1) in
          absurd (none input o.0 o.1 o.2)
      go (Refuted refutation) h = (refutation, record { verdict = h; accepted = log_accepted (side_conditions words n q c) (widths d) bound refutation.log are_proper h.0 })
      go NotDecided h = absurd (unspent h)

-- ---- turns

exactly-off : (m x : Bool) (P : Type 0) → x ≡ true → Exactly m (OnTerm x P) → m ≡ false
exactly-off true true P e h = absurd h
exactly-off true false P e h = absurd cc
exactly-off false x P e h = refl

exactly-not : (m x : Bool) (P : Type 0) → x ≡ false → m ≡ false → Exactly m (OnTerm x P) → P → ⊥
exactly-not true x P e off h p = absurd cc
exactly-not false true P e off h p = absurd cc
exactly-not false false P e off h p = h p

module _ (words : Words) (marks : Marks) (F bound : ℕ) (solver : AreMarks words bound marks) where
  become : (n : Node) (x y : Turn) → x ≡ y → ((m : Node) → ComesOf y m → IsKnown words m) → (m : Node) → ComesOf x m → IsKnown words m
  become n x y e h m c = h m (subst (λ x. ComesOf x m) e c)

  going : (n : Node) → IsKnown words n → (m : Node) → m ≡ n → IsKnown words m
  going n known m e = subst (λ m. IsKnown words m) (sym e) known

  module _ (n : Node) (known : IsKnown words n) (k : Question) (v : ℕ) (d : List Draw) (rest : Script) (least : IsLeastAt n (Asked k v d rest)) where
    queries-known : (q : Query) (b : Bool) → side_of q v ≡ b → (NoneAnswers n q (not b) → IsKnown words (passed n q b)) → (is_number (words.asked n.answers) ≡ false → (c : Bool) → IsKnown words (child words n q c))
        → (x : Turn) → Queries words marks F n d q b x → (m : Node) → ComesOf x m → IsKnown words m
    queries-known q b side pass kids x (inl h) = become n x (Goes (passed n q b)) h.1 (λ m e. going (passed n q b) (pass h.0.0) m e)
    queries-known q b side pass kids x (inr h) = go (is_number (words.asked n.answers)) refl
      where
        twice : (b : Bool) → b ≡ not (not b)
        twice true = refl
        twice false = refl

        beside-known : (b : Bool) → ((c : Bool) → IsKnown words (child words n q c)) → (m : Node) → ComesOf (beside words n q b) m → IsKnown words m
        beside-known false kids m (inl e) = going (child words n q false) (kids false) m e
        beside-known false kids m (inr e) = absurd e
        beside-known true kids m (inl e) = absurd e
        beside-known true kids m (inr e) = going (child words n q true) (kids true) m e

        both-known : ((c : Bool) → IsKnown words (child words n q c)) → (m : Node) → ComesOf (Forks (Under (child words n q false)) (Under (child words n q true))) m → IsKnown words m
        both-known kids m (inl e) = going (child words n q false) (kids false) m e
        both-known kids m (inr e) = going (child words n q true) (kids true) m e

        go : (z : Bool) → is_number (words.asked n.answers) ≡ z → (m : Node) → ComesOf x m → IsKnown words m
        go true e =
            absurd (h.0 (
              one-side-only words n known _ k v d rest least.member e q (not b) (side ∙ twice b),
              exactly-off (marks.other n q b) (is_number (words.asked n.answers)) _ e (solver.other n (Asked k v d rest) least q b),
            ))
        go false e =
            if-elim (nat_lt (length n.choices) F) _ _ ((m : Node) → ComesOf x m → IsKnown words m)
            (if-elim (marks.other n q b) _ _ ((m : Node) → ComesOf x m → IsKnown words m)
            (λ f. become n x _ f (beside-known b (kids e)))
            (λ f. become n x _ f (both-known (kids e))))
            (λ f. become n x _ f (λ m c. absurd c))
            h.1

  assuming-known : (n : Node) → IsKnown words n → (v : ℕ) (d : List Draw) (rest : Script) → IsLeastAt n (Asked Assume v d rest) → (b : Bool) → is_true v ≡ b
      → (x : Turn) → Assuming words marks n b x → (m : Node) → ComesOf x m → IsKnown words m
  assuming-known n known v d rest least true e x h =
      become n x (Goes (met words n)) h (λ m f. going (met words n) (met-known words n known _ Assume v d rest least.member refl (λ number. e)) m f)
  assuming-known n known v d rest least false e x h =
      if-elim (marks.meeting n) _ _ ((m : Node) → ComesOf x m → IsKnown words m)
      (λ f. become n x _ f (λ m c. absurd c))
      (λ f. unmarked f)
      h
    where
      go-on : (NoneAnswers n OfTest true → ⊥) → IsKnown words (met words n)
      go-on some =
          met-known words n known _ Assume v d rest least.member refl
          (λ number. absurd (some (one-side-only words n known _ Assume v d rest least.member number OfTest true e)))

      unmarked : Either (NoneAnswers n OfTest true) (x ≡ EndsBy (leaf n Void [] no_terms Nobody)) (x ≡ Goes (met words n)) → (m : Node) → ComesOf x m → IsKnown words m
      unmarked (inl f) = become n x _ f.1 (λ m c. absurd c)
      unmarked (inr f) = become n x (Goes (met words n)) f.1 (λ m g. going (met words n) (go-on f.0) m g)

  does-known : (n : Node) → IsKnown words n → (left : Script) → IsLeastAt n left → (x : Turn) → Does words marks F n left x → (m : Node) → ComesOf x m → IsKnown words m
  does-known n known (Finished o d) least x h = become n x _ h (λ m c. absurd c)
  does-known n known (Asked Test v d rest) least x h =
      queries-known n known Test v d rest least OfTest (is_true v) refl
      (λ none. test-passed words n known _ Test v d rest least.member refl (is_true v) none)
      (λ e c. test-known words n known _ Test v d rest least.member refl e c)
      x h
  does-known n known (Asked Assume v d rest) least x h = assuming-known n known v d rest least (is_true v) refl x h
  does-known n known (Asked Pick v d rest) least x h =
      if-elim (marks.least n) _ _ ((m : Node) → ComesOf x m → IsKnown words m)
      (λ f. become n x _ f (λ m c. absurd c))
      (λ f. queries-known n known Pick v d rest least (OfPick f.0) (not (v == f.0)) refl
      (λ none. pick-passed words n known _ Pick v d rest least.member refl f.0 f.1 (not (v == f.0)) none)
      (λ e c. pick-known words n known _ Pick v d rest least.member refl e f.0 f.1 c)
      x f.2)
      h

  pub turns-known : (n m : Node) → IsKnown words n → (x : Turn) → Turns words marks F n x → ComesOf x m → IsKnown words m
  turns-known n m known x h c = does-known n known h.0 h.1 x h.2 m c

  pub below-known : (nodes : List Node) (n m : Node) → IsKnown words n → IsBelow words marks F nodes n m → IsKnown words m
  below-known [] n m known h = going n known m h
  below-known (next ∷ nodes) n m known h = below-known nodes next m (turns-known n next known h.0.0 h.0.1 h.0.2) h.1

  -- ---- the law

  pub left-out-refuted : (n : Node) → IsKnown words n → (left : Script) → IsLeastAt n left → (q : Query) (c : Bool) → IsLeftOut words marks n left q c
      → (refutation : Refutation) × IsRefutedBy (side_conditions words n q c) (widths (drawn left)) bound refutation
  left-out-refuted n known (Finished o d) least q c out = absurd out.asked
  left-out-refuted n known (Asked Test v d rest) least q c out = go q c out.asked.0 out.unmarked out.none
    where
      spent : (c : Bool) → IsSpent (side_conditions words n OfTest c) (widths d) bound → IsOtherSpent words n (widths d) bound OfTest (not c)
      spent true h = h
      spent false h = h

      go : (q : Query) (c : Bool) → q ≡ OfTest → marks.other n q (not c) ≡ false → NoneAnswers n q c → (refutation : Refutation) × IsRefutedBy (side_conditions words n q c) (widths d) bound refutation
      go OfTest c e unmarked none =
          side-refuted words n known _ Test v d rest least.member bound OfTest c tt out.on_term none
          (λ h. exactly-not (marks.other n OfTest (not c)) (is_number (words.asked n.answers)) _ out.on_term unmarked (solver.other n (Asked Test v d rest) least OfTest (not c)) (spent c h))
      go (OfPick a) c e unmarked none = absurd cc
  left-out-refuted n known (Asked Assume v d rest) least q c out = go q c out.asked.1 out.asked.2 out.none
    where
      go : (q : Query) (c : Bool) → q ≡ OfTest → c ≡ true → NoneAnswers n q c → (refutation : Refutation) × IsRefutedBy (side_conditions words n q c) (widths d) bound refutation
      go OfTest true e f none =
          side-refuted words n known _ Assume v d rest least.member bound OfTest true refl out.on_term none
          (exactly-not (marks.meeting n) (is_number (words.asked n.answers)) _ out.on_term out.unmarked (solver.meeting n (Asked Assume v d rest) least))
      go OfTest false e f none = absurd cc
      go (OfPick a) c e f none = absurd cc
  left-out-refuted n known (Asked Pick v d rest) least q c out = go q c out.asked.2 out.asked.3 out.unmarked out.none
    where
      go : (q : Query) (c : Bool) → q ≡ OfPick v → c ≡ true → marks.other n q (not c) ≡ false → NoneAnswers n q c → (refutation : Refutation) × IsRefutedBy (side_conditions words n q c) (widths d) bound refutation
      go OfTest c e f unmarked none = absurd cc
      go (OfPick a) false e f unmarked none = absurd cc
      go (OfPick a) true e f unmarked none =
          let same : v ≡ a = cc in
          side-refuted words n known _ Pick v d rest least.member bound (OfPick a) true (subst (λ a. IsLeastPick n a) same out.asked.1) out.on_term none
          (exactly-not (marks.other n (OfPick a) false) (is_number (words.asked n.answers)) _ out.on_term unmarked (solver.other n (Asked Pick v d rest) least (OfPick a) false))

pub root-known : (words : Words) (i : Invocation) → CanExplore i → AreWords i words → IsKnown words (root i)
root-known words i can are = record {
  can = can;
  are = are;
  exact = root-exact i can;
  proper_conditions = λ I left at. All-nil (λ condition. IsProper (widths (drawn left)) condition.0);
}
