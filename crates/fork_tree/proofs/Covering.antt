-- Each input that meets its assumptions is covered by one row.
use Rattle.std.proofs.Common.{◌⊎◌, inl, inr, ◌≡◌, ℕ, List, [], ◌∷◌, ◌++◌, length, refl, sym, subst}
use Rattle.std.specs.Prelude.{Bool, true, false, not, ◌==◌, nat_lt, if◌then◌else◌}
use Rattle.wasm_ast.specs.declared.runs.Draw.{Draw}
use Rattle.wasm_reduction.specs.Configurations.{Question, Test, Pick, Assume}
use Rattle.wasm_reduction.specs.Scripts.{Script, Finished, Asked}
use Rattle.fork_tree.specs.declared.rows.Kind.TheVariants.{Void}
use Rattle.sym_state.specs.Nodes.{Node, IsMemberAt, IsMember}
use Rattle.sym_state.specs.NextNodes.{gone_on, assumed}
use Rattle.bv_terms.specs.Terms.{is_number}
use Rattle.fork_tree.specs.Nodes.{Query, OfTest, OfPick, AsksOf, is_true, NoneAnswers}
use Rattle.fork_tree.specs.Marks.{Words, Marks}
use Rattle.fork_tree.specs.ShownTerms.{no_terms}
use Rattle.fork_tree.specs.Tree.{child, passed, met, dead, beside, leaf, Nobody, Branch, Under, Dead, Turn, Goes, EndsBy, Forks, Either, Queries, Assuming, Does, Turns, Tree, End, Pass, Split, Below, IsTree, leaves}
use Rattle.fork_tree.specs.Covers.{Covers, OneOf, OneAtMost, SomeOf}
use Rattle.fork_tree.specs.code.Known.{Known}
use Rattle.fork_tree.specs.code.Parts.{Meets, OnSide, Fits, InBranch, ForkParts, Parts}
use Rattle.fork_tree.proofs.Lists.{at-most-append, some-left, some-right, some-append, one-of}
use Rattle.fork_tree.proofs.Same.{left-same, if-elim, Keeps, KeptBranch, turns-kept, known-on}
use Rattle.fork_tree.proofs.Sides.{asked-alike, same-false, leave, enter, sided, one-side}

bool-is : (x b : Bool) → (x ≡ not b → ⊥) → x ≡ b
bool-is true true h = refl
bool-is true false h = absurd (h refl)
bool-is false true h = absurd (h refl)
bool-is false false h = refl

pub on-side : (n : Node) (q : Query) (b : Bool) (I : List ℕ) → OnSide n q false I ⊎ OnSide n q true I → (OnSide n q (not b) I → ⊥) → OnSide n q b I
on-side n q false I (inl h) no_other = h
on-side n q false I (inr h) no_other = absurd (no_other h)
on-side n q true I (inl h) no_other = absurd (no_other h)
on-side n q true I (inr h) no_other = h

module _ (words : Words) (marks : Marks) (F : ℕ) where
  -- a branch that has the members of a side
  record IsSide (n : Node) (q : Query) (c : Bool) (b : Branch) : Type 0 where
    to : (I : List ℕ) → InBranch b I → OnSide n q c I
    from : (I : List ℕ) → OnSide n q c I → InBranch b I

  fork-parts : (n : Node) → Known n.invocation → (q : Query) (a b : Branch) → ((I : List ℕ) → IsMember n I → OnSide n q false I ⊎ OnSide n q true I) → IsSide n q false a → IsSide n q true b → Parts n (Forks a b)
  fork-parts n known q a b two h k = record {
    first = λ I i. let o = h.to I i in (o.0, o.1);
    second = λ I i. let o = k.to I i in (o.0, o.1);
    apart = λ I i j. one-side n known q I (h.to I i) (k.to I j);
    all = λ I m. share I (two I m);
  }
    where
      share : (I : List ℕ) → OnSide n q false I ⊎ OnSide n q true I → InBranch a I ⊎ InBranch b I
      share I (inl o) = inl (h.from I o)
      share I (inr o) = inr (k.from I o)

  -- the least number that a member picks is picked
  pub some-least : (n : Node) (k : Question) (a : ℕ) → Fits n k (OfPick a) true → NoneAnswers n (OfPick a) false → ⊥
  some-least n Test a fits h = fits
  some-least n Assume a fits h = fits
  some-least n Pick a fits h = h fits.picked.0 fits.picked.1 fits.picked.2 (on fits.picked.1 fits.picked.3)
    where
      on : (t : Script) → AsksOf (λ v. v ≡ a) t → AsksOf (λ v. not (v == a) ≡ false) t
      on (Finished o e) f = f
      on (Asked l u e t) f = same-false u a f

  dead-side : (n : Node) (q : Query) (c : Bool) → IsSide n q c (dead n q c)
  dead-side n q c = record { to = λ I i. i; from = λ I o. o }

  -- the node that meets an assume has the members of the node past a test of it
  met-child : (n : Node) (I : List ℕ) → IsMember (met words n) I → IsMember (child words n OfTest true) I
  met-child n I m = go (is_number (words.asked n.answers)) m
    where
      go : (b : Bool) → IsMember (if b then gone_on n 1 else assumed n (words.asked n.answers)) I → IsMember (child words n OfTest true) I
      go true m = (m.0, record { script = m.1.script; is_script = m.1.is_script; past = m.1.past; allowed = tt })
      go false m = (m.0, record { script = m.1.script; is_script = m.1.is_script; past = m.1.past; allowed = tt })

  child-met : (n : Node) (I : List ℕ) → IsMember (child words n OfTest true) I → IsMember (met words n) I
  child-met n I m = go (is_number (words.asked n.answers))
    where
      go : (b : Bool) → IsMember (if b then gone_on n 1 else assumed n (words.asked n.answers)) I
      go true = (m.0, record { script = m.1.script; is_script = m.1.is_script; past = m.1.past; allowed = tt })
      go false = (m.0, record { script = m.1.script; is_script = m.1.is_script; past = m.1.past; allowed = tt })

  -- so has the node that passes a question, where it has those of a side
  passed-child : (n : Node) (b : Bool) (I : List ℕ) → IsMember (passed n OfTest b) I → IsMember (child words n OfTest b) I
  passed-child n b I m = (m.0, record { script = m.1.script; is_script = m.1.is_script; past = m.1.past; allowed = tt })

  child-passed : (n : Node) (b : Bool) (I : List ℕ) → IsMember (child words n OfTest b) I → IsMember (passed n OfTest b) I
  child-passed n b I m = (m.0, record { script = m.1.script; is_script = m.1.is_script; past = m.1.past; allowed = tt })

  picked-child : (n : Node) (a : ℕ) (I : List ℕ) → IsMember (passed n (OfPick a) false) I → IsMember (child words n (OfPick a) false) I
  picked-child n a I m = (m.0, record { script = m.1.script; is_script = m.1.is_script; past = m.1.past; allowed = tt })

  child-picked : (n : Node) (a : ℕ) (I : List ℕ) → IsMember (child words n (OfPick a) false) I → IsMember (passed n (OfPick a) false) I
  child-picked n a I m = (m.0, record { script = m.1.script; is_script = m.1.is_script; past = m.1.past; allowed = tt })

  module _ (n : Node) (known : Known n.invocation) (w : List ℕ) (k : Question) (v : ℕ) (d : List Draw) (s : Script) (st : IsMemberAt n w (Asked k v d s)) where
    under-side : (q : Query) (c : Bool) → Fits n k q c → IsSide n q c (Under (child words n q c))
    under-side q c fits = record { to = λ I i. leave words n known w k v d s st q c fits I i; from = λ I o. enter words n known w k v d s st q c fits I o.0 o.1 o.2 }

    -- a node with the members of a child
    goes-parts : (q : Query) (b : Bool) (m : Node) → Fits n k q b → ((I : List ℕ) → IsMember m I → IsMember (child words n q b) I) → ((I : List ℕ) → IsMember (child words n q b) I → IsMember m I) →
        ((I : List ℕ) → IsMember n I → Meets n.invocation I → OnSide n q b I) → Parts n (Goes m)
    goes-parts q b m fits there back on = (
      λ I i. let o = leave words n known w k v d s st q b fits I (there I i) in (o.0, o.1),
      λ I i meets. let o = on I i meets in back I (enter words n known w k v d s st q b fits I o.0 o.1 o.2),
    )

    none-other : (q : Query) (b : Bool) → NoneAnswers n q (not b) → (I : List ℕ) → IsMember n I → OnSide n q b I
    none-other q b h I m = on-side n q b I (sided words n known w k v d s st q I m) (λ o. h I o.0 o.1 o.2)

    -- a Pick that goes on goes on with the least number
    passes-parts : (q : Query) (b : Bool) → Fits n k q b → NoneAnswers n q (not b) → Parts n (Goes (passed n q b))
    passes-parts OfTest b fits h = goes-parts OfTest b (passed n OfTest b) fits (λ I m. passed-child n b I m) (λ I m. child-passed n b I m) (λ I m meets. none-other OfTest b h I m)
    passes-parts (OfPick a) false fits h = goes-parts (OfPick a) false (passed n (OfPick a) false) fits (λ I m. picked-child n a I m) (λ I m. child-picked n a I m) (λ I m meets. none-other (OfPick a) false h I m)
    passes-parts (OfPick a) true fits h = absurd (some-least n k a fits h)

    beside-parts : (q : Query) (b : Bool) → ((c : Bool) → Fits n k q c) → Parts n (beside words n q b)
    beside-parts q false fits = fork-parts n known q _ _ (λ I m. sided words n known w k v d s st q I m) (under-side q false (fits false)) (dead-side n q true)
    beside-parts q true fits = fork-parts n known q _ _ (λ I m. sided words n known w k v d s st q I m) (dead-side n q false) (under-side q true (fits true))

    queries-parts : (q : Query) (b : Bool) → ((c : Bool) → Fits n k q c) → (x : Turn) → Queries words marks F n d q b x → Parts n x
    queries-parts q b fits x (inl h) = subst (λ x. Parts n x) (sym h.1) (passes-parts q b (fits b) h.0.0)
    queries-parts q b fits x (inr h) =
        if-elim (nat_lt (length n.choices) F) _ _ (Parts n x)
        (if-elim (marks.other n q b) _ _ (Parts n x)
        (λ e. subst (λ x. Parts n x) (sym e) (beside-parts q b fits))
        (λ e. subst (λ x. Parts n x) (sym e) (fork-parts n known q _ _ (λ I m. sided words n known w k v d s st q I m) (under-side q false (fits false)) (under-side q true (fits true)))))
        (λ e. subst (λ x. Parts n x) (sym e) (refl, λ I t i meets. tt))
        h.1

  module _ (n : Node) (known : Known n.invocation) (w : List ℕ) (v : ℕ) (d : List Draw) (s : Script) (st : IsMemberAt n w (Asked Assume v d s)) where
    meeting : (I : List ℕ) → IsMember n I → Meets n.invocation I → OnSide n OfTest true I
    meeting I m meets =
        on-side n OfTest true I (sided words n known w Assume v d s st OfTest I m) (λ o. fails o.0 o.1 o.2)
      where
        fails : (t : Script) → IsMemberAt n I t → AsksOf (λ u. is_true u ≡ false) t → ⊥
        fails (Finished o e) h f = f
        fails (Asked l u e t) h f =
            meets h.script h.is_script (known.failed n.answers I u e h.script t h.is_script (asked-alike words n known w Assume v d s st I h.script h.is_script l u e t h.past) f)

    met-parts : ((I : List ℕ) → IsMember n I → Meets n.invocation I → OnSide n OfTest true I) → Parts n (Goes (met words n))
    met-parts on = goes-parts n known w Assume v d s st OfTest true (met words n) refl (λ I m. met-child n I m) (λ I m. child-met n I m) on

    assuming-parts : (b : Bool) (x : Turn) → Assuming words marks n b x → Parts n x
    assuming-parts true x e = subst (λ x. Parts n x) (sym e) (met-parts (λ I m meets. meeting I m meets))
    assuming-parts false x h =
        if-elim (marks.meeting n) _ _ (Parts n x)
        (λ e. subst (λ x. Parts n x) (sym e) (refl, λ I t i meets. same I t i (meeting I (t, i) meets)))
        (λ h. void h)
        h
      where
        same : (I : List ℕ) (t : Script) → IsMemberAt n I t → OnSide n OfTest true I → AsksOf (λ u. is_true u ≡ true) t
        same I t i o = subst (λ t. AsksOf (λ u. is_true u ≡ true) t) (left-same n known I o.0 t o.1 i) o.2

        void : Either (NoneAnswers n OfTest true) (x ≡ EndsBy (leaf n Void [] no_terms Nobody)) (x ≡ Goes (met words n)) → Parts n x
        void (inl h) = subst (λ x. Parts n x) (sym h.1) (refl, λ I t i meets. let o = meeting I (t, i) meets in h.0 I o.0 o.1 o.2)
        void (inr h) = subst (λ x. Parts n x) (sym h.1) (met-parts (λ I m meets. meeting I m meets))

  does-parts : (n : Node) → Known n.invocation → (w : List ℕ) (s : Script) → IsMemberAt n w s → (x : Turn) → Does words marks F n s x → Parts n x
  does-parts n known w (Finished o d) st x e = subst (λ x. Parts n x) (sym e) (refl, λ I t i meets. tt)
  does-parts n known w (Asked Test v d s) st x h = queries-parts n known w Test v d s st OfTest (is_true v) (λ c. tt) x h
  does-parts n known w (Asked Assume v d s) st x h = assuming-parts n known w v d s st (is_true v) x h
  does-parts n known w (Asked Pick v d s) st x h =
      if-elim (marks.least n) _ _ (Parts n x)
      (λ e. subst (λ x. Parts n x) (sym e) (refl, λ I t i meets. tt))
      (λ h. queries-parts n known w Pick v d s st (OfPick h.0) (not (v == h.0)) (λ c. h.1) x h.2)
      h

  -- what a turn does with the members
  pub turns-parts : (n : Node) → Known n.invocation → (x : Turn) → Turns words marks F n x → Parts n x
  turns-parts n known x h = does-parts n known _ h.0 h.1.member x h.2

  module _ (I : List ℕ) where
    below-within : (n : Node) → Known n.invocation → (t : Tree) (b : Branch) → KeptBranch n b → ((m : Node) → Known m.invocation → IsTree words marks F t m → SomeOf (Covers I) (leaves t) → IsMember m I) →
        Below (IsTree words marks F t) t b → SomeOf (Covers I) (leaves t) → InBranch b I
    below-within n known t (Under m) kept within h k = within m (known-on words marks F n m known kept) h k
    below-within n known t (Dead l) kept within h k = only (subst (λ t. SomeOf (Covers I) (leaves t)) h k)
      where
        only : SomeOf (Covers I) (l ∷ []) → Covers I l
        only (inl c) = c
        only (inr c) = absurd c

    -- what a row below a node covers is a member of the node
    pub within : (t : Tree) (n : Node) → Known n.invocation → IsTree words marks F t n → SomeOf (Covers I) (leaves t) → IsMember n I
    within (End l) n known h (inl c) = let p : Parts n (EndsBy l) = turns-parts n known _ h in subst (λ m. IsMember m I) p.0 (c.0, c.1)
    within (End l) n known h (inr c) = absurd c
    within (Pass m t) n known h k = let p : Parts n (Goes m) = turns-parts n known _ h.0 in p.0 I (within t m (known-on words marks F n m known (turns-kept words marks F n (Goes m) h.0)) h.1 k)
    within (Split a b t u) n known h k =
        let kept : Keeps n (Forks a b) = turns-kept words marks F n (Forks a b) h.0 in
        two (turns-parts n known _ h.0) (λ k. below-within n known t a kept.0 (λ m l p q. within t m l p q) h.1 k) (λ k. below-within n known u b kept.1 (λ m l p q. within u m l p q) h.2 k) (some-append (Covers I) (leaves t) (leaves u) k)
      where
        two : ForkParts n a b → (SomeOf (Covers I) (leaves t) → InBranch a I) → (SomeOf (Covers I) (leaves u) → InBranch b I) → SomeOf (Covers I) (leaves t) ⊎ SomeOf (Covers I) (leaves u) → IsMember n I
        two p f g (inl k) = p.first I (f k)
        two p f g (inr k) = p.second I (g k)

    below-once : (n : Node) → Known n.invocation → (t : Tree) (b : Branch) → KeptBranch n b → ((m : Node) → Known m.invocation → IsTree words marks F t m → OneAtMost (Covers I) (leaves t)) → Below (IsTree words marks F t) t b → OneAtMost (Covers I) (leaves t)
    below-once n known t (Under m) kept once h = once m (known-on words marks F n m known kept) h
    below-once n known t (Dead l) kept once h = subst (λ t. OneAtMost (Covers I) (leaves t)) (sym h) (λ c. tt, tt)

    -- no input is covered twice
    pub once : (t : Tree) (n : Node) → Known n.invocation → IsTree words marks F t n → OneAtMost (Covers I) (leaves t)
    once (End l) n known h = (λ c. tt, tt)
    once (Pass m t) n known h = once t m (known-on words marks F n m known (turns-kept words marks F n (Goes m) h.0)) h.1
    once (Split a b t u) n known h =
        let p : ForkParts n a b = turns-parts n known _ h.0 in
        let kept : Keeps n (Forks a b) = turns-kept words marks F n (Forks a b) h.0 in
        at-most-append (Covers I) (leaves t) (leaves u) (below-once n known t a kept.0 (λ m l q. once t m l q) h.1) (below-once n known u b kept.1 (λ m l q. once u m l q) h.2)
        (λ i j. p.apart I (below-within n known t a kept.0 (λ m l p q. within t m l p q) h.1 i) (below-within n known u b kept.1 (λ m l p q. within u m l p q) h.2 j))

    below-some : (n : Node) → Known n.invocation → Meets n.invocation I → (t : Tree) (b : Branch) → KeptBranch n b → ((m : Node) → Known m.invocation → Meets m.invocation I → IsTree words marks F t m → IsMember m I → SomeOf (Covers I) (leaves t)) →
        Below (IsTree words marks F t) t b → InBranch b I → SomeOf (Covers I) (leaves t)
    below-some n known meets t (Under m) kept some h i = some m (known-on words marks F n m known kept) (subst (λ v. Meets v I) (sym kept) meets) h i
    below-some n known meets t (Dead l) kept some h i = subst (λ t. SomeOf (Covers I) (leaves t)) (sym h) (inl i)

    -- a member that meets its assumptions is covered
    pub some : (t : Tree) (n : Node) → Known n.invocation → Meets n.invocation I → IsTree words marks F t n → IsMember n I → SomeOf (Covers I) (leaves t)
    some (End l) n known meets h m =
        let p : Parts n (EndsBy l) = turns-parts n known _ h in
        inl (m.0, subst (λ n. IsMemberAt n I m.0) (sym p.0) m.1, p.1 I m.0 m.1 meets)
    some (Pass m t) n known meets h i =
        let p : Parts n (Goes m) = turns-parts n known _ h.0 in
        let kept : m.invocation ≡ n.invocation = turns-kept words marks F n (Goes m) h.0 in
        some t m (known-on words marks F n m known kept) (subst (λ v. Meets v I) (sym kept) meets) h.1 (p.1 I i meets)
    some (Split a b t u) n known meets h m =
        let p : ForkParts n a b = turns-parts n known _ h.0 in
        let kept : Keeps n (Forks a b) = turns-kept words marks F n (Forks a b) h.0 in
        two (λ i. below-some n known meets t a kept.0 (λ m l o p q. some t m l o p q) h.1 i) (λ i. below-some n known meets u b kept.1 (λ m l o p q. some u m l o p q) h.2 i) (p.all I m)
      where
        two : (InBranch a I → SomeOf (Covers I) (leaves t)) → (InBranch b I → SomeOf (Covers I) (leaves u)) → InBranch a I ⊎ InBranch b I → SomeOf (Covers I) (leaves t ++ leaves u)
        two f g (inl i) = some-left (Covers I) (leaves t) (leaves u) (f i)
        two f g (inr i) = some-right (Covers I) (leaves t) (leaves u) (g i)

    -- a member that meets its assumptions is covered by one row
    pub covered : (t : Tree) (n : Node) → Known n.invocation → Meets n.invocation I → IsTree words marks F t n → IsMember n I → OneOf (Covers I) (leaves t)
    covered t n known meets h m = one-of (Covers I) (leaves t) (once t n known h) (some t n known meets h m)
