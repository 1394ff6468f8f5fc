-- The rows rise in choice order, and print the least inputs.
use Rattle.std.proofs.Common.{inl, inr, ◌≡◌, ◌≢◌, ℕ, List, [], ◌∷◌, ◌++◌, length, refl, sym, ◌∙◌, subst, append_assoc, append-nil}
use Rattle.std.specs.Prelude.{Bool, true, false, not, ◌==◌, nat_lt, if◌then◌else◌}
use Rattle.bv_terms.specs.Terms.{is_number}
use Rattle.wasm_ast.specs.declared.runs.Outcome.TheVariants.{Returns as Returned, Traps as Trapped, Fails as Failed, Assumes as AssumeFailed, Bound as BoundReached, Deep as TooDeep}
use Rattle.wasm_ast.specs.declared.runs.Draw.{Draw}
use Rattle.wasm_ast.specs.declared.runs.Outcome.{Outcome}
use Rattle.wasm_reduction.specs.Configurations.{Test, Pick, Assume}
use Rattle.wasm_reduction.specs.Scripts.{Script, Finished, Asked, drawn}
use Rattle.fork_tree.specs.declared.rows.Kind.TheVariants.{Cut}
use Rattle.fork_tree.specs.declared.rows.Row.{Row}
use Rattle.fork_tree.specs.declared.rows.Terms.{Terms}
use Rattle.sym_state.specs.Nodes.{Node, draws_before}
use Rattle.sym_state.specs.NextNodes.{bit, gone_on, assumed}
use Rattle.fork_tree.specs.Nodes.{IsLeastAt, Query, OfTest, OfPick, is_true}
use Rattle.fork_tree.specs.Marks.{Words, Marks}
use Rattle.fork_tree.specs.ShownTerms.{no_terms}
use Rattle.fork_tree.specs.Tree.{child, passed, met, beside, leaf, Leaf, Whole, Branch, Under, Dead, Turn, Goes, EndsBy, Forks, kind_of, shown_of, Queries, Assuming, Does, Turns, Tree, End, Pass, Split, Below, IsTree, leaves, rows_of}
use Rattle.fork_tree.specs.code.Known.{Known}
use Rattle.fork_tree.specs.Order.{Before, EachRow, Rising, EachLeaf, PrintsItsLeast}
use Rattle.fork_tree.proofs.Same.{if-elim, either-elim, Keeps, KeptBranch, turns-kept, known-on}

abbrev Begins : List ℕ → List ℕ → Type 0
Begins xs ys = (zs : List ℕ) × (ys ≡ xs ++ zs)

begins-more : (xs zs ys : List ℕ) → Begins (xs ++ zs) ys → Begins xs ys
begins-more xs zs ys h = (zs ++ h.0, h.1 ∙ append_assoc xs zs h.0)

before-at : (xs ys zs : List ℕ) → Before (xs ++ 0 ∷ ys) (xs ++ 1 ∷ zs)
before-at [] ys zs = inl (refl, refl)
before-at (x ∷ xs) ys zs = inr (refl, before-at xs ys zs)

before-sides : (h xs ys : List ℕ) → Begins (h ++ 0 ∷ []) xs → Begins (h ++ 1 ∷ []) ys → Before xs ys
before-sides h xs ys a b =
    subst (λ ys. Before xs ys) (sym (b.1 ∙ append_assoc h (1 ∷ []) b.0))
    (subst (λ xs. Before xs (h ++ 1 ∷ b.0)) (sym (a.1 ∙ append_assoc h (0 ∷ []) a.0)) (before-at h a.0 b.0))

each-append : (P : Row → Type 0) (xs ys : List Leaf) → EachRow P (rows_of xs) → EachRow P (rows_of ys) → EachRow P (rows_of (xs ++ ys))
each-append P [] ys h k = k
each-append P (x ∷ xs) ys h k = (h.0, each-append P xs ys h.1 k)

each-leaf-append : (P : Leaf → Type 0) (xs ys : List Leaf) → EachLeaf P xs → EachLeaf P ys → EachLeaf P (xs ++ ys)
each-leaf-append P [] ys h k = k
each-leaf-append P (x ∷ xs) ys h k = (h.0, each-leaf-append P xs ys h.1 k)

each-map : (P Q : Row → Type 0) → ((r : Row) → P r → Q r) → (rs : List Row) → EachRow P rs → EachRow Q rs
each-map P Q f [] h = tt
each-map P Q f (r ∷ rs) h = (f r h.0, each-map P Q f rs h.1)

rising-append : (xs ys : List Leaf) → Rising (rows_of xs) → Rising (rows_of ys) → EachRow (λ r. EachRow (λ s. Before r.choices s.choices) (rows_of ys)) (rows_of xs) → Rising (rows_of (xs ++ ys))
rising-append [] ys h k b = k
rising-append (x ∷ xs) ys h k b = (each-append _ xs ys h.0 b.0, rising-append xs ys h.1 k b.1)

abbrev branch_choices : Branch → List ℕ
branch_choices (Under m) = m.choices
branch_choices (Dead l) = l.row.choices

-- the choices of what a turn makes
abbrev Chosen : Node → Turn → Type 0
Chosen n (EndsBy l) = l.row.choices ≡ n.choices
Chosen n (Goes m) = m.choices ≡ n.choices
Chosen n (Forks a b) = (branch_choices a ≡ n.choices ++ 0 ∷ []) × (branch_choices b ≡ n.choices ++ 1 ∷ [])

abbrev BranchPrints : Branch → Type 0
BranchPrints (Under m) = Unit {0}
BranchPrints (Dead l) = PrintsItsLeast l

abbrev TurnPrints : Turn → Type 0
TurnPrints (EndsBy l) = PrintsItsLeast l
TurnPrints (Goes m) = Unit {0}
TurnPrints (Forks a b) = BranchPrints a × BranchPrints b

module _ (words : Words) (marks : Marks) (F : ℕ) where
  -- ---- choices

  chosen-by : (n : Node) (x y : Turn) → Chosen n y → x ≡ y → Chosen n x
  chosen-by n x y h e = subst (λ x. Chosen n x) (sym e) h

  passed-choices : (n : Node) (q : Query) (b : Bool) → (passed n q b).choices ≡ n.choices
  passed-choices n OfTest b = refl
  passed-choices n (OfPick a) b = refl

  child-choices : (n : Node) (q : Query) (b : Bool) → (child words n q b).choices ≡ n.choices ++ bit b ∷ []
  child-choices n OfTest b = refl
  child-choices n (OfPick a) true = refl
  child-choices n (OfPick a) false = refl

  met-choices : (n : Node) → (met words n).choices ≡ n.choices
  met-choices n = go (is_number (words.asked n.answers))
    where
      go : (b : Bool) → (if b then gone_on n 1 else assumed n (words.asked n.answers)).choices ≡ n.choices
      go true = refl
      go false = refl

  beside-chosen : (n : Node) (q : Query) (b : Bool) → Chosen n (beside words n q b)
  beside-chosen n q true = (refl, child-choices n q true)
  beside-chosen n q false = (child-choices n q false, refl)

  queries-chosen : (n : Node) (d : List Draw) (q : Query) (b : Bool) (x : Turn) → Queries words marks F n d q b x → Chosen n x
  queries-chosen n d q b x =
      either-elim _ _ _ (Chosen n x) (chosen-by n x _ (passed-choices n q b))
      (if-elim (nat_lt (length n.choices) F) _ _ (Chosen n x)
      (if-elim (marks.other n q b) _ _ (Chosen n x) (chosen-by n x _ (beside-chosen n q b)) (chosen-by n x _ (child-choices n q false, child-choices n q true)))
      (chosen-by n x _ refl))

  assuming-chosen : (n : Node) (b : Bool) (x : Turn) → Assuming words marks n b x → Chosen n x
  assuming-chosen n true x e = chosen-by n x _ (met-choices n) e
  assuming-chosen n false x h =
      if-elim (marks.meeting n) _ _ (Chosen n x) (chosen-by n x _ refl)
      (either-elim _ _ _ (Chosen n x) (chosen-by n x _ refl) (chosen-by n x _ (met-choices n))) h

  does-chosen : (n : Node) (s : Script) (x : Turn) → Does words marks F n s x → Chosen n x
  does-chosen n (Finished o d) x e = chosen-by n x _ refl e
  does-chosen n (Asked Test v d s) x h = queries-chosen n d OfTest (is_true v) x h
  does-chosen n (Asked Assume v d s) x h = assuming-chosen n (is_true v) x h
  does-chosen n (Asked Pick v d s) x h =
      if-elim (marks.least n) _ _ (Chosen n x) (chosen-by n x _ refl) (λ h. queries-chosen n d (OfPick h.0) (not (v == h.0)) x h.2) h

  turns-chosen : (n : Node) (x : Turn) → Turns words marks F n x → Chosen n x
  turns-chosen n x h = does-chosen n h.0 x h.2

  abbrev StartWith : List ℕ → Tree → Type 0
  StartWith h t = EachRow (λ r. Begins h r.choices) (rows_of (leaves t))

  below-start : (t : Tree) (b : Branch) → ((m : Node) → IsTree words marks F t m → StartWith m.choices t) → Below (IsTree words marks F t) t b → StartWith (branch_choices b) t
  below-start t (Under m) start h = start m h
  below-start t (Dead l) start h = subst (λ t. StartWith l.row.choices t) (sym h) (([], sym (append-nil l.row.choices)), tt)

  start-more : (h c : List ℕ) (t : Tree) → StartWith (h ++ c) t → StartWith h t
  start-more h c t = each-map _ _ (λ r b. begins-more h c r.choices b) (rows_of (leaves t))

  -- the rows of a node have choices that begin with the node's
  start : (t : Tree) (n : Node) → IsTree words marks F t n → StartWith n.choices t
  start (End l) n h = (([], turns-chosen n _ h ∙ sym (append-nil n.choices)), tt)
  start (Pass m t) n h = subst (λ c. StartWith c t) (turns-chosen n _ h.0) (start t m h.1)
  start (Split a b t u) n h =
      let c : Chosen n (Forks a b) = turns-chosen n _ h.0 in
      each-append _ (leaves t) (leaves u)
      (start-more n.choices (0 ∷ []) t (subst (λ c. StartWith c t) c.0 (below-start t a (λ m k. start t m k) h.1)))
      (start-more n.choices (1 ∷ []) u (subst (λ c. StartWith c u) c.1 (below-start u b (λ m k. start u m k) h.2)))

  below-rising : (t : Tree) (b : Branch) → ((m : Node) → IsTree words marks F t m → Rising (rows_of (leaves t))) → Below (IsTree words marks F t) t b → Rising (rows_of (leaves t))
  below-rising t (Under m) rising h = rising m h
  below-rising t (Dead l) rising h = subst (λ t. Rising (rows_of (leaves t))) (sym h) (tt, tt)

  pub rising : (t : Tree) (n : Node) → IsTree words marks F t n → Rising (rows_of (leaves t))
  rising (End l) n h = (tt, tt)
  rising (Pass m t) n h = rising t m h.1
  rising (Split a b t u) n h =
      let c : Chosen n (Forks a b) = turns-chosen n _ h.0 in
      let first : StartWith (n.choices ++ 0 ∷ []) t = subst (λ c. StartWith c t) c.0 (below-start t a (λ m k. start t m k) h.1) in
      let second : StartWith (n.choices ++ 1 ∷ []) u = subst (λ c. StartWith c u) c.1 (below-start u b (λ m k. start u m k) h.2) in
      rising-append (leaves t) (leaves u) (below-rising t a (λ m k. rising t m k) h.1) (below-rising u b (λ m k. rising u m k) h.2)
      (each-map _ _ (λ r p. each-map _ _ (λ s q. before-sides n.choices r.choices s.choices p q) (rows_of (leaves u)) second) (rows_of (leaves t)) first)

  -- ---- what is printed

  prints-by : (x y : Turn) → TurnPrints y → x ≡ y → TurnPrints x
  prints-by x y h e = subst (λ x. TurnPrints x) (sym e) h

  prints-outcome : (n : Node) (outcome : Outcome) (d : List Draw) (shown : Terms) → outcome ≢ AssumeFailed → IsLeastAt n (Finished outcome d) → PrintsItsLeast (leaf n (kind_of outcome) d shown Whole)
  prints-outcome n (Returned vs) d shown passes least = (Returned vs, refl, record { least = least; draws = refl; whole = refl })
  prints-outcome n (Trapped cause) d shown passes least = (Trapped cause, refl, record { least = least; draws = refl; whole = refl })
  prints-outcome n Failed d shown passes least = (Failed, refl, record { least = least; draws = refl; whole = refl })
  prints-outcome n AssumeFailed d shown passes least = absurd (passes refl)
  prints-outcome n BoundReached d shown passes least = (BoundReached, refl, record { least = least; draws = refl; whole = refl })
  prints-outcome n TooDeep d shown passes least = (TooDeep, refl, record { least = least; draws = refl; whole = refl })

  prints-cut : (n : Node) (s : Script) → IsLeastAt n s → PrintsItsLeast (leaf n Cut (drawn s) no_terms Whole)
  prints-cut n s least = (s, record { least = least; draws = refl; whole = refl })

  beside-prints : (n : Node) (q : Query) (b : Bool) → TurnPrints (beside words n q b)
  beside-prints n q true = (refl, tt)
  beside-prints n q false = (tt, refl)

  queries-print : (n : Node) (s : Script) → IsLeastAt n s → (q : Query) (b : Bool) (x : Turn) → Queries words marks F n (drawn s) q b x → TurnPrints x
  queries-print n s least q b x =
      either-elim _ _ _ (TurnPrints x) (prints-by x _ tt)
      (if-elim (nat_lt (length n.choices) F) _ _ (TurnPrints x)
      (if-elim (marks.other n q b) _ _ (TurnPrints x) (prints-by x _ (beside-prints n q b)) (prints-by x _ (tt, tt)))
      (prints-by x _ (prints-cut n s least)))

  assuming-print : (n : Node) (b : Bool) (x : Turn) → Assuming words marks n b x → TurnPrints x
  assuming-print n true x e = prints-by x _ tt e
  assuming-print n false x h =
      if-elim (marks.meeting n) _ _ (TurnPrints x) (prints-by x _ refl)
      (either-elim _ _ _ (TurnPrints x) (prints-by x _ refl) (prints-by x _ tt)) h

  does-print : (n : Node) → Known n.invocation → (s : Script) → IsLeastAt n s → (x : Turn) → Does words marks F n s x → TurnPrints x
  does-print n known (Finished o d) least x e =
      prints-by x _ (prints-outcome n o d (shown_of words n o) (known.kept n.answers (draws_before (Finished o d)) o d least.member.script least.member.is_script least.member.past) least) e
  does-print n known (Asked Test v d s) least x h = queries-print n (Asked Test v d s) least OfTest (is_true v) x h
  does-print n known (Asked Assume v d s) least x h = assuming-print n (is_true v) x h
  does-print n known (Asked Pick v d s) least x h =
      if-elim (marks.least n) _ _ (TurnPrints x) (prints-by x _ refl) (λ h. queries-print n (Asked Pick v d s) least (OfPick h.0) (not (v == h.0)) x h.2) h

  turns-print : (n : Node) → Known n.invocation → (x : Turn) → Turns words marks F n x → TurnPrints x
  turns-print n known x h = does-print n known h.0 h.1 x h.2

  below-prints : (n : Node) → Known n.invocation → (t : Tree) (b : Branch) → KeptBranch n b → ((m : Node) → Known m.invocation → IsTree words marks F t m → EachLeaf PrintsItsLeast (leaves t)) → BranchPrints b → Below (IsTree words marks F t) t b → EachLeaf PrintsItsLeast (leaves t)
  below-prints n known t (Under m) kept prints p h = prints m (known-on words marks F n m known kept) h
  below-prints n known t (Dead l) kept prints p h = subst (λ t. EachLeaf PrintsItsLeast (leaves t)) (sym h) (p, tt)

  pub prints : (t : Tree) (n : Node) → Known n.invocation → IsTree words marks F t n → EachLeaf PrintsItsLeast (leaves t)
  prints (End l) n known h = (turns-print n known _ h, tt)
  prints (Pass m t) n known h = prints t m (known-on words marks F n m known (turns-kept words marks F n (Goes m) h.0)) h.1
  prints (Split a b t u) n known h =
      let c : TurnPrints (Forks a b) = turns-print n known _ h.0 in
      let kept : Keeps n (Forks a b) = turns-kept words marks F n (Forks a b) h.0 in
      each-leaf-append PrintsItsLeast (leaves t) (leaves u) (below-prints n known t a kept.0 (λ m l k. prints t m l k) c.0 h.1) (below-prints n known u b kept.1 (λ m l k. prints u m l k) c.1 h.2)
