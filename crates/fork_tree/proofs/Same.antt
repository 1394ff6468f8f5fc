-- Each node has one turn, one tree and one list of rows.
use Rattle.std.proofs.Common.{inl, inr, ◌≡◌, ℕ, ◌≤◌, List, [], ◌∷◌, length, refl, sym, ap, ◌∙◌, subst, arith}
use Rattle.std.specs.Prelude.{Bool, true, false, not, ◌==◌, nat_lt, if◌then◌else◌}
use Rattle.bv_terms.specs.Terms.{is_number}
use Rattle.sym_state.specs.NextNodes.{gone_on, assumed}
use Rattle.wasm_ast.specs.declared.runs.Draw.{Draw}
use Rattle.wasm_reduction.specs.Configurations.{Test, Pick, Assume}
use Rattle.wasm_reduction.specs.Scripts.{Script, Finished, Asked, Past}
use Rattle.sym_state.specs.Nodes.{Node, IsMemberAt, draws_before}
use Rattle.fork_tree.specs.declared.rows.Row.{Row}
use Rattle.fork_tree.specs.Nodes.{IsLeastAt, IsLeastPick, Query, OfTest, OfPick, AsksOf, is_true}
use Rattle.fork_tree.specs.Marks.{Words, Marks}
use Rattle.fork_tree.specs.Tree.{Branch, Under, Dead, Turn, Goes, EndsBy, Forks, Either, IfTrue, Queries, Assuming, Picks, Does, Turns, Tree, End, Pass, Split, Below, IsTree, leaves, rows_of, Rows, passed, child, met, beside}
use Rattle.fork_tree.specs.code.Known.{Known}
use Rattle.fork_tree.proofs.Lists.{at-most-both}

pub past-same : (A : List ℕ) (r s t : Script) → Past A r s → Past A r t → s ≡ t
past-same [] r s t h k = sym h ∙ k
past-same (a ∷ A) (Finished o d) s t h k = absurd h
past-same (a ∷ A) (Asked q v d r) s t h k = past-same A r s t h.2 k.2

-- what is left of a member's run is determined
pub left-same : (n : Node) → Known n.invocation → (I : List ℕ) (s t : Script) → IsMemberAt n I s → IsMemberAt n I t → s ≡ t
left-same n known I s t h k =
    past-same n.answers k.script s t (subst (λ r. Past n.answers r s) (known.one I h.script k.script h.is_script k.is_script) h.past) k.past

-- ---- a turn keeps what is run

abbrev pub KeptBranch : Node → Branch → Type 0
KeptBranch n (Under m) = m.invocation ≡ n.invocation
KeptBranch n (Dead l) = l.node.invocation ≡ n.invocation

abbrev pub Keeps : Node → Turn → Type 0
Keeps n (Goes m) = m.invocation ≡ n.invocation
Keeps n (EndsBy l) = l.node.invocation ≡ n.invocation
Keeps n (Forks a b) = KeptBranch n a × KeptBranch n b

pub if-elim : (c : Bool) (X Y Z : Type 0) → (X → Z) → (Y → Z) → IfTrue c X Y → Z
if-elim true X Y Z f g h = f h
if-elim false X Y Z f g h = g h

pub either-elim : (P X Y Z : Type 0) → (X → Z) → (Y → Z) → Either P X Y → Z
either-elim P X Y Z f g (inl h) = f h.1
either-elim P X Y Z f g (inr h) = g h.1

module _ (words : Words) (marks : Marks) (F : ℕ) where
  becomes-kept : (n : Node) (x y : Turn) → Keeps n y → x ≡ y → Keeps n x
  becomes-kept n x y h e = subst (λ x. Keeps n x) (sym e) h

  passed-kept : (n : Node) (q : Query) (b : Bool) → (passed n q b).invocation ≡ n.invocation
  passed-kept n OfTest b = refl
  passed-kept n (OfPick a) b = refl

  pub child-kept : (n : Node) (q : Query) (c : Bool) → (child words n q c).invocation ≡ n.invocation
  child-kept n OfTest c = refl
  child-kept n (OfPick a) true = refl
  child-kept n (OfPick a) false = refl

  met-kept : (n : Node) → (met words n).invocation ≡ n.invocation
  met-kept n = go (is_number (words.asked n.answers))
    where
      go : (b : Bool) → (if b then gone_on n 1 else assumed n (words.asked n.answers)).invocation ≡ n.invocation
      go true = refl
      go false = refl

  beside-kept : (n : Node) (q : Query) (b : Bool) → Keeps n (beside words n q b)
  beside-kept n q false = (child-kept n q false, refl)
  beside-kept n q true = (refl, child-kept n q true)

  queries-kept : (n : Node) (draws : List Draw) (q : Query) (b : Bool) (x : Turn) → Queries words marks F n draws q b x → Keeps n x
  queries-kept n draws q b x =
      either-elim _ _ _ (Keeps n x) (becomes-kept n x _ (passed-kept n q b))
      (if-elim (nat_lt (length n.choices) F) _ _ (Keeps n x)
      (if-elim (marks.other n q b) _ _ (Keeps n x) (becomes-kept n x _ (beside-kept n q b)) (becomes-kept n x _ (child-kept n q false, child-kept n q true)))
      (becomes-kept n x _ refl))

  assuming-kept : (n : Node) (b : Bool) (x : Turn) → Assuming words marks n b x → Keeps n x
  assuming-kept n true x e = becomes-kept n x _ (met-kept n) e
  assuming-kept n false x h =
      if-elim (marks.meeting n) _ _ (Keeps n x) (becomes-kept n x _ refl)
      (either-elim _ _ _ (Keeps n x) (becomes-kept n x _ refl) (becomes-kept n x _ (met-kept n))) h

  does-kept : (n : Node) (s : Script) (x : Turn) → Does words marks F n s x → Keeps n x
  does-kept n (Finished o d) x e = becomes-kept n x _ refl e
  does-kept n (Asked Test v d s) x h = queries-kept n d OfTest (is_true v) x h
  does-kept n (Asked Assume v d s) x h = assuming-kept n (is_true v) x h
  does-kept n (Asked Pick v d s) x h =
      if-elim (marks.least n) _ _ (Keeps n x) (becomes-kept n x _ refl) (λ h. queries-kept n d (OfPick h.0) (not (v == h.0)) x h.2) h

  -- a turn keeps what is run
  pub turns-kept : (n : Node) (x : Turn) → Turns words marks F n x → Keeps n x
  turns-kept n x h = does-kept n h.0 x h.2

  least-drawn-same : (n : Node) (s t : Script) → IsLeastAt n s → IsLeastAt n t → draws_before s ≡ draws_before t
  least-drawn-same n s t h k = at-most-both (draws_before s) (draws_before t) (h.least _ t k.member) (k.least _ s h.member)

  least-same : (n : Node) → Known n.invocation → (s t : Script) → IsLeastAt n s → IsLeastAt n t → s ≡ t
  least-same n known s t h k =
      left-same n known (draws_before t) s t (subst (λ I. IsMemberAt n I s) (least-drawn-same n s t h k) h.member) k.member

  asks-of-both : (P Q : ℕ → Type 0) (R : Type 0) (s : Script) → ((v : ℕ) → P v → Q v → R) → AsksOf P s → AsksOf Q s → R
  asks-of-both P Q R (Finished o d) f h k = absurd h
  asks-of-both P Q R (Asked q v d s) f h k = f v h k

  pick-at-most : (n : Node) (a b : ℕ) → IsLeastPick n a → IsLeastPick n b → a ≤ b
  pick-at-most n a b h k =
      asks-of-both (λ v. v ≡ b) (λ v. a ≤ v) (a ≤ b) k.picked.1 (λ v e l. subst (λ v. a ≤ v) e l) k.picked.3 (h.least k.picked.0 k.picked.1 k.picked.2)

  pick-same : (n : Node) (a b : ℕ) → IsLeastPick n a → IsLeastPick n b → a ≡ b
  pick-same n a b h k = omega (arith, pick-at-most n a b h k, pick-at-most n b a k h)

  either-same : (P X Y U V Z : Type 0) → (X → U → Z) → (Y → V → Z) → Either P X Y → Either P U V → Z
  either-same P X Y U V Z f g (inl a) (inl b) = f a.1 b.1
  either-same P X Y U V Z f g (inl a) (inr b) = absurd (b.0 a.0)
  either-same P X Y U V Z f g (inr a) (inl b) = absurd (a.0 b.0)
  either-same P X Y U V Z f g (inr a) (inr b) = g a.1 b.1

  if-same : (c : Bool) (X Y U V Z : Type 0) → (X → U → Z) → (Y → V → Z) → IfTrue c X Y → IfTrue c U V → Z
  if-same true X Y U V Z f g h k = f h k
  if-same false X Y U V Z f g h k = g h k

  queries-same : (n : Node) (draws : List Draw) (q : Query) (b : Bool) (x y : Turn) → Queries words marks F n draws q b x → Queries words marks F n draws q b y → x ≡ y
  queries-same n draws q b x y =
      either-same _ _ _ _ _ (x ≡ y) (λ e f. e ∙ sym f)
      (if-same (nat_lt (length n.choices) F) _ _ _ _ (x ≡ y)
      (if-same (marks.other n q b) _ _ _ _ (x ≡ y) (λ e f. e ∙ sym f) (λ e f. e ∙ sym f))
      (λ e f. e ∙ sym f))

  assuming-same : (n : Node) (b : Bool) (x y : Turn) → Assuming words marks n b x → Assuming words marks n b y → x ≡ y
  assuming-same n true x y e f = e ∙ sym f
  assuming-same n false x y h k =
      if-same (marks.meeting n) _ _ _ _ (x ≡ y) (λ e f. e ∙ sym f) (either-same _ _ _ _ _ (x ≡ y) (λ e f. e ∙ sym f) (λ e f. e ∙ sym f)) h k

  picks-same : (n : Node) (draws : List Draw) (v : ℕ) (x y : Turn) → Picks words marks F n draws v x → Picks words marks F n draws v y → x ≡ y
  picks-same n draws v x y h k =
      if-same (marks.least n) _ _ _ _ (x ≡ y) (λ e f. e ∙ sym f)
      (λ f g. queries-same n draws (OfPick g.0) (not (v == g.0)) x y (subst (λ a. Queries words marks F n draws (OfPick a) (not (v == a)) x) (pick-same n f.0 g.0 f.1 g.1) f.2) g.2)
      h k

  does-same : (n : Node) (s : Script) (x y : Turn) → Does words marks F n s x → Does words marks F n s y → x ≡ y
  does-same n (Finished o d) x y e f = e ∙ sym f
  does-same n (Asked Test v d s) x y h k = queries-same n d OfTest (is_true v) x y h k
  does-same n (Asked Assume v d s) x y h k = assuming-same n (is_true v) x y h k
  does-same n (Asked Pick v d s) x y h k = picks-same n d v x y h k

  -- a node has one turn
  pub turns-same : (n : Node) → Known n.invocation → (x y : Turn) → Turns words marks F n x → Turns words marks F n y → x ≡ y
  turns-same n known x y h k = does-same n k.0 x y (subst (λ s. Does words marks F n s x) (least-same n known h.0 k.0 h.1 k.1) h.2) k.2

  -- what is known of a node is known of those as which it goes on
  pub known-on : (n m : Node) → Known n.invocation → m.invocation ≡ n.invocation → Known m.invocation
  known-on n m known e = subst (λ i. Known i) (sym e) known

  below-same : (t u : Tree) (b : Branch) (n : Node) → Known n.invocation → KeptBranch n b → ((m : Node) → Known m.invocation → IsTree words marks F t m → IsTree words marks F u m → t ≡ u) → Below (IsTree words marks F t) t b → Below (IsTree words marks F u) u b → t ≡ u
  below-same t u (Under m) n known kept same h k = same m (known-on n m known kept) h k
  below-same t u (Dead l) n known kept same h k = h ∙ sym k

  -- a node has one tree
  pub tree-same : (t u : Tree) (n : Node) → Known n.invocation → IsTree words marks F t n → IsTree words marks F u n → t ≡ u
  tree-same (End l) (End m) n known h k = let e : EndsBy l ≡ EndsBy m = turns-same n known _ _ h k in cc
  tree-same (End l) (Pass m u) n known h k = let e : EndsBy l ≡ Goes m = turns-same n known _ _ h k.0 in cc
  tree-same (End l) (Split c d u v) n known h k = let e : EndsBy l ≡ Forks c d = turns-same n known _ _ h k.0 in cc
  tree-same (Pass m t) (End l) n known h k = let e : Goes m ≡ EndsBy l = turns-same n known _ _ h.0 k in cc
  tree-same (Pass m t) (Pass p u) n known h k =
      let e : Goes m ≡ Goes p = turns-same n known _ _ h.0 k.0 in
      let f : m ≡ p = cc in
      let g : t ≡ u = tree-same t u p (known-on n p known (turns-kept n (Goes p) k.0)) (subst (λ m. IsTree words marks F t m) f h.1) k.1 in cc
  tree-same (Pass m t) (Split c d u v) n known h k = let e : Goes m ≡ Forks c d = turns-same n known _ _ h.0 k.0 in cc
  tree-same (Split a b r t) (End l) n known h k = let e : Forks a b ≡ EndsBy l = turns-same n known _ _ h.0 k in cc
  tree-same (Split a b r t) (Pass m u) n known h k = let e : Forks a b ≡ Goes m = turns-same n known _ _ h.0 k.0 in cc
  tree-same (Split a b r t) (Split c d u v) n known h k =
      let e : Forks a b ≡ Forks c d = turns-same n known _ _ h.0 k.0 in
      let kept : Keeps n (Forks c d) = turns-kept n (Forks c d) k.0 in
      let f : a ≡ c = cc in
      let g : b ≡ d = cc in
      let i : r ≡ u = below-same r u c n known kept.0 (λ m l p q. tree-same r u m l p q) (subst (λ a. Below (IsTree words marks F r) r a) f h.1) k.1 in
      let j : t ≡ v = below-same t v d n known kept.1 (λ m l p q. tree-same t v m l p q) (subst (λ b. Below (IsTree words marks F t) t b) g h.2) k.2 in
      cc

  -- a node has one list of rows
  pub rows-same : (n : Node) → Known n.invocation → (rs ss : List Row) → Rows words marks F n rs → Rows words marks F n ss → rs ≡ ss
  rows-same n known rs ss h k = h.2 ∙ ap (λ t. rows_of (leaves t)) (tree-same h.0 k.0 n known h.1 k.1) ∙ sym k.2
