-- What a row of an outcome says of the inputs that it covers.
use Rattle.std.proofs.Common.{◌≡◌, ◌≢◌, ℕ, List, [], ◌∷◌, ◌++◌, refl, sym, ap, ◌∙◌, subst}
use Rattle.wasm_ast.specs.declared.runs.Outcome.{Outcome}
use Rattle.wasm_ast.specs.declared.runs.Outcome.TheVariants.{Returns as Returned, Traps as Trapped, Fails as Failed, Assumes as AssumeFailed, Bound as BoundReached, Deep as TooDeep}
use Rattle.wasm_reduction.specs.Configurations.{Question}
use Rattle.wasm_reduction.specs.Runs.{answer_of}
use Rattle.wasm_reduction.specs.Scripts.{Script, Finished, Asked, Alike, Through, Passes, told, told_after, as_input, without_numbers}
use Rattle.fork_tree.specs.declared.rows.Kind.{Kind}
use Rattle.sym_state.specs.Nodes.{Node, IsScriptAt, IsMemberAt}
use Rattle.fork_tree.specs.Marks.{Words, Marks}
use Rattle.fork_tree.specs.Tree.{Leaf, kind_of, Goes, EndsBy, Forks, Branch, Under, Dead, Tree, End, Pass, Split, Below, IsTree, leaves}
use Rattle.fork_tree.specs.Covers.{Covers}
use Rattle.fork_tree.specs.Order.{PrintsLeast, Prints, PrintsItsLeast, EachLeaf, TellsRuns, TellsOutcome}
use Rattle.fork_tree.specs.code.Known.{Known}
use Rattle.fork_tree.proofs.Knowing.{left-outcome}
use Rattle.fork_tree.proofs.Same.{Keeps, KeptBranch, turns-kept}
use Rattle.fork_tree.proofs.Ordered.{prints}

-- the draws of a script, whatever was answered before it
same-draws : (A B : List ℕ) (s : Script) → (told_after A s).draws ≡ (told_after B s).draws
same-draws A B (Finished o d) = refl
same-draws A B (Asked q v d s) = same-draws (A ++ answer_of q v ∷ []) (B ++ answer_of q v ∷ []) s

left-draws : (Says : Question → ℕ → Type 0) (A : List ℕ) (s left : Script) → Through Says A s left → (told s).draws ≡ (told left).draws
left-draws Says [] s left h = ap (λ s. (told s).draws) h
left-draws Says (a ∷ A) (Finished o d) left h = absurd h
left-draws Says (a ∷ A) (Asked q v d s) left h = same-draws (answer_of q v ∷ []) [] s ∙ left-draws Says A s left h.2

-- a leaf whose row prints an outcome
module _ (l : Leaf) (known : Known l.node.invocation) (outcome : Outcome) (p : PrintsLeast l (Finished outcome l.row.draws)) where
  pub tells-runs : TellsRuns l outcome
  tells-runs = record { each = each; printed = printed; drawn_so = drawn_so }
    where
      member : IsMemberAt l.node (as_input l.row.draws) (Finished outcome l.row.draws)
      member = p.least.member

      at : (input : List ℕ) (left : Script) (h : IsMemberAt l.node input left) → without_numbers (told h.script).outcome ≡ without_numbers outcome
      at input (Asked q v d rest) h =
          absurd (known.alike l.node.answers (as_input l.row.draws) input member.script h.script (Finished outcome l.row.draws) (Asked q v d rest) member.is_script h.is_script member.past h.past)
      at input (Finished o d) h =
          let a : Alike (Finished outcome l.row.draws) (Finished o d) = known.alike l.node.answers (as_input l.row.draws) input member.script h.script (Finished outcome l.row.draws) (Finished o d) member.is_script h.is_script member.past h.past in
          ap without_numbers (left-outcome Passes l.node.answers h.script (Finished o d) h.past) ∙ sym a.0

      each : (input : List ℕ) (s : Script) → Covers input l → IsScriptAt l.node.invocation input s → without_numbers (told s).outcome ≡ without_numbers outcome
      each input s c is = ap (λ s. without_numbers (told s).outcome) (known.one input s c.1.script is c.1.is_script) ∙ at input c.0 c.1

      printed : (s : Script) → IsScriptAt l.node.invocation (as_input l.row.draws) s → (told s).outcome ≡ outcome
      printed s is = ap (λ s. (told s).outcome) (known.one (as_input l.row.draws) s member.script is member.is_script) ∙ left-outcome Passes l.node.answers member.script (Finished outcome l.row.draws) member.past

      drawn_so : (s : Script) → IsScriptAt l.node.invocation (as_input l.row.draws) s → (told s).draws ≡ l.row.draws
      drawn_so s is = ap (λ s. (told s).draws) (known.one (as_input l.row.draws) s member.script is member.is_script) ∙ left-draws Passes l.node.answers member.script (Finished outcome l.row.draws) member.past

-- outcomes of one kind are one, but for a failed assume
kind-same : (o p : Outcome) → o ≢ AssumeFailed → kind_of o ≡ kind_of p → o ≡ p
kind-same AssumeFailed p h e = absurd (h refl)
kind-same (Returned vs) (Returned us) h e = cc
kind-same (Trapped c) (Trapped d) h e = cc
kind-same Failed Failed h e = refl
kind-same BoundReached BoundReached h e = refl
kind-same TooDeep TooDeep h e = refl
kind-same (Returned vs) (Trapped d) h e = cc
kind-same (Returned vs) Failed h e = cc
kind-same (Returned vs) AssumeFailed h e = cc
kind-same (Returned vs) BoundReached h e = cc
kind-same (Returned vs) TooDeep h e = cc
kind-same (Trapped c) (Returned us) h e = cc
kind-same (Trapped c) Failed h e = cc
kind-same (Trapped c) AssumeFailed h e = cc
kind-same (Trapped c) BoundReached h e = cc
kind-same (Trapped c) TooDeep h e = cc
kind-same Failed (Returned us) h e = cc
kind-same Failed (Trapped d) h e = cc
kind-same Failed AssumeFailed h e = cc
kind-same Failed BoundReached h e = cc
kind-same Failed TooDeep h e = cc
kind-same BoundReached (Returned us) h e = cc
kind-same BoundReached (Trapped d) h e = cc
kind-same BoundReached Failed h e = cc
kind-same BoundReached AssumeFailed h e = cc
kind-same BoundReached TooDeep h e = cc
kind-same TooDeep (Returned us) h e = cc
kind-same TooDeep (Trapped d) h e = cc
kind-same TooDeep Failed h e = cc
kind-same TooDeep AssumeFailed h e = cc
kind-same TooDeep BoundReached h e = cc

abbrev PrintsOne : Leaf → Kind → Type 0
PrintsOne l kind = (outcome : Outcome) × (kind ≡ kind_of outcome) × PrintsLeast l (Finished outcome l.row.draws)

prints-one : (l : Leaf) (o : Outcome) → o ≢ AssumeFailed → Prints l (kind_of o) → PrintsOne l (kind_of o)
prints-one l (Returned vs) h p = p
prints-one l (Trapped c) h p = p
prints-one l Failed h p = p
prints-one l AssumeFailed h p = absurd (h refl)
prints-one l BoundReached h p = p
prints-one l TooDeep h p = p

tells : (l : Leaf) → Known l.node.invocation → PrintsItsLeast l → TellsOutcome l
tells l known p o e h =
    let q : PrintsOne l (kind_of o) = prints-one l o h (subst (λ kind. Prints l kind) e p) in
    tells-runs l known o (subst (λ o. PrintsLeast l (Finished o l.row.draws)) (sym (kind-same o q.0 h q.1)) q.2)

module _ (words : Words) (marks : Marks) (F : ℕ) where
  abbrev OfInvocation : Node → Leaf → Type 0
  OfInvocation n l = l.node.invocation ≡ n.invocation

  each-join : (P : Leaf → Type 0) (xs ys : List Leaf) → EachLeaf P xs → EachLeaf P ys → EachLeaf P (xs ++ ys)
  each-join P [] ys h k = k
  each-join P (x ∷ xs) ys h k = (h.0, each-join P xs ys h.1 k)

  each-by : (P Q : Leaf → Type 0) → ((l : Leaf) → P l → Q l) → (xs : List Leaf) → EachLeaf P xs → EachLeaf Q xs
  each-by P Q f [] h = tt
  each-by P Q f (x ∷ xs) h = (f x h.0, each-by P Q f xs h.1)

  below-leaves : (n : Node) (t : Tree) (b : Branch) → KeptBranch n b → ((m : Node) → IsTree words marks F t m → EachLeaf (OfInvocation m) (leaves t)) → Below (IsTree words marks F t) t b → EachLeaf (OfInvocation n) (leaves t)
  below-leaves n t (Under m) kept each h = each-by (OfInvocation m) (OfInvocation n) (λ l e. e ∙ kept) (leaves t) (each m h)
  below-leaves n t (Dead l) kept each h = subst (λ t. EachLeaf (OfInvocation n) (leaves t)) (sym h) (kept, tt)

  -- all leaves are of what is run
  leaves-kept : (t : Tree) (n : Node) → IsTree words marks F t n → EachLeaf (OfInvocation n) (leaves t)
  leaves-kept (End l) n h = (turns-kept words marks F n (EndsBy l) h, tt)
  leaves-kept (Pass m t) n h = each-by (OfInvocation m) (OfInvocation n) (λ l e. e ∙ turns-kept words marks F n (Goes m) h.0) (leaves t) (leaves-kept t m h.1)
  leaves-kept (Split a b t u) n h =
      let kept : Keeps n (Forks a b) = turns-kept words marks F n (Forks a b) h.0 in
      each-join (OfInvocation n) (leaves t) (leaves u) (below-leaves n t a kept.0 (λ m k. leaves-kept t m k) h.1) (below-leaves n u b kept.1 (λ m k. leaves-kept u m k) h.2)

  both : (n : Node) → Known n.invocation → (ls : List Leaf) → EachLeaf (OfInvocation n) ls → EachLeaf PrintsItsLeast ls → EachLeaf TellsOutcome ls
  both n known [] h k = tt
  both n known (l ∷ ls) h k = (tells l (subst (λ i. Known i) (sym h.0) known) k.0, both n known ls h.1 k.1)

  pub all-tell : (t : Tree) (n : Node) → Known n.invocation → IsTree words marks F t n → EachLeaf TellsOutcome (leaves t)
  all-tell t n known h = both n known (leaves t) (leaves-kept t n h) (prints words marks F t n known h)
