-- The members of a node are those of the sides of its question.
use Rattle.std.proofs.Common.{◌⊎◌, inl, inr, ◌≡◌, ◌≢◌, ℕ, zero, suc, List, [], ◌∷◌, ◌++◌, refl, sym, ap, ◌∙◌, subst, arith}
use Rattle.std.specs.Prelude.{Bool, true, false, not, ◌==◌}
use Rattle.wasm_ast.specs.declared.runs.Draw.{Draw}
use Rattle.wasm_reduction.specs.Configurations.{Question, Test, Pick, Assume}
use Rattle.wasm_reduction.specs.Runs.{answer_of, is_not_zero}
use Rattle.wasm_reduction.specs.Scripts.{Script, Finished, Asked, Past, Passes, Alike}
use Rattle.sym_state.specs.Nodes.{IsScriptAt, Node, IsNoneOf, IsAllowed, IsMemberAt, IsMember}
use Rattle.sym_state.specs.NextNodes.{bit}
use Rattle.fork_tree.specs.Nodes.{Query, OfTest, OfPick, AsksOf, is_true, side_of}
use Rattle.fork_tree.specs.Marks.{Words}
use Rattle.fork_tree.specs.Tree.{child}
use Rattle.fork_tree.specs.code.Known.{Known}
use Rattle.fork_tree.specs.code.Parts.{OnSide, Fits}
use Rattle.fork_tree.proofs.Same.{left-same}

pub past-more : (A : List ℕ) (r s : Script) (k : Question) (v : ℕ) (d : List Draw) → Past A r (Asked k v d s) → Passes k v → Past (A ++ answer_of k v ∷ []) r s
past-more [] r s k v d h p = subst (λ r. Past (answer_of k v ∷ []) r s) (sym h) (refl, p, refl)
past-more (a ∷ A) (Finished o e) s k v d h p = absurd h
past-more (a ∷ A) (Asked q u e r) s k v d h p = (h.0, h.1, past-more A r s k v d h.2 p)

pub past-back : (A : List ℕ) (a : ℕ) (r s : Script) → Past (A ++ a ∷ []) r s → (k : Question) × (v : ℕ) × (d : List Draw) × Past A r (Asked k v d s) × (answer_of k v ≡ a) × Passes k v
past-back [] a (Finished o e) s h = absurd h
past-back [] a (Asked k v d r) s h = (k, v, d, ap (λ s. Asked k v d s) h.2, h.0, h.1)
past-back (b ∷ A) a (Finished o e) s h = absurd h
past-back (b ∷ A) a (Asked q u e r) s h =
    let i : (k : Question) × (v : ℕ) × (d : List Draw) × Past A r (Asked k v d s) × (answer_of k v ≡ a) × Passes k v = past-back A a r s h.2 in
    (i.0, i.1, i.2, (h.0, h.1, i.3), i.4, i.5)

-- the answer to a test, as a side
pub bit-true : (v : ℕ) → is_not_zero v ≡ bit (is_true v)
bit-true zero = refl
bit-true (suc v) = refl

true-other : (v : ℕ) → is_true v ≡ true → v ≢ 0
true-other zero e f = cc
true-other (suc v) e f = omega (arith, f)

pub bit-same : (b c : Bool) → bit b ≡ bit c → b ≡ c
bit-same true true e = refl
bit-same true false e = absurd (omega (arith, e))
bit-same false true e = absurd (omega (arith, e))
bit-same false false e = refl

differ-true : (u a : ℕ) → u ≢ a → not (u == a) ≡ true
differ-true u a h = grind (arith, h)

pub same-false : (u a : ℕ) → u ≡ a → not (u == a) ≡ false
same-false u a e = grind (arith, e)

false-same : (u a : ℕ) → not (u == a) ≡ false → u ≡ a
false-same u a e = grind (arith, e)

true-differ : (u a : ℕ) → not (u == a) ≡ true → u ≢ a
true-differ u a e f = grind (arith, e, f)

-- where a test or an assume is next, no number is excluded
plain-test : (E : List ℕ) (v : ℕ) (d : List Draw) (s t : Script) → IsAllowed E (Asked Test v d s) → IsAllowed E t
plain-test [] v d s t h = tt
plain-test (e ∷ es) v d s t h = absurd h

plain-assume : (E : List ℕ) (v : ℕ) (d : List Draw) (s t : Script) → IsAllowed E (Asked Assume v d s) → IsAllowed E t
plain-assume [] v d s t h = tt
plain-assume (e ∷ es) v d s t h = absurd h

-- a number that is picked may be picked
picked-allowed : (E : List ℕ) (a : ℕ) (s t : Script) (d : List Draw) → IsAllowed E s → AsksOf (λ v. v ≡ a) s → IsAllowed E (Asked Pick a d t)
picked-allowed [] a s t d h k = tt
picked-allowed (e ∷ es) a (Finished o f) t d h k = absurd h
picked-allowed (e ∷ es) a (Asked Test v f s) t d h k = absurd h
picked-allowed (e ∷ es) a (Asked Assume v f s) t d h k = absurd h
picked-allowed (e ∷ es) a (Asked Pick v f s) t d h k = subst (λ v. IsNoneOf (e ∷ es) v) k h

none-split : (E : List ℕ) (u a : ℕ) → IsNoneOf (E ++ a ∷ []) u → IsNoneOf E u × (u ≢ a)
none-split [] u a h = (tt, h.0)
none-split (e ∷ E) u a h = let i : IsNoneOf E u × (u ≢ a) = none-split E u a h.1 in ((h.0, i.0), i.1)

none-join : (E : List ℕ) (u a : ℕ) → IsNoneOf E u → u ≢ a → IsNoneOf (E ++ a ∷ []) u
none-join [] u a h k = (k, tt)
none-join (e ∷ E) u a h k = (h.0, none-join E u a h.1 k)

beyond-split : (E : List ℕ) (a : ℕ) (t : Script) → IsAllowed (E ++ a ∷ []) t → IsAllowed E t × AsksOf (λ u. not (u == a) ≡ true) t
beyond-split [] a (Finished o d) h = absurd h
beyond-split [] a (Asked Test u d t) h = absurd h
beyond-split [] a (Asked Assume u d t) h = absurd h
beyond-split [] a (Asked Pick u d t) h = (tt, differ-true u a h.0)
beyond-split (e ∷ es) a (Finished o d) h = absurd h
beyond-split (e ∷ es) a (Asked Test u d t) h = absurd h
beyond-split (e ∷ es) a (Asked Assume u d t) h = absurd h
beyond-split (e ∷ es) a (Asked Pick u d t) h = let i : IsNoneOf (e ∷ es) u × (u ≢ a) = none-split (e ∷ es) u a h in (i.0, differ-true u a i.1)

beyond-join : (E : List ℕ) (a u : ℕ) (d : List Draw) (t : Script) → IsAllowed E (Asked Pick u d t) → u ≢ a → IsAllowed (E ++ a ∷ []) (Asked Pick u d t)
beyond-join [] a u d t h k = (k, tt)
beyond-join (e ∷ es) a u d t h k = none-join (e ∷ es) u a h k

-- a member, by its parts
member-at : (n : Node) (I : List ℕ) (s t : Script) → IsScriptAt n.invocation I s → Past n.answers s t → IsAllowed n.excluded t → IsMemberAt n I t
member-at n I s t is past allowed = record { script = s; is_script = is; past = past; allowed = allowed }

module _ (words : Words) (n : Node) (known : Known n.invocation) (w : List ℕ) where
  -- an input that has answered alike is asked alike
  pub asked-alike : (k : Question) (v : ℕ) (d : List Draw) (s : Script) → IsMemberAt n w (Asked k v d s) → (I : List ℕ) (r : Script) → IsScriptAt n.invocation I r → (l : Question) (u : ℕ) (e : List Draw) (t : Script) →
      Past n.answers r (Asked l u e t) → Past n.answers r (Asked k u e t)
  asked-alike k v d s st I r is l u e t h =
      let a : Alike (Asked k v d s) (Asked l u e t) = known.alike n.answers w I st.script r (Asked k v d s) (Asked l u e t) st.is_script is st.past h in
      subst (λ l. Past n.answers r (Asked l u e t)) (sym a.0) h

  -- the same of an answer to it
  answer-alike : (k : Question) (v : ℕ) (d : List Draw) (s : Script) → IsMemberAt n w (Asked k v d s) → (I : List ℕ) (r : Script) → IsScriptAt n.invocation I r → (l : Question) (u : ℕ) (e : List Draw) (t : Script) →
      Past n.answers r (Asked l u e t) → (a : ℕ) → answer_of l u ≡ a → answer_of k u ≡ a
  answer-alike k v d s st I r is l u e t h a f =
      let i : Alike (Asked k v d s) (Asked l u e t) = known.alike n.answers w I st.script r (Asked k v d s) (Asked l u e t) st.is_script is st.past h in
      subst (λ l. answer_of l u ≡ a) (sym i.0) f

  -- a member of the child is a member on that side
  pub leave : (k : Question) (v : ℕ) (d : List Draw) (s : Script) → IsMemberAt n w (Asked k v d s) → (q : Query) (c : Bool) → Fits n k q c →
      (I : List ℕ) → IsMember (child words n q c) I → OnSide n q c I
  leave Test v d s st (OfPick a) c fits I h = absurd fits
  leave Assume v d s st (OfPick a) c fits I h = absurd fits
  leave Pick v d s st OfTest c fits I h = absurd fits
  leave Test v d s st OfTest c fits I h =
      let b = past-back n.answers (bit c) h.1.script h.0 h.1.past in (
        Asked b.0 b.1 b.2 h.0,
        member-at n I h.1.script (Asked b.0 b.1 b.2 h.0) h.1.is_script b.3 (plain-test n.excluded v d s (Asked b.0 b.1 b.2 h.0) st.allowed),
        bit-same (is_true b.1) c (sym (bit-true b.1) ∙ answer-alike Test v d s st I h.1.script h.1.is_script b.0 b.1 b.2 h.0 b.3 (bit c) b.4),
      )
  leave Assume v d s st OfTest c fits I h =
      let b = past-back n.answers (bit c) h.1.script h.0 h.1.past in (
        Asked b.0 b.1 b.2 h.0,
        member-at n I h.1.script (Asked b.0 b.1 b.2 h.0) h.1.is_script b.3 (plain-assume n.excluded v d s (Asked b.0 b.1 b.2 h.0) st.allowed),
        bit-same (is_true b.1) c (sym (bit-true b.1) ∙ answer-alike Assume v d s st I h.1.script h.1.is_script b.0 b.1 b.2 h.0 b.3 (bit c) b.4),
      )
  leave Pick v d s st (OfPick a) false fits I h =
      let b = past-back n.answers a h.1.script h.0 h.1.past in
      let e : b.1 ≡ a = answer-alike Pick v d s st I h.1.script h.1.is_script b.0 b.1 b.2 h.0 b.3 a b.4 in
      let p : Past n.answers h.1.script (Asked Pick b.1 b.2 h.0) = asked-alike Pick v d s st I h.1.script h.1.is_script b.0 b.1 b.2 h.0 b.3 in
      let l : IsAllowed n.excluded (Asked Pick a b.2 h.0) = picked-allowed n.excluded a fits.picked.1 h.0 b.2 fits.picked.2.allowed fits.picked.3 in
      (Asked Pick b.1 b.2 h.0, member-at n I h.1.script (Asked Pick b.1 b.2 h.0) h.1.is_script p (subst (λ u. IsAllowed n.excluded (Asked Pick u b.2 h.0)) (sym e) l), same-false b.1 a e)
  leave Pick v d s st (OfPick a) true fits I h =
      let b = beyond-split n.excluded a h.0 h.1.allowed in
      (h.0, member-at n I h.1.script h.0 h.1.is_script h.1.past b.0, b.1)

  -- a member on that side is a member of the child
  pub enter : (k : Question) (v : ℕ) (d : List Draw) (s : Script) → IsMemberAt n w (Asked k v d s) → (q : Query) (c : Bool) → Fits n k q c →
      (I : List ℕ) (t : Script) → IsMemberAt n I t → AsksOf (λ u. side_of q u ≡ c) t → IsMember (child words n q c) I
  enter k v d s st q c fits I (Finished o e) h on = absurd on
  enter Test v d s st (OfPick a) c fits I (Asked l u e t) h on = absurd fits
  enter Assume v d s st (OfPick a) c fits I (Asked l u e t) h on = absurd fits
  enter Pick v d s st OfTest c fits I (Asked l u e t) h on = absurd fits
  enter Test v d s st OfTest c fits I (Asked l u e t) h on =
      let p : Past n.answers h.script (Asked Test u e t) = asked-alike Test v d s st I h.script h.is_script l u e t h.past in
      (t, member-at (child words n OfTest c) I h.script t h.is_script (subst (λ a. Past (n.answers ++ a ∷ []) h.script t) (bit-true u ∙ ap (λ b. bit b) on) (past-more n.answers h.script t Test u e p tt)) tt)
  enter Assume v d s st OfTest c fits I (Asked l u e t) h on =
      let p : Past n.answers h.script (Asked Assume u e t) = asked-alike Assume v d s st I h.script h.is_script l u e t h.past in
      (t, member-at (child words n OfTest c) I h.script t h.is_script (subst (λ a. Past (n.answers ++ a ∷ []) h.script t) (bit-true u ∙ ap (λ b. bit b) on) (past-more n.answers h.script t Assume u e p (true-other u (on ∙ fits)))) tt)
  enter Pick v d s st (OfPick a) false fits I (Asked l u e t) h on =
      let p : Past n.answers h.script (Asked Pick u e t) = asked-alike Pick v d s st I h.script h.is_script l u e t h.past in
      (t, member-at (child words n (OfPick a) false) I h.script t h.is_script (subst (λ b. Past (n.answers ++ b ∷ []) h.script t) (false-same u a on) (past-more n.answers h.script t Pick u e p tt)) tt)
  enter Pick v d s st (OfPick a) true fits I (Asked l u e t) h on =
      let i : Alike (Asked Pick v d s) (Asked l u e t) = known.alike n.answers w I st.script h.script (Asked Pick v d s) (Asked l u e t) st.is_script h.is_script st.past h.past in
      let p : Past n.answers h.script (Asked Pick u e t) = asked-alike Pick v d s st I h.script h.is_script l u e t h.past in
      let a' : IsAllowed n.excluded (Asked Pick u e t) = subst (λ l. IsAllowed n.excluded (Asked l u e t)) (sym i.0) h.allowed in
      (Asked Pick u e t, member-at (child words n (OfPick a) true) I h.script (Asked Pick u e t) h.is_script p (beyond-join n.excluded a u e t a' (true-differ u a on)))

  -- each member answers one way or the other
  pub sided : (k : Question) (v : ℕ) (d : List Draw) (s : Script) → IsMemberAt n w (Asked k v d s) → (q : Query) (I : List ℕ) → IsMember n I → OnSide n q false I ⊎ OnSide n q true I
  sided k v d s st q I h = go h.0 h.1
    where
      two : (t : Script) (l : Question) (u : ℕ) (e : List Draw) → IsMemberAt n I (Asked l u e t) → (b : Bool) → side_of q u ≡ b → OnSide n q false I ⊎ OnSide n q true I
      two t l u e h false f = inl (Asked l u e t, h, f)
      two t l u e h true f = inr (Asked l u e t, h, f)

      go : (t : Script) → IsMemberAt n I t → OnSide n q false I ⊎ OnSide n q true I
      go (Finished o e) h = absurd (known.alike n.answers w I st.script h.script (Asked k v d s) (Finished o e) st.is_script h.is_script st.past h.past)
      go (Asked l u e t) h = two t l u e h (side_of q u) refl

pub one-side : (n : Node) → Known n.invocation → (q : Query) (I : List ℕ) → OnSide n q false I → OnSide n q true I → ⊥
one-side n known q I h k = go k.0 k.2 (subst (λ t. AsksOf (λ v. side_of q v ≡ false) t) (left-same n known I h.0 k.0 h.1 k.1) h.2)
  where
    go : (t : Script) → AsksOf (λ v. side_of q v ≡ true) t → AsksOf (λ v. side_of q v ≡ false) t → ⊥
    go (Finished o e) a b = a
    go (Asked l u e t) a b = let c : true ≡ false = sym a ∙ b in cc
