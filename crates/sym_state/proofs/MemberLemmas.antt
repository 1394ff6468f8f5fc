-- Members of a node and of those that follow it.
use Rattle.std.proofs.Common.{◌≡◌, ◌≢◌, ℕ, zero, suc, List, [], ◌∷◌, ◌++◌, refl, sym, ap, ◌∙◌, subst}
use Rattle.std.specs.Prelude.{Bool, true, false}
use Rattle.wasm_ast.specs.declared.runs.Draw.{Draw}
use Rattle.wasm_reduction.specs.Configurations.{Question, Test, Pick, Assume}
use Rattle.wasm_reduction.specs.Runs.{answer_of, is_not_zero}
use Rattle.wasm_reduction.specs.Scripts.{Script, Finished, Asked, Passes, Past, Alike}
use Rattle.wasm_reduction.proofs.ScriptLaws.{left-comes}
use Rattle.wasm_reduction.proofs.ScriptPlaces.{firsts-alike}
use Rattle.bv_terms.specs.Terms.{Term, value_of}
use Rattle.sym_state.specs.Nodes.{Invocation, CanExplore, Condition, IsMet, AreMet, Node, IsScriptAt, IsNoneOf, PicksNoneOf, IsAllowed, IsMemberAt, IsMember}
use Rattle.sym_state.specs.NextNodes.{bit, Begins, MembersAsk}
use Rattle.sym_state.proofs.ScriptLemmas.{past-more, past-less}

-- ---- conditions

pub met-more : (I : List ℕ) (C : List Condition) (c : Condition) → AreMet I C → IsMet I c → AreMet I (C ++ c ∷ [])
met-more I [] c h k = (k, tt)
met-more I (d ∷ C) c h k = (h.0, met-more I C c h.1 k)

pub met-less : (I : List ℕ) (C : List Condition) (c : Condition) → AreMet I (C ++ c ∷ []) → AreMet I C × IsMet I c
met-less I [] c h = (tt, h.0)
met-less I (d ∷ C) c h = let r = met-less I C c h.1 in ((h.0, r.0), r.1)

-- ---- answers

pub not-zero : (k : ℕ) → k ≢ 0 → is_not_zero k ≡ 1
not-zero zero h = absurd (h refl)
not-zero (suc k) h = refl

pub from-one : (k : ℕ) → is_not_zero k ≡ 1 → k ≢ 0
from-one zero e h = absurd cc
from-one (suc k) e h = absurd cc

pub from-zero : (k : ℕ) → is_not_zero k ≡ 0 → k ≡ 0
from-zero zero e = refl
from-zero (suc k) e = absurd cc

pub met-answers : (I : List ℕ) (t : Term) (side : Bool) → IsMet I (t, side) → is_not_zero (value_of I t) ≡ bit side
met-answers I t true h = not-zero (value_of I t) h
met-answers I t false h = ap is_not_zero h

pub answers-met : (I : List ℕ) (t : Term) (side : Bool) → is_not_zero (value_of I t) ≡ bit side → IsMet I (t, side)
answers-met I t true e = from-one (value_of I t) e
answers-met I t false e = from-zero (value_of I t) e

-- ---- excluded numbers

pub none-more : (E : List ℕ) (a v : ℕ) → IsNoneOf E v → v ≢ a → IsNoneOf (E ++ a ∷ []) v
none-more [] a v h d = (d, tt)
none-more (e ∷ E) a v h d = (h.0, none-more E a v h.1 d)

pub none-less : (E : List ℕ) (a v : ℕ) → IsNoneOf (E ++ a ∷ []) v → IsNoneOf E v × (v ≢ a)
none-less [] a v h = (tt, h.0)
none-less (e ∷ E) a v h = let r = none-less E a v h.1 in ((h.0, r.0), r.1)

pub allowed-more : (E : List ℕ) (a v : ℕ) (d : List Draw) (rest : Script) → IsAllowed E (Asked Pick v d rest) → v ≢ a → IsAllowed (E ++ a ∷ []) (Asked Pick v d rest)
allowed-more [] a v d rest h differ = (differ, tt)
allowed-more (e ∷ E) a v d rest h differ = none-more (e ∷ E) a v h differ

-- where a number is excluded last, a pick of none of the others and not of it comes next
pub allowed-less : (E : List ℕ) (a : ℕ) (left : Script) → IsAllowed (E ++ a ∷ []) left → IsAllowed E left × ((v : ℕ) → Begins Pick v left → v ≢ a)
allowed-less [] a (Finished o d) h = absurd h
allowed-less [] a (Asked Test u d s) h = absurd h
allowed-less [] a (Asked Assume u d s) h = absurd h
allowed-less [] a (Asked Pick u d s) h = (tt, λ v b. subst (λ v. v ≢ a) b.1 h.0)
allowed-less (e ∷ E) a (Finished o d) h = absurd h
allowed-less (e ∷ E) a (Asked Test u d s) h = absurd h
allowed-less (e ∷ E) a (Asked Assume u d s) h = absurd h
allowed-less (e ∷ E) a (Asked Pick u d s) h = let r = none-less (e ∷ E) a u h in (r.0, λ v b. subst (λ v. v ≢ a) b.1 r.1)

-- ---- members

module _ (n : Node) where
  abbrev i : Invocation
  i = n.invocation

  -- an answer more
  pub record After (I : List ℕ) (answer : ℕ) : Type 0 where
    pub script : Script
    pub is_script : IsScriptAt n.invocation I script
    pub rest : Script
    pub past : Past (n.answers ++ answer ∷ []) script rest

  pub enter : (q : Question) (v answer : ℕ) (I : List ℕ) (left : Script) → IsMemberAt n I left → Begins q v left → answer_of q v ≡ answer → Passes q v → After I answer
  enter q v answer I (Finished o d) at b e p = absurd b
  enter q v answer I (Asked r u d rest) at b e p = record {
    script = at.script;
    is_script = at.is_script;
    rest = rest;
    past =
        subst (λ a. Past (n.answers ++ a ∷ []) at.script rest) (ap (λ q. answer_of q u) b.0 ∙ ap (λ v. answer_of q v) b.1 ∙ e)
        (past-more n.answers at.script rest r u d at.past (subst (λ q. Passes q u) (sym b.0) (subst (λ v. Passes q v) (sym b.1) p)));
  }

  -- an answer less, where what comes before it is allowed
  pub leave : (q : Question) (t : Term) (answer : ℕ) (I : List ℕ) (script rest : Script) → MembersAsk n q t → IsScriptAt n.invocation I script → Past (n.answers ++ answer ∷ []) script rest
      → ((p : Question) (v : ℕ) (d : List Draw) → Past n.answers script (Asked p v d rest) → answer_of p v ≡ answer → IsAllowed n.excluded (Asked p v d rest))
      → IsMember n I × (answer_of q (value_of I t) ≡ answer) × Passes q (value_of I t)
  leave q t answer I script rest asks is past allowed =
      let b = past-less n.answers answer script rest past in
      let left = Asked b.question b.number b.draws rest in
      let at : IsMemberAt n I left = record { script = script; is_script = is; past = b.past; allowed = allowed b.question b.number b.draws b.past b.answer } in
      let e : (b.question ≡ q) × (b.number ≡ value_of I t) = asks I left at in (
        (left, at),
        ap (λ q. answer_of q (value_of I t)) (sym e.0) ∙ ap (λ v. answer_of b.question v) (sym e.1) ∙ b.answer,
        subst (λ q. Passes q (value_of I t)) e.0 (subst (λ v. Passes b.question v) e.1 b.passes),
      )

  -- no number is excluded where a member is asked a test or an assume
  pub none-excluded : (J : List ℕ) (left : Script) (q : Question) (v : ℕ) → q ≢ Pick → IsMemberAt n J left → Begins q v left → (s : Script) → IsAllowed n.excluded s
  none-excluded J left q v other at b s = go n.excluded left at.allowed b
    where
      go : (E : List ℕ) (left : Script) → IsAllowed E left → Begins q v left → IsAllowed E s
      go [] left h b = tt
      go (e ∷ E) (Finished o d) h b = absurd h
      go (e ∷ E) (Asked Test u d r) h b = absurd h
      go (e ∷ E) (Asked Assume u d r) h b = absurd h
      go (e ∷ E) (Asked Pick u d r) h b = absurd (other (sym b.0))

  -- what another input answers as a member does, is allowed as well
  pub allowed-alike : CanExplore n.invocation → (J : List ℕ) (mine : Script) (q : Question) (w answer : ℕ) → IsMemberAt n J mine → Begins q w mine → answer_of q w ≡ answer
      → (I : List ℕ) (script rest : Script) (p : Question) (v : ℕ) (d : List Draw) → IsScriptAt n.invocation I script → Past n.answers script (Asked p v d rest) → answer_of p v ≡ answer
      → IsAllowed n.excluded (Asked p v d rest)
  allowed-alike can J mine q w answer at b e I script rest p v d is past f = go n.excluded mine at.allowed b alike
    where
      alike : Alike mine (Asked p v d rest)
      alike =
          firsts-alike i.«module» i.entry i.args i.steps can.has_numbers can.can.valid can.can.ready can.fitting n.answers J I mine (Asked p v d rest)
          (left-comes i.«module» i.entry i.args J i.steps Passes n.answers at.script mine at.is_script at.past)
          (left-comes i.«module» i.entry i.args I i.steps Passes n.answers script (Asked p v d rest) is past)

      picked : (E : List ℕ) (u : ℕ) → Pick ≡ p → Pick ≡ q → u ≡ w → IsNoneOf E u → IsNoneOf E v
      picked E u k l same h =
          let mine : w ≡ answer = ap (λ q. answer_of q w) l ∙ e in
          let theirs : v ≡ answer = ap (λ q. answer_of q v) k ∙ f in
          subst (λ v. IsNoneOf E v) (same ∙ mine ∙ sym theirs) h

      go : (E : List ℕ) (mine : Script) → IsAllowed E mine → Begins q w mine → Alike mine (Asked p v d rest) → IsAllowed E (Asked p v d rest)
      go [] mine h b a = tt
      go (x ∷ E) (Finished o c) h b a = absurd h
      go (x ∷ E) (Asked Test u c r) h b a = absurd h
      go (x ∷ E) (Asked Assume u c r) h b a = absurd h
      go (x ∷ E) (Asked Pick u c r) h b a =
          subst (λ p. PicksNoneOf (x ∷ E) (Asked p v d rest)) a.0 (picked (x ∷ E) u a.0 b.0 b.1 h)
