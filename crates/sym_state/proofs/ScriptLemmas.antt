-- The first answers of a script: one more, and one less.
use Rattle.std.proofs.Common.{◌≡◌, ℕ, List, [], ◌∷◌, ◌++◌, refl, sym, ap, subst}
use Rattle.wasm_ast.specs.declared.runs.Draw.{Draw}
use Rattle.wasm_reduction.specs.Configurations.{Question}
use Rattle.wasm_reduction.specs.Runs.{answer_of}
use Rattle.wasm_reduction.specs.Scripts.{Script, Finished, Asked, Passes, Past}

pub past-more : (A : List ℕ) (s left : Script) (q : Question) (v : ℕ) (d : List Draw) → Past A s (Asked q v d left) → Passes q v → Past (A ++ answer_of q v ∷ []) s left
past-more [] s left q v d h p = subst (λ s. Past (answer_of q v ∷ []) s left) (sym h) (refl, p, refl)
past-more (a ∷ A) (Finished o e) left q v d h p = absurd h
past-more (a ∷ A) (Asked r u e s) left q v d h p = (h.0, h.1, past-more A s left q v d h.2 p)

-- the question before the last answer
pub record Before (A : List ℕ) (a : ℕ) (s left : Script) : Type 0 where
  pub question : Question
  pub number : ℕ
  pub draws : List Draw
  pub past : Past A s (Asked question number draws left)
  pub answer : answer_of question number ≡ a
  pub passes : Passes question number

pub past-less : (A : List ℕ) (a : ℕ) (s left : Script) → Past (A ++ a ∷ []) s left → Before A a s left
past-less [] a (Finished o e) left h = absurd h
past-less [] a (Asked q v d s) left h = record { question = q; number = v; draws = d; past = ap (λ l. Asked q v d l) h.2; answer = h.0; passes = h.1 }
past-less (b ∷ A) a (Finished o e) left h = absurd h
past-less (b ∷ A) a (Asked r u e s) left h =
    let i = past-less A a s left h.2 in
    record { question = i.question; number = i.number; draws = i.draws; past = (h.0, h.1, i.past); answer = i.answer; passes = i.passes }
