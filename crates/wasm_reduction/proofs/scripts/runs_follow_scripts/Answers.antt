use Rattle.wasm_reduction.proofs.ScriptRuns.{first-of}
use Rattle.wasm_reduction.proofs.ScriptLaws.{begins-after, through-answers, left-comes, past-after}
use Rattle.wasm_reduction.specs.Scripts.{answers_in}
use Rattle.wasm_reduction.proofs.scripts.runs_follow_scripts.Goals as goal

pub returns-clause-begins : goal.returns-clause-begins
returns-clause-begins c = λ s answers h. begins-after answers s h

pub returns-clause-answers : goal.returns-clause-answers
returns-clause-answers c = λ s left answers h. (answers_in left, through-answers (λ q v. Unit {0}) answers s left h)

pub returns-clause-comes : goal.returns-clause-comes
returns-clause-comes c = λ m entry args input steps s left answers h e. left-comes m entry args input steps (λ q v. Unit {0}) answers s left h e

pub returns-clause-first : goal.returns-clause-first
returns-clause-first c = λ m entry args input steps s left answers n halt trace h e over.
    first-of m entry args input steps answers left (left-comes m entry args input steps (λ q v. Unit {0}) answers s left h e) n halt trace over

pub returns-clause-past : goal.returns-clause-past
returns-clause-past c = λ s left answers h. past-after answers s left h
