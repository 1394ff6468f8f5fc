use Rattle.wasm_reduction.proofs.ScriptLaws.{left-comes}
use Rattle.wasm_reduction.proofs.ScriptPlaces.{firsts-alike, places-alike}
use Rattle.wasm_reduction.proofs.scripts.runs_answered_alike_are_alike.Goals as goal

pub returns-clause-alike : goal.returns-clause-alike
returns-clause-alike c = λ m entry args steps fit valid ready arguments first second s t left other answers h k e f.
    firsts-alike m entry args steps fit valid ready arguments answers first second left other
    (left-comes m entry args first steps (λ q v. Unit {0}) answers s left h e) (left-comes m entry args second steps (λ q v. Unit {0}) answers t other k f)

pub returns-clause-places : goal.returns-clause-places
returns-clause-places c = λ m entry args steps fit valid ready arguments first second answers q p v w here there s t.
    places-alike m entry args steps fit valid ready arguments answers first second q p v w here there s t
