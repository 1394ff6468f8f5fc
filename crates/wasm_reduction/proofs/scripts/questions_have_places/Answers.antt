use Rattle.wasm_reduction.proofs.ScriptLaws.{bounded-there}
use Rattle.wasm_reduction.proofs.ScriptPlaces.{place, one-place}
use Rattle.wasm_reduction.proofs.scripts.questions_have_places.Goals as goal

pub returns-clause-place : goal.returns-clause-place
returns-clause-place c = λ m entry args input steps answers n q v trace e. let p = place m entry args input steps answers q v n trace e in (p.0, p.1, p.2, p.4)

pub returns-clause-one : goal.returns-clause-one
returns-clause-one c = one-place

pub returns-clause-bounded : goal.returns-clause-bounded
returns-clause-bounded c = λ m entry args input steps s left answers q v at h e p. bounded-there m entry args input steps answers s left h e p.turns at p.comes
