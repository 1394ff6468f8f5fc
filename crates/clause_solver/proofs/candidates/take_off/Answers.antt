use Rattle.std.proofs.Common.{◌≡◌, ◌∙◌, arith}
use Rattle.std.specs.Prelude.{true}
use Rattle.refute_check.proofs.Sets.{contains-has}
use Rattle.clause_solver.proofs.Numbers.{taken_kept}
use Rattle.clause_solver.proofs.candidates.take_off.Goals as goal

pub returns-clause-kept : goal.returns-clause-kept
returns-clause-kept c = taken_kept c.args.numbers.now c.remove.new.self c.args.number c.remove.ensures.updates

pub returns-clause-fewer : goal.returns-clause-fewer
returns-clause-fewer c =
    let there : c.remove.result ≡ true = c.remove.ensures.test ∙ contains-has c.args.numbers.now c.args.number ∙ c.requires in
    let fewer = rw there at c.remove.ensures.len in
    omega (arith, fewer)
