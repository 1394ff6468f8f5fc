use Rattle.std.proofs.Common.{ap, ◌∙◌}
use Rattle.int_ops.specs.Integers.{truth}
use Rattle.wasm_machine.proofs.ReferenceLaws.{is_null-stuck, is_null-goes}
use Rattle.wasm_machine.proofs.references.ref_is_null.Goals as goal

pub returns-in-None-clause-acts : goal.returns-in-None-clause-acts
returns-in-None-clause-acts g c = λ m. is_null-stuck g.A.Algebra.holds g.A.Algebra.means g.A.Algebra.kind m c.args.a.now c.args.s.now c.in-None.ensures

pub returns-in-Some-clause-acts : goal.returns-in-Some-clause-acts
returns-in-Some-clause-acts g c = λ m. is_null-goes g.A.Algebra.holds g.A.Algebra.means g.A.Algebra.kind m c.args.a.now c.constant-w.new.self c.constant-w.ensures.keeps c.args.s.now c.pass.new.self c.replace.new.self c.in-Some.r c.constant-w.result c.requires.sane c.in-Some.ensures c.constant-w.ensures.held
    (c.constant-w.ensures.means ∙ ap (λ n. g.A.Algebra.kind.number n) (c.truth.ensures ∙ ap (λ b. truth b) c.is_null.ensures)) c.pass.ensures c.replace.ensures
