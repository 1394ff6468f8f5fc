use Rattle.std.proofs.Common.{◌∙◌, ap, drop}
use Rattle.wasm_machine.specs.States.{own}
use Rattle.wasm_machine.specs.Configurations.{image}
use Rattle.wasm_machine.specs.code.RangeProgress.{reached}
use Rattle.wasm_machine.proofs.ProgressLaws.{fill-says}
use Rattle.wasm_machine.proofs.progress.fill_at.Goals as goal

pub returns-in_default-clause-says : goal.returns-in_default-clause-says
returns-in_default-clause-says g c = λ go. c.in_default.ensures.found _

pub returns-in-Ask-clause-says : goal.returns-in-Ask-clause-says
returns-in-Ask-clause-says g c = λ go. fill-says (g.A.Algebra.means c.filling.new.a) g.A.Algebra.kind (own (image (g.A.Algebra.means c.args.a.now) c.args.s.now)) c.args.s.now.answers c.deref.result.now (c.deref.ensures.value ∙ ap (λ s. s.answers) c.s.view_is) c.args.cause (g.A.Algebra.means c.args.a.now c.in-Some.to) (g.A.Algebra.means c.args.a.now c.args.count) c.args.size c.in_ok-q.field-0 c.in-Some.ensures.found c.in_ok-q.ensures.says go
    ∙ ap (reached (g.A.Algebra.means c.filling.new.a) c.args.cause (λ r. go r.to r.count (drop 3 (own (image (g.A.Algebra.means c.args.a.now) c.args.s.now))))) c.in-Ask.is

pub returns-in-OutOfBounds-clause-says : goal.returns-in-OutOfBounds-clause-says
returns-in-OutOfBounds-clause-says g c = λ go. fill-says (g.A.Algebra.means c.filling.new.a) g.A.Algebra.kind (own (image (g.A.Algebra.means c.args.a.now) c.args.s.now)) c.args.s.now.answers c.deref.result.now (c.deref.ensures.value ∙ ap (λ s. s.answers) c.s.view_is) c.args.cause (g.A.Algebra.means c.args.a.now c.in-Some.to) (g.A.Algebra.means c.args.a.now c.args.count) c.args.size c.in_ok-q.field-0 c.in-Some.ensures.found c.in_ok-q.ensures.says go
    ∙ ap (reached (g.A.Algebra.means c.filling.new.a) c.args.cause (λ r. go r.to r.count (drop 3 (own (image (g.A.Algebra.means c.args.a.now) c.args.s.now))))) c.in-OutOfBounds.is

pub returns-in-At-clause-says : goal.returns-in-At-clause-says
returns-in-At-clause-says g c = λ go. fill-says (g.A.Algebra.means c.filling.new.a) g.A.Algebra.kind (own (image (g.A.Algebra.means c.args.a.now) c.args.s.now)) c.args.s.now.answers c.deref.result.now (c.deref.ensures.value ∙ ap (λ s. s.answers) c.s.view_is) c.args.cause (g.A.Algebra.means c.args.a.now c.in-Some.to) (g.A.Algebra.means c.args.a.now c.args.count) c.args.size c.in_ok-q.field-0 c.in-Some.ensures.found c.in_ok-q.ensures.says go
    ∙ ap (reached (g.A.Algebra.means c.filling.new.a) c.args.cause (λ r. go r.to r.count (drop 3 (own (image (g.A.Algebra.means c.args.a.now) c.args.s.now))))) c.in-At.is
