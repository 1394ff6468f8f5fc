use Rattle.std.proofs.Common.{◌∙◌, ap, drop}
use Rattle.wasm_machine.specs.States.{own}
use Rattle.wasm_machine.specs.Configurations.{image}
use Rattle.wasm_machine.specs.code.RangeProgress.{reached}
use Rattle.wasm_machine.proofs.ProgressLaws.{copy-says}
use Rattle.wasm_machine.proofs.progress.copy_at.Goals as goal

pub returns-in_default-clause-says : goal.returns-in_default-clause-says
returns-in_default-clause-says g c = λ go. c.in_default.ensures.found _

pub returns-in_default-word-clause-says : goal.returns-in_default-word-clause-says
returns-in_default-word-clause-says g c = λ go. c.in-Some.ensures.found _ ∙ c.in_default-word.ensures.found _

pub returns-in_default-word-2-clause-says : goal.returns-in_default-word-2-clause-says
returns-in_default-word-2-clause-says g c = λ go. c.in-Some.ensures.found _ ∙ c.in-Some-word.ensures.found _ ∙ c.in_default-word-2.ensures.found _

pub returns-in-Ask-clause-says : goal.returns-in-Ask-clause-says
returns-in-Ask-clause-says g c = λ go. copy-says (g.A.Algebra.means c.copying.new.a) g.A.Algebra.kind (own (image (g.A.Algebra.means c.args.a.now) c.args.s.now)) c.args.s.now.answers c.deref.result.now (c.deref.ensures.value ∙ ap (λ s. s.answers) c.s.view_is) c.args.cause (g.A.Algebra.means c.args.a.now c.in-Some-word-2.to) (g.A.Algebra.means c.args.a.now c.in-Some-word.from) (g.A.Algebra.means c.args.a.now c.in-Some.count) c.args.target_size c.args.source_size c.in_ok-q.field-0 c.in-Some.ensures.found c.in-Some-word.ensures.found c.in-Some-word-2.ensures.found c.in_ok-q.ensures.says go
    ∙ ap (reached (g.A.Algebra.means c.copying.new.a) c.args.cause (λ r. go r.to r.from r.count (drop 3 (own (image (g.A.Algebra.means c.args.a.now) c.args.s.now))))) c.in-Ask.is

pub returns-in-OutOfBounds-clause-says : goal.returns-in-OutOfBounds-clause-says
returns-in-OutOfBounds-clause-says g c = λ go. copy-says (g.A.Algebra.means c.copying.new.a) g.A.Algebra.kind (own (image (g.A.Algebra.means c.args.a.now) c.args.s.now)) c.args.s.now.answers c.deref.result.now (c.deref.ensures.value ∙ ap (λ s. s.answers) c.s.view_is) c.args.cause (g.A.Algebra.means c.args.a.now c.in-Some-word-2.to) (g.A.Algebra.means c.args.a.now c.in-Some-word.from) (g.A.Algebra.means c.args.a.now c.in-Some.count) c.args.target_size c.args.source_size c.in_ok-q.field-0 c.in-Some.ensures.found c.in-Some-word.ensures.found c.in-Some-word-2.ensures.found c.in_ok-q.ensures.says go
    ∙ ap (reached (g.A.Algebra.means c.copying.new.a) c.args.cause (λ r. go r.to r.from r.count (drop 3 (own (image (g.A.Algebra.means c.args.a.now) c.args.s.now))))) c.in-OutOfBounds.is

pub returns-in-At-clause-says : goal.returns-in-At-clause-says
returns-in-At-clause-says g c = λ go. copy-says (g.A.Algebra.means c.copying.new.a) g.A.Algebra.kind (own (image (g.A.Algebra.means c.args.a.now) c.args.s.now)) c.args.s.now.answers c.deref.result.now (c.deref.ensures.value ∙ ap (λ s. s.answers) c.s.view_is) c.args.cause (g.A.Algebra.means c.args.a.now c.in-Some-word-2.to) (g.A.Algebra.means c.args.a.now c.in-Some-word.from) (g.A.Algebra.means c.args.a.now c.in-Some.count) c.args.target_size c.args.source_size c.in_ok-q.field-0 c.in-Some.ensures.found c.in-Some-word.ensures.found c.in-Some-word-2.ensures.found c.in_ok-q.ensures.says go
    ∙ ap (reached (g.A.Algebra.means c.copying.new.a) c.args.cause (λ r. go r.to r.from r.count (drop 3 (own (image (g.A.Algebra.means c.args.a.now) c.args.s.now))))) c.in-At.is
