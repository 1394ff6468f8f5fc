use Rattle.std.proofs.Common.{◌∙◌, ap, ◌+◌, drop}
use Rattle.std.specs.Prelude.{slice_get}
use Rattle.wasm_reduction.specs.Ranges.{with_element}
use Rattle.wasm_machine.specs.States.{own}
use Rattle.wasm_machine.specs.Configurations.{image}
use Rattle.wasm_machine.specs.code.RangeProgress.{reached}
use Rattle.wasm_machine.proofs.ProgressLaws.{index-says}
use Rattle.wasm_machine.proofs.progress.index_at.Goals as goal

pub returns-in_default-clause-says : goal.returns-in_default-clause-says
returns-in_default-clause-says g c = λ elements go long. c.in_default.ensures.found _

pub returns-in-Ask-clause-says : goal.returns-in-Ask-clause-says
returns-in-Ask-clause-says g c = λ elements go long. index-says (g.A.Algebra.means c.indexing.new.a) g.A.Algebra.kind (own (image (g.A.Algebra.means c.args.a.now) c.args.s.now)) c.args.s.now.answers c.deref.result.now (c.deref.ensures.value ∙ ap (λ s. s.answers) c.s.view_is) c.args.cause c.args.k (g.A.Algebra.means c.args.a.now c.in-Some.index) c.args.size c.in_ok-q.field-0 c.in-Some.ensures.found c.in_ok-q.ensures.says elements go long
    ∙ ap (reached (g.A.Algebra.means c.indexing.new.a) c.args.cause (λ i. with_element c.args.cause (slice_get elements i) (λ r. go i r (drop (c.args.k + 1) (own (image (g.A.Algebra.means c.args.a.now) c.args.s.now)))))) c.in-Ask.is

pub returns-in-OutOfBounds-clause-says : goal.returns-in-OutOfBounds-clause-says
returns-in-OutOfBounds-clause-says g c = λ elements go long. index-says (g.A.Algebra.means c.indexing.new.a) g.A.Algebra.kind (own (image (g.A.Algebra.means c.args.a.now) c.args.s.now)) c.args.s.now.answers c.deref.result.now (c.deref.ensures.value ∙ ap (λ s. s.answers) c.s.view_is) c.args.cause c.args.k (g.A.Algebra.means c.args.a.now c.in-Some.index) c.args.size c.in_ok-q.field-0 c.in-Some.ensures.found c.in_ok-q.ensures.says elements go long
    ∙ ap (reached (g.A.Algebra.means c.indexing.new.a) c.args.cause (λ i. with_element c.args.cause (slice_get elements i) (λ r. go i r (drop (c.args.k + 1) (own (image (g.A.Algebra.means c.args.a.now) c.args.s.now)))))) c.in-OutOfBounds.is

pub returns-in-At-clause-says : goal.returns-in-At-clause-says
returns-in-At-clause-says g c = λ elements go long. index-says (g.A.Algebra.means c.indexing.new.a) g.A.Algebra.kind (own (image (g.A.Algebra.means c.args.a.now) c.args.s.now)) c.args.s.now.answers c.deref.result.now (c.deref.ensures.value ∙ ap (λ s. s.answers) c.s.view_is) c.args.cause c.args.k (g.A.Algebra.means c.args.a.now c.in-Some.index) c.args.size c.in_ok-q.field-0 c.in-Some.ensures.found c.in_ok-q.ensures.says elements go long
    ∙ ap (reached (g.A.Algebra.means c.indexing.new.a) c.args.cause (λ i. with_element c.args.cause (slice_get elements i) (λ r. go i r (drop (c.args.k + 1) (own (image (g.A.Algebra.means c.args.a.now) c.args.s.now)))))) c.in-At.is
