use Rattle.std.proofs.Common.{◌+◌, ◌-◌, List, ap, sym, subst, ◌∙◌, arith}
use Rattle.std.proofs.lemmas.Result.{err_from_is_err_and}
use Rattle.wasm_ast.specs.declared.modules.Group.{Group}
use Rattle.wasm_binary.specs.Locals.{groups}
use Rattle.wasm_read.specs.Refusals.{fault_of}
use Rattle.wasm_read.specs.Groups.{joined_groups}
use Rattle.wasm_read.proofs.GroupLaws.{put_ahead, AreAtMost, groups_start, group_read, told_of_groups, none_at_most, group_at_most}
use Rattle.wasm_read.proofs.groups.read_groups.Goals as goal

pub loop-init : goal.loop-init
loop-init c =
    let w = c.args.view.now in
    let none = sym c.new-joined.ensures in
    let start = groups_start c.args.count w c.args.start ∙ ap (λ (done : List Group). put_ahead done ((groups (c.args.count - 0) 0).read w c.args.start)) none in
    (c.requires, omega arith, subst (AreAtMost 0) none (none_at_most 0), start)

pub returns-in_err-group-clause-agrees : goal.returns-in_err-group-clause-agrees
returns-in_err-group-clause-agrees c =
    let w = c.args.view.now in
    let told = told_of_groups c.args.count c.loop.counter c.loop.sum w c.loop.at c.loop.joined ((joined_groups c.args.count).read w c.args.start) (fault_of c.in_err-group.field-0.0) c.loop-test.true c.loop.invariant.3 c.in_err-group.ensures.agrees in
    let p = err_from_is_err_and c.from_residual.result c.from_residual.ensures.1 in
    rw (p.1, p.2) told

pub loop-preserved : goal.loop-preserved
loop-preserved c =
    let w = c.args.view.now in
    let g = c.in_ok-group.group in
    let mid = c.in_ok-group.next in
    let left = c.args.count - (c.loop.counter + 1) in
    let put = sym c.in_ok-put.ensures in
    let widened = sym c.from-sum.ensures in
    let at_most : AreAtMost (c.loop.sum + g.count) c.put.new.self = subst (AreAtMost (c.loop.sum + g.count)) put (group_at_most c.loop.sum g c.loop.joined c.loop.invariant.2) in
    let read =
    c.loop.invariant.3
    ∙ group_read c.args.count c.loop.counter c.loop.sum w c.loop.at mid g c.loop.joined c.loop-test.true c.in_ok-group.ensures.agrees
    ∙ ap (λ (done : List Group). put_ahead done ((groups left (c.loop.sum + g.count)).read w mid)) put
    ∙ ap (λ k. put_ahead c.put.new.self ((groups left (c.loop.sum + k)).read w mid)) widened in
    (c.in_ok-group.ensures.within, omega (arith, c.in_ok-group.ensures.few, c.from-sum.ensures), subst (λ k. AreAtMost (c.loop.sum + k) c.put.new.self) widened at_most, read)
