use Rattle.std.proofs.Common.{subst}
use Rattle.wasm_check.specs.code.Runs.{known, labels_in}
use Rattle.wasm_check.specs.code.Checker.{Answers, acts}
use Rattle.wasm_check.specs.code.Kept.{context}
use Rattle.wasm_check.proofs.OpenLemmas.{plain-not, plain-goes}
use Rattle.wasm_check.proofs.body.plain.Goals as goal

pub returns-then-not-branch : goal.returns-then-not-branch
returns-then-not-branch c =
    let types = c.args.scope.now.types in
    let outer = c.as_slice.result.now in
    plain-not (context c.args.scope.now) types c.args.i.now c.args.o c.args.seqs.now.items outer c.as_slice.ensures.value
    (subst (λ b. Answers b (acts (context c.args.scope.now) (labels_in types c.args.o.label outer) c.args.i.now (known types c.args.o.stack)) (known types c.acts.new.s)) c.if-not-branch.true c.in_ok-acts.ensures)

pub returns : goal.returns
returns c =
    let types = c.args.scope.now.types in
    let outer = c.as_slice.result.now in
    plain-goes (context c.args.scope.now) types c.args.i.now c.args.o c.acts.new.s c.args.seqs.now.items outer c.push.new.self.items c.as_slice.ensures.value
    (subst (λ b. Answers b (acts (context c.args.scope.now) (labels_in types c.args.o.label outer) c.args.i.now (known types c.args.o.stack)) (known types c.acts.new.s)) c.if-not-branch.false c.in_ok-acts.ensures)
    c.in_ok-push.ensures.items
