use Rattle.std.proofs.Common.{subst}
use Rattle.wasm_check.specs.code.Runs.{open_seqs}
use Rattle.wasm_check.proofs.RunLemmas.{none-left}
use Rattle.wasm_check.proofs.OpenLemmas.{OtherMayEnd, ends-unfinished, ends-half, ends-last, ends-goes}
use Rattle.wasm_check.proofs.open.ends.Goals as goal

pub returns-then-not-finished : goal.returns-then-not-finished
returns-then-not-finished c =
    let types = c.args.scope.now.types in ends-unfinished types c.args.o (open_seqs types c.args.seqs.now.items) c.if-not-finished.ensures

pub returns-then-not-branch : goal.returns-then-not-branch
returns-then-not-branch c =
    let types = c.args.scope.now.types in
    ends-half types c.args.o (open_seqs types c.args.seqs.now.items) c.if-not-finished.ensures (subst (λ b. OtherMayEnd b types c.args.o) c.if-not-branch.true c.in_ok-other_finished.ensures)

pub returns-in_default : goal.returns-in_default
returns-in_default c =
    let types = c.args.scope.now.types in
    ends-last types c.args.o c.args.seqs.now.items c.pop.new.self.items c.if-not-finished.ensures (subst (λ b. OtherMayEnd b types c.args.o) c.if-not-branch.false c.in_ok-other_finished.ensures)
    c.in_default.ensures.items (none-left c.pop.new.self.items c.pop.new.self.len c.pop.new.self.ok.0 c.in_default.ensures.cases.1)

pub returns : goal.returns
returns c =
    let types = c.args.scope.now.types in
    ends-goes types c.args.o c.in-Some.around c.put_list.new.self c.args.seqs.now.items c.pop.new.self.items c.push.new.self.items
    c.if-not-finished.ensures (subst (λ b. OtherMayEnd b types c.args.o) c.if-not-branch.false c.in_ok-other_finished.ensures)
    c.in-Some.ensures.items c.in_ok-put_list.ensures c.in_ok-push.ensures.items
