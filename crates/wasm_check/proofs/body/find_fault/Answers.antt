use Rattle.std.proofs.Common.{reverse, sym, subst}
use Rattle.wasm_check.specs.code.Checker.{start_of}
use Rattle.wasm_check.specs.code.Progress.{HasCome}
use Rattle.wasm_check.specs.code.Runs.{open_seqs}
use Rattle.wasm_check.proofs.Verdicts.{come-start, come-on, come-fault, Reads}
use Rattle.wasm_check.specs.code.Kept.{context}
use Rattle.wasm_check.proofs.body.find_fault.Goals as goal

pub loop-at-init : goal.loop-at-init
loop-at-init c =
    subst (λ os. HasCome (context c.args.scope.now) c.args.code.now (reverse c.in_ok-walker.walker.open.items) os 0) (sym c.in_ok-seqs.ensures)
    (subst (λ ps. HasCome (context c.args.scope.now) c.args.code.now ps (start_of (context c.args.scope.now)) 0) (sym c.in_ok-walker.ensures) (come-start (context c.args.scope.now) c.args.code.now))

pub returns-then-not-branch : goal.returns-then-not-branch
returns-then-not-branch c =
    let types = c.args.scope.now.types in
    come-fault (context c.args.scope.now) c.args.code.now (reverse c.loop-at.walker.open.items) (reverse c.next.new.self.open.items) (open_seqs types c.loop-at.seqs.items) (open_seqs types c.reads.new.seqs.items) c.loop-at.at c.in_ok-w.w
    c.loop-at.invariant c.in_ok-w.ensures c.in_default.not-Over
    (subst (λ b. Reads (context c.args.scope.now) c.args.code.now c.in_ok-w.w b (open_seqs types c.loop-at.seqs.items) (open_seqs types c.reads.new.seqs.items)) c.if-not-branch.true c.in_ok-reads.ensures)

pub loop-at-preserved : goal.loop-at-preserved
loop-at-preserved c =
    let types = c.args.scope.now.types in
    come-on (context c.args.scope.now) c.args.code.now (reverse c.loop-at.walker.open.items) (reverse c.next.new.self.open.items) (open_seqs types c.loop-at.seqs.items) (open_seqs types c.reads.new.seqs.items) c.loop-at.at c.in_ok-w.w
    c.loop-at.invariant c.in_ok-w.ensures c.in_default.not-Over
    (subst (λ b. Reads (context c.args.scope.now) c.args.code.now c.in_ok-w.w b (open_seqs types c.loop-at.seqs.items) (open_seqs types c.reads.new.seqs.items)) c.if-not-branch.false c.in_ok-reads.ensures)
