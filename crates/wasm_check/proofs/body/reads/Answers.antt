use Rattle.wasm_check.specs.code.Runs.{open_seqs}
use Rattle.wasm_check.specs.code.Kept.{context}
use Rattle.wasm_check.proofs.RunLemmas.{none-left}
use Rattle.wasm_check.proofs.OpenLemmas.{reads-none, reads-some}
use Rattle.wasm_check.proofs.body.reads.Goals as goal

pub returns-in_default : goal.returns-in_default
returns-in_default c = λ t is.
    reads-none (context c.args.scope.now) c.args.scope.now.types t c.args.seqs.now.items c.pop.new.self.items c.in_default.ensures.items
    (none-left c.pop.new.self.items c.pop.new.self.len c.pop.new.self.ok.0 c.in_default.ensures.cases.1)

pub returns : goal.returns
returns c = λ t is.
    let types = c.args.scope.now.types in
    reads-some (context c.args.scope.now) types t c.in-Some.o c.args.seqs.now.items c.pop.new.self.items (open_seqs types c.reads_in.new.seqs.items) c.in_ok-reads_in.field-0
    c.in-Some.ensures.items (c.in_ok-reads_in.ensures t is)
