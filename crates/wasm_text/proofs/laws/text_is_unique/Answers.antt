use Rattle.std.proofs.Common.{Ok, Err}
use Rattle.wasm_text.proofs.TextLaws.{reads_once, same_module, same_fault, not_both}
use Rattle.wasm_text.proofs.laws.text_is_unique.Goals as goal

pub returns-clause-module : goal.returns-clause-module
returns-clause-module c = λ text m n p q. same_module m n (reads_once text (Ok m) (Ok n) p.reads q.reads)

pub returns-clause-fault : goal.returns-clause-fault
returns-clause-fault c = λ text a b p q. same_fault a b (reads_once text (Err a) (Err b) p.reads q.reads)

pub returns-clause-never_both : goal.returns-clause-never_both
returns-clause-never_both c = λ text m bad p q. not_both m bad (reads_once text (Ok m) (Err bad) p.reads q.reads)
