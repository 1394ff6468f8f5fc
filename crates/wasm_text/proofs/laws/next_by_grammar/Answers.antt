use Rattle.wasm_text.proofs.NextLaws.{next_found, next_spelled, end_found, end_spelled}
use Rattle.wasm_text.proofs.laws.next_by_grammar.Goals as goal

pub returns-clause-found : goal.returns-clause-found
returns-clause-found c = λ at t le e. next_found c.args.source.now at t le e

pub returns-clause-spelled : goal.returns-clause-spelled
returns-clause-spelled c = λ at t next. next_spelled c.args.source.now at t next

pub returns-clause-end_found : goal.returns-clause-end_found
returns-clause-end_found c = λ at le e. end_found c.args.source.now at le e

pub returns-clause-end_spelled : goal.returns-clause-end_spelled
returns-clause-end_spelled c = λ at end. end_spelled c.args.source.now at end
