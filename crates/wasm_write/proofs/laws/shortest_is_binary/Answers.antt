use Rattle.wasm_write.proofs.ModulesSpelled.{shortest_spelled, read_again, written_again}
use Rattle.wasm_write.proofs.laws.shortest_is_binary.Goals as goal

pub returns-clause-spelled : goal.returns-clause-spelled
returns-clause-spelled c = shortest_spelled

pub returns-clause-read : goal.returns-clause-read
returns-clause-read c = read_again

pub returns-clause-again : goal.returns-clause-again
returns-clause-again c = written_again
