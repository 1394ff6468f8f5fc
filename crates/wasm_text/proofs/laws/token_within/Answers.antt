use Rattle.wasm_text.proofs.TokenLaws.{next_is}
use Rattle.wasm_text.proofs.laws.token_within.Goals as goal

pub returns-clause-further : goal.returns-clause-further
returns-clause-further c = λ at t le e. (next_is c.args.source.now at t le e).further

pub returns-clause-within : goal.returns-clause-within
returns-clause-within c = λ at t le e. (next_is c.args.source.now at t le e).within
