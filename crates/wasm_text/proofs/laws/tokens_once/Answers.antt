use Rattle.std.proofs.Common.{length, arith}
use Rattle.wasm_text.proofs.TokenLaws.{some_tokens, same_tokens}
use Rattle.wasm_text.proofs.laws.tokens_once.Goals as goal

pub returns-clause-some : goal.returns-clause-some
returns-clause-some c =
    let source = c.args.source.now in
    let all = some_tokens (length source) source 0 (omega arith) (omega arith) in
    (all.tokens, all.bad, all.are)

pub returns-clause-tokens : goal.returns-clause-tokens
returns-clause-tokens c = λ ts us b d h k. (same_tokens c.args.source.now 0 ts us b d h k).tokens

pub returns-clause-end : goal.returns-clause-end
returns-clause-end c = λ ts us b d h k. (same_tokens c.args.source.now 0 ts us b d h k).bad
