use Rattle.wasm_text.proofs.CommentLaws.{comment_closes, closes_comment}
use Rattle.wasm_text.proofs.laws.comments_close.Goals as goal

pub returns-clause-found : goal.returns-clause-found
returns-clause-found c = λ at n e. comment_closes at n c.args.text.now e

pub returns-clause-spelled : goal.returns-clause-spelled
returns-clause-spelled c = λ at n left closes place. closes_comment at n c.args.text.now left closes place
