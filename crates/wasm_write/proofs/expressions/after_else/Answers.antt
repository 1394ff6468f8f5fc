use Rattle.std.proofs.Common.{◌≡◌, [], ◌∷◌, ◌++◌, get_or, sym, ap, ◌∙◌}
use Rattle.wasm_write.specs.Instructions.{else_part}
use Rattle.wasm_write.proofs.WalkLaws.{empty_text, else_text, read_is}
use Rattle.wasm_write.proofs.expressions.after_else.Goals as goal

pub returns-then-is_empty-clause-follows : goal.returns-then-is_empty-clause-follows
returns-then-is_empty-clause-follows c =
    let seqs = c.args.seqs.now in
    let j = c.args.other in
    let here = read_is seqs j c.index-seqs-other.result c.requires.there c.index-seqs-other.is in
    let empty : get_or seqs j [] ≡ [] = here ∙ c.is_empty.ensures.0 c.if-is_empty.true in
    sym (ap (λ t. else_part t ++ 0x0B ∷ []) (empty_text seqs j c.requires.numbered c.requires.there empty))

pub returns-else-is_empty-clause-follows : goal.returns-else-is_empty-clause-follows
returns-else-is_empty-clause-follows c =
    let seqs = c.args.seqs.now in
    let j = c.args.other in
    let here = read_is seqs j c.index-seqs-other.result c.requires.there c.index-seqs-other.is in
    sym (ap (λ t. t ++ 0x0B ∷ []) (else_text seqs j c.requires.numbered c.requires.there (λ e. let is_true = c.is_empty.ensures.1 (sym here ∙ e) in absurd cc)))
