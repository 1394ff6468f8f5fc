use Rattle.std.proofs.Common.{◌≡◌, [], ◌++◌, get_or, sym, ap, ◌∙◌}
use Rattle.std.specs.Prelude.{codes}
use Rattle.wasm_text.specs.PrintedInstructions.{else_part}
use Rattle.wat_print.proofs.WalkLaws.{empty_text, else_text, read_is}
use Rattle.wat_print.proofs.expressions.after_then.Goals as goal

pub returns-then-is_empty-clause-follows : goal.returns-then-is_empty-clause-follows
returns-then-is_empty-clause-follows c =
    let before = c.args.before.now in
    let seqs = c.args.seqs.now in
    let j = c.args.other in
    let here = read_is seqs j c.index-seqs-other.result c.requires.there c.index-seqs-other.is in
    let empty : get_or seqs j [] ≡ [] = here ∙ c.is_empty.ensures.0 c.if-is_empty.true in
    sym (ap (λ t. else_part before t ++ before ++ codes "end") (empty_text before seqs j c.requires.numbered c.requires.there empty))

pub returns-else-is_empty-clause-follows : goal.returns-else-is_empty-clause-follows
returns-else-is_empty-clause-follows c =
    let before = c.args.before.now in
    let seqs = c.args.seqs.now in
    let j = c.args.other in
    let here = read_is seqs j c.index-seqs-other.result c.requires.there c.index-seqs-other.is in
    sym (ap (λ t. t ++ before ++ codes "end") (else_text before seqs j c.requires.some c.requires.numbered c.requires.there (λ e. let is_true = c.is_empty.ensures.1 (sym here ∙ e) in absurd cc)))
