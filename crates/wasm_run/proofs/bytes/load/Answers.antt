use Rattle.std.proofs.Common.{◌∙◌, ◌%◌, ap, arith}
use Rattle.wasm_rules.specs.Words.{numbers}
use Rattle.wasm_rules.specs.Accesses.{loaded, load_bytes}
use Rattle.wasm_reduction.specs.Combinators.{part}
use Rattle.wasm_reduction.specs.Memories.{page_bytes}
use Rattle.wasm_run.proofs.AccessLemmas.{load_least, load_most}
use Rattle.wasm_run.proofs.PageLemmas.{cells_part}
use Rattle.wasm_run.proofs.bytes.load.Goals as goal

pub returns-then-has_eight-clause-exact : goal.returns-then-has_eight-clause-exact
returns-then-has_eight-clause-exact c =
    c.load.ensures.exact
    ∙ ap (λ p. loaded numbers c.args.op (part (c.args.at % page_bytes) (load_bytes c.args.op) p.bytes)) c.index-pages-at.is
    ∙ ap (λ b. loaded numbers c.args.op b)
    (cells_part c.args.pages.now c.args.at (load_bytes c.args.op) c.index-pages-at.result c.requires.whole
    (omega (arith, c.requires.within, load_least c.args.op c.requires.load))
    (omega (arith, c.has_eight.ensures.within c.if-has_eight.true, load_most c.args.op c.requires.load)))
