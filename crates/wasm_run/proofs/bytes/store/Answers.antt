use Rattle.std.proofs.Common.{ap, arith}
use Rattle.wasm_rules.specs.Words.{numbers}
use Rattle.wasm_rules.specs.Accesses.{stored}
use Rattle.wasm_run.proofs.AccessLemmas.{store_least, store_most, stored_long}
use Rattle.wasm_run.proofs.PageLemmas.{page-stored}
use Rattle.wasm_run.proofs.bytes.store.Goals as goal

pub returns-then-has_eight-clause-written : goal.returns-then-has_eight-clause-written
returns-then-has_eight-clause-written c =
    (page-stored c.args.pages.now c.args.at (stored numbers c.args.op c.args.w) c.index-pages-at-then-has_eight.result c.store.new.self c.requires.whole
    (omega (arith, c.requires.within, store_least c.args.op c.requires.store))
    (omega (arith, c.has_eight.ensures.within c.if-has_eight.true, store_most c.args.op c.requires.store, stored_long c.args.op c.args.w))
    (ap (λ p. p.bytes) c.store.ensures)).0

pub returns-then-has_eight-clause-whole : goal.returns-then-has_eight-clause-whole
returns-then-has_eight-clause-whole c =
    (page-stored c.args.pages.now c.args.at (stored numbers c.args.op c.args.w) c.index-pages-at-then-has_eight.result c.store.new.self c.requires.whole
    (omega (arith, c.requires.within, store_least c.args.op c.requires.store))
    (omega (arith, c.has_eight.ensures.within c.if-has_eight.true, store_most c.args.op c.requires.store, stored_long c.args.op c.args.w))
    (ap (λ p. p.bytes) c.store.ensures)).1
