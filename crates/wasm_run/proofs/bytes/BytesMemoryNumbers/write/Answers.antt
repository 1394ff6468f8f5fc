use Rattle.std.proofs.Common.{◌+◌, length, arith}
use Rattle.wasm_run.proofs.PageLemmas.{within-pages}
use Rattle.wasm_run.proofs.bytes.BytesMemoryNumbers.write.Goals as goal

pub hold-requires-clause-within : goal.hold-requires-clause-within
hold-requires-clause-within c =
    within-pages c.self.inside.pages.items c.as_mut_slice-pages.result.now c.args.self.now (c.args.at + length c.args.words.now) c.self.invariant.0 c.self.view_is c.as_mut_slice-pages.ensures.value c.requires.within

pub write_words-requires-clause-within : goal.write_words-requires-clause-within
write_words-requires-clause-within c =
    omega (arith, within-pages c.self.inside.pages.items c.as_mut_slice-pages.result.now c.args.self.now (c.args.at + length c.args.words.now) c.self.invariant.0 c.self.view_is c.as_mut_slice-pages.ensures.value c.requires.within, c.hold.ensures.long)
