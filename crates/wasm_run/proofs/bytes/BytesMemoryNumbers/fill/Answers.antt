use Rattle.std.proofs.Common.{◌+◌, arith}
use Rattle.wasm_run.proofs.PageLemmas.{within-pages}
use Rattle.wasm_run.proofs.bytes.BytesMemoryNumbers.fill.Goals as goal

pub hold_unless_zero-requires-clause-within : goal.hold_unless_zero-requires-clause-within
hold_unless_zero-requires-clause-within c =
    within-pages c.self.inside.pages.items c.as_mut_slice-pages.result.now c.args.self.now (c.args.at + c.args.count) c.self.invariant.0 c.self.view_is c.as_mut_slice-pages.ensures.value c.requires.within

pub fill-requires-clause-within : goal.fill-requires-clause-within
fill-requires-clause-within c =
    omega (arith, within-pages c.self.inside.pages.items c.as_mut_slice-pages.result.now c.args.self.now (c.args.at + c.args.count) c.self.invariant.0 c.self.view_is c.as_mut_slice-pages.ensures.value c.requires.within, c.hold_unless_zero.ensures.long)
