use Rattle.std.proofs.Common.{◌+◌, arith}
use Rattle.wasm_run.proofs.PageLemmas.{within-pages}
use Rattle.wasm_run.proofs.bytes.BytesMemoryNumbers.copy.Goals as goal

pub hold-requires-clause-within : goal.hold-requires-clause-within
hold-requires-clause-within c =
    within-pages c.self.inside.pages.items c.as_mut_slice-pages.result.now c.args.self.now (c.args.to + c.args.count) c.self.invariant.0 c.self.view_is c.as_mut_slice-pages.ensures.value c.requires.to_within

pub copy_held-requires-clause-from_within : goal.copy_held-requires-clause-from_within
copy_held-requires-clause-from_within c =
    omega (arith, within-pages c.self.inside.pages.items c.as_mut_slice-pages.result.now c.args.self.now (c.args.from + c.args.count) c.self.invariant.0 c.self.view_is c.as_mut_slice-pages.ensures.value c.requires.from_within, c.hold.ensures.long)

pub copy_held-requires-clause-to_within : goal.copy_held-requires-clause-to_within
copy_held-requires-clause-to_within c =
    omega (arith, within-pages c.self.inside.pages.items c.as_mut_slice-pages.result.now c.args.self.now (c.args.to + c.args.count) c.self.invariant.0 c.self.view_is c.as_mut_slice-pages.ensures.value c.requires.to_within, c.hold.ensures.long)
