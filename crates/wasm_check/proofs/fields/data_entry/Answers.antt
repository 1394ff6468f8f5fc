use Rattle.wasm_check.proofs.EntryLemmas.{of_entry}
use Rattle.wasm_check.specs.Modules.{DataModeIsValid}
use Rattle.wasm_check.proofs.fields.data_entry.Goals as goal

pub returns : goal.returns
returns c = of_entry c.args.m.now.segments c.args.k c.get-segment.result.now (λ s. DataModeIsValid c.args.m.now s.mode) c.segment_is_valid.result c.get-segment.ensures c.segment_is_valid.ensures
