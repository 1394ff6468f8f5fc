use Rattle.wasm_binary.proofs.ShapeOfModules.{binary_shape, stripped_shape, EachIsByte-from_all}
use Rattle.wasm_binary.proofs.laws.binary_has_shape.Goals as goal

pub returns-clause-stripped : goal.returns-clause-stripped
returns-clause-stripped c bytes m are is = stripped_shape m bytes (EachIsByte-from_all bytes are) is

pub returns-clause-whole : goal.returns-clause-whole
returns-clause-whole c bytes m are is few = binary_shape m bytes (EachIsByte-from_all bytes are) is few
