use Rattle.wasm_rules.proofs.ClassLemmas.{unary_classes, binary_classes, load_classes, store_classes}
use Rattle.wasm_rules.proofs.laws.classes_agree.Goals as goal

pub returns-clause-unary : goal.returns-clause-unary
returns-clause-unary c = unary_classes

pub returns-clause-binary : goal.returns-clause-binary
returns-clause-binary c = binary_classes

pub returns-clause-loads : goal.returns-clause-loads
returns-clause-loads c = load_classes

pub returns-clause-stores : goal.returns-clause-stores
returns-clause-stores c = store_classes
