use Rattle.bit_blast.specs.Inputs.{numbers_for}
use Rattle.bit_blast.proofs.SymbolValues.{numbers-fit, numbers-alike, same_value}
use Rattle.bit_blast.proofs.laws.lists_are_inputs.Goals as goal

pub returns-clause-input : goal.returns-clause-input
returns-clause-input c = numbers-fit

pub returns-clause-value : goal.returns-clause-value
returns-clause-value c draws numbers t drawn = same_value draws (numbers_for draws numbers) numbers (numbers-alike draws numbers) t drawn
