use Rattle.bit_blast.proofs.BlockNumbers.{add_law, less_law, none_law, negate_law, count_law, divide_law, multiply_law, choose_law}
use Rattle.bit_blast.proofs.laws.blocks_compute.Goals as goal

pub returns-clause-add : goal.returns-clause-add
returns-clause-add c = add_law

pub returns-clause-less : goal.returns-clause-less
returns-clause-less c = less_law

pub returns-clause-none : goal.returns-clause-none
returns-clause-none c = none_law

pub returns-clause-negate : goal.returns-clause-negate
returns-clause-negate c = negate_law

pub returns-clause-count : goal.returns-clause-count
returns-clause-count c = count_law

pub returns-clause-divide : goal.returns-clause-divide
returns-clause-divide c = divide_law

pub returns-clause-multiply : goal.returns-clause-multiply
returns-clause-multiply c = multiply_law

pub returns-clause-choose : goal.returns-clause-choose
returns-clause-choose c = choose_law
