use Rattle.bv_terms.proofs.SymbolLemmas.{made-symbols}
use Rattle.bv_terms.proofs.laws.making_adds_no_symbol.Goals as goal

pub returns : goal.returns
returns c = made-symbols
