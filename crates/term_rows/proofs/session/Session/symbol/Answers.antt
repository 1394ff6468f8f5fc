use Rattle.bv_terms.specs.Terms.{Symbol}
use Rattle.bv_terms.proofs.MakeLemmas.{makes-kept}
use Rattle.term_rows.proofs.SessionLemmas.{still}
use Rattle.term_rows.proofs.session.Session.symbol.Goals as goal

pub invariant_of-self-2 : goal.invariant_of-self-2
invariant_of-self-2 c =
    still c.self.inside.graph c.symbol.new.self c.self.inside.entries.items (makes-kept c.self.inside.graph c.symbol.new.self (Symbol c.args.number c.args.wide) c.in_ok-word.word c.in_ok-word.ensures.ok) c.self.invariant
