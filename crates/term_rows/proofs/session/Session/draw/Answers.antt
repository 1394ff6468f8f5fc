use Rattle.term_rows.proofs.SessionLemmas.{still, drawn-kept}
use Rattle.term_rows.proofs.session.Session.draw.Goals as goal

pub invariant_of-self-2 : goal.invariant_of-self-2
invariant_of-self-2 c =
    still c.self.inside.graph c.draw.new.self c.self.inside.entries.items (drawn-kept c.self.inside.graph c.draw.new.self c.args.wide c.in_ok-word.word c.in_ok-word.ensures.ok) c.self.invariant
