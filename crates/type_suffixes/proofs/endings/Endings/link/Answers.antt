use Rattle.std.proofs.Common.{subst, sym}
use Rattle.type_suffixes.specs.code.Spans.{AreBegun}
use Rattle.type_suffixes.proofs.endings.Endings.link.Goals as goal

pub invariant_of-self : goal.invariant_of-self
invariant_of-self c = subst (λ all. AreBegun all c.self.inside.numbers.items c.self.inside.spans.items) (sym c.link.ensures) c.self.invariant
