use Rattle.std.proofs.Common.{ap, sym, ◌∙◌, nat_lt}
use Rattle.wasm_machine.proofs.BoundLaws.{depth-is}
use Rattle.wasm_machine.proofs.bounds.is_deep.Goals as goal

pub returns : goal.returns
returns g c = λ m b. ap (λ n. nat_lt 1024 n) (c.depth.ensures ∙ sym (depth-is (g.A.Algebra.means c.args.a.now) m b c.args.s.now))
