use Rattle.std.proofs.Common.{◌≡◌, length, refl, subst, ◌∷◌, [], arith}
use Rattle.clause_solver.specs.code.Watching.{Put}
use Rattle.clause_solver.specs.code.Renewing.{Renewed}
use Rattle.clause_solver.proofs.Visiting.{added_sound, added_before}
use Rattle.clause_solver.proofs.watches.Watches.add.Goals as goal

pub returns-clause-sound : goal.returns-clause-sound
returns-clause-sound c =
    let same : c.len-number.result ≡ length c.args.self.now.pairs.items = omega (arith, c.len-number.ensures, c.args.self.now.pairs.ok.0) in
    added_sound c.args.trail.now c.args.clauses.now c.args.pair c.args.self.now (record { lists = c.put_one.new.self; pairs = c.push.new.self; candidates = c.args.self.now.candidates }) c.renew.new.self c.in_ok-push.ensures.items refl
    (subst (λ n. Put c.args.self.now.lists c.put_one.new.self n (c.args.pair.1 ∷ [])) same c.in_ok-put_one.ensures)
    (subst (λ n. Renewed c.args.trail.now c.args.clauses.now n c.args.pair.0 c.args.pair.1 (record { lists = c.put_one.new.self; pairs = c.push.new.self; candidates = c.args.self.now.candidates }) c.renew.new.self) same c.in_ok-renew.ensures)

pub returns-clause-before : goal.returns-clause-before
returns-clause-before c =
    let same : c.len-number.result ≡ length c.args.self.now.pairs.items = omega (arith, c.len-number.ensures, c.args.self.now.pairs.ok.0) in
    added_before c.args.trail.now c.args.clauses.now c.args.pair c.args.self.now (record { lists = c.put_one.new.self; pairs = c.push.new.self; candidates = c.args.self.now.candidates }) c.renew.new.self c.in_ok-push.ensures.items refl
    (subst (λ n. Put c.args.self.now.lists c.put_one.new.self n (c.args.pair.1 ∷ [])) same c.in_ok-put_one.ensures)
    (subst (λ n. Renewed c.args.trail.now c.args.clauses.now n c.args.pair.0 c.args.pair.1 (record { lists = c.put_one.new.self; pairs = c.push.new.self; candidates = c.args.self.now.candidates }) c.renew.new.self) same c.in_ok-renew.ensures)
