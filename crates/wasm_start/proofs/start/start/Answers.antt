use Rattle.std.proofs.Common.{map, Ok, sym, ap, ◌∙◌, subst}
use Rattle.std.specs.List.{AllByRecursion}
use Rattle.std.proofs.lemmas.List.Elements.{All-from_recursion}
use Rattle.wasm_machine.specs.Configurations.{configuration}
use Rattle.wasm_start.proofs.StartLemmas.{first_config_of, first_stop_of, bytes_mean, bytes_held}
use Rattle.wasm_start.proofs.start.start.Goals as goal

pub returns-in_ok-machine-in-Ok-clause-begins : goal.returns-in_ok-machine-in-Ok-clause-begins
returns-in_ok-machine-in-Ok-clause-begins g c =
    let t = rw c.in-Ok.is at c.in_ok-p.ensures in
    first_config_of (g.A.Algebra.means c.machine_of.new.a) g.A.Algebra.kind c.args.m.now c.in-Ok.p c.args.entry c.args.args.now t.0 c.in_ok-machine-in-Ok.machine
    c.in_ok-machine-in-Ok.ensures.operands c.in_ok-machine-in-Ok.ensures.globals c.in_ok-machine-in-Ok.ensures.others t.3
    ∙ ap (λ b. Ok (configuration (g.A.Algebra.means c.machine_of.new.a) c.args.m.now b c.in_ok-machine-in-Ok.machine))
    (sym (ap (map (g.A.Algebra.means c.machine_of.new.a)) t.1
    ∙ bytes_mean g.A.Algebra.holds g.A.Algebra.means g.A.Algebra.kind.number g.M.Memory.plain c.machine_of.new.a (λ n lt. g.met.M.Memory.plain_is c.machine_of.new.a n lt) t.0 t.2))

pub returns-in_ok-machine-in-Ok-clause-held : goal.returns-in_ok-machine-in-Ok-clause-held
returns-in_ok-machine-in-Ok-clause-held g c =
    let t = rw c.in-Ok.is at c.in_ok-p.ensures in
    All-from_recursion (g.A.Algebra.holds c.machine_of.new.a) (g.M.Memory.cells c.instantiate.new.memory)
    (subst (AllByRecursion (g.A.Algebra.holds c.machine_of.new.a)) (sym t.1) (bytes_held g.A.Algebra.holds g.A.Algebra.means g.A.Algebra.kind.number g.M.Memory.plain c.machine_of.new.a (λ n lt. g.met.M.Memory.plain_is c.machine_of.new.a n lt) t.0 t.2))

pub returns-in-Err-clause-begins : goal.returns-in-Err-clause-begins
returns-in-Err-clause-begins g c =
    first_stop_of g.A.Algebra.kind c.args.m.now c.args.entry c.args.args.now c.in-Err.stop ((rw c.in-Err.is at c.in_ok-p.ensures).3)

pub returns-in-Err-clause-held : goal.returns-in-Err-clause-held
returns-in-Err-clause-held g c =
    let t = c.in_ok-p.ensures in
    All-from_recursion (g.A.Algebra.holds c.args.a.now) (g.M.Memory.cells c.instantiate.new.memory)
    (subst (AllByRecursion (g.A.Algebra.holds c.args.a.now)) (sym t.1) (bytes_held g.A.Algebra.holds g.A.Algebra.means g.A.Algebra.kind.number g.M.Memory.plain c.args.a.now (λ n lt. g.met.M.Memory.plain_is c.args.a.now n lt) t.0 t.2))
