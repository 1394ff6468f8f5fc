use Rattle.std.proofs.Common.{◌+◌, ap, ap₂, ◌∙◌, map}
use Rattle.wasm_ast.specs.declared.instructions.Instr.TheVariants.{Load}
use Rattle.wasm_rules.specs.Accesses.{loaded, load_bytes}
use Rattle.wasm_reduction.specs.Combinators.{part}
use Rattle.wasm_machine.specs.code.Moves.{replaced}
use Rattle.wasm_machine.proofs.Images.{kept-then}
use Rattle.wasm_machine.proofs.AccessLaws.{came-acts-on}
use Rattle.wasm_machine.proofs.MemoryLaws.{at-fact, at-came, load-came, load-acts}
use Rattle.wasm_machine.proofs.memory_instructions.load.Goals as goal

pub returns-in-Stops-clause-acts : goal.returns-in-Stops-clause-acts
returns-in-Stops-clause-acts g c = λ m align. came-acts-on g.A.Algebra.holds g.A.Algebra.means g.A.Algebra.kind m (Load c.args.op align c.args.offset) c.args.a.now c.address_at.new.a c.in_ok-n.ensures.keeps c.args.s.now c.requires.ready.sane (g.M.Memory.cells c.args.memory.now) c.requires.cells.held c.in_ok-n.field-0 c.in-Stops.n _ c.in_ok-n.ensures.held c.in-Stops.is
    (load-came g.A.Algebra.holds g.A.Algebra.means g.A.Algebra.kind m c.args.a.now c.args.s.now c.requires.ready.sane (g.M.Memory.cells c.args.memory.now) c.requires.cells.held c.length.result c.length.ensures (g.A.Algebra.means c.address_at.new.a) c.in_ok-n.field-0 c.args.op align c.args.offset (c.from.result + c.from-2.result) c.in-Some.access c.in-Some.ensures (ap₂ (λ x y. x + y) c.from.ensures c.from-2.ensures) c.in_ok-n.ensures.says)

pub returns-in_ok-w-in-At-clause-acts : goal.returns-in_ok-w-in-At-clause-acts
returns-in_ok-w-in-At-clause-acts g c = λ m align. load-acts g.A.Algebra.holds g.A.Algebra.means g.A.Algebra.kind m c.args.a.now c.args.s.now c.requires.ready.sane (g.M.Memory.cells c.args.memory.now) c.requires.cells.held c.length.result c.length.ensures c.address_at.new.a c.load-in-At.new.a (kept-then g.A.Algebra.holds g.A.Algebra.means c.args.a.now c.address_at.new.a c.load-in-At.new.a c.in_ok-n.ensures.keeps c.in_ok-w-in-At.ensures.keeps)
    (at-fact _ c.in_ok-n.field-0 c.in-At.at c.in-At.is c.in_ok-n.ensures.same) c.args.op align c.args.offset c.in-At.at c.in-Some.access c.in_ok-w-in-At.w c.pass.new.self c.replace.new.self
    (at-fact _ c.in_ok-n.field-0 c.in-At.at c.in-At.is c.in_ok-n.ensures.there) c.pass.ensures (c.replace.ensures ∙ ap (λ v. replaced 1 v c.pass.new.self) c.of_word.ensures) c.in-Some.ensures c.in_ok-w-in-At.ensures.held
    (c.in_ok-w-in-At.ensures.means ∙ ap (λ o. loaded g.A.Algebra.kind c.args.op (map (g.A.Algebra.means c.address_at.new.a) (part (c.in-At.at + o) (load_bytes c.args.op) (g.M.Memory.cells c.args.memory.now)))) c.from-in-At.ensures)
    (at-came _ _ c.in_ok-n.field-0 c.in-At.at c.in-At.is (load-came g.A.Algebra.holds g.A.Algebra.means g.A.Algebra.kind m c.args.a.now c.args.s.now c.requires.ready.sane (g.M.Memory.cells c.args.memory.now) c.requires.cells.held c.length.result c.length.ensures (g.A.Algebra.means c.address_at.new.a) c.in_ok-n.field-0 c.args.op align c.args.offset (c.from.result + c.from-2.result) c.in-Some.access c.in-Some.ensures (ap₂ (λ x y. x + y) c.from.ensures c.from-2.ensures) c.in_ok-n.ensures.says))
