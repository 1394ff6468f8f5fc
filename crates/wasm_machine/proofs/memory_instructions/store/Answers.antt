use Rattle.std.proofs.Common.{refl, length, ◌+◌, ap, ap₂, ◌∙◌, map}
use Rattle.wasm_ast.specs.declared.instructions.Instr.TheVariants.{Store}
use Rattle.wasm_rules.specs.Accesses.{stored}
use Rattle.wasm_reduction.specs.Combinators.{written}
use Rattle.wasm_machine.proofs.Images.{kept-then}
use Rattle.wasm_machine.proofs.AccessLaws.{came-acts-on, stuck-acts-on}
use Rattle.wasm_machine.proofs.MemoryLaws.{at-fact, at-came, store-came, store-lacks, store-acts}
use Rattle.wasm_machine.proofs.memory_instructions.store.Goals as goal

pub returns-in_default-word-clause-acts : goal.returns-in_default-word-clause-acts
returns-in_default-word-clause-acts g c = λ m align. stuck-acts-on g.A.Algebra.holds g.A.Algebra.means g.A.Algebra.kind m (Store c.args.op align c.args.offset) c.args.a.now c.args.a.now (λ w h. (h, refl)) c.args.s.now c.requires.ready.sane (g.M.Memory.cells c.args.memory.now) c.requires.cells.held
    (store-lacks g.A.Algebra.holds g.A.Algebra.means g.A.Algebra.kind m c.args.a.now c.args.s.now c.requires.ready.sane (g.M.Memory.cells c.args.memory.now) c.requires.cells.held (length (g.M.Memory.cells c.args.memory.now)) refl c.args.op align c.args.offset c.in-Some.access c.in-Some.ensures c.in_default-word.ensures.found)

pub returns-in-Stops-clause-acts : goal.returns-in-Stops-clause-acts
returns-in-Stops-clause-acts g c = λ m align. came-acts-on g.A.Algebra.holds g.A.Algebra.means g.A.Algebra.kind m (Store c.args.op align c.args.offset) c.args.a.now c.address_at.new.a c.in_ok-n.ensures.keeps c.args.s.now c.requires.ready.sane (g.M.Memory.cells c.args.memory.now) c.requires.cells.held c.in_ok-n.field-0 c.in-Stops.n _ c.in_ok-n.ensures.held c.in-Stops.is
    (store-came g.A.Algebra.holds g.A.Algebra.means g.A.Algebra.kind m c.args.a.now c.args.s.now c.requires.ready.sane (g.M.Memory.cells c.args.memory.now) c.requires.cells.held c.length.result c.length.ensures (g.A.Algebra.means c.address_at.new.a) c.in_ok-n.field-0 c.args.op align c.args.offset (c.from.result + c.from-2.result) c.in-Some.access (g.A.Algebra.means c.args.a.now c.in-Some-word.w) c.in-Some.ensures (ap₂ (λ x y. x + y) c.from.ensures c.from-2.ensures) c.in-Some-word.ensures.found c.in_ok-n.ensures.says)

pub returns-in_ok-store-in-At-clause-acts : goal.returns-in_ok-store-in-At-clause-acts
returns-in_ok-store-in-At-clause-acts g c = λ m align. store-acts g.A.Algebra.holds g.A.Algebra.means g.A.Algebra.kind m c.args.a.now c.args.s.now c.requires.ready.sane (g.M.Memory.cells c.args.memory.now) c.requires.cells.held c.length.result c.length.ensures c.address_at.new.a c.store-in-At.new.a (kept-then g.A.Algebra.holds g.A.Algebra.means c.args.a.now c.address_at.new.a c.store-in-At.new.a c.in_ok-n.ensures.keeps c.in_ok-store-in-At.ensures.keeps)
    (at-fact _ c.in_ok-n.field-0 c.in-At.at c.in-At.is c.in_ok-n.ensures.same) c.args.op align c.args.offset c.in-At.at c.in-Some.access c.in-Some-word.w (g.M.Memory.cells c.store-in-At.new.self) c.pass.new.self c.discard.new.self
    (at-fact _ c.in_ok-n.field-0 c.in-At.at c.in-At.is c.in_ok-n.ensures.there) c.pass.ensures c.discard.ensures c.in-Some.ensures c.in_ok-store-in-At.ensures.held
    (c.in_ok-store-in-At.ensures.means ∙ ap (λ o. written (c.in-At.at + o) (stored g.A.Algebra.kind c.args.op (g.A.Algebra.means c.address_at.new.a c.in-Some-word.w)) (map (g.A.Algebra.means c.address_at.new.a) (g.M.Memory.cells c.args.memory.now))) c.from-in-At.ensures)
    (at-came _ _ c.in_ok-n.field-0 c.in-At.at c.in-At.is (store-came g.A.Algebra.holds g.A.Algebra.means g.A.Algebra.kind m c.args.a.now c.args.s.now c.requires.ready.sane (g.M.Memory.cells c.args.memory.now) c.requires.cells.held c.length.result c.length.ensures (g.A.Algebra.means c.address_at.new.a) c.in_ok-n.field-0 c.args.op align c.args.offset (c.from.result + c.from-2.result) c.in-Some.access (g.A.Algebra.means c.args.a.now c.in-Some-word.w) c.in-Some.ensures (ap₂ (λ x y. x + y) c.from.ensures c.from-2.ensures) c.in-Some-word.ensures.found c.in_ok-n.ensures.says))
