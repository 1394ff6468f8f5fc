use Rattle.std.proofs.Common.{◌≤◌, [], map, arith}
use Rattle.wasm_reduction.specs.Runs.{by_list}
use Rattle.bv_terms.specs.Making.{terms}
use Rattle.bv_terms.specs.Graphs.{term_of}
use Rattle.wasm_reduction.specs.Instantiation.{first_config}
use Rattle.sym_state.specs.Fields.{words_of_cells}
use Rattle.wasm_check.specs.Contexts.{imported_memories}
use Rattle.wasm_image.specs.Sizes.{most_pages}
use Rattle.sym_state.specs.Nodes.{Invocation, CanExplore}
use Rattle.sym_state.proofs.StartLemmas.{first-words, never-stuck-at-first, not-stuck, own-are-small}
use Rattle.sym_state.proofs.starting.first_config.Goals as goal

pub memory_pages-requires-clause-small : goal.memory_pages-requires-clause-small
memory_pages-requires-clause-small c =
    rw c.module-m.ensures.module (own-are-small (λ l. l.min ≤ most_pages) (imported_memories c.args.image.now) c.args.image.now.memories c.requires.ready.fits.memories)

pub start-requires : goal.start-requires
start-requires c = first-words c.module-m.result.now c.memory_pages.result c.in_ok-memory.memory c.memory_pages.ensures c.in_ok-memory.ensures

pub begun_config-requires : goal.begun_config-requires
begun_config-requires c =
    let i : Invocation = record { «module» = c.args.image.now; entry = c.args.entry; args = c.args.args.now; steps = 1 } in
    let can : CanExplore i = c.can_be_explored.ensures 1 (omega arith) (omega arith) in
    not-stuck (term_of c.start.new.a) c.args.image.now (map (term_of c.start.new.a) (words_of_cells c.start.new.memory)) (first_config terms i.«module» i.entry i.args) c.in_ok-begun.begun
    (rw c.module-m.ensures.module at c.in_ok-begun.ensures.begins)
    (never-stuck-at-first i (λ n trace. c.runs_are_never_stuck.ensures i.«module» i.entry i.args terms.symbol (by_list []) 1 n can.can can.fit trace))

pub returns-clause-held : goal.returns-clause-held
returns-clause-held c = c.begun_config.ensures.held c.start.new.a c.in_ok-begun.ensures.order (rw c.memory.view_is c.in_ok-begun.ensures.held)

pub returns-clause-standing : goal.returns-clause-standing
returns-clause-standing c = λ n turns. c.begun_config.ensures.standing n turns c.start.new.a
