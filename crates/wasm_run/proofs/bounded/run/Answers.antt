use Rattle.std.proofs.Common.{◌≤◌, ◌<◌, ◌^◌, Err, ap, ◌∙◌}
use Rattle.wasm_rules.specs.Words.{taken}
use Rattle.wasm_reduction.specs.Runs.{by_value}
use Rattle.std.proofs.lemmas.List.Elements.{recursion_from_All}
use Rattle.wasm_check.specs.Contexts.{imported_memories}
use Rattle.wasm_image.specs.Sizes.{most_pages}
use Rattle.wasm_start.specs.Starts.{stop_of}
use Rattle.wasm_run.specs.code.Places.{config_at}
use Rattle.wasm_run.proofs.ReachedLemmas.{own_are_small, begins_at, ends_at_once, never_begins_stuck}
use Rattle.wasm_run.proofs.bounded.run.Goals as goal

pub memory_pages-requires-clause-small : goal.memory_pages-requires-clause-small
memory_pages-requires-clause-small c =
    rw c.module-2.ensures.module (own_are_small (λ l. l.min ≤ most_pages) (imported_memories c.args.image.now) c.args.image.now.memories c.requires.ready.fits.memories)

pub go-requires-clause-order : goal.go-requires-clause-order
go-requires-clause-order c = record {
  sane = rw c.in-Goes.is at c.in_ok-s.ensures.order;
  cells = recursion_from_All (λ w. w < 2 ^ 64) c.start.new.memory c.in_ok-s.ensures.held;
}

pub go-requires-clause-place : goal.go-requires-clause-place
go-requires-clause-place c =
    begins_at c.args.image.now c.args.entry c.args.args.now c.args.input.now c.args.steps (config_at c.args.image.now c.start.new.memory c.in-Goes.s)
    (rw c.module-3.ensures.module at (rw c.in-Goes.is at c.in_ok-s.ensures.begins))

pub stopped-requires : goal.stopped-requires
stopped-requires c stuck =
    never_begins_stuck c.args.image.now c.args.entry c.args.args.now c.args.input.now c.args.steps
    (λ n trace. c.runs_are_never_stuck.ensures c.args.image.now c.args.entry c.args.args.now (taken c.args.input.now) by_value c.args.steps n (record { shape = c.module.ensures.shape; valid = c.module.ensures.valid; ready = c.requires.ready }) (record { types = c.requires.fit; named = c.requires.refer }) trace)
    (rw c.module-3.ensures.module at (rw c.in-Ends.is at c.in_ok-s.ensures.begins) ∙ ap (λ stop. Err (stop_of stop)) stuck)

pub go-requires-clause-asked : goal.go-requires-clause-asked
go-requires-clause-asked c = record {
  can = c.requires;
  valid = c.module.ensures.valid;
  has_numbers = rw c.module.ensures.module at c.module_has_numbers.ensures;
  arguments_fit = c.arguments_fit.ensures;
  goes = λ input n trace. c.runs_are_never_stuck.ensures c.args.image.now c.args.entry c.args.args.now (taken input) by_value c.args.steps n (record { shape = c.module.ensures.shape; valid = c.module.ensures.valid; ready = c.requires.ready }) (record { types = c.requires.fit; named = c.requires.refer }) trace;
}

pub returns : goal.returns
returns c =
    rw (c.new-in-Ends-2.ensures, c.new-in-Ends.ensures.items)
    (ends_at_once c.args.image.now c.args.entry c.args.args.now c.args.input.now c.args.steps (stop_of c.in-Ends.stop) c.stopped.result
    (rw c.module-3.ensures.module at (rw c.in-Ends.is at c.in_ok-s.ensures.begins)) c.stopped.ensures)
