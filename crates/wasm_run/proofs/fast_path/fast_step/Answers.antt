use Rattle.wasm_run.proofs.FastPathLemmas.{not_once, is_once, same_run, same_once}
use Rattle.wasm_run.proofs.fast_path.fast_step.Goals as goal

pub returns-then-branch : goal.returns-then-branch
returns-then-branch c = is_once c.in_ok-common_step.field-0 c.args.image.now c.args.steps c.args.s.now c.args.memory.now c.common_step.new.numbers c.common_step.new.s c.common_step.new.memory c.if-branch.true c.in_ok-common_step.ensures

pub rare_step-requires : goal.rare_step-requires
rare_step-requires c = record {
  linked = c.requires.linked;
  run = same_run c.args.s.now c.common_step.new.s c.args.memory.now c.common_step.new.memory (not_once c.in_ok-common_step.field-0 c.args.image.now c.args.steps c.args.s.now c.args.memory.now c.common_step.new.numbers c.common_step.new.s c.common_step.new.memory c.if-branch.false c.in_ok-common_step.ensures) c.args.image.now c.args.steps c.args.numbers.now c.common_step.new.numbers c.requires.run;
}

pub returns : goal.returns
returns c = same_once c.args.s.now c.common_step.new.s c.args.memory.now c.common_step.new.memory (not_once c.in_ok-common_step.field-0 c.args.image.now c.args.steps c.args.s.now c.args.memory.now c.common_step.new.numbers c.common_step.new.s c.common_step.new.memory c.if-branch.false c.in_ok-common_step.ensures) c.args.image.now c.args.steps c.in_ok-rare_step.field-0 c.rare_step.new.numbers c.rare_step.new.s c.rare_step.new.memory c.in_ok-rare_step.ensures
