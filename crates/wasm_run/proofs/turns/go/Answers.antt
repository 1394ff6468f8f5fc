use Rattle.std.proofs.Common.{map, arith, ◌<◌, ◌^◌, ◌++◌, ◌∷◌, [], length, sym, subst, ◌∙◌}
use Rattle.wasm_rules.specs.Words.{taken}
use Rattle.wasm_reduction.proofs.Endings.{weight}
use Rattle.wasm_run.specs.code.Places.{config_at, Place}
use Rattle.wasm_run.proofs.PlaceLemmas.{run_is_deep, run_is_bound}
use Rattle.wasm_run.proofs.ReachedLemmas.{is_fit, settled_widths, never_stuck, goes_on, goes_down, draws_on, draws_down, ends_so, taken-small}
use Rattle.wasm_run.proofs.TurnLemmas.{drawn-is, order_pushed}
use Rattle.wasm_run.proofs.FastPathLemmas.{not_once, is_once, same_order, same_fit, same_settled}
use Rattle.wasm_run.proofs.turns.go.Goals as goal

pub returns-then-is_deep : goal.returns-then-is_deep
returns-then-is_deep c =
    rw c.new.ensures (run_is_deep c.args.request.now.image.now c.args.request.now.entry c.args.request.now.args.now c.args.request.now.input.now c.args.request.now.steps (config_at c.args.request.now.image.now c.turning.memory c.turning.s) c.turning.draws.items c.turning.invariant.place (sym (c.is_deep.ensures c.args.request.now.image.now (map (λ n. n) c.turning.memory)) ∙ c.if-is_deep.true))

pub returns-then-is_spent : goal.returns-then-is_spent
returns-then-is_spent c =
    rw c.new-then-is_spent.ensures (run_is_bound c.args.request.now.image.now c.args.request.now.entry c.args.request.now.args.now c.args.request.now.input.now c.args.request.now.steps (config_at c.args.request.now.image.now c.turning.memory c.turning.s) c.turning.draws.items c.turning.invariant.place (sym (c.is_deep.ensures c.args.request.now.image.now (map (λ n. n) c.turning.memory)) ∙ c.if-is_deep.false)
    (sym ((rw c.module.ensures.module at c.is_spent.ensures) (map (λ n. n) c.turning.memory)) ∙ c.if-is_spent.true))

pub fast_step-requires : goal.fast_step-requires
fast_step-requires c = record {
  linked = c.requires.asked.can.ready.linked;
  run = record {
    order = c.turning.invariant.order;
    fit = is_fit c.args.request.now.image.now c.args.request.now.entry c.args.request.now.args.now c.args.request.now.input.now c.args.request.now.steps c.requires.asked (config_at c.args.request.now.image.now c.turning.memory c.turning.s) c.turning.draws.items c.turning.invariant.place (record { frames = sym (c.is_deep.ensures c.args.request.now.image.now (map (λ n. n) c.turning.memory)) ∙ c.if-is_deep.false; units = sym ((rw c.module.ensures.module at c.is_spent.ensures) (map (λ n. n) c.turning.memory)) ∙ c.if-is_spent.false });
    few = omega (arith, c.requires.asked.can.most);
    sound = never_stuck c.args.request.now.image.now c.args.request.now.entry c.args.request.now.args.now c.args.request.now.input.now c.args.request.now.steps c.requires.asked (config_at c.args.request.now.image.now c.turning.memory c.turning.s) c.turning.draws.items c.turning.invariant.place (record { frames = sym (c.is_deep.ensures c.args.request.now.image.now (map (λ n. n) c.turning.memory)) ∙ c.if-is_deep.false; units = sym ((rw c.module.ensures.module at c.is_spent.ensures) (map (λ n. n) c.turning.memory)) ∙ c.if-is_spent.false });
  };
}

pub turning-preserved-then-branch : goal.turning-preserved-then-branch
turning-preserved-then-branch c =
    let gone_on = (is_once c.in_ok-fast_step.field-0 c.args.request.now.image.now c.args.request.now.steps c.turning.s c.turning.memory c.fast_step.new.numbers c.fast_step.new.s c.fast_step.new.memory c.if-branch.true c.in_ok-fast_step.ensures) in
    record { order = gone_on.order; place = goes_on c.args.request.now.image.now c.args.request.now.entry c.args.request.now.args.now c.args.request.now.input.now c.args.request.now.steps c.requires.asked (config_at c.args.request.now.image.now c.turning.memory c.turning.s) c.turning.draws.items c.turning.invariant.place (record { frames = sym (c.is_deep.ensures c.args.request.now.image.now (map (λ n. n) c.turning.memory)) ∙ c.if-is_deep.false; units = sym ((rw c.module.ensures.module at c.is_spent.ensures) (map (λ n. n) c.turning.memory)) ∙ c.if-is_spent.false }) _ gone_on.settled }

pub turning-smaller-then-branch : goal.turning-smaller-then-branch
turning-smaller-then-branch c =
    let gone_on = (is_once c.in_ok-fast_step.field-0 c.args.request.now.image.now c.args.request.now.steps c.turning.s c.turning.memory c.fast_step.new.numbers c.fast_step.new.s c.fast_step.new.memory c.if-branch.true c.in_ok-fast_step.ensures) in
    goes_down c.args.request.now.image.now c.args.request.now.entry c.args.request.now.args.now c.args.request.now.input.now c.args.request.now.steps c.requires.asked (config_at c.args.request.now.image.now c.turning.memory c.turning.s) c.turning.draws.items c.turning.invariant.place (record { frames = sym (c.is_deep.ensures c.args.request.now.image.now (map (λ n. n) c.turning.memory)) ∙ c.if-is_deep.false; units = sym ((rw c.module.ensures.module at c.is_spent.ensures) (map (λ n. n) c.turning.memory)) ∙ c.if-is_spent.false }) _ gone_on.settled

pub settle-requires-clause-order : goal.settle-requires-clause-order
settle-requires-clause-order c = same_order c.turning.s c.fast_step.new.s c.turning.memory c.fast_step.new.memory (not_once c.in_ok-fast_step.field-0 c.args.request.now.image.now c.args.request.now.steps c.turning.s c.turning.memory c.fast_step.new.numbers c.fast_step.new.s c.fast_step.new.memory c.if-branch.false c.in_ok-fast_step.ensures) c.turning.numbers c.fast_step.new.numbers c.turning.invariant.order

pub settle-requires-clause-fit : goal.settle-requires-clause-fit
settle-requires-clause-fit c = same_fit c.turning.s c.fast_step.new.s c.turning.memory c.fast_step.new.memory (not_once c.in_ok-fast_step.field-0 c.args.request.now.image.now c.args.request.now.steps c.turning.s c.turning.memory c.fast_step.new.numbers c.fast_step.new.s c.fast_step.new.memory c.if-branch.false c.in_ok-fast_step.ensures) c.args.request.now.image.now c.args.request.now.steps (is_fit c.args.request.now.image.now c.args.request.now.entry c.args.request.now.args.now c.args.request.now.input.now c.args.request.now.steps c.requires.asked (config_at c.args.request.now.image.now c.turning.memory c.turning.s) c.turning.draws.items c.turning.invariant.place (record { frames = sym (c.is_deep.ensures c.args.request.now.image.now (map (λ n. n) c.turning.memory)) ∙ c.if-is_deep.false; units = sym ((rw c.module.ensures.module at c.is_spent.ensures) (map (λ n. n) c.turning.memory)) ∙ c.if-is_spent.false }))

pub outcome_of-requires : goal.outcome_of-requires
outcome_of-requires c = record {
  widths = settled_widths c.args.request.now.image.now c.args.request.now.entry c.args.request.now.args.now c.args.request.now.input.now c.args.request.now.steps c.requires.asked (config_at c.args.request.now.image.now c.turning.memory c.turning.s) c.turning.draws.items c.turning.invariant.place (record { frames = sym (c.is_deep.ensures c.args.request.now.image.now (map (λ n. n) c.turning.memory)) ∙ c.if-is_deep.false; units = sym ((rw c.module.ensures.module at c.is_spent.ensures) (map (λ n. n) c.turning.memory)) ∙ c.if-is_spent.false }) _ (same_settled c.turning.s c.fast_step.new.s c.turning.memory c.fast_step.new.memory (not_once c.in_ok-fast_step.field-0 c.args.request.now.image.now c.args.request.now.steps c.turning.s c.turning.memory c.fast_step.new.numbers c.fast_step.new.s c.fast_step.new.memory c.if-branch.false c.in_ok-fast_step.ensures) c.args.request.now.image.now c.args.request.now.steps _ (rw c.in-Ends.is at c.in_ok-settle.ensures.settled));
  goes = never_stuck c.args.request.now.image.now c.args.request.now.entry c.args.request.now.args.now c.args.request.now.input.now c.args.request.now.steps c.requires.asked (config_at c.args.request.now.image.now c.turning.memory c.turning.s) c.turning.draws.items c.turning.invariant.place (record { frames = sym (c.is_deep.ensures c.args.request.now.image.now (map (λ n. n) c.turning.memory)) ∙ c.if-is_deep.false; units = sym ((rw c.module.ensures.module at c.is_spent.ensures) (map (λ n. n) c.turning.memory)) ∙ c.if-is_spent.false }) _ (same_settled c.turning.s c.fast_step.new.s c.turning.memory c.fast_step.new.memory (not_once c.in_ok-fast_step.field-0 c.args.request.now.image.now c.args.request.now.steps c.turning.s c.turning.memory c.fast_step.new.numbers c.fast_step.new.s c.fast_step.new.memory c.if-branch.false c.in_ok-fast_step.ensures) c.args.request.now.image.now c.args.request.now.steps _ (rw c.in-Ends.is at c.in_ok-settle.ensures.settled));
}

pub turning-preserved-in-Goes : goal.turning-preserved-in-Goes
turning-preserved-in-Goes c = record {
  order = rw c.in-Goes.is at c.in_ok-settle.ensures.order;
  place = goes_on c.args.request.now.image.now c.args.request.now.entry c.args.request.now.args.now c.args.request.now.input.now c.args.request.now.steps c.requires.asked (config_at c.args.request.now.image.now c.turning.memory c.turning.s) c.turning.draws.items c.turning.invariant.place (record { frames = sym (c.is_deep.ensures c.args.request.now.image.now (map (λ n. n) c.turning.memory)) ∙ c.if-is_deep.false; units = sym ((rw c.module.ensures.module at c.is_spent.ensures) (map (λ n. n) c.turning.memory)) ∙ c.if-is_spent.false }) _ (same_settled c.turning.s c.fast_step.new.s c.turning.memory c.fast_step.new.memory (not_once c.in_ok-fast_step.field-0 c.args.request.now.image.now c.args.request.now.steps c.turning.s c.turning.memory c.fast_step.new.numbers c.fast_step.new.s c.fast_step.new.memory c.if-branch.false c.in_ok-fast_step.ensures) c.args.request.now.image.now c.args.request.now.steps _ (rw c.in-Goes.is at c.in_ok-settle.ensures.settled));
}

pub turning-smaller-in-Goes : goal.turning-smaller-in-Goes
turning-smaller-in-Goes c = goes_down c.args.request.now.image.now c.args.request.now.entry c.args.request.now.args.now c.args.request.now.input.now c.args.request.now.steps c.requires.asked (config_at c.args.request.now.image.now c.turning.memory c.turning.s) c.turning.draws.items c.turning.invariant.place (record { frames = sym (c.is_deep.ensures c.args.request.now.image.now (map (λ n. n) c.turning.memory)) ∙ c.if-is_deep.false; units = sym ((rw c.module.ensures.module at c.is_spent.ensures) (map (λ n. n) c.turning.memory)) ∙ c.if-is_spent.false }) _ (same_settled c.turning.s c.fast_step.new.s c.turning.memory c.fast_step.new.memory (not_once c.in_ok-fast_step.field-0 c.args.request.now.image.now c.args.request.now.steps c.turning.s c.turning.memory c.fast_step.new.numbers c.fast_step.new.s c.fast_step.new.memory c.if-branch.false c.in_ok-fast_step.ensures) c.args.request.now.image.now c.args.request.now.steps _ (rw c.in-Goes.is at c.in_ok-settle.ensures.settled))

pub turning-preserved : goal.turning-preserved
turning-preserved c = record {
  order =
      rw c.in_ok-draw-in-Draws.ensures.symbol (
      order_pushed c.settle.new.numbers c.settle.new.s c.settle.new.memory c.in-Draws.wide (taken c.args.request.now.input.now (length c.turning.draws.items) c.in-Draws.wide)
      (taken-small c.args.request.now.input.now (length c.turning.draws.items) c.in-Draws.wide) (rw c.in-Draws.is at c.in_ok-settle.ensures.order)
      );
  place =
      let order = rw c.in-Draws.is at c.in_ok-settle.ensures.order in
      rw (c.in_ok-draw-in-Draws.ensures.symbol, c.in_ok-draw-in-Draws.ensures.draws) (
      subst (λ d. Place c.args.request.now.image.now c.args.request.now.entry c.args.request.now.args.now c.args.request.now.input.now c.args.request.now.steps d (c.turning.draws.items ++ record { wide = c.in-Draws.wide; value = taken c.args.request.now.input.now (length c.turning.draws.items) c.in-Draws.wide } ∷ []))
      (sym (drawn-is (λ _ w. w < 2 ^ 64) c.settle.new.numbers c.args.request.now.image.now c.settle.new.memory c.settle.new.s c.in-Draws.wide (taken c.args.request.now.input.now (length c.turning.draws.items) c.in-Draws.wide) order.sane))
      (draws_on c.args.request.now.image.now c.args.request.now.entry c.args.request.now.args.now c.args.request.now.input.now c.args.request.now.steps c.requires.asked (config_at c.args.request.now.image.now c.turning.memory c.turning.s) c.turning.draws.items c.turning.invariant.place (record { frames = sym (c.is_deep.ensures c.args.request.now.image.now (map (λ n. n) c.turning.memory)) ∙ c.if-is_deep.false; units = sym ((rw c.module.ensures.module at c.is_spent.ensures) (map (λ n. n) c.turning.memory)) ∙ c.if-is_spent.false }) c.in-Draws.wide _ (same_settled c.turning.s c.fast_step.new.s c.turning.memory c.fast_step.new.memory (not_once c.in_ok-fast_step.field-0 c.args.request.now.image.now c.args.request.now.steps c.turning.s c.turning.memory c.fast_step.new.numbers c.fast_step.new.s c.fast_step.new.memory c.if-branch.false c.in_ok-fast_step.ensures) c.args.request.now.image.now c.args.request.now.steps _ (rw c.in-Draws.is at c.in_ok-settle.ensures.settled)))
      );
}

pub turning-smaller : goal.turning-smaller
turning-smaller c =
    let order = rw c.in-Draws.is at c.in_ok-settle.ensures.order in
    rw c.in_ok-draw-in-Draws.ensures.symbol (
    subst (λ d. weight c.args.request.now.steps d < weight c.args.request.now.steps (config_at c.args.request.now.image.now c.turning.memory c.turning.s))
    (sym (drawn-is (λ _ w. w < 2 ^ 64) c.settle.new.numbers c.args.request.now.image.now c.settle.new.memory c.settle.new.s c.in-Draws.wide (taken c.args.request.now.input.now (length c.turning.draws.items) c.in-Draws.wide) order.sane))
    (draws_down c.args.request.now.image.now c.args.request.now.entry c.args.request.now.args.now c.args.request.now.input.now c.args.request.now.steps c.requires.asked (config_at c.args.request.now.image.now c.turning.memory c.turning.s) c.turning.draws.items c.turning.invariant.place (record { frames = sym (c.is_deep.ensures c.args.request.now.image.now (map (λ n. n) c.turning.memory)) ∙ c.if-is_deep.false; units = sym ((rw c.module.ensures.module at c.is_spent.ensures) (map (λ n. n) c.turning.memory)) ∙ c.if-is_spent.false }) c.in-Draws.wide _ _ (same_settled c.turning.s c.fast_step.new.s c.turning.memory c.fast_step.new.memory (not_once c.in_ok-fast_step.field-0 c.args.request.now.image.now c.args.request.now.steps c.turning.s c.turning.memory c.fast_step.new.numbers c.fast_step.new.s c.fast_step.new.memory c.if-branch.false c.in_ok-fast_step.ensures) c.args.request.now.image.now c.args.request.now.steps _ (rw c.in-Draws.is at c.in_ok-settle.ensures.settled)))
    )

pub returns-in-Ends : goal.returns-in-Ends
returns-in-Ends c =
    rw c.new-in-Ends.ensures (ends_so c.args.request.now.image.now c.args.request.now.entry c.args.request.now.args.now c.args.request.now.input.now c.args.request.now.steps c.requires.asked (config_at c.args.request.now.image.now c.turning.memory c.turning.s) c.turning.draws.items c.turning.invariant.place (record { frames = sym (c.is_deep.ensures c.args.request.now.image.now (map (λ n. n) c.turning.memory)) ∙ c.if-is_deep.false; units = sym ((rw c.module.ensures.module at c.is_spent.ensures) (map (λ n. n) c.turning.memory)) ∙ c.if-is_spent.false }) _ c.in_ok-outcome-in-Ends.outcome (same_settled c.turning.s c.fast_step.new.s c.turning.memory c.fast_step.new.memory (not_once c.in_ok-fast_step.field-0 c.args.request.now.image.now c.args.request.now.steps c.turning.s c.turning.memory c.fast_step.new.numbers c.fast_step.new.s c.fast_step.new.memory c.if-branch.false c.in_ok-fast_step.ensures) c.args.request.now.image.now c.args.request.now.steps _ (rw c.in-Ends.is at c.in_ok-settle.ensures.settled)) c.in_ok-outcome-in-Ends.ensures)
