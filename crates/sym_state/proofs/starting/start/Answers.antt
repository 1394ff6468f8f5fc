use Rattle.std.proofs.Common.{◌≡◌, ◌∙◌, [], false, refl}
use Rattle.std.specs.Arc.{arc_value}
use Rattle.sym_state.specs.Nodes.{Invocation, root}
use Rattle.sym_state.specs.Fields.{Fields}
use Rattle.sym_state.proofs.StartLemmas.{order-at-first, root-least, root-stands}
use Rattle.sym_state.proofs.starting.start.Goals as goal

pub returns-clause-stands : goal.returns-clause-stands
returns-clause-stands c = λ steps some few.
    let i : Invocation = record { «module» = arc_value c.args.i; entry = c.args.entry; args = c.args.args.now; steps = steps } in
    let s : Fields = record {
      «module» = arc_value c.args.i;
      config = c.in_ok-config.config;
      graph = c.first_config.new.graph;
      conds = c.new-3.result;
      draws = c.new-5.result;
      least = c.new-7.result;
      choices = c.new-9.result;
      asks = 0;
      units = 0;
      broken = false;
    } in
    let none : c.new-3.result ≡ [] = c.new-3.ensures ∙ c.new-2.ensures.items in
    root-stands i ((rw c.deref.ensures at c.can_be_explored.ensures) steps some few) s refl
    (order-at-first s c.in_ok-config.ensures.held none refl) none (c.new-5.ensures ∙ c.new-4.ensures.items) (c.new-7.ensures ∙ c.new-6.ensures.items) (c.new-9.ensures ∙ c.new-8.ensures.items) refl refl
    (rw c.deref-2.ensures at c.in_ok-config.ensures.stage) (c.in_ok-config.ensures.standing (root i) 0)

pub returns-clause-least : goal.returns-clause-least
returns-clause-least c = λ steps some few.
    let i : Invocation = record { «module» = arc_value c.args.i; entry = c.args.entry; args = c.args.args.now; steps = steps } in
    let s : Fields = record {
      «module» = arc_value c.args.i;
      config = c.in_ok-config.config;
      graph = c.first_config.new.graph;
      conds = c.new-3.result;
      draws = c.new-5.result;
      least = c.new-7.result;
      choices = c.new-9.result;
      asks = 0;
      units = 0;
      broken = false;
    } in
    let none : c.new-3.result ≡ [] = c.new-3.ensures ∙ c.new-2.ensures.items in
    root-least i ((rw c.deref.ensures at c.can_be_explored.ensures) steps some few) s refl
    (order-at-first s c.in_ok-config.ensures.held none refl) none (c.new-5.ensures ∙ c.new-4.ensures.items) (c.new-7.ensures ∙ c.new-6.ensures.items) (c.new-9.ensures ∙ c.new-8.ensures.items) refl refl
    (rw c.deref-2.ensures at c.in_ok-config.ensures.stage) (c.in_ok-config.ensures.standing (root i) 0)
