use Rattle.std.proofs.Common.{map, sym, ap, ◌∙◌, subst}
use Rattle.bv_terms.specs.Graphs.{Holds, term_of}
use Rattle.bv_terms.specs.declared.words.Word.TheVariants.{Term as Numbered}
use Rattle.sym_state.specs.declared.config.Standing.TheVariants.{Asks as AsksThere}
use Rattle.sym_state.specs.Fields.{words_of_cells}
use Rattle.sym_step.specs.code.Turning.{StandsThere}
use Rattle.sym_step.proofs.SettleLaws.{kept-more}
use Rattle.sym_step.proofs.StandLaws.{begins-turning, somewhere-now, known-there, stands-deep, stands-bound, turning-goes, smaller-goes, turning-draws, smaller-draws, stands-asked, stands-void, ends-rightly, stands-ended, end-held, end-free}
use Rattle.sym_step.proofs.turns.turns.Goals as goal

pub turning-init : goal.turning-init
turning-init c = begins-turning c.args.image.now c.args.steps c.args.graph.now c.args.s.now c.args.memory.now c.args.draws.now c.args.asks.now c.requires.held

pub returns-then-is_deep-clause-there : goal.returns-then-is_deep-clause-there
returns-then-is_deep-clause-there c = λ n p is. rw (ap (λ s. s.units) c.s.view_is) (stands-deep c.args.image.now c.args.steps c.args.graph.now c.args.s.now c.args.memory.now c.args.draws.now c.args.asks.now c.turning.graph c.turning.s c.turning.memory c.turning.draws c.turning.asks c.turning.invariant n p is (sym (c.is_deep.ensures c.args.image.now (map (term_of c.turning.graph) (words_of_cells c.turning.memory))) ∙ c.if-is_deep.true))

pub returns-then-is_deep-clause-held : goal.returns-then-is_deep-clause-held
returns-then-is_deep-clause-held c = c.turning.invariant.held

pub returns-then-is_deep-clause-kept : goal.returns-then-is_deep-clause-kept
returns-then-is_deep-clause-kept c = c.turning.invariant.kept

pub returns-then-is_spent-clause-there : goal.returns-then-is_spent-clause-there
returns-then-is_spent-clause-there c = λ n p is. rw (ap (λ s. s.units) c.s.view_is) (stands-bound c.args.image.now c.args.steps c.args.graph.now c.args.s.now c.args.memory.now c.args.draws.now c.args.asks.now c.turning.graph c.turning.s c.turning.memory c.turning.draws c.turning.asks c.turning.invariant n p is (sym (c.is_deep.ensures c.args.image.now (map (term_of c.turning.graph) (words_of_cells c.turning.memory))) ∙ c.if-is_deep.false) (sym ((rw c.module.ensures.module at c.is_spent.ensures) (map (term_of c.turning.graph) (words_of_cells c.turning.memory))) ∙ c.if-is_spent.true))

pub returns-then-is_spent-clause-held : goal.returns-then-is_spent-clause-held
returns-then-is_spent-clause-held c = c.turning.invariant.held

pub returns-then-is_spent-clause-kept : goal.returns-then-is_spent-clause-kept
returns-then-is_spent-clause-kept c = c.turning.invariant.kept

pub settle-requires-clause-held : goal.settle-requires-clause-held
settle-requires-clause-held c = c.turning.invariant.held

pub settle-requires-clause-somewhere : goal.settle-requires-clause-somewhere
settle-requires-clause-somewhere c = (c.args.steps, c.turning.draws, (record { frames = sym (c.is_deep.ensures c.args.image.now (map (term_of c.turning.graph) (words_of_cells c.turning.memory))) ∙ c.if-is_deep.false; units = sym ((rw c.module.ensures.module at c.is_spent.ensures) (map (term_of c.turning.graph) (words_of_cells c.turning.memory))) ∙ c.if-is_spent.false }), somewhere-now c.args.image.now c.args.steps c.args.graph.now c.args.s.now c.args.memory.now c.args.draws.now c.args.asks.now c.turning.graph c.turning.s c.turning.memory c.turning.draws c.turning.asks c.turning.invariant c.requires.somewhere)

pub turning-smaller-in-Goes : goal.turning-smaller-in-Goes
turning-smaller-in-Goes c = smaller-goes c.args.image.now c.args.steps c.args.graph.now c.args.s.now c.args.memory.now c.args.draws.now c.args.asks.now c.turning.graph c.turning.s c.turning.memory c.turning.draws c.turning.asks c.turning.invariant (record { frames = sym (c.is_deep.ensures c.args.image.now (map (term_of c.turning.graph) (words_of_cells c.turning.memory))) ∙ c.if-is_deep.false; units = sym ((rw c.module.ensures.module at c.is_spent.ensures) (map (term_of c.turning.graph) (words_of_cells c.turning.memory))) ∙ c.if-is_spent.false }) c.settle.new.graph c.settle.new.s c.settle.new.memory c.settle.new.asks c.settle.ensures.kept (known-there c.args.image.now c.args.steps c.args.graph.now c.args.s.now c.args.memory.now c.args.draws.now c.args.asks.now c.turning.graph c.turning.s c.turning.memory c.turning.draws c.turning.asks c.turning.invariant c.requires.somewhere).ready ((rw (c.in-Goes.is) at c.in_ok-settle.ensures.settles) c.args.steps c.turning.draws (record { frames = sym (c.is_deep.ensures c.args.image.now (map (term_of c.turning.graph) (words_of_cells c.turning.memory))) ∙ c.if-is_deep.false; units = sym ((rw c.module.ensures.module at c.is_spent.ensures) (map (term_of c.turning.graph) (words_of_cells c.turning.memory))) ∙ c.if-is_spent.false }))

pub turning-preserved-in-Goes : goal.turning-preserved-in-Goes
turning-preserved-in-Goes c = turning-goes c.args.image.now c.args.steps c.args.graph.now c.args.s.now c.args.memory.now c.args.draws.now c.args.asks.now c.turning.graph c.turning.s c.turning.memory c.turning.draws c.turning.asks c.turning.invariant (record { frames = sym (c.is_deep.ensures c.args.image.now (map (term_of c.turning.graph) (words_of_cells c.turning.memory))) ∙ c.if-is_deep.false; units = sym ((rw c.module.ensures.module at c.is_spent.ensures) (map (term_of c.turning.graph) (words_of_cells c.turning.memory))) ∙ c.if-is_spent.false }) c.settle.new.graph c.settle.new.s c.settle.new.memory c.settle.new.asks c.settle.ensures.kept ((rw (c.in-Goes.is) at c.in_ok-settle.ensures.settles) c.args.steps c.turning.draws (record { frames = sym (c.is_deep.ensures c.args.image.now (map (term_of c.turning.graph) (words_of_cells c.turning.memory))) ∙ c.if-is_deep.false; units = sym ((rw c.module.ensures.module at c.is_spent.ensures) (map (term_of c.turning.graph) (words_of_cells c.turning.memory))) ∙ c.if-is_spent.false }))

pub turning-smaller : goal.turning-smaller
turning-smaller c = smaller-draws c.args.image.now c.args.steps c.args.graph.now c.args.s.now c.args.memory.now c.args.draws.now c.args.asks.now c.turning.graph c.turning.s c.turning.memory c.turning.draws c.turning.asks c.turning.invariant (record { frames = sym (c.is_deep.ensures c.args.image.now (map (term_of c.turning.graph) (words_of_cells c.turning.memory))) ∙ c.if-is_deep.false; units = sym ((rw c.module.ensures.module at c.is_spent.ensures) (map (term_of c.turning.graph) (words_of_cells c.turning.memory))) ∙ c.if-is_spent.false }) c.settle.new.graph c.settle.new.s c.settle.new.memory c.settle.new.asks c.settle.ensures.kept c.in-Draws.wide ((rw (c.in-Draws.is) at c.in_ok-settle.ensures.settles) c.args.steps c.turning.draws (record { frames = sym (c.is_deep.ensures c.args.image.now (map (term_of c.turning.graph) (words_of_cells c.turning.memory))) ∙ c.if-is_deep.false; units = sym ((rw c.module.ensures.module at c.is_spent.ensures) (map (term_of c.turning.graph) (words_of_cells c.turning.memory))) ∙ c.if-is_spent.false })) c.draw.new.graph c.draw.new.s c.draw.new.draws c.in_ok-draw-in-Draws.ensures.symbol c.in_ok-draw-in-Draws.ensures.draws (known-there c.args.image.now c.args.steps c.args.graph.now c.args.s.now c.args.memory.now c.args.draws.now c.args.asks.now c.turning.graph c.turning.s c.turning.memory c.turning.draws c.turning.asks c.turning.invariant c.requires.somewhere).ready

pub turning-preserved : goal.turning-preserved
turning-preserved c = turning-draws c.args.image.now c.args.steps c.args.graph.now c.args.s.now c.args.memory.now c.args.draws.now c.args.asks.now c.turning.graph c.turning.s c.turning.memory c.turning.draws c.turning.asks c.turning.invariant (record { frames = sym (c.is_deep.ensures c.args.image.now (map (term_of c.turning.graph) (words_of_cells c.turning.memory))) ∙ c.if-is_deep.false; units = sym ((rw c.module.ensures.module at c.is_spent.ensures) (map (term_of c.turning.graph) (words_of_cells c.turning.memory))) ∙ c.if-is_spent.false }) c.settle.new.graph c.settle.new.s c.settle.new.memory c.settle.new.asks c.settle.ensures.kept c.in-Draws.wide ((rw (c.in-Draws.is) at c.in_ok-settle.ensures.settles) c.args.steps c.turning.draws (record { frames = sym (c.is_deep.ensures c.args.image.now (map (term_of c.turning.graph) (words_of_cells c.turning.memory))) ∙ c.if-is_deep.false; units = sym ((rw c.module.ensures.module at c.is_spent.ensures) (map (term_of c.turning.graph) (words_of_cells c.turning.memory))) ∙ c.if-is_spent.false })) c.draw.new.graph c.draw.new.s c.draw.new.draws c.in_ok-draw-in-Draws.ensures.symbol c.in_ok-draw-in-Draws.ensures.draws

pub returns-in-Asks-default-Num-clause-there : goal.returns-in-Asks-default-Num-clause-there
returns-in-Asks-default-Num-clause-there c = λ n p is. rw (ap (λ s. s.units) c.s.view_is) (stands-void c.args.image.now c.args.steps c.args.graph.now c.args.s.now c.args.memory.now c.args.draws.now c.args.asks.now c.turning.graph c.turning.s c.turning.memory c.turning.draws c.turning.asks c.turning.invariant (record { frames = sym (c.is_deep.ensures c.args.image.now (map (term_of c.turning.graph) (words_of_cells c.turning.memory))) ∙ c.if-is_deep.false; units = sym ((rw c.module.ensures.module at c.is_spent.ensures) (map (term_of c.turning.graph) (words_of_cells c.turning.memory))) ∙ c.if-is_spent.false }) c.settle.new.graph c.settle.new.s c.settle.new.memory c.settle.new.asks c.settle.ensures.kept n p is c.in-Asks-default-Num.field-0 c.in-Asks-default-Num.field-1-0 ((rw (c.in-Asks-default-Num.is, c.in-Asks-default-Num.field-1-is) at c.in_ok-settle.ensures.settles) c.args.steps c.turning.draws (record { frames = sym (c.is_deep.ensures c.args.image.now (map (term_of c.turning.graph) (words_of_cells c.turning.memory))) ∙ c.if-is_deep.false; units = sym ((rw c.module.ensures.module at c.is_spent.ensures) (map (term_of c.turning.graph) (words_of_cells c.turning.memory))) ∙ c.if-is_spent.false })))

pub returns-in-Asks-default-Num-clause-held : goal.returns-in-Asks-default-Num-clause-held
returns-in-Asks-default-Num-clause-held c = ((rw (c.in-Asks-default-Num.is, c.in-Asks-default-Num.field-1-is) at c.in_ok-settle.ensures.settles) c.args.steps c.turning.draws (record { frames = sym (c.is_deep.ensures c.args.image.now (map (term_of c.turning.graph) (words_of_cells c.turning.memory))) ∙ c.if-is_deep.false; units = sym ((rw c.module.ensures.module at c.is_spent.ensures) (map (term_of c.turning.graph) (words_of_cells c.turning.memory))) ∙ c.if-is_spent.false })).held.0

pub returns-in-Asks-default-Num-clause-kept : goal.returns-in-Asks-default-Num-clause-kept
returns-in-Asks-default-Num-clause-kept c = kept-more c.args.graph.now c.turning.graph c.settle.new.graph c.turning.invariant.kept c.settle.ensures.kept

pub returns-in-Asks-default-Term-clause-there : goal.returns-in-Asks-default-Term-clause-there
returns-in-Asks-default-Term-clause-there c = λ n p is.
    rw (ap (λ s. s.units) c.s.view_is)
    (subst (λ t. StandsThere c.args.image.now n p c.settle.new.graph (record { machine = c.settle.new.s; memory = c.settle.new.memory }) c.turning.draws c.settle.new.asks c.turning.s.units (AsksThere c.in-Asks-default-Term.q t)) (sym c.in-Asks-default-Term.t-is)
    (stands-asked c.args.image.now c.args.steps c.args.graph.now c.args.s.now c.args.memory.now c.args.draws.now c.args.asks.now c.turning.graph c.turning.s c.turning.memory c.turning.draws c.turning.asks c.turning.invariant (record { frames = sym (c.is_deep.ensures c.args.image.now (map (term_of c.turning.graph) (words_of_cells c.turning.memory))) ∙ c.if-is_deep.false; units = sym ((rw c.module.ensures.module at c.is_spent.ensures) (map (term_of c.turning.graph) (words_of_cells c.turning.memory))) ∙ c.if-is_spent.false }) c.settle.new.graph c.settle.new.s c.settle.new.memory c.settle.new.asks c.settle.ensures.kept n p is c.in-Asks-default-Term.q c.in-Asks-default-Term.t ((rw (c.in-Asks-default-Term.is, c.in-Asks-default-Term.field-1-is) at c.in_ok-settle.ensures.settles) c.args.steps c.turning.draws (record { frames = sym (c.is_deep.ensures c.args.image.now (map (term_of c.turning.graph) (words_of_cells c.turning.memory))) ∙ c.if-is_deep.false; units = sym ((rw c.module.ensures.module at c.is_spent.ensures) (map (term_of c.turning.graph) (words_of_cells c.turning.memory))) ∙ c.if-is_spent.false }))))

pub returns-in-Asks-default-Term-clause-order : goal.returns-in-Asks-default-Term-clause-order
returns-in-Asks-default-Term-clause-order c =
    subst (λ t. Holds c.settle.new.graph (Numbered t)) (sym c.in-Asks-default-Term.t-is) ((rw (c.in-Asks-default-Term.is, c.in-Asks-default-Term.field-1-is) at c.in_ok-settle.ensures.settles) c.args.steps c.turning.draws (record { frames = sym (c.is_deep.ensures c.args.image.now (map (term_of c.turning.graph) (words_of_cells c.turning.memory))) ∙ c.if-is_deep.false; units = sym ((rw c.module.ensures.module at c.is_spent.ensures) (map (term_of c.turning.graph) (words_of_cells c.turning.memory))) ∙ c.if-is_spent.false })).held.1

pub returns-in-Asks-default-Term-clause-held : goal.returns-in-Asks-default-Term-clause-held
returns-in-Asks-default-Term-clause-held c = ((rw (c.in-Asks-default-Term.is, c.in-Asks-default-Term.field-1-is) at c.in_ok-settle.ensures.settles) c.args.steps c.turning.draws (record { frames = sym (c.is_deep.ensures c.args.image.now (map (term_of c.turning.graph) (words_of_cells c.turning.memory))) ∙ c.if-is_deep.false; units = sym ((rw c.module.ensures.module at c.is_spent.ensures) (map (term_of c.turning.graph) (words_of_cells c.turning.memory))) ∙ c.if-is_spent.false })).held.0

pub returns-in-Asks-default-Term-clause-kept : goal.returns-in-Asks-default-Term-clause-kept
returns-in-Asks-default-Term-clause-kept c = kept-more c.args.graph.now c.turning.graph c.settle.new.graph c.turning.invariant.kept c.settle.ensures.kept

pub end_of-requires : goal.end_of-requires
end_of-requires c = let w = c.requires.somewhere in ends-rightly c.args.image.now c.args.steps c.args.graph.now c.args.s.now c.args.memory.now c.args.draws.now c.args.asks.now c.turning.graph c.turning.s c.turning.memory c.turning.draws c.turning.asks c.turning.invariant (record { frames = sym (c.is_deep.ensures c.args.image.now (map (term_of c.turning.graph) (words_of_cells c.turning.memory))) ∙ c.if-is_deep.false; units = sym ((rw c.module.ensures.module at c.is_spent.ensures) (map (term_of c.turning.graph) (words_of_cells c.turning.memory))) ∙ c.if-is_spent.false }) c.settle.new.graph c.settle.new.s c.settle.new.memory c.settle.new.asks c.settle.ensures.kept w.node w.path w.is c.in-Ends.end ((rw (c.in-Ends.is) at c.in_ok-settle.ensures.settles) c.args.steps c.turning.draws (record { frames = sym (c.is_deep.ensures c.args.image.now (map (term_of c.turning.graph) (words_of_cells c.turning.memory))) ∙ c.if-is_deep.false; units = sym ((rw c.module.ensures.module at c.is_spent.ensures) (map (term_of c.turning.graph) (words_of_cells c.turning.memory))) ∙ c.if-is_spent.false }))

pub returns-in-Ends-clause-there : goal.returns-in-Ends-clause-there
returns-in-Ends-clause-there c = λ n p is. rw (ap (λ s. s.units) c.s.view_is) (stands-ended c.args.image.now c.args.steps c.args.graph.now c.args.s.now c.args.memory.now c.args.draws.now c.args.asks.now c.turning.graph c.turning.s c.turning.memory c.turning.draws c.turning.asks c.turning.invariant (record { frames = sym (c.is_deep.ensures c.args.image.now (map (term_of c.turning.graph) (words_of_cells c.turning.memory))) ∙ c.if-is_deep.false; units = sym ((rw c.module.ensures.module at c.is_spent.ensures) (map (term_of c.turning.graph) (words_of_cells c.turning.memory))) ∙ c.if-is_spent.false }) c.settle.new.graph c.settle.new.s c.settle.new.memory c.settle.new.asks c.settle.ensures.kept n p is c.in-Ends.end _ c.in_ok-end-in-Ends.ensures ((rw (c.in-Ends.is) at c.in_ok-settle.ensures.settles) c.args.steps c.turning.draws (record { frames = sym (c.is_deep.ensures c.args.image.now (map (term_of c.turning.graph) (words_of_cells c.turning.memory))) ∙ c.if-is_deep.false; units = sym ((rw c.module.ensures.module at c.is_spent.ensures) (map (term_of c.turning.graph) (words_of_cells c.turning.memory))) ∙ c.if-is_spent.false })))

pub returns-in-Ends-clause-order : goal.returns-in-Ends-clause-order
returns-in-Ends-clause-order c = end-held c.settle.new.graph c.in-Ends.end _ c.in_ok-end-in-Ends.ensures ((rw (c.in-Ends.is) at c.in_ok-settle.ensures.settles) c.args.steps c.turning.draws (record { frames = sym (c.is_deep.ensures c.args.image.now (map (term_of c.turning.graph) (words_of_cells c.turning.memory))) ∙ c.if-is_deep.false; units = sym ((rw c.module.ensures.module at c.is_spent.ensures) (map (term_of c.turning.graph) (words_of_cells c.turning.memory))) ∙ c.if-is_spent.false })).held

pub returns-in-Ends-clause-held : goal.returns-in-Ends-clause-held
returns-in-Ends-clause-held c = end-free c.settle.new.graph c.settle.new.s c.settle.new.memory c.in-Ends.end _ c.in_ok-end-in-Ends.ensures

pub returns-in-Ends-clause-kept : goal.returns-in-Ends-clause-kept
returns-in-Ends-clause-kept c = kept-more c.args.graph.now c.turning.graph c.settle.new.graph c.turning.invariant.kept c.settle.ensures.kept
