use Rattle.std.proofs.Common.{sym, ◌∙◌, arith}
use Rattle.refute_check.proofs.Chains.{first_way, second_way, no_way, far_variable}
use Rattle.refute_check.proofs.resolution.resolve.Goals as goal

pub returns-then-variable : goal.returns-then-variable
returns-then-variable c = far_variable c.args.literals.now.keys c.args.other.now (λ i. omega (arith, c.type_inv.other i)) c.args.variable (omega arith)

pub returns-then-fit : goal.returns-then-fit
returns-then-fit c = first_way c.join.new.literals.keys c.args.literals.now.keys c.args.other.now c.args.variable
    (sym c.fit.ensures ∙ c.if-fit.true) c.in_ok-join.ensures

pub returns-then-fit-2 : goal.returns-then-fit-2
returns-then-fit-2 c = second_way c.join-then-fit-2.new.literals.keys c.args.literals.now.keys c.args.other.now c.args.variable
    (sym c.fit.ensures ∙ c.if-fit.false) (sym c.fit-2.ensures ∙ c.if-fit-2.true) c.in_ok-join-2.ensures

pub returns : goal.returns
returns c = no_way c.args.literals.now.keys c.args.other.now c.args.variable (sym c.fit.ensures ∙ c.if-fit.false) (sym c.fit-2.ensures ∙ c.if-fit-2.false)
