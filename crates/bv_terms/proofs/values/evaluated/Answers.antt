use Rattle.std.proofs.Common.{◌+◌, ◌≤◌, ◌<◌, All, length, ap, ap₂, sym, ◌∙◌, subst, arith}
use Rattle.std.specs.Prelude.{Ok}
use Rattle.int_ops.specs.Operators.{operand_bits, total}
use Rattle.bv_terms.specs.Terms.{HasWidth, width_of, value_of}
use Rattle.bv_terms.specs.Graphs.{OperandsBelow, form_term, terms_of}
use Rattle.bv_terms.specs.code.KnownValues.{IsKnown, known_value, LooksAll, Evaluates}
use Rattle.bv_terms.proofs.FitLemmas.{join-count, join-each}
use Rattle.bv_terms.proofs.ValueLemmas.{looked, operand-fits, bytes-fit, looked-all}
use Rattle.bv_terms.proofs.values.evaluated.Goals as goal

pub un-requires-clause-in_width : goal.un-requires-clause-in_width
un-requires-clause-in_width c =
    let below = subst (OperandsBelow c.args.t) c.in-Un.is c.form.ensures.operands in
    let typed = subst (λ f. HasWidth (width_of (form_term c.args.g.now f)) (form_term c.args.g.now f)) c.in-Un.is c.form.ensures.typed in
    operand-fits c.args.g.now c.args.input.now c.args.rounds.now c.args.values.now c.args.round c.args.t c.in-Un.a c.in-Ok.x (operand_bits c.in-Un.op)
    c.requires.known (omega (arith, c.requires.held)) below c.in-Ok.ensures typed.2

pub total-requires-clause-x_in_width : goal.total-requires-clause-x_in_width
total-requires-clause-x_in_width c =
    let below = subst (OperandsBelow c.args.t) c.in-Bin.is c.form.ensures.operands in
    let typed = subst (λ f. HasWidth (width_of (form_term c.args.g.now f)) (form_term c.args.g.now f)) c.in-Bin.is c.form.ensures.typed in
    operand-fits c.args.g.now c.args.input.now c.args.rounds.now c.args.values.now c.args.round c.args.t c.in-Bin.a c.in-Ok-known.x (operand_bits c.in-Bin.op)
    c.requires.known (omega (arith, c.requires.held)) below.0 c.in-Ok-known.ensures typed.2

pub total-requires-clause-y_in_width : goal.total-requires-clause-y_in_width
total-requires-clause-y_in_width c =
    let below = subst (OperandsBelow c.args.t) c.in-Bin.is c.form.ensures.operands in
    let typed = subst (λ f. HasWidth (width_of (form_term c.args.g.now f)) (form_term c.args.g.now f)) c.in-Bin.is c.form.ensures.typed in
    operand-fits c.args.g.now c.args.input.now c.args.rounds.now c.args.values.now c.args.round c.args.t c.in-Bin.b c.in-Ok-known-2.y (operand_bits c.in-Bin.op)
    c.requires.known (omega (arith, c.requires.held)) below.1 c.in-Ok-known-2.ensures typed.3

pub returns-in-Ok-known-2 : goal.returns-in-Ok-known-2
returns-in-Ok-known-2 c =
    let below = subst (OperandsBelow c.args.t) c.in-Bin.is c.form.ensures.operands in
    let fits : c.args.t ≤ 256 + length c.args.g.now.forms = omega (arith, c.requires.held) in
    let x = looked c.args.g.now c.args.input.now c.args.rounds.now c.args.values.now c.args.round c.args.t c.in-Bin.a (Ok c.in-Ok-known.x) c.requires.known fits below.0 c.in-Ok-known.ensures in
    let y = looked c.args.g.now c.args.input.now c.args.rounds.now c.args.values.now c.args.round c.args.t c.in-Bin.b (Ok c.in-Ok-known-2.y) c.requires.known fits below.1 c.in-Ok-known-2.ensures in
    c.total.ensures ∙ ap₂ (total c.in-Bin.op) x y ∙ sym (ap (value_of c.args.input.now) (c.form.ensures.means ∙ ap (form_term c.args.g.now) c.in-Bin.is))

pub all_known-requires-clause-few : goal.all_known-requires-clause-few
all_known-requires-clause-few c =
    subst (λ words. length words ≤ 8) (sym c.as_slice.ensures)
    (join-count (terms_of c.args.g.now.forms) c.form.result.now c.in-Join.wide c.in-Join.bytes c.in-Join.is c.form.ensures.typed)

pub all_known-requires-clause-small : goal.all_known-requires-clause-small
all_known-requires-clause-small c =
    let below = subst (OperandsBelow c.args.t) c.in-Join.is c.form.ensures.operands in
    subst (All (λ w. IsKnown c.args.rounds.now c.args.round w → known_value c.args.values.now w < 256)) (sym c.as_slice.ensures)
    (bytes-fit c.args.g.now c.args.input.now c.args.rounds.now c.args.values.now c.args.round c.args.t c.in-Join.bytes c.requires.known (omega (arith, c.requires.held)) below
    (join-each (terms_of c.args.g.now.forms) c.form.result.now c.in-Join.wide c.in-Join.bytes c.in-Join.is c.form.ensures.typed))

pub returns-in-Join : goal.returns-in-Join
returns-in-Join c =
    let below = subst (OperandsBelow c.args.t) c.in-Join.is c.form.ensures.operands in
    let looks : LooksAll c.args.rounds.now c.args.values.now c.args.round c.in-Join.bytes c.all_known.result =
    subst (λ words. LooksAll c.args.rounds.now c.args.values.now c.args.round words c.all_known.result) c.as_slice.ensures c.all_known.ensures in
    subst (λ t. Evaluates c.args.input.now c.args.rounds.now c.args.round c.args.t t c.all_known.result) (sym (c.form.ensures.means ∙ ap (form_term c.args.g.now) c.in-Join.is))
    (looked-all c.args.g.now c.args.input.now c.args.rounds.now c.args.values.now c.args.round c.args.t c.in-Join.wide c.in-Join.bytes c.all_known.result
    c.requires.known (omega (arith, c.requires.held)) below looks)
