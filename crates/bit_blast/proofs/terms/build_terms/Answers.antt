use Rattle.std.proofs.Common.{◌<◌, [], ◌∷◌, length, ap, subst, ◌∙◌, arith}
use Rattle.std.proofs.lemmas.List.{length-append}
use Rattle.bv_terms.specs.Graphs.{form_term}
use Rattle.bit_blast.specs.Blocks.{Builds}
use Rattle.bit_blast.specs.Formulas.{term_wires}
use Rattle.bit_blast.specs.code.Tasks.{known_of}
use Rattle.bit_blast.proofs.TermLemmas.{build-next}
use Rattle.bit_blast.proofs.terms.build_terms.Goals as goal

pub loop-i-preserved : goal.loop-i-preserved
loop-i-preserved c =
    let within : c.loop-i.i < length c.args.order.now = subst (λ n. c.loop-i.i < n) c.len-i-end.ensures c.loop-i-test.true in
    let longer = ap (λ ws. length ws) c.in_ok-push.ensures.ok ∙ length-append c.loop-i.wires (c.in_ok-made.made ∷ []) in
    let made : Builds (term_wires c.args.draws.now (known_of c.args.g.now c.args.order.now c.loop-i.wires) (form_term c.args.g.now c.form-form.result.now)) c.loop-i.netlist c.in_ok-made.made c.term_wires.new.netlist =
    subst (λ ws. Builds (term_wires c.args.draws.now (known_of c.args.g.now c.args.order.now ws) (form_term c.args.g.now c.form-form.result.now)) c.loop-i.netlist c.in_ok-made.made c.term_wires.new.netlist)
    c.as_slice.ensures c.in_ok-made.ensures in (
      omega (arith, longer, c.loop-i.invariant.0),
      build-next c.args.draws.now c.args.g.now c.args.order.now c.loop-i.i c.get.result c.form-form.result.now c.loop-i.wires c.push.new.self c.in_ok-made.made
          c.loop-i.netlist c.term_wires.new.netlist within c.get.ensures c.form-form.ensures.means c.loop-i.invariant.0 c.in_ok-push.ensures.ok made
          ∙ c.loop-i.invariant.1,
    )
