use Rattle.std.proofs.Common.{◌≡◌, [], refl, sym, ap, ◌∙◌, rules}
use Rattle.bit_blast.proofs.BlockLoops.{rows-next-view, rows-spent}
use Rattle.bit_blast.proofs.blocks.multiply.Goals as goal

pub returns-then-is_empty-2 : goal.returns-then-is_empty-2
returns-then-is_empty-2 c =
    let none : c.loop-i.sum ≡ [] = search rules in
    let all = sym (rows-spent c.args.a.now c.args.b.now c.loop-i.low c.loop-i.sum c.loop-i.i c.loop-i.netlist c.loop-i-test.true none) ∙ c.loop-i.invariant in
    record { circuit = ap (λ b. b.circuit) all; result_is = ap (λ b. b.result) all }

pub loop-i-preserved : goal.loop-i-preserved
loop-i-preserved c =
    rows-next-view c.args.a.now c.args.b.now c.loop-i.low c.loop-i.sum c.as_slice.result.now c.loop-i.i _ c.get.result.now c.push.new.self c.in_ok-sum-2.sum
    c.loop-i.netlist c.add_row.new.netlist c.loop-i-test.true refl c.get.ensures c.in_ok-push.ensures.ok c.as_slice.ensures c.in_ok-sum-2.ensures
    ∙ c.loop-i.invariant
