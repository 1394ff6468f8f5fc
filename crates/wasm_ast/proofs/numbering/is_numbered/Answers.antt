use Rattle.std.proofs.Common.{◌≡◌, ◌-◌, arith, eq-eqb, eqb-true, subst, ℕ}
use Rattle.std.specs.Prelude.{slice_index}
use Rattle.std.proofs.lemmas.Grind.{common_steps}
use Rattle.wasm_ast.proofs.NumberingLemmas.{EndsFrom, one_more_below, none_below, first_tells}
use Rattle.wasm_ast.proofs.numbering.is_numbered.Goals as goal

pub returns-in-None : goal.returns-in-None
returns-in-None c = (
  λ impossible. absurd cc,
  λ numbered. absurd (none_below c.args.seqs.now c.loop-k.ends.items c.loop-k.k (c.loop-k.k - 1) c.get.result.now (omega arith) c.loop-k.invariant.ends c.get.ensures (cc) numbered),
)

pub loop-k-preserved : goal.loop-k-preserved
loop-k-preserved c = record {
  within = omega arith;
  ends = one_more_below c.args.seqs.now c.loop-k.ends.items c.loop-k.k (c.loop-k.k - 1) c.in-Some.end c.get.result.now (omega arith) c.loop-k.invariant.ends c.get.ensures (omega (arith, c.loop-k.invariant.ends.long)) (cc);
}

pub returns : goal.returns
returns c =
    let zero_is : c.loop-k.k ≡ 0 = omega arith in
    let P : ℕ → Type 0 = λ k. EndsFrom c.args.seqs.now c.loop-k.ends.items k in
    let tells = first_tells c.args.seqs.now c.loop-k.ends.items (subst P zero_is c.loop-k.invariant.ends) (omega arith) in
    let read : c.index.result.now ≡ slice_index c.loop-k.ends.items 0 = grind (arith, common_steps) in (
      λ t. tells.0 (let e = eqb-true c.index.result.now c.len-count.result t in cc),
      λ numbered. eq-eqb c.index.result.now c.len-count.result (let e = tells.1 numbered in cc),
    )
