use Rattle.std.proofs.Common.{◌≡◌, suc, ◌-◌, ◌<◌, ◌++◌, List, length, map, take, ap, ◌∙◌, arith}
use Rattle.std.specs.Arc.{arc_value}
use Rattle.bv_terms.specs.declared.words.Form.{Form}
use Rattle.bv_terms.specs.code.Index.{all_forms}
use Rattle.bv_terms.proofs.ListLemmas.{get-read}
use Rattle.bv_terms.proofs.MergeLemmas.{some_more, last-joined}
use Rattle.bv_terms.proofs.merging.with_one_before.Goals as goal

pub returns : goal.returns
returns c =
    let some : 0 < length c.args.full.now = omega (arith, c.if-count-eq0.false) in
    let place : length c.args.full.now ≡ suc (length c.args.full.now - 1) = omega (arith, some) in
    let at = get-read c.args.full.now (length c.args.full.now - 1) c.index-full-count.result (omega (arith, some)) c.index-full-count.is in
    some_more c.joined.result (λ (both : List Form). both ≡ c.deref-2.result.now ++ c.args.last.now)
    (λ (both : List Form). all_forms (map (λ s. arc_value s) (take (length c.args.full.now - 1) c.args.full.now)) both ≡ all_forms (map (λ s. arc_value s) c.args.full.now) c.args.last.now)
    (λ both is. last-joined (λ s. arc_value s) c.args.full.now (length c.args.full.now - 1) c.index-full-count.result c.args.last.now both place at
    (is ∙ ap (λ (fs : List Form). fs ++ c.args.last.now) c.deref-2.ensures)) c.joined.ensures
