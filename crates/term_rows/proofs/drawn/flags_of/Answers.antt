use Rattle.std.proofs.Common.{◌≡◌, ◌+◌, List, [], ◌∷◌, ◌++◌, Bool, length, ap, sym, subst, ◌∙◌, arith}
use Rattle.std.specs.Prelude.{IsTrue}
use Rattle.std.proofs.lemmas.List.{length-append}
use Rattle.term_rows.specs.Sessions.{HaveSymbols, IsOver}
use Rattle.term_rows.proofs.QuestionLemmas.{have-none, have-more}
use Rattle.term_rows.proofs.drawn.flags_of.Goals as goal

pub loop-place-init : goal.loop-place-init
loop-place-init c = record {
  so_far = subst (λ (flags : List Bool). HaveSymbols c.args.g.now c.args.draws.now flags) (sym c.new-flags.ensures.items) (have-none c.args.g.now c.args.draws.now);
  count = ap (λ (flags : List Bool). length flags) c.new-flags.ensures.items;
}

pub loop-place-preserved : goal.loop-place-preserved
loop-place-preserved c =
    let flags = c.loop-place.flags.items in
    let flag = c.form_is_over.result in
    let so_far : length c.loop-place.flags.items ≡ c.loop-place.place = c.loop-place.invariant.count in
    let pushed : c.push.new.self.items ≡ c.loop-place.flags.items ++ c.form_is_over.result ∷ [] = c.in_ok-push.ensures.items in
    let longer = ap (λ (xs : List Bool). length xs) pushed ∙ length-append flags (flag ∷ []) in
    record {
      so_far = subst (λ (xs : List Bool). HaveSymbols c.args.g.now c.args.draws.now xs) (sym pushed)
          (have-more c.args.g.now c.args.draws.now flags c.loop-place.invariant.so_far c.form-form.result.now (256 + c.loop-place.place) flag (omega arith) c.form-form.ensures.means
          (subst (λ (xs : List Bool). IsTrue flag → IsOver c.args.draws.now xs c.form-form.result.now) c.as_slice.ensures.value c.form_is_over.ensures));
      count = omega arith;
    }
