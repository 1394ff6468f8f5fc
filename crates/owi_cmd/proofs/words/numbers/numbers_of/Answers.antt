use Rattle.std.proofs.Common.{map, take, ◌+◌, ◌-◌, ◌^◌, sym, subst}
use Rattle.std.specs.List.{AllZip}
use Rattle.owi_cmd.specs.Words.{IsNumber}
use Rattle.owi_cmd.proofs.WordsLemmas.{zip_more, none_at}
use Rattle.owi_cmd.proofs.words.numbers.numbers_of.Goals as goal

pub returns-in_default : goal.returns-in_default
returns-in_default c = λ numbers zipped.
    none_at (λ t. t.now) (IsNumber 0 (2 ^ 64 - 1)) c.args.texts.now numbers c.loop-text.text-index _ c.loop-text-test.true c.in_default.ensures zipped

pub loop-text-preserved : goal.loop-text-preserved
loop-text-preserved c =
    subst (λ ns. AllZip (IsNumber 0 (2 ^ 64 - 1)) (map (λ t. t.now) (take (c.loop-text.text-index + 1) c.args.texts.now)) ns) (sym c.in_ok-push.ensures.items)
    (zip_more (λ t. t.now) (IsNumber 0 (2 ^ 64 - 1)) c.args.texts.now c.loop-text.numbers.items c.loop-text.text-index _ c.in-Some.n c.loop-text-test.true c.loop-text.invariant c.in-Some.ensures)
