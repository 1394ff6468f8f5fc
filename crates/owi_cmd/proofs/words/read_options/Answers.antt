use Rattle.std.proofs.Common.{map, sym, ◌∙◌}
use Rattle.owi_cmd.proofs.WordsLemmas.{no_more, some_left}
use Rattle.owi_cmd.proofs.words.read_options.Goals as goal

pub returns-then-not-is_empty : goal.returns-then-not-is_empty
returns-then-not-is_empty c =
    no_more (map (λ w. w.now) c.args.words.now) (map (λ w. w.now) c.in-Some.rest.now) (map (λ w. w.now) c.in-Some-option.rest.now) (map (λ w. w.now) c.in-Some-option-2.rest.now)
    c.in-Some.steps c.in-Some-option.forks c.in-Some-option-2.conflicts c.in-Some.ensures.given c.in-Some-option.ensures.given c.in-Some-option-2.ensures.given
    (some_left c.in-Some-option-2.rest.now (sym c.is_empty.ensures ∙ c.if-not-is_empty.true))
