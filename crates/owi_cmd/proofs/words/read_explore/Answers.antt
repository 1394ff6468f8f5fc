use Rattle.std.proofs.Common.{◌≡◌, ℕ, List, ◌∷◌, ◌++◌, map, take, length, codes, sym, ap, ◌∙◌, subst}
use Rattle.owi_cmd.specs.Words.{SpellsExplore}
use Rattle.owi_cmd.proofs.WordsLemmas.{both_parts, no_explore, spells_explore}
use Rattle.owi_cmd.proofs.words.read_explore.Goals as goal

pub returns-in_default-read_options-clause-none : goal.returns-in_default-read_options-clause-none
returns-in_default-read_options-clause-none c =
    let words : List (List ℕ) = map (λ w. w.now) c.args.words.now in
    let own : List (List ℕ) = map (λ w. w.now) (take (length c.in_ok-args.args) c.in-Some.rest.now) in
    let rest : List (List ℕ) = map (λ w. w.now) c.in_ok-args.options.now in
    let is : words ≡ codes "explore" ∷ c.in-Some.name.now ∷ own ++ rest =
    c.in-Some.ensures ∙ ap (λ l. codes "explore" ∷ c.in-Some.name.now ∷ l) (sym (both_parts (length c.in_ok-args.args) c.in-Some.rest.now) ∙ ap (λ o. own ++ map (λ w. w.now) o) (sym c.in_ok-args.ensures.rest)) in
    no_explore words own rest c.in-Some.name.now c.in_ok-args.args is c.in_ok-args.ensures.argued c.in_ok-args.ensures.all c.in_default-read_options.ensures

pub returns-clause-spelled : goal.returns-clause-spelled
returns-clause-spelled c =
    let words : List (List ℕ) = map (λ w. w.now) c.args.words.now in
    let own : List (List ℕ) = map (λ w. w.now) (take (length c.in_ok-args.args) c.in-Some.rest.now) in
    let rest : List (List ℕ) = map (λ w. w.now) c.in_ok-args.options.now in
    let is : words ≡ codes "explore" ∷ c.in-Some.name.now ∷ own ++ rest =
    c.in-Some.ensures ∙ ap (λ l. codes "explore" ∷ c.in-Some.name.now ∷ l) (sym (both_parts (length c.in_ok-args.args) c.in-Some.rest.now) ∙ ap (λ o. own ++ map (λ w. w.now) o) (sym c.in_ok-args.ensures.rest)) in
    subst (λ name. SpellsExplore words name c.in_ok-args.args c.in-Some-read_options.bounds) (sym (c.new-name.ensures ∙ c.in_ok-from_str.ensures.ok))
    (spells_explore words own rest c.in-Some.name.now c.in_ok-args.args is c.in_ok-args.ensures.argued c.in-Some-read_options.bounds c.in-Some-read_options.ensures)
