-- The words of a row's line, between spaces.
use Rattle.std.specs.Prelude.{ℕ, ◌==◌, List, [], ◌∷◌, ◌++◌, map, codes}
use Rattle.std.specs.List.{slice_split}
use Rattle.fork_tree.specs.declared.rows.Kind.{Kind}
use Rattle.fork_tree.specs.declared.rows.Kind.TheVariants.{Returns, Traps, Fails, Bound, Deep}
use Rattle.fork_tree.specs.declared.rows.Row.{Row}
use Rattle.path_report.specs.Report.{choices_text, kind_text, value_text, draw_text}

-- the outcomes without results
abbrev pub IsPlainOutcome : Kind → Type 0
IsPlainOutcome (Traps cause) = Unit {0}
IsPlainOutcome Fails = Unit {0}
IsPlainOutcome Bound = Unit {0}
IsPlainOutcome Deep = Unit {0}
IsPlainOutcome kind = ⊥

abbrev pub words_between : List ℕ → List (List ℕ)
words_between text = slice_split (λ byte. byte == 32) text

abbrev pub list_words : List (List ℕ) → List (List ℕ)
list_words [] = codes "-" ∷ []
list_words (text ∷ texts) = text ∷ texts

abbrev pub kind_words : Kind → List (List ℕ)
kind_words (Returns values) = codes "returns" ∷ list_words (map value_text values)
kind_words kind = words_between (kind_text kind)

abbrev pub row_words : Row → List (List ℕ)
row_words row = codes "path" ∷ choices_text row.choices ∷ kind_words row.kind ++ codes "input" ∷ list_words (map draw_text row.draws)
