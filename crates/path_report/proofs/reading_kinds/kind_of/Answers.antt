use Rattle.std.proofs.Common.{◌≡◌, codes, map, sym, ap, ◌∙◌, ◌++◌}
use Rattle.path_report.specs.Report.{list_text}
use Rattle.path_report.proofs.ReadLemmas.{if_ok, is_text, is_not_text, returns_read, plain_read}
use Rattle.path_report.proofs.reading_kinds.kind_of.Goals as goal

-- src/reading_kinds.rt:24:17
pub returns-then-eq-clause-only : goal.returns-then-eq-clause-only
returns-then-eq-clause-only c =
    if_ok c.returning.result c.returning.ensures.only (λ read only. returns_read c.args.words.now _ read c.in-len1-up.len_at_least (is_text _ _ c.if-eq.ensures) only)

-- src/reading_kinds.rt:17:1
pub returns-in_ok-put_list-in-len1-up-clause-only :
    goal.returns-in_ok-put_list-in-len1-up-clause-only
returns-in_ok-put_list-in-len1-up-clause-only c =
    plain_read c.args.words.now _ c.plain_kind.result c.as_str.result.now c.in-len1-up.len_at_least (is_not_text _ _ c.eq.result c.eq.ensures c.if-eq.false)
    (c.as_str.ensures.value ∙ c.in_ok-put_list-in-len1-up.ensures ∙ ap (λ b. b ++ list_text (map (λ w. w.now) c.args.words.now)) c.new-text.ensures.bytes) c.plain_kind.ensures.only
