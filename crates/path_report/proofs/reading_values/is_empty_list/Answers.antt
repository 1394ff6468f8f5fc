use Rattle.path_report.proofs.ValueLemmas.{is_alone}
use Rattle.std.proofs.Common.{codes}
use Rattle.path_report.proofs.reading_values.is_empty_list.Goals as goal

pub returns-in-len1 : goal.returns-in-len1
returns-in-len1 c = is_alone c.is_dash.result c.args.words.now _ (codes "-") c.in-len1.len_at_least c.in-len1.len_below c.is_dash.ensures
