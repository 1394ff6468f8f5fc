use Rattle.type_suffixes.proofs.Trees.{within_push, pushed_link, pushed_get, pushed_keeps, same_keeps, spelled_get}
use Rattle.type_suffixes.proofs.words.add.Goals as goal

pub lead-requires-clause-within : goal.lead-requires-clause-within
lead-requires-clause-within c = within_push _ _ _ _ c.in_ok-k-in-None.ensures.spelled c.requires.within

pub lead-requires-clause-link : goal.lead-requires-clause-link
lead-requires-clause-link c = pushed_link _ _ _ _ _ c.in_ok-k-in-None.ensures.spelled c.in_ok-k-in-None.ensures.number c.requires.within

pub returns-in-Some-clause-spelled : goal.returns-in-Some-clause-spelled
returns-in-Some-clause-spelled c = spelled_get _ _ _ c.in-Some.ensures

pub returns-in-Some-clause-kept : goal.returns-in-Some-clause-kept
returns-in-Some-clause-kept c = λ k types there. there

pub returns-in_err-k-in-None-clause-kept : goal.returns-in_err-k-in-None-clause-kept
returns-in_err-k-in-None-clause-kept c = same_keeps _ _ c.in_err-k-in-None.ensures.refused

pub returns-in_ok-k-in-None-clause-spelled : goal.returns-in_ok-k-in-None-clause-spelled
returns-in_ok-k-in-None-clause-spelled c = pushed_get _ _ _ _ _ c.lead.ensures.spelled c.in_ok-k-in-None.ensures.spelled c.in_ok-k-in-None.ensures.number

pub returns-in_ok-k-in-None-clause-kept : goal.returns-in_ok-k-in-None-clause-kept
returns-in_ok-k-in-None-clause-kept c = pushed_keeps _ _ _ _ c.lead.ensures.spelled c.in_ok-k-in-None.ensures.spelled
