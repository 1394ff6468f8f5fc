use Rattle.std.proofs.Common.{◌+◌, length}
use Rattle.bv_terms.proofs.operations.of_same.Goals as goal

pub where_same-requires-clause-a_below : goal.where_same-requires-clause-a_below
where_same-requires-clause-a_below c = (c.in-Some.ensures.below (256 + length c.args.forms.now) c.requires.below).0

pub where_same-requires-clause-b_below : goal.where_same-requires-clause-b_below
where_same-requires-clause-b_below c = (c.in-Some.ensures.below (256 + length c.args.forms.now) c.requires.below).1
