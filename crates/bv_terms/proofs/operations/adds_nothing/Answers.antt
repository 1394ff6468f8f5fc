use Rattle.std.proofs.Common.{◌+◌, length}
use Rattle.bv_terms.proofs.operations.adds_nothing.Goals as goal

pub other_side-requires-clause-a_below : goal.other_side-requires-clause-a_below
other_side-requires-clause-a_below c = (c.in-Some.ensures.below (256 + length c.args.forms.now) c.requires.below).0

pub other_side-requires-clause-b_below : goal.other_side-requires-clause-b_below
other_side-requires-clause-b_below c = (c.in-Some.ensures.below (256 + length c.args.forms.now) c.requires.below).1
