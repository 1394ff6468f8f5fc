use Rattle.std.proofs.Common.{◌+◌, length}
use Rattle.bv_terms.proofs.operations.leaves_nothing.Goals as goal

pub no_side-requires-clause-a_below : goal.no_side-requires-clause-a_below
no_side-requires-clause-a_below c = (c.in-Some.ensures.below (256 + length c.args.forms.now) c.requires.below).0

pub no_side-requires-clause-b_below : goal.no_side-requires-clause-b_below
no_side-requires-clause-b_below c = (c.in-Some.ensures.below (256 + length c.args.forms.now) c.requires.below).1
