use Rattle.std.proofs.Common.{◌-◌, take}
use Rattle.type_suffixes.proofs.NamedLists.{part-ends}
use Rattle.type_suffixes.proofs.ends.part_ends_with.Goals as goal

pub returns : goal.returns
returns c = λ same. part-ends (take c.args.count c.args.longer.now) (take c.args.n c.args.shorter.now) (c.args.count - c.args.n) (c.same_list.ensures same)
