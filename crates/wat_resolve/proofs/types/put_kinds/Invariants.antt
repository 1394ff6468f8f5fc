use Rattle.std.proofs.Common.{◌≡◌, ◌++◌, map, take}
use Rattle.wat_resolve.specs.code.Firsts.{kind_code}
use Rattle.wat_resolve.proofs.types.put_kinds.Given as goal

abbrev pub invariant-loop-kind : goal.invariant-loop-kind
invariant-loop-kind l = l.word.items ≡ l.initial.word.items ++ map kind_code (take l.kind-index l.kinds)
