use Rattle.std.proofs.Common.{◌≡◌, ◌++◌, map, take}
use Rattle.wat_resolve.specs.code.Firsts.{kind_code}
use Rattle.wat_resolve.proofs.types.put_locals.Given as goal

abbrev pub invariant-loop-local : goal.invariant-loop-local
invariant-loop-local l = l.word.items ≡ l.initial.word.items ++ map kind_code (map (λ p. p.kind) (take l.local-index l.locals))
