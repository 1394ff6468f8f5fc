use Rattle.std.proofs.Common.{map, take, ◌^◌, ◌-◌}
use Rattle.std.specs.List.{AllZip}
use Rattle.owi_cmd.specs.Words.{IsNumber}
use Rattle.owi_cmd.proofs.words.numbers.numbers_of.Given as goal

abbrev pub invariant-loop-text : goal.invariant-loop-text
invariant-loop-text l = AllZip (IsNumber 0 (2 ^ 64 - 1)) (map (λ t. t.now) (take l.text-index l.texts)) l.numbers.items
