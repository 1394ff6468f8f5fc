use Rattle.std.proofs.Common.{◌≡◌, take}
use Rattle.std.specs.Prelude.{Some, slice_get}
use Rattle.type_suffixes.specs.Words.{Keeps, AreBeginnings}
use Rattle.type_suffixes.proofs.words.Words.spell.Given as goal

abbrev pub invariant-loop-t : goal.invariant-loop-t
invariant-loop-t l = record {
  begins : AreBeginnings l.self l.types l.t-index l.fn.numbers.items l.numbers.items;
  here : slice_get l.self l.word ≡ Some (take l.t-index l.types);
  keeps : Keeps l.fn.self l.self;
}
