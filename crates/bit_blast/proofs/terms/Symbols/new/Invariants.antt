use Rattle.std.proofs.Common.{◌≡◌, ◌≤◌, ◌^◌, ◌++◌, drop}
use Rattle.bit_blast.specs.Formulas.{symbols_end}
use Rattle.bit_blast.specs.code.Tasks.{symbol_firsts}
use Rattle.bit_blast.proofs.terms.Symbols.new.Given as goal

abbrev pub invariant-loop-wide : goal.invariant-loop-wide
invariant-loop-wide l = record {
  firsts : l.firsts ++ symbol_firsts l.end (drop l.wide-index l.draws) ≡ symbol_firsts 2 l.draws;
  ends : symbols_end l.end (drop l.wide-index l.draws) ≡ symbols_end 2 l.draws;
  fits : l.end ≤ 2 ^ 63;
}
