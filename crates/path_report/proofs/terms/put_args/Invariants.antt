use Rattle.std.proofs.Common.{◌≡◌, ◌∷◌, ◌++◌, string_bytes, flat_map, take}
use Rattle.path_report.specs.Report.{operand_text}
use Rattle.path_report.proofs.terms.put_args.Given as goal

abbrev pub invariant-loop-arg : goal.invariant-loop-arg
invariant-loop-arg l = string_bytes l.out ≡ string_bytes l.initial.out ++ flat_map (λ arg. 32 ∷ operand_text arg) (take l.arg-index l.args)
