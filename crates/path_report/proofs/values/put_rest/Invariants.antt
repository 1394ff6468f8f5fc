use Rattle.std.proofs.Common.{◌≡◌, ◌∷◌, ◌++◌, string_bytes, flat_map, take}
use Rattle.path_report.proofs.values.put_rest.Given as goal

abbrev pub invariant-loop-member : goal.invariant-loop-member
invariant-loop-member g l =
    string_bytes l.out
    ≡ string_bytes l.initial.out ++ flat_map (λ member. 32 ∷ g.T.Printed.text member) (take l.member-index l.rest)
