-- No load or store accesses more than 8 bytes.
use Rattle.std.proofs.Common.{◌≡◌, ℕ, zero, suc, ◌+◌, ◌-◌, ◌*◌, ◌^◌, ◌<◌, ◌≤◌, refl, arith}
use Rattle.std.specs.Prelude.{Bool, true, false, nat_le, if◌then◌else◌}
use Rattle.std.proofs.lemmas.Bool.Decides.{nat_tests}
use Rattle.wasm_check.specs.code.Checker.{is_aligned}
use Rattle.wasm_check.specs.Operators.{accessed_bytes}

of-three : (a b c : Bool) (n : ℕ) → n ≡ (if a then 1 else if b then 2 else if c then 4 else 8) → n ≤ 8
of-three true b c n e = omega (arith, e)
of-three false true c n e = omega (arith, e)
of-three false false true n e = omega (arith, e)
of-three false false false n e = omega (arith, e)

at_most_eight : (op : ℕ) → accessed_bytes op ≤ 8
at_most_eight op = of-three _ _ _ (accessed_bytes op) refl

two_to : (d : ℕ) → 16 ≤ 2 ^ (d + 4)
two_to zero = omega arith
two_to (suc d) =
    let before : 16 ≤ 2 ^ (d + 4) = two_to d in
    let next : suc d + 4 ≡ suc (d + 4) = omega arith in
    let twice : 2 ^ suc (d + 4) ≡ 2 * 2 ^ (d + 4) = omega arith in
    rw next (omega (arith, before, twice))

-- an alignment of 16 bytes or more
pub past_all : (op align : ℕ) → 4 ≤ align → is_aligned op align ≡ false
past_all op align le =
    let bytes : accessed_bytes op ≤ 8 = at_most_eight op in
    let power : 16 ≤ 2 ^ (align - 4 + 4) = two_to (align - 4) in
    let back : align - 4 + 4 ≡ align = omega arith in
    let large : 16 ≤ 2 ^ align = rw back at power in
    not_le (2 ^ align) (accessed_bytes op) (omega (arith, bytes, large))
  where
    not_le : (a b : ℕ) → b < a → nat_le a b ≡ false
    not_le a b lt = grind (arith, nat_tests)
