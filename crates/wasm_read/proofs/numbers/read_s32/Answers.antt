use Rattle.std.proofs.Common.{refl, arith, FitsSigned, w32, w64}
use Rattle.std.proofs.lemmas.Int.{ints, to_z-of_z}
use Rattle.wasm_read.specs.Refusals.{fault_of}
use Rattle.wasm_read.proofs.ReadingLaws.{signed_read, signed_told}
use Rattle.wasm_read.proofs.numbers.read_s32.Goals as goal

pub returns-in-Ok-clause-agrees : goal.returns-in-Ok-clause-agrees
returns-in-Ok-clause-agrees c =
    let fits : FitsSigned w64 c.in-Ok.value = omega (arith, ints, c.in-Ok.ensures.small) in
    let small : FitsSigned w32 c.in-Ok.value = omega (arith, ints, c.in-Ok.ensures.small) in
    simp to_z-of_z (signed_read 32 c.args.view.now c.args.at c.in-Ok.value c.in-Ok.next (rw c.bytes.ensures at c.in-Ok.ensures.spelled))

pub returns-in-Err-clause-agrees : goal.returns-in-Err-clause-agrees
returns-in-Err-clause-agrees c =
    signed_told 32 c.args.view.now c.args.at (fault_of c.number_trouble.result) c.in-Err.bad (rw c.bytes.ensures at ((c.in-Err.ensures.trouble c.in-Err.bad).0 refl)) c.number_trouble.ensures
