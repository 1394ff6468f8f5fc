-- The examples of specs/Examples.antt, computed.
use Rattle.std.proofs.Common.{◌≡◌, refl}
use Rattle.owi_base.specs.Leb.{unsigned_digits, unsigned_bytes, signed_digits, signed_bytes}
use Rattle.wasm_binary.specs.Sum.{sum_module, sum_bytes}
use Rattle.wasm_write.specs.Instructions.{text_of}
use Rattle.wasm_write.specs.Modules.{shortest}
use Rattle.wasm_write.specs.Examples.{empty_module, empty_bytes, zero_module, zero_bytes, produced_module, produced_bytes}

pub empty_is : shortest empty_module ≡ empty_bytes
unfolding unsigned_digits unsigned_bytes signed_digits signed_bytes text_of
empty_is = refl

pub sum_is : shortest sum_module ≡ sum_bytes
unfolding unsigned_digits unsigned_bytes signed_digits signed_bytes text_of
sum_is = refl

pub zero_is : shortest zero_module ≡ zero_bytes
unfolding unsigned_digits unsigned_bytes signed_digits signed_bytes text_of
zero_is = refl

pub custom_is : shortest produced_module ≡ produced_bytes
unfolding unsigned_digits unsigned_bytes signed_digits signed_bytes text_of
custom_is = refl
