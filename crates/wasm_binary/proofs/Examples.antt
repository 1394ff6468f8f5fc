-- The examples of specs/Sum.antt, computed section by section.
use Rattle.std.proofs.Common.{◌≡◌, ◌<◌, ℕ, zero, suc, [], ◌∷◌, length, Result, Ok, Err, true, refl, ap, ◌∙◌, arith}
use Rattle.std.specs.Str.{is_utf8, IsAscii}
use Rattle.std.proofs.lemmas.Str.{IsUtf8-from_ascii, is_utf8-from_IsUtf8}
use Rattle.grammar_forms.specs.Forms.{Window}
use Rattle.wasm_ast.specs.declared.types.ValType.TheVariants.{I32}
use Rattle.wasm_ast.specs.declared.instructions.Instr.TheVariants.{Const32, Num}
use Rattle.wasm_ast.specs.declared.modules.Space.TheVariants as space
use Rattle.wasm_binary.specs.Faults.{Fault, cut, leb, outside}
use Rattle.wasm_binary.specs.Instructions.{plain, after_FC, expression}
use Rattle.wasm_binary.specs.Modules.{Sections, no_sections, section, whole, IsBinary, BinaryFault}
use Rattle.wasm_binary.specs.Reading.{next_of, read_sections, read_binary}
use Rattle.wasm_binary.specs.Sum.{sum_bytes, sum_module, cut_bytes, unused_bits_bytes, outside_bytes}
use Rattle.wasm_binary.proofs.BinaryLaws.{step, end, binary_sound, binary_named}

-- ---- the sections

abbrev types_read : Sections
types_read = record no_sections { slot = 1; types = record { params = []; results = I32 ∷ [] } ∷ [] }

abbrev funcs_read : Sections
funcs_read = record types_read { slot = 3; type_indices = 0 ∷ [] }

abbrev exports_read : Sections
exports_read = record funcs_read { slot = 7; exports = record { name = 0x66 ∷ []; space = space.Func; index = 0 } ∷ [] }

abbrev codes_read : Sections
codes_read = record exports_read { slot = 11; codes = record { locals = []; body = record { seqs = (Const32 2 ∷ Const32 3 ∷ Num 0x6A ∷ []) ∷ [] } } ∷ [] }

-- one section is read, and then the others
on : (n : ℕ) (w : Window Fault) (s t : Sections) (at next : ℕ) → at < length w.bytes → (section s).read w at ≡ Ok (t, next) → read_sections (suc n) w s at ≡ read_sections n w t next
on n w s t at next lt e = step n w s at lt ∙ ap (λ (r : Result (Sections × ℕ) Fault). next_of r (read_sections n w)) e

-- one section is in trouble
stuck : (n : ℕ) (w : Window Fault) (s : Sections) (at : ℕ) (fault : Fault) → at < length w.bytes → (section s).read w at ≡ Err fault → read_sections (suc n) w s at ≡ Err fault
stuck n w s at fault lt e = step n w s at lt ∙ ap (λ (r : Result (Sections × ℕ) Fault). next_of r (read_sections n w)) e

-- the name `f`
ascii : IsAscii (0x66 ∷ [])
ascii zero = omega arith
ascii (suc i) = omega arith

utf8 : is_utf8 (0x66 ∷ []) ≡ true
utf8 = is_utf8-from_IsUtf8 (0x66 ∷ []) (IsUtf8-from_ascii (0x66 ∷ []) ascii)

-- ---- the sum

sum_exports : (section funcs_read).read (whole sum_bytes) 19 ≡ Ok (exports_read, 26)
sum_exports = rw utf8 refl

sum_code : (section exports_read).read (whole sum_bytes) 26 ≡ Ok (codes_read, 37)
unfolding expression plain after_FC
sum_code = refl

sum_read : read_binary sum_bytes ≡ Ok sum_module
unfolding read_binary
sum_read =
    let w = whole sum_bytes in
    on 37 w no_sections types_read 8 15 (omega arith) refl ∙ on 36 w types_read funcs_read 15 19 (omega arith) refl
    ∙ on 35 w funcs_read exports_read 19 26 (omega arith) sum_exports ∙ on 34 w exports_read codes_read 26 37 (omega arith) sum_code
    ∙ end 33 w codes_read 37 (omega arith)

pub sum_is_binary : IsBinary sum_module sum_bytes
sum_is_binary = binary_sound sum_bytes sum_module sum_read

-- ---- the same without its last byte

cut_exports : (section funcs_read).read (whole cut_bytes) 19 ≡ Ok (exports_read, 26)
cut_exports = rw utf8 refl

cut_code : (section exports_read).read (whole cut_bytes) 26 ≡ Err (cut 36)
unfolding expression plain after_FC
cut_code = refl

cut_read : read_binary cut_bytes ≡ Err (cut 36)
unfolding read_binary
cut_read =
    let w = whole cut_bytes in
    on 36 w no_sections types_read 8 15 (omega arith) refl ∙ on 35 w types_read funcs_read 15 19 (omega arith) refl
    ∙ on 34 w funcs_read exports_read 19 26 (omega arith) cut_exports ∙ stuck 33 w exports_read 26 (cut 36) (omega arith) cut_code

pub cut_fault : BinaryFault cut_bytes (cut 36)
cut_fault = binary_named cut_bytes (cut 36) cut_read

-- ---- a constant with wrong unused bits

unused_exports : (section funcs_read).read (whole unused_bits_bytes) 19 ≡ Ok (exports_read, 26)
unused_exports = rw utf8 refl

unused_code : (section exports_read).read (whole unused_bits_bytes) 26 ≡ Err (leb 32)
unfolding expression plain after_FC
unused_code = refl

unused_read : read_binary unused_bits_bytes ≡ Err (leb 32)
unfolding read_binary
unused_read =
    let w = whole unused_bits_bytes in
    on 41 w no_sections types_read 8 15 (omega arith) refl ∙ on 40 w types_read funcs_read 15 19 (omega arith) refl
    ∙ on 39 w funcs_read exports_read 19 26 (omega arith) unused_exports ∙ stuck 38 w exports_read 26 (leb 32) (omega arith) unused_code

pub unused_bits_fault : BinaryFault unused_bits_bytes (leb 32)
unused_bits_fault = binary_named unused_bits_bytes (leb 32) unused_read

-- ---- a body that begins with f32.const

outside_exports : (section funcs_read).read (whole outside_bytes) 19 ≡ Ok (exports_read, 26)
outside_exports = rw utf8 refl

outside_code : (section exports_read).read (whole outside_bytes) 26 ≡ Err (outside 31)
unfolding expression plain after_FC
outside_code = refl

outside_read : read_binary outside_bytes ≡ Err (outside 31)
unfolding read_binary
outside_read =
    let w = whole outside_bytes in
    on 40 w no_sections types_read 8 15 (omega arith) refl ∙ on 39 w types_read funcs_read 15 19 (omega arith) refl
    ∙ on 38 w funcs_read exports_read 19 26 (omega arith) outside_exports ∙ stuck 37 w exports_read 26 (outside 31) (omega arith) outside_code

pub outside_fault : BinaryFault outside_bytes (outside 31)
outside_fault = binary_named outside_bytes (outside 31) outside_read
