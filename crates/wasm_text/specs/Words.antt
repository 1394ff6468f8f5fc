-- The words of loads, stores and numeric operators by their opcodes (Text Format, Instructions: Memory Instructions, Numeric
-- Instructions; Binary Format, Instructions).
use Rattle.std.specs.Prelude.{ℕ, ◌==◌, if◌then◌else◌, List, [], ◌∷◌, codes}

abbrev pub opcode_words : List (ℕ × List ℕ)
opcode_words =
    (0x28, codes "i32.load") ∷
    (0x29, codes "i64.load") ∷
    (0x2C, codes "i32.load8_s") ∷
    (0x2D, codes "i32.load8_u") ∷
    (0x2E, codes "i32.load16_s") ∷
    (0x2F, codes "i32.load16_u") ∷
    (0x30, codes "i64.load8_s") ∷
    (0x31, codes "i64.load8_u") ∷
    (0x32, codes "i64.load16_s") ∷
    (0x33, codes "i64.load16_u") ∷
    (0x34, codes "i64.load32_s") ∷
    (0x35, codes "i64.load32_u") ∷
    (0x36, codes "i32.store") ∷
    (0x37, codes "i64.store") ∷
    (0x3A, codes "i32.store8") ∷
    (0x3B, codes "i32.store16") ∷
    (0x3C, codes "i64.store8") ∷
    (0x3D, codes "i64.store16") ∷
    (0x3E, codes "i64.store32") ∷
    (0x45, codes "i32.eqz") ∷
    (0x46, codes "i32.eq") ∷
    (0x47, codes "i32.ne") ∷
    (0x48, codes "i32.lt_s") ∷
    (0x49, codes "i32.lt_u") ∷
    (0x4A, codes "i32.gt_s") ∷
    (0x4B, codes "i32.gt_u") ∷
    (0x4C, codes "i32.le_s") ∷
    (0x4D, codes "i32.le_u") ∷
    (0x4E, codes "i32.ge_s") ∷
    (0x4F, codes "i32.ge_u") ∷
    (0x50, codes "i64.eqz") ∷
    (0x51, codes "i64.eq") ∷
    (0x52, codes "i64.ne") ∷
    (0x53, codes "i64.lt_s") ∷
    (0x54, codes "i64.lt_u") ∷
    (0x55, codes "i64.gt_s") ∷
    (0x56, codes "i64.gt_u") ∷
    (0x57, codes "i64.le_s") ∷
    (0x58, codes "i64.le_u") ∷
    (0x59, codes "i64.ge_s") ∷
    (0x5A, codes "i64.ge_u") ∷
    (0x67, codes "i32.clz") ∷
    (0x68, codes "i32.ctz") ∷
    (0x69, codes "i32.popcnt") ∷
    (0x6A, codes "i32.add") ∷
    (0x6B, codes "i32.sub") ∷
    (0x6C, codes "i32.mul") ∷
    (0x6D, codes "i32.div_s") ∷
    (0x6E, codes "i32.div_u") ∷
    (0x6F, codes "i32.rem_s") ∷
    (0x70, codes "i32.rem_u") ∷
    (0x71, codes "i32.and") ∷
    (0x72, codes "i32.or") ∷
    (0x73, codes "i32.xor") ∷
    (0x74, codes "i32.shl") ∷
    (0x75, codes "i32.shr_s") ∷
    (0x76, codes "i32.shr_u") ∷
    (0x77, codes "i32.rotl") ∷
    (0x78, codes "i32.rotr") ∷
    (0x79, codes "i64.clz") ∷
    (0x7A, codes "i64.ctz") ∷
    (0x7B, codes "i64.popcnt") ∷
    (0x7C, codes "i64.add") ∷
    (0x7D, codes "i64.sub") ∷
    (0x7E, codes "i64.mul") ∷
    (0x7F, codes "i64.div_s") ∷
    (0x80, codes "i64.div_u") ∷
    (0x81, codes "i64.rem_s") ∷
    (0x82, codes "i64.rem_u") ∷
    (0x83, codes "i64.and") ∷
    (0x84, codes "i64.or") ∷
    (0x85, codes "i64.xor") ∷
    (0x86, codes "i64.shl") ∷
    (0x87, codes "i64.shr_s") ∷
    (0x88, codes "i64.shr_u") ∷
    (0x89, codes "i64.rotl") ∷
    (0x8A, codes "i64.rotr") ∷
    (0xA7, codes "i32.wrap_i64") ∷
    (0xAC, codes "i64.extend_i32_s") ∷
    (0xAD, codes "i64.extend_i32_u") ∷
    (0xC0, codes "i32.extend8_s") ∷
    (0xC1, codes "i32.extend16_s") ∷
    (0xC2, codes "i64.extend8_s") ∷
    (0xC3, codes "i64.extend16_s") ∷
    (0xC4, codes "i64.extend32_s") ∷ []

abbrev pub find_word : ℕ → List (ℕ × List ℕ) → List ℕ
find_word op [] = []
find_word op (row ∷ rest) = if op == row.0 then row.1 else find_word op rest

-- the word of an opcode; none where it is of another class
unfoldable pub word_of : ℕ → List ℕ
word_of op = find_word op opcode_words
