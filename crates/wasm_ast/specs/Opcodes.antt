-- The classes of opcode bytes (Binary Format, Instructions: Memory Instructions and Numeric Instructions), without those
-- of floating-point numbers.
use Rattle.std.specs.Prelude.{ℕ, Bool, nat_le, ◌==◌, ◌&&◌, ◌||◌}

-- from the first to the last, both included
abbrev pub is_from : ℕ → ℕ → ℕ → Bool
is_from first last op = nat_le first op && nat_le op last

-- i32.load and i64.load; those of 8, 16 and 32 bits
abbrev pub is_load : ℕ → Bool
is_load op = is_from 0x28 0x29 op || is_from 0x2C 0x35 op

-- i32.store and i64.store; those of 8, 16 and 32 bits
abbrev pub is_store : ℕ → Bool
is_store op = is_from 0x36 0x37 op || is_from 0x3A 0x3E op

-- One operand: eqz; clz, ctz and popcnt; i32.wrap_i64; i64.extend_i32_s and i64.extend_i32_u; extend8_s to extend32_s.
abbrev pub is_unary : ℕ → Bool
is_unary op =
    op == 0x45 || op == 0x50 || is_from 0x67 0x69 op || is_from 0x79 0x7B op || op == 0xA7 || is_from 0xAC 0xAD op
    || is_from 0xC0 0xC4 op

-- Two operands: the comparisons from eq to ge_u, and the operators from add to rotr, of 32 and of 64 bits.
abbrev pub is_binary : ℕ → Bool
is_binary op = is_from 0x46 0x4F op || is_from 0x51 0x5A op || is_from 0x6A 0x78 op || is_from 0x7C 0x8A op

abbrev pub is_numeric : ℕ → Bool
is_numeric op = is_unary op || is_binary op
