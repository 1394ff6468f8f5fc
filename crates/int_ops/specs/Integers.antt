-- The operations on integers of N bits (Execution, Numerics: Integer Operations, Conversions).
--
-- An integer of N bits is a number below 2^N. Where a sign matters it is read in two's complement.
use Rattle.std.specs.Prelude.{ℕ, ◌+◌, ◌-◌, ◌*◌, ◌/◌, ◌%◌, ◌^◌, ℤ, pos, negsuc, ◌-ℤ◌, Bool, not, ◌==◌, nat_lt, nat_le, int_lt, int_le, int_div, int_rem, count_ones, if◌then◌else◌}
use Rattle.std.specs.Int.{int_shr}
use Rattle.std.specs.Int.Count.{count_leading_zeros, count_trailing_zeros}

-- what a test or a comparison gives: 1 where it holds, else 0
abbrev pub truth : Bool → ℕ
truth holds = if holds then 1 else 0

-- ---- signs

-- the signed interpretation: a number from 2^(N-1) on stands for 2^N less
abbrev pub signed : ℕ → ℕ → ℤ
signed N x = if nat_lt x (2 ^ (N - 1)) then pos x else pos x -ℤ pos (2 ^ N)

-- the integer of N bits that is z modulo 2^N, where negsuc n is -(n + 1)
abbrev pub unsigned : ℕ → ℤ → ℕ
unsigned N (pos n) = n % 2 ^ N
unsigned N (negsuc n) = 2 ^ N - 1 - n % 2 ^ N

-- -2^(N-1) and -1
abbrev pub least : ℕ → ℕ
least N = 2 ^ (N - 1)

abbrev pub minus_one : ℕ → ℕ
minus_one N = 2 ^ N - 1

-- ---- arithmetic

abbrev pub add : ℕ → ℕ → ℕ → ℕ
add N x y = (x + y) % 2 ^ N

abbrev pub sub : ℕ → ℕ → ℕ → ℕ
sub N x y = (x + 2 ^ N - y) % 2 ^ N

abbrev pub mul : ℕ → ℕ → ℕ → ℕ
mul N x y = (x * y) % 2 ^ N

-- the signed quotient, rounded toward 0, and the remainder, which has the dividend's sign
abbrev pub div_s : ℕ → ℕ → ℕ → ℕ
div_s N x y = unsigned N (int_div (signed N x) (signed N y))

abbrev pub rem_s : ℕ → ℕ → ℕ → ℕ
rem_s N x y = unsigned N (int_rem (signed N x) (signed N y))

-- ---- shifts and rotations, by the count modulo N

abbrev pub shl : ℕ → ℕ → ℕ → ℕ
shl N x count = (x * 2 ^ (count % N)) % 2 ^ N

abbrev pub shr_u : ℕ → ℕ → ℕ → ℕ
shr_u N x count = x / 2 ^ (count % N)

-- copies of the sign come in from above: the quotient by the power of 2, rounded down
abbrev pub shr_s : ℕ → ℕ → ℕ → ℕ
shr_s N x count = unsigned N (int_shr (signed N x) (count % N))

-- the bits that leave at one end come in at the other
abbrev pub rotated_left : ℕ → ℕ → ℕ → ℕ
rotated_left N x k = (x * 2 ^ k) % 2 ^ N + x / 2 ^ (N - k)

abbrev pub rotl : ℕ → ℕ → ℕ → ℕ
rotl N x count = rotated_left N x (count % N)

abbrev pub rotr : ℕ → ℕ → ℕ → ℕ
rotr N x count = rotated_left N x (N - count % N)

-- ---- counts of bits: of 0 all N are leading, and all are trailing

abbrev pub clz : ℕ → ℕ → ℕ
clz N x = count_leading_zeros N x

abbrev pub ctz : ℕ → ℕ → ℕ
ctz N x = count_trailing_zeros N x

abbrev pub popcnt : ℕ → ℕ
popcnt x = count_ones x

-- ---- comparisons

abbrev pub eq : ℕ → ℕ → ℕ
eq x y = truth (x == y)

abbrev pub ne : ℕ → ℕ → ℕ
ne x y = truth (not (x == y))

abbrev pub lt_u : ℕ → ℕ → ℕ
lt_u x y = truth (nat_lt x y)

abbrev pub le_u : ℕ → ℕ → ℕ
le_u x y = truth (nat_le x y)

abbrev pub lt_s : ℕ → ℕ → ℕ → ℕ
lt_s N x y = truth (int_lt (signed N x) (signed N y))

abbrev pub le_s : ℕ → ℕ → ℕ → ℕ
le_s N x y = truth (int_le (signed N x) (signed N y))

-- ---- other widths

-- the lowest N bits
abbrev pub wrap : ℕ → ℕ → ℕ
wrap N x = x % 2 ^ N

-- the lowest M bits, read with their sign, as an integer of N bits
abbrev pub extend_s : ℕ → ℕ → ℕ → ℕ
extend_s M N x = unsigned N (signed M (wrap M x))
