-- The blocks over the numbers that wires spell.
use Rattle.std.proofs.Common.{◌≡◌, ℕ, ◌+◌, ◌-◌, ◌*◌, ◌%◌, ◌^◌, ◌<◌, Bool, ◌==◌, nat_lt, cond, [], ◌∷◌, length, ⊎_elim, refl, sym, ap, ap₂, ◌∙◌, subst, eq-eqb, ne_eqb}
use Rattle.std.proofs.Math.Nat.{mod-zero}
use Rattle.std.proofs.lemmas.Bool.{cases_eq}
use Rattle.int_ops.specs.Operators.{unary, total}
use Rattle.wasm_rules.specs.Words.{chosen}
use Rattle.refute_check.specs.Clauses.{Assignment}
use Rattle.bit_blast.specs.Gates.{Wires}
use Rattle.bit_blast.specs.Blocks.{add, negate_if, count, divide, multiply, choose}
use Rattle.bit_blast.specs.Operators.{unary_operator, binary_operator}
use Rattle.bit_blast.specs.Meanings.{holds, bit, value_of_wires}
use Rattle.bit_blast.specs.BlockLaws.{true_among, AddLaw, LessLaw, NoneLaw, NegateLaw, CountLaw, DivideLaw, MultiplyLaw, ChooseLaw, UnaryLaw, BinaryLaw}
use Rattle.bit_blast.proofs.BitNumbers.{number}
use Rattle.bit_blast.proofs.SumLemmas.{sums, carried, number_sums, negation_is}
use Rattle.bit_blast.proofs.CountLemmas.{ones_among, count_is}
use Rattle.bit_blast.proofs.WireLemmas.{read, number_read, length_read}
use Rattle.bit_blast.proofs.BlockLemmas.{add_reads, none_reads, negate_if_reads, count_reads}
use Rattle.bit_blast.proofs.QuotientLemmas.{quotient_or_ones, divide_reads}
use Rattle.bit_blast.proofs.ProductLemmas.{multiply_reads}
use Rattle.bit_blast.proofs.TermReadings.{choose_reads}
use Rattle.bit_blast.proofs.OperatorLemmas.{less_is_below}
use Rattle.bit_blast.proofs.OpcodeLemmas.{unary_operator_reads, binary_operator_reads}

pub add_law : AddLaw
add_law xs ys carry long s c one h =
    let all = add_reads s xs ys carry c h in
    let longs = length_read s xs ∙ long ∙ sym (length_read s ys) in
    ap₂ (λ (m : ℕ) (b : Bool). m + 2 ^ length xs * bit b) (number_read s (add xs ys carry c).result.sums ∙ ap number all.1) all.2
    ∙ ap (λ (n : ℕ). number (sums (read s xs) (read s ys) (holds s carry)) + 2 ^ n * bit (carried (read s xs) (read s ys) (holds s carry))) (sym (length_read s xs))
    ∙ number_sums (read s xs) (read s ys) (holds s carry) longs
    ∙ ap₂ (λ (m n : ℕ). m + n + bit (holds s carry)) (sym (number_read s xs)) (sym (number_read s ys))

pub less_law : LessLaw
less_law xs ys long s c one h =
    (less_is_below s one xs ys c long h).1 ∙ ap₂ (λ (m n : ℕ). nat_lt m n) (sym (number_read s xs)) (sym (number_read s ys))

pub none_law : NoneLaw
none_law xs some s c one h = (none_reads s xs c one some h).1 ∙ ap (λ (n : ℕ). n == 0) (sym (number_read s xs))

pub negate_law : NegateLaw
negate_law sign xs s c one h =
    number_read s (negate_if sign xs c).result ∙ ap number (negate_if_reads s one sign xs c h).1 ∙ negation_is (holds s sign) (read s xs)
    ∙ ap₂ (λ (n x : ℕ). cond (holds s sign) ((2 ^ n - x) % 2 ^ n) x) (length_read s xs) (sym (number_read s xs))

among_read : (s : Assignment) (wires : Wires) → ones_among (read s wires) ≡ true_among s wires
among_read s [] = refl
among_read s (w ∷ wires) = ap (λ (n : ℕ). bit (holds s w) + n) (among_read s wires)

pub count_law : CountLaw
count_law wires few s c one h =
    number_read s (count wires c).result ∙ ap number (count_reads s one wires c h).1
    ∙ count_is (read s wires) (subst (λ (n : ℕ). n < 128) (sym (length_read s wires)) few) ∙ among_read s wires

rest_by : (x y : ℕ) → x % y ≡ cond (y == 0) x (x % y)
rest_by x y =
    ⊎_elim (λ (e : y ≡ 0). ap (λ (k : ℕ). x % k) e ∙ mod-zero x ∙ sym (ap (λ (b : Bool). cond b x (x % y)) (eq-eqb y 0 e)))
    (λ (e : y ≡ 0 → ⊥). sym (ap (λ (b : Bool). cond b x (x % y)) (ne_eqb y 0 e))) (cases_eq y 0)

pub divide_law : DivideLaw
divide_law xs ys long s c one h =
    let all = divide_reads s one xs ys c long h in (
      number_read s (divide xs ys c).result.quotient ∙ all.1
          ∙ ap₂ (λ (x y : ℕ). quotient_or_ones (length xs) x y) (sym (number_read s xs)) (sym (number_read s ys)),
      number_read s (divide xs ys c).result.remainder ∙ all.2 ∙ rest_by (number (read s xs)) (number (read s ys))
          ∙ ap₂ (λ (x y : ℕ). cond (y == 0) x (x % y)) (sym (number_read s xs)) (sym (number_read s ys)),
    )

pub multiply_law : MultiplyLaw
multiply_law xs ys long s c one h =
    number_read s (multiply xs ys c).result ∙ (multiply_reads s one xs ys c long h).1
    ∙ ap₂ (λ (x y : ℕ). (x * y) % 2 ^ length xs) (sym (number_read s xs)) (sym (number_read s ys))

pub choose_law : ChooseLaw
choose_law condition xs ys some long s c one h =
    number_read s (choose condition xs ys c).result ∙ (choose_reads s one condition xs ys c some long h).1
    ∙ ap (λ (n : ℕ). chosen n (number (read s xs)) (number (read s ys))) (sym (number_read s condition))
    ∙ ap₂ (λ (x y : ℕ). chosen (value_of_wires s condition) x y) (sym (number_read s xs)) (sym (number_read s ys))

pub unary_law : UnaryLaw
unary_law op xs class long s c one h =
    number_read s (unary_operator op xs c).result ∙ (unary_operator_reads s one op xs c class long h).1 ∙ ap (unary op) (sym (number_read s xs))

pub binary_law : BinaryLaw
binary_law op xs ys class x_long y_long s c one h =
    number_read s (binary_operator op xs ys c).result ∙ (binary_operator_reads s one op xs ys c class x_long y_long h).1
    ∙ ap₂ (λ (x y : ℕ). total op x y) (sym (number_read s xs)) (sym (number_read s ys))
