-- Numeric instructions.
use Rattle.std.proofs.Common.{◌≡◌, ℕ, zero, suc, ◌-◌, ◌^◌, ◌<◌, ◌≤◌, List, [], ◌∷◌, drop, length, refl, sym, ap, ◌∙◌, subst, arith}
use Rattle.std.specs.Prelude.{Bool, true, false, IsTrue, Some, None}
use Rattle.wasm_ast.specs.declared.instructions.Instr.TheVariants.{Num}
use Rattle.wasm_ast.specs.declared.runs.Cause.TheVariants.{DivZero as DivZeroCause, Overflow as OverflowCause}
use Rattle.wasm_ast.specs.declared.modules.Module.{Module}
use Rattle.int_ops.specs.declared.operators.Width.{Width}
use Rattle.int_ops.specs.declared.operators.Width.TheVariants.{W32, W64}
use Rattle.int_ops.specs.declared.operators.Unary.{Unary}
use Rattle.int_ops.specs.declared.operators.Binary.{Binary}
use Rattle.int_ops.specs.declared.operators.Operation.{Operation}
use Rattle.int_ops.specs.declared.operators.Operation.TheVariants.{OfOne, OfTwo}
use Rattle.int_ops.specs.declared.operators.Operator.{Operator}
use Rattle.int_ops.specs.Operators.{operator_of, is_unary, is_binary, operand_bits, result_bits, bits_of, divides, is_div_s}
use Rattle.wasm_rules.specs.Words.{Kind, Kept, bits_where}
use Rattle.wasm_reduction.specs.Configurations.{Value, Config, Test, Next, Goes, Asks, Ends, Traps, Stuck}
use Rattle.wasm_reduction.specs.Combinators.{holding, valued, with_found}
use Rattle.wasm_reduction.specs.Numeric.{is_wide, eqz_op, eq_op, is_zero, is_overflow, checking, operating, numeric}
use Rattle.wasm_machine.specs.declared.values.Value.{Value as CodeValue}
use Rattle.wasm_machine.specs.declared.next.Next.TheVariants.{Goes as CodeGoes, Ends as CodeEnds}
use Rattle.wasm_machine.specs.declared.next.End.TheVariants.{Stuck as CodeStuck}
use Rattle.wasm_machine.specs.declared.numeric.Check.{Check}
use Rattle.wasm_machine.specs.declared.numeric.Check.TheVariants.{AskZero, AskOverflow, DivZero, Overflow, Fine}
use Rattle.wasm_machine.specs.States.{State, own, passed}
use Rattle.wasm_machine.specs.code.Moves.{replaced}
use Rattle.wasm_machine.specs.Values.{word_at, valued as code_valued}
use Rattle.wasm_machine.specs.Configurations.{image, configuration}
use Rattle.wasm_machine.specs.code.Divisions.{check_of}
use Rattle.wasm_machine.specs.Acts.{Sane, Ready, Acts}
use Rattle.wasm_machine.proofs.Images.{own-held, word_at-held, word_at-wide, word_at-some, valued-image, valued-held}
use Rattle.int_ops.specs.Integers.{least, minus_one}
use Rattle.wasm_machine.proofs.Steps.{length-own}
use Rattle.wasm_machine.proofs.Operands.{found-word, no-word}
use Rattle.wasm_machine.proofs.ActLaws.{acting, put-acts, stuck-acts}

-- ---- opcodes

pub bits-wide : (width : Width) → bits_where (is_wide width) ≡ bits_of width
bits-wide W32 = refl
bits-wide W64 = refl

pub one-unary : (op : ℕ) (o : Operator) (u : Unary) → operator_of op ≡ Some o → o.operation ≡ OfOne u → IsTrue (is_unary op)
one-unary op o u e f = rw (e, f) refl

pub two-binary : (op : ℕ) (o : Operator) (u : Binary) → operator_of op ≡ Some o → o.operation ≡ OfTwo u → IsTrue (is_binary op)
two-binary op o u e f = rw (e, f) refl

pub operand-bits : (op : ℕ) (o : Operator) → operator_of op ≡ Some o → operand_bits op ≡ bits_of o.operand
operand-bits op o e = rw e

pub eqz-unary : (width : Width) → IsTrue (is_unary (eqz_op width))
unfolding operator_of
eqz-unary W32 = refl
eqz-unary W64 = refl

pub eqz-operand : (width : Width) → operand_bits (eqz_op width) ≡ bits_of width
unfolding operator_of
eqz-operand W32 = refl
eqz-operand W64 = refl

pub eq-binary : (width : Width) → IsTrue (is_binary (eq_op width))
unfolding operator_of
eq-binary W32 = refl
eq-binary W64 = refl

pub eq-operand : (width : Width) → operand_bits (eq_op width) ≡ bits_of width
unfolding operator_of
eq-operand W32 = refl
eq-operand W64 = refl

pub eq-result : (width : Width) → result_bits (eq_op width) ≡ 32
unfolding operator_of
eq-result W32 = refl
eq-result W64 = refl

pub and-binary : IsTrue (is_binary 0x71)
unfolding operator_of
and-binary = refl

pub and-operand : operand_bits 0x71 ≡ 32
unfolding operator_of
and-operand = refl

-- ---- a word of the own operands

pub own-word-held : {A V M : Type 0} (H : A → V → Type 0) (Has : ℕ → M → Type 0) (means : A → V → M) (a : A) (s : State (CodeValue V)) (wide : Bool) (k : ℕ) (w : V) → Ready H Has means a s → Some w ≡ word_at wide (own s) k → H a w
own-word-held H Has means a s wide k w r e = word_at-held (H a) wide (own s) k w (own-held H a s r.sane) e

pub own-word-wide : {A V M : Type 0} (H : A → V → Type 0) (Has : ℕ → M → Type 0) (means : A → V → M) (a : A) (s : State (CodeValue V)) (wide : Bool) (k : ℕ) (w : V) → Ready H Has means a s → Some w ≡ word_at wide (own s) k → Has (bits_where wide) (means a w)
own-word-wide H Has means a s wide k w r e = word_at-wide Has (means a) wide (own s) k w r.wide e

-- the same, where the word is an operand of an operator
pub operand-wide : {A V M : Type 0} (H : A → V → Type 0) (Has : ℕ → M → Type 0) (means : A → V → M) (a : A) (s : State (CodeValue V)) (width : Width) (k : ℕ) (w : V) → Ready H Has means a s → Some w ≡ word_at (is_wide width) (own s) k → Has (bits_of width) (means a w)
operand-wide H Has means a s width k w r e = subst (λ n. Has n (means a w)) (bits-wide width) (own-word-wide H Has means a s (is_wide width) k w r e)

-- ---- no operator, or no operand

pub numeric-none : {W : Type 0} (K : Kind W) (c : Config W) (vs : List (Value W)) (ns : List ℕ) (op : ℕ) → None ≡ operator_of op → numeric K c vs ns op ≡ Ends Stuck
numeric-none K c vs ns op e = ap (λ x. with_found x (λ o. operating K c vs ns op o o.operation)) (sym e)

pub numeric-is : {W : Type 0} (K : Kind W) (c : Config W) (vs : List (Value W)) (ns : List ℕ) (op : ℕ) (o : Operator) (operation : Operation) → operator_of op ≡ Some o → o.operation ≡ operation → numeric K c vs ns op ≡ operating K c vs ns op o operation
numeric-is K c vs ns op o operation e f = ap (λ x. with_found x (λ o. operating K c vs ns op o o.operation)) e ∙ ap (λ x. operating K c vs ns op o x) f

-- ---- one operand

pub unary-stuck : {A V M : Type 0} (H : A → V → Type 0) (means : A → V → M) (K : Kind M) (m : Module) (a : A) (s : State (CodeValue V)) (op : ℕ) (o : Operator) (u : Unary) → operator_of op ≡ Some o → o.operation ≡ OfOne u →
    None ≡ word_at (is_wide o.operand) (own s) 0 → Acts H means K m (Num op) a s a s (CodeEnds CodeStuck)
unary-stuck H means K m a s op o u e f g = stuck-acts H means K m (Num op) a a s s (λ b.
    numeric-is K (configuration (means a) m b (passed s)) (own (image (means a) s)) s.answers op o (OfOne u) e f ∙
    no-word (means a) s (is_wide o.operand) 0 _ g)

pub unary-goes : {A V M : Type 0} (H : A → V → Type 0) (means : A → V → M) (K : Kind M) (m : Module) (a a' : A) → Kept H means a a' → (s p t : State (CodeValue V)) (op : ℕ) (o : Operator) (u : Unary) (x w : V) (wide : Bool) → Sane H a s →
    operator_of op ≡ Some o → o.operation ≡ OfOne u → Some x ≡ word_at (is_wide o.operand) (own s) 0 → wide ≡ is_wide o.result → H a' w → means a' w ≡ K.unary op (means a x) →
    p ≡ passed s → t ≡ replaced 1 (code_valued wide w) p → Acts H means K m (Num op) a s a' t CodeGoes
unary-goes H means K m a a' k s p t op o u x w wide sane e f g q held is d r =
    put-acts H means K m (Num op) a a' k s p t 1 (code_valued wide w) (valued (is_wide o.result) (K.unary op (means a x))) sane (omega (arith, word_at-some (is_wide o.operand) (own s) 0 x g)) d r
    (valued-held (H a') wide w held) (valued-image (means a') wide w ∙ ap (λ b. valued b (means a' w)) q ∙ ap (λ z. valued (is_wide o.result) z) is)
    (λ b. numeric-is K (configuration (means a) m b (passed s)) (own (image (means a) s)) s.answers op o (OfOne u) e f ∙
    found-word (means a) s (is_wide o.operand) 0 x _ g)

-- ---- two operands

-- what the questions come to
abbrev pub said : {W : Type 0} → Kind W → Width → W → W → Next W → Check → Next W
said K width a b next AskZero = Asks Test (is_zero K width b)
said K width a b next AskOverflow = Asks Test (is_overflow K width a b)
said K width a b next DivZero = Ends (Traps DivZeroCause)
said K width a b next Overflow = Ends (Traps OverflowCause)
said K width a b next Fine = next

pub checking-said : {W : Type 0} (K : Kind W) (d signed : Bool) (width : Width) (a b : W) (ns : List ℕ) (next : Next W) → checking K d signed width a b ns next ≡ said K width a b next (check_of d signed ns)
checking-said K false signed width a b ns next = refl
checking-said K true signed width a b [] next = refl
checking-said K true false width a b (zero ∷ ns) next = refl
checking-said K true true width a b (zero ∷ []) next = refl
checking-said K true true width a b (zero ∷ zero ∷ ns) next = refl
checking-said K true true width a b (zero ∷ suc n ∷ ns) next = refl
checking-said K true signed width a b (suc n ∷ ns) next = refl

pub binary-lacks-second : {A V M : Type 0} (H : A → V → Type 0) (means : A → V → M) (K : Kind M) (m : Module) (a : A) (s : State (CodeValue V)) (op : ℕ) (o : Operator) (u : Binary) → operator_of op ≡ Some o → o.operation ≡ OfTwo u →
    None ≡ word_at (is_wide o.operand) (own s) 0 → Acts H means K m (Num op) a s a s (CodeEnds CodeStuck)
binary-lacks-second H means K m a s op o u e f g = stuck-acts H means K m (Num op) a a s s (λ b.
    numeric-is K (configuration (means a) m b (passed s)) (own (image (means a) s)) s.answers op o (OfTwo u) e f ∙
    no-word (means a) s (is_wide o.operand) 0 _ g)

pub binary-lacks-first : {A V M : Type 0} (H : A → V → Type 0) (means : A → V → M) (K : Kind M) (m : Module) (a : A) (s : State (CodeValue V)) (op : ℕ) (o : Operator) (u : Binary) (y : V) → operator_of op ≡ Some o → o.operation ≡ OfTwo u →
    Some y ≡ word_at (is_wide o.operand) (own s) 0 → None ≡ word_at (is_wide o.operand) (own s) 1 → Acts H means K m (Num op) a s a s (CodeEnds CodeStuck)
binary-lacks-first H means K m a s op o u y e f g h = stuck-acts H means K m (Num op) a a s s (λ b.
    numeric-is K (configuration (means a) m b (passed s)) (own (image (means a) s)) s.answers op o (OfTwo u) e f ∙
    found-word (means a) s (is_wide o.operand) 0 y _ g ∙ no-word (means a) s (is_wide o.operand) 1 _ h)

-- the two operands, where the questions stand at this check
pub record Operands {V : Type 0} (s : State (CodeValue V)) (op : ℕ) (o : Operator) (u : Binary) (x y : V) (ns : List ℕ) (k : Check) : Type 0 where
  pub operator : operator_of op ≡ Some o
  pub two : o.operation ≡ OfTwo u
  pub second : Some y ≡ word_at (is_wide o.operand) (own s) 0
  pub first : Some x ≡ word_at (is_wide o.operand) (own s) 1
  pub answers : ns ≡ s.answers
  pub check : k ≡ check_of (divides u) (is_div_s u) ns

pub binary-said : {A V M : Type 0} (means : A → V → M) (K : Kind M) (m : Module) (a : A) (s : State (CodeValue V)) (op : ℕ) (o : Operator) (u : Binary) (x y : V) (ns : List ℕ) (k : Check) → Operands s op o u x y ns k → (b : List M) →
    acting means K m (Num op) a s b ≡ said K o.operand (means a x) (means a y) (Goes (holding (configuration (means a) m b (passed s)) (valued (is_wide o.result) (K.binary op (means a x) (means a y)) ∷ drop 2 (own (image (means a) s))))) k
binary-said means K m a s op o u x y ns k p b =
    numeric-is K (configuration (means a) m b (passed s)) (own (image (means a) s)) s.answers op o (OfTwo u) p.operator p.two ∙
    found-word (means a) s (is_wide o.operand) 0 y _ p.second ∙ found-word (means a) s (is_wide o.operand) 1 x _ p.first ∙
    checking-said K (divides u) (is_div_s u) o.operand (means a x) (means a y) s.answers _ ∙
    ap (λ c. said K o.operand (means a x) (means a y) (Goes (holding (configuration (means a) m b (passed s)) (valued (is_wide o.result) (K.binary op (means a x) (means a y)) ∷ drop 2 (own (image (means a) s))))) c)
    (ap (λ l. check_of (divides u) (is_div_s u) l) (sym p.answers) ∙ sym p.check)

pub binary-goes : {A V M : Type 0} (H : A → V → Type 0) (means : A → V → M) (K : Kind M) (m : Module) (a a' : A) → Kept H means a a' → (s p t : State (CodeValue V)) (op : ℕ) (o : Operator) (u : Binary) (x y w : V) (wide : Bool) (ns : List ℕ) → Sane H a s →
    Operands s op o u x y ns Fine → wide ≡ is_wide o.result → H a' w → means a' w ≡ K.binary op (means a x) (means a y) →
    p ≡ passed s → t ≡ replaced 2 (code_valued wide w) p → Acts H means K m (Num op) a s a' t CodeGoes
binary-goes H means K m a a' k s p t op o u x y w wide ns sane f q held is d r =
    put-acts H means K m (Num op) a a' k s p t 2 (code_valued wide w) (valued (is_wide o.result) (K.binary op (means a x) (means a y))) sane (omega (arith, word_at-some (is_wide o.operand) (own s) 1 x f.first)) d r
    (valued-held (H a') wide w held) (valued-image (means a') wide w ∙ ap (λ b. valued b (means a' w)) q ∙ ap (λ z. valued (is_wide o.result) z) is)
    (λ b. binary-said means K m a s op o u x y ns Fine f b)

-- ---- what the calls require

pub has-at : {M : Type 0} (Has : ℕ → M → Type 0) (k n : ℕ) (v w : M) → k ≡ n → v ≡ w → Has n w → Has k v
has-at Has k n v w e f h = subst (λ n. Has n v) (sym e) (subst (λ v. Has n v) (sym f) h)

pub least-fits : (width : Width) → least (bits_of width) < 2 ^ bits_of width
least-fits W32 = omega arith
least-fits W64 = omega arith

pub minus_one-fits : (width : Width) → minus_one (bits_of width) < 2 ^ bits_of width
minus_one-fits W32 = omega arith
minus_one-fits W64 = omega arith

-- so many operands are there, once the instruction is behind
pub own-within : {V : Type 0} (s p : State (CodeValue V)) (n : ℕ) → p ≡ passed s → n ≤ length (own s) → n ≤ length p.operands
own-within s p n e h = subst (λ p. n ≤ length p.operands) (sym e) (let k : n ≤ length s.operands = omega (arith, h, length-own s) in k)

pub num-stuck : {A V M : Type 0} (H : A → V → Type 0) (means : A → V → M) (K : Kind M) (m : Module) (a : A) (s : State (CodeValue V)) (op : ℕ) → None ≡ operator_of op → Acts H means K m (Num op) a s a s (CodeEnds CodeStuck)
num-stuck H means K m a s op e = stuck-acts H means K m (Num op) a a s s (λ b. numeric-none K (configuration (means a) m b (passed s)) (own (image (means a) s)) s.answers op e)
