-- The classes of opcodes, and the tables of their operators, loads and stores.
use Rattle.std.proofs.Common.{◌≡◌, ℕ, zero, suc, ◌+◌, ◌<◌, ◌≤◌, Bool, true, false, ◌==◌, refl, sym, subst, arith}
use Rattle.std.specs.Prelude.{◌&&◌, not, is_some, nat_lt}
use Rattle.std.proofs.lemmas.Bool.{eqb-true, true≢false, and_parts as both}
use Rattle.wasm_ast.specs.Opcodes as classes
use Rattle.int_ops.specs.Operators.{operator_of, is_unary, is_binary}
use Rattle.wasm_rules.specs.Accesses.{load_of, store_of}

abbrev same : Bool → Bool → Bool
same true b = b
same false b = not b

agree : (a b : Bool) → same a b ≡ true → a ≡ b
agree true b e = sym e
agree false true e = absurd (true≢false (sym e))
agree false false e = refl

-- the test holds of so many numbers from the first on
abbrev each_from : (ℕ → Bool) → ℕ → ℕ → Bool
each_from test first zero = true
each_from test first (suc n) = test (first + n) && each_from test first n

within : (test : ℕ → Bool) (first n : ℕ) → each_from test first n ≡ true → (op : ℕ) → first ≤ op → op < first + n → test op ≡ true
within test first zero e op a b = absurd (omega (arith, a, b))
within test first (suc n) e op a b =
    let here = both (test (first + n)) (each_from test first n) e in
    go here.0 (λ c. within test first n here.1 op a c) (op == first + n) refl
  where
    go : test (first + n) ≡ true → (op < first + n → test op ≡ true) → (t : Bool) → (op == first + n) ≡ t → test op ≡ true
    go last later true f = subst (λ k. test k ≡ true) (sym (eqb-true op (first + n) f)) last
    go last later false f = later (grind (arith, b, f))

less : (k n : ℕ) → nat_lt k n ≡ true → k < n
less k n e = grind (arith, e)

not_less : (k n : ℕ) → nat_lt k n ≡ false → n ≤ k
not_less k n e = grind (arith, e)

-- it holds of each byte, a quarter at a time
bytes : (test : ℕ → Bool) → each_from test 0 64 ≡ true → each_from test 64 64 ≡ true → each_from test 128 64 ≡ true → each_from test 192 64 ≡ true
    → (op : ℕ) → op < 256 → test op ≡ true
bytes test e f g h op b = low (nat_lt op 128) refl
  where
    first : (t : Bool) → nat_lt op 64 ≡ t → op < 128 → test op ≡ true
    first true s c = within test 0 64 e op (omega arith) (less op 64 s)
    first false s c = within test 64 64 f op (not_less op 64 s) (omega (arith, c))

    second : (t : Bool) → nat_lt op 192 ≡ t → 128 ≤ op → test op ≡ true
    second true s c = within test 128 64 g op c (less op 192 s)
    second false s c = within test 192 64 h op (not_less op 192 s) (omega (arith, b))

    low : (t : Bool) → nat_lt op 128 ≡ t → test op ≡ true
    low true s = first (nat_lt op 64) refl (less op 128 s)
    low false s = second (nat_lt op 192) refl (not_less op 128 s)

pub unary_classes : (op : ℕ) → op < 256 → classes.is_unary op ≡ is_unary op
unfolding operator_of
unary_classes op b = agree (classes.is_unary op) (is_unary op) (bytes (λ op. same (classes.is_unary op) (is_unary op)) refl refl refl refl op b)

pub binary_classes : (op : ℕ) → op < 256 → classes.is_binary op ≡ is_binary op
unfolding operator_of
binary_classes op b = agree (classes.is_binary op) (is_binary op) (bytes (λ op. same (classes.is_binary op) (is_binary op)) refl refl refl refl op b)

pub load_classes : (op : ℕ) → op < 256 → classes.is_load op ≡ is_some (load_of op)
unfolding load_of
load_classes op b = agree (classes.is_load op) (is_some (load_of op)) (bytes (λ op. same (classes.is_load op) (is_some (load_of op))) refl refl refl refl op b)

pub store_classes : (op : ℕ) → op < 256 → classes.is_store op ≡ is_some (store_of op)
unfolding store_of
store_classes op b = agree (classes.is_store op) (is_some (store_of op)) (bytes (λ op. same (classes.is_store op) (is_some (store_of op))) refl refl refl refl op b)
