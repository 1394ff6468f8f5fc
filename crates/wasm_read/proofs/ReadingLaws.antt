-- What the readers of numbers stand on.
use Rattle.std.proofs.Common.{◌≡◌, ℕ, suc, ◌-◌, ℤ, length, drop, Result, Ok, Err, Option, Some, IfSome, refl, sym, subst, arith}
use Rattle.owi_base.specs.declared.leb.LebBad.{LebBad}
use Rattle.owi_base.specs.Leb.{SpellsUnsigned, UnsignedTrouble, SpellsSigned, SignedTrouble}
use Rattle.grammar_forms.specs.Forms.{Window, Between, unsigned, signed, said}
use Rattle.grammar_forms.proofs.FormLaws.{reads_between, unsigned_lawful, signed_lawful}
use Rattle.wasm_binary.specs.Faults.{Fault, leb}

abbrev left : Window Fault → ℕ → ℕ
left w at = suc (length w.bytes - at)

pub unsigned_read : (width : ℕ) (w : Window Fault) (at n next : ℕ) → Between w.bytes at next (λ text. SpellsUnsigned width text n) → (unsigned leb width).read w at ≡ Ok (n, next)
unsigned_read width w at n next b = reads_between (left w at) (unsigned leb width) (unsigned_lawful (left w at) leb width) w at (omega arith) n next b

pub signed_read : (width : ℕ) (w : Window Fault) (at : ℕ) (z : ℤ) (next : ℕ) → Between w.bytes at next (λ text. SpellsSigned width text z) → (signed leb width).read w at ≡ Ok (z, next)
signed_read width w at z next b = reads_between (left w at) (signed leb width) (signed_lawful (left w at) leb width) w at (omega arith) z next b

-- what a refusal tells
told : {A : Type 0} (given : Result A Fault) (o : Option Fault) (fault : Fault) → o ≡ Some fault → given ≡ Err fault → IfSome o (λ f. given ≡ Err f)
told given o fault is e = let P : Option Fault → Type 0 = λ p. IfSome p (λ f. given ≡ Err f) in subst P (sym is) e

pub unsigned_told : (width : ℕ) (w : Window Fault) (at : ℕ) (o : Option Fault) (why : LebBad) → UnsignedTrouble width (drop at w.bytes) why → o ≡ Some (said leb w at why)
    → IfSome o (λ f. (unsigned leb width).read w at ≡ Err f)
unsigned_told width w at o why t is =
    told ((unsigned leb width).read w at) o (said leb w at why) is ((unsigned_lawful (left w at) leb width).found w at (omega arith) (said leb w at why) (why, t, refl))

pub signed_told : (width : ℕ) (w : Window Fault) (at : ℕ) (o : Option Fault) (why : LebBad) → SignedTrouble width (drop at w.bytes) why → o ≡ Some (said leb w at why)
    → IfSome o (λ f. (signed leb width).read w at ≡ Err f)
signed_told width w at o why t is =
    told ((signed leb width).read w at) o (said leb w at why) is ((signed_lawful (left w at) leb width).found w at (omega arith) (said leb w at why) (why, t, refl))
