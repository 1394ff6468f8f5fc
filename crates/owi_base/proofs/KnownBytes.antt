-- Laws of bytes that are known: what several reads give, and what several writes append.
use Rattle.std.proofs.Common.{◌≡◌, ℕ, ◌+◌, ◌≤◌, List, ◌++◌, Option, Some, None, length, take, drop, sym, ap, ◌∙◌, append_assoc, arith, length-append}
use Rattle.std.specs.Io.KnownBytes.{Appends, Consumes}
use Rattle.std.proofs.Math.Seq.{take-add}
use Rattle.std.proofs.lemmas.List.{length-take-le}
use Rattle.owi_base.specs.Outside.{Gave, GaveAtMost}

-- n bytes were written, and then the next m
pub Appends-more : (a b c : Option (List ℕ)) (bytes : List ℕ) (n m : ℕ) → Appends a b (take n bytes) → Appends b c (take m (drop n bytes)) → Appends a c (take (n + m) bytes)
Appends-more None b c bytes n m p q = tt
Appends-more (Some x) None c bytes n m p q = absurd p
Appends-more (Some x) (Some y) None bytes n m p q = absurd q
Appends-more (Some x) (Some y) (Some z) bytes n m p q =
    q ∙ ap (λ l. l ++ take m (drop n bytes)) p ∙ append_assoc x (take n bytes) (take m (drop n bytes)) ∙ ap (λ l. x ++ l) (sym (take-add n m bytes))

-- bs were given, and then cs
pub Consumes-more : (a b c : Option (List ℕ)) (bs cs : List ℕ) → Consumes a b bs → Consumes b c cs → Consumes a c (bs ++ cs)
Consumes-more None b c bs cs p q = tt
Consumes-more (Some x) None c bs cs p q = absurd p
Consumes-more (Some x) (Some y) None bs cs p q = absurd q
Consumes-more (Some x) (Some y) (Some z) bs cs p q = p ∙ ap (λ l. bs ++ l) q ∙ sym (append_assoc bs cs z)

-- bs were given, and then the first count bytes of a piece
pub Gave-more : (a b c : Option (List ℕ)) (bs piece : List ℕ) (count n : ℕ) → Consumes a b bs → Consumes b c (take count piece) → count ≤ length piece → length bs + count ≡ n → Gave n a c
Gave-more a b c bs piece count n p q le e =
    (bs ++ take count piece, omega (arith, length-append bs (take count piece), length-take-le count piece le), Consumes-more a b c bs (take count piece) p q)

pub GaveAtMost-more : (a b c : Option (List ℕ)) (bs piece : List ℕ) (count n : ℕ) → Consumes a b bs → Consumes b c (take count piece) → count ≤ length piece → length bs + count ≤ n → GaveAtMost n a c
GaveAtMost-more a b c bs piece count n p q le within =
    (bs ++ take count piece, omega (arith, length-append bs (take count piece), length-take-le count piece le), Consumes-more a b c bs (take count piece) p q)
