-- The longest run of characters that pass a test, one character further.
use Rattle.std.proofs.Common.{◌≡◌, ℕ, ◌+◌, ◌<◌, ◌≤◌, Bool, true, false, cond, List, length, drop, get_or, ap, ◌∙◌}
use Rattle.std.proofs.lemmas.List.{drop_more}
use Rattle.std.proofs.Math.ListN.{drop_of_length-le}
use Rattle.wasm_text.specs.Lexing.{run_end}

pub run_on : (test : ℕ → Bool) (s : List ℕ) (i : ℕ) → i < length s → test (get_or s i 0) ≡ true → run_end test i (drop i s) ≡ run_end test (i + 1) (drop (i + 1) s)
run_on test s i lt e =
    ap (λ l. run_end test i l) (drop_more s i 0 lt) ∙ ap (λ b. cond b (run_end test (i + 1) (drop (i + 1) s)) i) e

pub run_stops : (test : ℕ → Bool) (s : List ℕ) (i : ℕ) → i < length s → test (get_or s i 0) ≡ false → run_end test i (drop i s) ≡ i
run_stops test s i lt e =
    ap (λ l. run_end test i l) (drop_more s i 0 lt) ∙ ap (λ b. cond b (run_end test (i + 1) (drop (i + 1) s)) i) e

pub run_over : (test : ℕ → Bool) (s : List ℕ) (i : ℕ) → length s ≤ i → run_end test i (drop i s) ≡ i
run_over test s i le = ap (λ l. run_end test i l) (drop_of_length-le s le)
