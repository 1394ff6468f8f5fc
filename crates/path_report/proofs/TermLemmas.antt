-- Lines of terms, one more at the end.
use Rattle.std.proofs.Common.{◌≡◌, ℕ, zero, suc, ◌+◌, ◌<◌, List, [], ◌∷◌, ◌++◌, length, slice_index_or, take, sym, ap, ◌∙◌, append-nil, append_assoc, arith, refl}
use Rattle.fork_tree.specs.declared.rows.Line.{Line}
use Rattle.path_report.specs.Report.{term_text, term_lines}

-- one line more is printed with the next number
term_lines-next : (k i : ℕ) (terms : List Line) (d : Line) → i < length terms
    → term_lines k (take (i + 1) terms) ≡ term_lines k (take i terms) ++ term_text (k + i) (slice_index_or terms i d)
term_lines-next k i [] d some = absurd (omega arith)
term_lines-next k zero (t ∷ terms) d some = append-nil (term_text k t) ∙ ap (λ n. term_text n t) (let e : k ≡ k + 0 = omega arith in e)
term_lines-next k (suc i) (t ∷ terms) d some =
    let next : suc i + 1 ≡ suc (i + 1) = omega arith in
    let number : k + 1 + i ≡ k + suc i = omega arith in
    let rest = term_lines-next (k + 1) i terms d (omega arith) in
    let last = ap (λ n. term_lines (k + 1) (take i terms) ++ term_text n (slice_index_or terms i d)) number in
    rw next (ap (λ more. term_text k t ++ more) (rest ∙ last)
    ∙ sym (append_assoc (term_text k t) (term_lines (k + 1) (take i terms)) (term_text (k + suc i) (slice_index_or terms i d))))

-- what a loop has printed, with one line more
pub one_more : (before printed more : List ℕ) (i : ℕ) (terms : List Line) (t : Line) → i < length terms → t ≡ slice_index_or terms i t
    → printed ≡ before ++ term_lines 1 (take i terms) → more ≡ printed ++ term_text (i + 1) t
    → more ≡ before ++ term_lines 1 (take (i + 1) terms)
one_more before printed more i terms t some is so next =
    let number : i + 1 ≡ 1 + i = omega arith in
    let said = ap (λ n. term_text n t) number ∙ ap (λ u. term_text (1 + i) u) is in
    next ∙ ap (λ text. printed ++ text) said ∙ ap (λ text. text ++ term_text (1 + i) (slice_index_or terms i t)) so
    ∙ append_assoc before (term_lines 1 (take i terms)) (term_text (1 + i) (slice_index_or terms i t))
    ∙ ap (λ text. before ++ text) (sym (term_lines-next 1 i terms t some))
