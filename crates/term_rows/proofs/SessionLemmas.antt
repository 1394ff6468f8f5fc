-- Words of a graph that grows.
use Rattle.std.proofs.Common.{◌≡◌, List, [], ◌∷◌, ◌++◌, Bool, true, false, cond, sym, subst, refl, ◌∙◌}
use Rattle.std.proofs.lemmas.List.{append-nil}
use Rattle.std.specs.Prelude.{All, ◌||◌}
use Rattle.std.specs.List.{list_any}
use Rattle.wasm_rules.specs.Words.{Kept}
use Rattle.bv_terms.specs.declared.words.Word.{Word}
use Rattle.bv_terms.specs.Terms.{Term, Symbol, HasWidth, is_number, is_same}
use Rattle.bv_terms.specs.Graphs.{TermGraph, Holds, Draws, terms_of, term_of}
use Rattle.bv_terms.proofs.MakeLemmas.{extends-word}
use Rattle.term_rows.specs.declared.session.Entry.{Entry}
use Rattle.term_rows.specs.Sessions.{IsEntry}

pub still : (old new : TermGraph) (es : List Entry) → Kept Holds term_of old new → All (IsEntry old) es → All (IsEntry new) es
still old new es kept each = λ i d below.
    let e = each i d below in
    ((kept _ e.0).0, subst (HasWidth _) (sym (kept _ e.0).1) e.1)

with_more : (b : Bool) (xs : List Term) (t : Term) → (extra : List Term) × (cond b xs (xs ++ t ∷ []) ≡ xs ++ extra)
with_more true xs t = ([], sym (append-nil xs))
with_more false xs t = (t ∷ [], refl)

pub drawn-kept : (old new : TermGraph) (wide : Bool) (w : Word) → Draws old wide w new → Kept Holds term_of old new
drawn-kept old new wide w draws = λ v held.
    let more = with_more (is_number (Symbol old.drawn wide) || list_any (is_same (Symbol old.drawn wide)) (terms_of old.forms)) (terms_of old.forms) (Symbol old.drawn wide) in
    extends-word old new draws.kept more.0 (draws.terms ∙ more.1) v held
