use Rattle.std.proofs.Common.{◌≡◌, ◌∙◌, ◌+◌, ◌*◌, ◌≤◌, ◌++◌, ℕ, Result, Ok, Err, ap, sym, length, arith, subst, take, replicate}
use Rattle.std.specs.Result.{OnErr}
use Rattle.std.proofs.lemmas.Grind.{div_ceil_times}
use Rattle.cow_pages.specs.code.Chunks.{chunk_cells, cells_of, IsPadded}
use Rattle.cow_pages.proofs.PaddedLemmas.{list-grown, padded-grown, grown-none, list-same}
use Rattle.cow_pages.proofs.pages.Pages.grow.Goals as goal

pub invariant_of-self : goal.invariant_of-self
invariant_of-self c = (
  grown-none c.self.inside.chunks.items c.add_chunks.new.chunks.items c.self.inside.cells c.self.invariant.0 c.add_chunks.ensures.added,
  c.self.invariant.1,
)

pub returns-in_err-add_chunks-clause-refused : goal.returns-in_err-add_chunks-clause-refused
returns-in_err-add_chunks-clause-refused c =
    on-err c.from_residual.result
    (list-same c.self.inside.chunks.items c.add_chunks.new.chunks.items c.self.inside.cells c.self.invariant.0 c.add_chunks.ensures.added ∙ c.self.view_is)
  where
    on-err : {T E P : Type 0} (r : Result T E) → P → OnErr r P
    on-err (Ok x) p = tt
    on-err (Err e) p = p

pub invariant_of-self-2 : goal.invariant_of-self-2
invariant_of-self-2 c = (
  subst (λ n. IsPadded c.add_chunks.new.chunks.items n) (sym c.in-Some.ensures.1)
      (padded-grown c.self.inside.chunks.items c.add_chunks.new.chunks.items c.self.inside.cells c.args.cells c.self.invariant.0 c.add_chunks.ensures.added (omega (arith, c.in-Some.ensures.1, c.in_ok-add_chunks.ensures.enough, c.div_ceil.ensures, div_ceil_times c.in-Some.more 1024 (omega arith)))),
  c.self.invariant.1,
)

pub returns-clause-grown : goal.returns-clause-grown
returns-clause-grown c =
    ap (λ n. take n (cells_of c.add_chunks.new.chunks.items)) c.in-Some.ensures.1
    ∙ list-grown c.self.inside.chunks.items c.add_chunks.new.chunks.items c.self.inside.cells c.args.cells c.self.invariant.0 c.add_chunks.ensures.added (omega (arith, c.in-Some.ensures.1, c.in_ok-add_chunks.ensures.enough, c.div_ceil.ensures, div_ceil_times c.in-Some.more 1024 (omega arith)))
    ∙ ap (λ l. l ++ replicate {A = ℕ} c.args.cells 0) c.self.view_is
