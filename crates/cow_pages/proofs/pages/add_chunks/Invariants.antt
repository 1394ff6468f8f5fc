use Rattle.std.proofs.Common.{◌≡◌, ◌++◌, replicate}
use Rattle.cow_pages.specs.code.Chunks.{chunk_cells}
use Rattle.cow_pages.proofs.pages.add_chunks.Given as goal

abbrev pub invariant-loop : goal.invariant-loop
invariant-loop l = l.chunks.items ≡ l.fn.chunks.items ++ replicate l.counter (replicate chunk_cells 0)
