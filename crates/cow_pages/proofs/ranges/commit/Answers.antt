use Rattle.std.proofs.Common.{◌≡◌, ◌∙◌, ◌+◌, ◌++◌, slice_set, ap, subst, sym, length}
use Rattle.std.specs.Option.{option_to_list}
use Rattle.std.proofs.lemmas.List.{length-set}
use Rattle.cow_pages.proofs.ChunkLemmas.{Committed, committed-more}
use Rattle.cow_pages.proofs.ranges.commit.Goals as goal

pub loop-chunk-preserved : goal.loop-chunk-preserved
loop-chunk-preserved c =
    subst (λ n. Committed c.args.chunks.now c.args.made.items c.args.first c.pop.new.self.items (slice_set c.loop-chunk.chunks (c.args.first + n) c.in-Some.chunk)) (sym (c.len.ensures ∙ c.pop.new.self.ok.0))
    (committed-more c.args.chunks.now c.args.made.items c.loop-chunk.made.items c.pop.new.self.items c.loop-chunk.chunks c.args.first c.in-Some.chunk c.requires
    (c.pop.ensures.items ∙ ap (λ o. c.pop.new.self.items ++ option_to_list o) c.in-Some.is)
    c.loop-chunk.invariant)
