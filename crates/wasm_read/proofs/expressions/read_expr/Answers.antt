use Rattle.std.proofs.Common.{ap, sym, subst, ◌∙◌}
use Rattle.wasm_read.specs.Nests.{Nest, IsNest, rest}
use Rattle.wasm_read.proofs.NestLaws.{starts, first_is_nest}
use Rattle.wasm_read.proofs.expressions.read_expr.Goals as goal

pub turns-init : goal.turns-init
turns-init c =
    let first = sym c.in_ok-nest.ensures in
    let reads = starts c.args.view.now c.args.has_data_count c.args.start ∙ ap (λ (n : Nest). rest c.args.view.now c.args.has_data_count n c.args.start) first in
    (c.requires, subst IsNest first first_is_nest, reads)
