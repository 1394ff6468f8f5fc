use Rattle.std.proofs.Common.{◌∙◌, ◌++◌, None, replicate, take, sym, arith}
use Rattle.wat_resolve.proofs.PlaceLaws.{places_none, none_twice, step_places, step_found, count_before}
use Rattle.wat_resolve.proofs.ids.places_of.Goals as goal

pub loop-id-init : goal.loop-id-init
loop-id-init c = (
  omega arith,
  places_none (λ k. k.now) c.args.text.now c.args.unnamed c.new-places.result c.new-places.ensures.empty,
  none_twice c.args.text.now c.args.unnamed c.args.found.now,
)

pub loop-id-preserved : goal.loop-id-preserved
loop-id-preserved c =
    let before = replicate c.args.unnamed None ++ take c.loop-id.id-index c.args.ids.now in
    let count = count_before c.args.unnamed c.args.ids.now c.loop-id.id-index c.loop-id-test.true ∙ sym c.loop-id.invariant.0 in (
      omega (arith, c.in-Some.ensures, c.loop-id.invariant.0),
      step_places (λ k. k.now) c.args.text.now (replicate c.args.unnamed None) c.args.ids.now c.loop-id.id-index _ c.put_place.new.places c.loop-id-test.true
          (c.in_ok-put_place.ensures.places before count c.loop-id.invariant.1),
      step_found c.args.text.now (replicate c.args.unnamed None) c.args.ids.now c.loop-id.id-index _ c.args.found.now c.loop-id.found c.put_place.new.found c.loop-id-test.true c.loop-id.invariant.2
          (c.in_ok-put_place.ensures.found before c.loop-id.invariant.1),
    )
