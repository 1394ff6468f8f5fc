use Rattle.std.proofs.Common.{◌∙◌, map, reverse, ap, subst, sym}
use Rattle.type_suffixes.specs.declared.lists.Listed.TheVariants.{Takes, Gives}
use Rattle.type_suffixes.specs.Lists.{AreAmong}
use Rattle.type_suffixes.proofs.NamedLists.{placing-more}
use Rattle.type_suffixes.proofs.ends.Ends.new.Goals as goal

pub add_often-requires : goal.add_often-requires
add_often-requires c = c.loop-x.invariant.1

pub invariant_of-result : goal.invariant_of-result
invariant_of-result c =
    let types = c.args.lists.now in
    let places = c.loop-x.invariant.0 in (
      subst (λ all. AreAmong types all (λ x. Takes x) c.loop-x.taken.items) (sym c.link.ensures) places.of_taken,
      subst (λ all. AreAmong types all (λ x. Gives x) c.loop-x.given.items) (sym c.link.ensures) places.of_given,
      c.loop-x.invariant.1 ∙ ap (λ all. map (λ types. reverse types) all) (sym c.link.ensures),
    )

pub loop-x-preserved : goal.loop-x-preserved
loop-x-preserved c = (
  placing-more c.args.lists.now c.loop-x.x c.loop-x.endings c.add_often.new.endings c.add_often-in-loop-x.new.endings c.loop-x.taken.items c.loop-x.given.items c.in_ok-place.place c.in_ok-place-2.place
      c.push.new.self.items c.push-in-loop-x.new.self.items c.in_ok-push.ensures.items c.in_ok-push-2.ensures.items
      c.in_ok-place.ensures.kept c.in_ok-place-2.ensures.kept c.in_ok-place.ensures.there c.in_ok-place-2.ensures.there c.loop-x.invariant.0,
  c.in_ok-place-2.ensures.backward,
)
