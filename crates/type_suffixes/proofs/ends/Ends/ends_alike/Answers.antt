use Rattle.std.proofs.Common.{◌≡◌, reverse, take, subst, sym}
use Rattle.type_suffixes.specs.declared.lists.Listed.TheVariants.{Takes, Gives}
use Rattle.type_suffixes.specs.Lists.{listed, AreAmong}
use Rattle.type_suffixes.proofs.NamedLists.{alike-backward}
use Rattle.type_suffixes.proofs.ends.Ends.ends_alike.Goals as goal

pub returns-in-Some-place_of : goal.returns-in-Some-place_of
returns-in-Some-place_of c = λ same.
    let types = c.self.inside.lists.now in
    let all = c.self.inside.endings in
    let taken = subst (λ places. AreAmong types all (λ x. Takes x) places) (sym c.as_slice-taken.ensures.value) c.self.invariant.0 in
    let given = subst (λ places. AreAmong types all (λ x. Gives x) places) (sym c.as_slice-given.ensures.value) c.self.invariant.1 in
    subst (λ types. take c.args.n (reverse (listed types c.args.one)) ≡ take c.args.n (reverse (listed types c.args.other))) c.self.view_is
    (alike-backward all c.self.inside.backward c.in-Some.k c.in-Some-place_of.l c.args.n (listed types c.args.one) (listed types c.args.other) c.self.invariant.2
    (c.in-Some.ensures types all taken given) (c.in-Some-place_of.ensures types all taken given) (c.begins_alike.ensures same))
