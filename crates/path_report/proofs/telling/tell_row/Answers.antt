use Rattle.std.proofs.Common.{◌≡◌, ◌+◌, ◌≤◌, ◌<◌, ◌∷◌, [], ℕ, map, length, slice_get, Some, refl, sym, ap, ◌∙◌, subst, arith}
use Rattle.std.proofs.lemmas.Option.{slice_get_read}
use Rattle.path_report.specs.Listeners.{Heard, AreSmall, counted, is_enough, told, told_partly}
use Rattle.path_report.proofs.ToldLemmas.{on_err, all-small, telling-begins, telling-all, telling-small, telling-more, telling-same, telling-stays, telling-leaves}
use Rattle.path_report.proofs.telling.tell_row.Goals as goal
use Rattle.path_report.proofs.telling.tell_row.Goals.{in-More, in-Enough}

-- src/telling.rt:35:5
pub loop-turn-init : goal.loop-turn-init
loop-turn-init g c = telling-begins c.args.row.now _ (all-small _ c.args.listeners.now.items c.requires.room)

-- src/telling.rt:36:15
pub index_mut-requires : goal.index_mut-requires
index_mut-requires g c =
    let lt : c.loop-turn._turn < length c.args.listeners.now.items = omega (arith, c.loop-turn-test.true, c.len-turn-end.ensures, c.args.listeners.now.ok) in
    omega (arith, telling-more _ _ _ _ _ _ c.loop-turn.invariant lt, c.loop-turn.listeners.ok)

-- src/telling.rt:36:15
pub tell_one-requires : goal.tell_one-requires
tell_one-requires g c =
    let lt : c.loop-turn._turn < length c.args.listeners.now.items = omega (arith, c.loop-turn-test.true, c.len-turn-end.ensures, c.args.listeners.now.ok) in
    let get : slice_get c.loop-turn.listeners.items c.loop-turn.i ≡ Some c.index_mut.result.now =
    slice_get_read c.loop-turn.listeners.items (length c.loop-turn.listeners.items) c.loop-turn.i c.index_mut.result.now refl (telling-more _ _ _ _ _ _ c.loop-turn.invariant lt) c.index_mut.ensures.value in
    record { few = telling-small _ _ _ _ _ _ _ c.loop-turn.invariant get }

-- src/telling.rt:36:15
pub returns-in_err-tell_one-clause-refused : goal.returns-in_err-tell_one-clause-refused
returns-in_err-tell_one-clause-refused g c =
    let lt : c.loop-turn._turn < length c.args.listeners.now.items = omega (arith, c.loop-turn-test.true, c.len-turn-end.ensures, c.args.listeners.now.ok) in
    let get : slice_get c.loop-turn.listeners.items c.loop-turn.i ≡ Some c.index_mut.result.now =
    slice_get_read c.loop-turn.listeners.items (length c.loop-turn.listeners.items) c.loop-turn.i c.index_mut.result.now refl (telling-more _ _ _ _ _ _ c.loop-turn.invariant lt) c.index_mut.ensures.value in
    on_err c.from_residual.result (c.loop-turn._turn, telling-same _ _ _ _ _ _ _ _ c.loop-turn.invariant get c.in_err-tell_one.ensures.refused c.in_err-tell_one.ensures.same.0 c.in_err-tell_one.ensures.same.1)

-- src/telling.rt:37:27
pub overflow_add-i : goal.overflow_add-i
overflow_add-i g c =
    let lt : c.loop-turn._turn < length c.args.listeners.now.items = omega (arith, c.loop-turn-test.true, c.len-turn-end.ensures, c.args.listeners.now.ok) in
    omega (arith, telling-more _ _ _ _ _ _ c.loop-turn.invariant lt, c.loop-turn.listeners.ok, c.loop-turn.listeners.small)

-- src/telling.rt:38:34
pub remove-requires : goal.remove-requires
remove-requires g c =
    let lt : c.loop-turn._turn < length c.args.listeners.now.items = omega (arith, c.loop-turn-test.true, c.len-turn-end.ensures, c.args.listeners.now.ok) in
    omega (arith, telling-more _ _ _ _ _ _ c.loop-turn.invariant lt, c.loop-turn.listeners.ok)

-- src/telling.rt:35:5
pub loop-turn-preserved : goal.loop-turn-preserved
loop-turn-preserved g c =
    let lt : c.loop-turn._turn < length c.args.listeners.now.items = omega (arith, c.loop-turn-test.true, c.len-turn-end.ensures, c.args.listeners.now.ok) in
    let get : slice_get c.loop-turn.listeners.items c.loop-turn.i ≡ Some c.index_mut.result.now =
    slice_get_read c.loop-turn.listeners.items (length c.loop-turn.listeners.items) c.loop-turn.i c.index_mut.result.now refl (telling-more _ _ _ _ _ _ c.loop-turn.invariant lt) c.index_mut.ensures.value in
    elim c.match-branch-2.branch [
      | in-More w ↦ rw (w.listeners-is, w.i-is) (telling-stays _ _ _ _ _ _ _ c.tell_one.new.listener c.loop-turn.invariant get c.in_ok-tell_one.ensures.counted c.in_ok-tell_one.ensures.same.0 c.in_ok-tell_one.ensures.same.1 _ c.in_ok-tell_one.ensures.wish w.in-More.is)
      | in-Enough w ↦ rw (w.listeners-is, w.i-is, w.remove.ensures.items) (telling-leaves _ _ _ _ _ _ _ c.tell_one.new.listener c.loop-turn.invariant get c.in_ok-tell_one.ensures.counted _ c.in_ok-tell_one.ensures.wish w.in-Enough.is)
    ]

-- src/telling.rt:27:1
pub returns-clause-told : goal.returns-clause-told
returns-clause-told g c = telling-all _ _ _ _ _ _ c.loop-turn.invariant (omega (arith, c.loop-turn-test.false, c.len-turn-end.ensures, c.args.listeners.now.ok))
