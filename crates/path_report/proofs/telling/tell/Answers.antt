use Rattle.std.proofs.Common.{◌≡◌, ℕ, length, refl, arith}
use Rattle.std.proofs.lemmas.Option.{slice_get_read}
use Rattle.path_report.proofs.ToldLemmas.{on_err, rows-begin, rows-end, rows-stop, rows-more, mapped-room, items-small}
use Rattle.path_report.proofs.telling.tell.Goals as goal

-- src/telling.rt:20:5
pub loop-row-init : goal.loop-row-init
loop-row-init g c = rows-begin c.args.rows.now _ (mapped-room _ _ c.args.listeners.now.items c.requires.room)

-- src/telling.rt:21:9
pub tell_row-requires : goal.tell_row-requires
tell_row-requires g c = record { room = items-small _ _ c.loop-row.listeners.items c.loop-row.invariant.room }

-- src/telling.rt:21:9
pub returns-in_err-tell_row-clause-refused : goal.returns-in_err-tell_row-clause-refused
returns-in_err-tell_row-clause-refused g c =
    on_err c.from_residual.result (
      c.loop-row.row-index,
      c.in_err-tell_row.ensures.refused.0,
      c.row-item.result,
      slice_get_read c.args.rows.now (length c.args.rows.now) c.loop-row.row-index c.row-item.result refl c.loop-row-test.true c.row-item.is,
      rows-stop c.args.rows.now _ _ _ c.loop-row.row-index _ c.row-item.result c.loop-row.invariant c.in_err-tell_row.ensures.refused.1,
    )

-- src/telling.rt:20:5
pub loop-row-preserved : goal.loop-row-preserved
loop-row-preserved g c = rows-more c.args.rows.now _ _ _ c.loop-row.row-index c.row-item.result c.loop-row.invariant c.loop-row-test.true c.row-item.is c.in_ok-tell_row.ensures.told

-- src/telling.rt:12:1
pub returns-clause-told : goal.returns-clause-told
returns-clause-told g c = rows-end _ _ _ _ c.loop-row.invariant (omega (arith, c.loop-row-test.false))
