use Rattle.std.proofs.Common.{ℕ, arith, length-take}
use Rattle.owi_base.proofs.KnownBytes.{Gave-more, GaveAtMost-more}
use Rattle.owi_base.proofs.transfer.read_all.Goals as goal

pub returns-then-count-room-clause-taken : goal.returns-then-count-room-clause-taken
returns-then-count-room-clause-taken g c =
    GaveAtMost-more _ _ _ c.loop-count.bytes.items _ _ _ c.loop-count.invariant.given c.in-Ok.ensures.bytes c.in-Ok.ensures.within (omega (arith, c.in-Ok.ensures.within, length-take {A = ℕ}))

pub returns-then-count-room-clause-past : goal.returns-then-count-room-clause-past
returns-then-count-room-clause-past g c _ =
    Gave-more _ _ _ c.loop-count.bytes.items _ _ _ c.loop-count.invariant.given c.in-Ok.ensures.bytes c.in-Ok.ensures.within (omega (arith, c.in-Ok.ensures.within, length-take {A = ℕ}))

pub returns-then-is_err-clause-taken : goal.returns-then-is_err-clause-taken
returns-then-is_err-clause-taken g c =
    GaveAtMost-more _ _ _ c.loop-count.bytes.items _ _ _ c.loop-count.invariant.given c.in-Ok.ensures.bytes c.in-Ok.ensures.within (omega (arith, c.in-Ok.ensures.within, length-take {A = ℕ}))

pub returns-then-is_err-clause-no_further : goal.returns-then-is_err-clause-no_further
returns-then-is_err-clause-no_further g c _ =
    GaveAtMost-more _ _ _ c.loop-count.bytes.items _ _ _ c.loop-count.invariant.given c.in-Ok.ensures.bytes c.in-Ok.ensures.within (omega (arith, c.if-count-room.false, c.loop-count.invariant.within))
