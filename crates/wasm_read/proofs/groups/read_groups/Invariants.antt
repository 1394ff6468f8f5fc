use Rattle.std.proofs.Common.{◌≡◌, ◌≤◌, ◌-◌, length}
use Rattle.wasm_binary.specs.Locals.{groups}
use Rattle.wasm_read.specs.Groups.{joined_groups}
use Rattle.wasm_read.proofs.GroupLaws.{put_ahead, AreAtMost}
use Rattle.wasm_read.proofs.groups.read_groups.Given as goal

-- the groups so far, before those that are left, are what is read from the start
abbrev pub invariant-loop : goal.invariant-loop
invariant-loop l =
    (l.at ≤ length l.view.bytes)
    × (l.sum ≤ 50000)
    × AreAtMost l.sum l.joined
    × ((joined_groups l.count).read l.view l.start ≡ put_ahead l.joined ((groups (l.count - l.counter) l.sum).read l.view l.at))
