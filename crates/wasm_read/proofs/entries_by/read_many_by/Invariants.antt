use Rattle.std.proofs.Common.{◌≡◌, ◌≤◌, ◌-◌, length}
use Rattle.grammar_forms.specs.Forms.{many}
use Rattle.wasm_read.proofs.EntryLaws.{put_before}
use Rattle.wasm_read.proofs.entries_by.read_many_by.Given as goal

-- the entries so far, before those that are left, are what is read from the start
abbrev pub invariant-loop : goal.invariant-loop
invariant-loop g l =
    (l.at ≤ length l.view.bytes)
    × ((many (g.T.EntryBy.form l.test) l.count).read l.view l.start ≡ put_before l.entries.items ((many (g.T.EntryBy.form l.test) (l.count - l.counter)).read l.view l.at))
