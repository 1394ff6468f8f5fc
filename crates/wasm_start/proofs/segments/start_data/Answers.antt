use Rattle.wasm_start.proofs.segments.start_data.Goals as goal

pub returns-in_ok-write_data-in-Active-clause-writes : goal.returns-in_ok-write_data-in-Active-clause-writes
returns-in_ok-write_data-in-Active-clause-writes g c = λ b cells bytes. rw c.in-Active.is (c.in_ok-write_data-in-Active.ensures.writes c.in-Active.index b cells bytes)
