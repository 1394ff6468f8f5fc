use Rattle.std.proofs.Common.{sym}
use Rattle.std.specs.Prelude.{slice_get}
use Rattle.clause_solver.specs.code.Renewing.{pair_at}
use Rattle.clause_solver.proofs.Guarding.{kept_seen}
use Rattle.clause_solver.proofs.Turning.{forced_free}
use Rattle.clause_solver.proofs.Settling.{all_guarded}
use Rattle.clause_solver.proofs.Visiting.{sound_all}
use Rattle.clause_solver.proofs.machine.State.turn.Goals as goal

pub first_falsified-requires : goal.first_falsified-requires
first_falsified-requires c = λ n. kept_seen c.args.self.now.trail (slice_get c.args.self.now.clauses n) (pair_at c.args.self.now.watches n) c.args.self.now.watches.candidates.falsified.keys c.args.self.now.watches.candidates.forcing.keys n
    (sound_all c.args.self.now.trail c.args.self.now.clauses c.args.self.now.watches c.requires.watched.sound n)

pub put-requires-clause-free : goal.put-requires-clause-free
put-requires-clause-free c = forced_free c.args.self.now.trail c.args.self.now.clauses c.in-Some-first_forcing.number c.in-Some-first_forcing.literal c.in-Some-first_forcing.ensures.found

pub put-requires-clause-sound : goal.put-requires-clause-sound
put-requires-clause-sound c =
    let w = c.requires.watched in
    record {
      count = w.sound.count;
      kept = λ n l. c.first_forcing.ensures.kept c.args.self.now.watches.pairs.items (c.first_falsified.ensures.kept c.args.self.now.watches.pairs.items (sound_all c.args.self.now.trail c.args.self.now.clauses c.args.self.now.watches w.sound)) n;
      listed = w.sound.listed;
    }

pub decide-requires-clause-watched : goal.decide-requires-clause-watched
decide-requires-clause-watched c =
    let w = c.requires.watched in
    record {
      sound = record {
        count = w.sound.count;
        kept = λ n l. c.first_forcing.ensures.kept c.args.self.now.watches.pairs.items (c.first_falsified.ensures.kept c.args.self.now.watches.pairs.items (sound_all c.args.self.now.trail c.args.self.now.clauses c.args.self.now.watches w.sound)) n;
        listed = w.sound.listed;
      };
      set = w.set;
      levelled = w.levelled;
      once = w.once;
      settled = w.settled;
    }

pub decide-requires-clause-guarded : goal.decide-requires-clause-guarded
decide-requires-clause-guarded c =
    let w = c.requires.watched in
    all_guarded c.args.self.now.trail c.args.self.now.clauses c.args.self.now.watches.pairs.items c.first_forcing.new.self.falsified.keys c.first_forcing.new.self.forcing.keys
    (c.first_forcing.ensures.kept c.args.self.now.watches.pairs.items (c.first_falsified.ensures.kept c.args.self.now.watches.pairs.items (sound_all c.args.self.now.trail c.args.self.now.clauses c.args.self.now.watches w.sound)))
    c.in_default.ensures.found (sym c.in_default-first_forcing.ensures.found)

pub returns-in-Some-clause-watched : goal.returns-in-Some-clause-watched
returns-in-Some-clause-watched c =
    let w = c.requires.watched in
    c.in_ok-turned.ensures.watched c.args.order.now (record {
      sound = record {
        count = w.sound.count;
        kept = λ n l. c.first_falsified.ensures.kept c.args.self.now.watches.pairs.items (sound_all c.args.self.now.trail c.args.self.now.clauses c.args.self.now.watches w.sound) n;
        listed = w.sound.listed;
      };
      set = w.set;
      levelled = w.levelled;
      once = w.once;
      settled = w.settled;
    })

pub returns-in-Some-first_forcing-clause-watched : goal.returns-in-Some-first_forcing-clause-watched
returns-in-Some-first_forcing-clause-watched c =
    let w = c.requires.watched in
    c.in_ok-put.ensures.watched c.args.order.now (record {
      sound = record {
        count = w.sound.count;
        kept = λ n l. c.first_forcing.ensures.kept c.args.self.now.watches.pairs.items (c.first_falsified.ensures.kept c.args.self.now.watches.pairs.items (sound_all c.args.self.now.trail c.args.self.now.clauses c.args.self.now.watches w.sound)) n;
        listed = w.sound.listed;
      };
      set = w.set;
      levelled = w.levelled;
      once = w.once;
      settled = w.settled;
    }) c.last_level-level.ensures tt
