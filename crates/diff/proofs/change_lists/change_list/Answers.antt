use Rattle.std.proofs.Common.{sym}
use Rattle.diff.proofs.Promises.{room, refused, answered, written, kept_promises, runs_replay}
use Rattle.diff.proofs.Rooms.{one_rule}
use Rattle.diff.proofs.change_lists.change_list.Goals as goal

pub returns-then-not-fit : goal.returns-then-not-fit
returns-then-not-fit c =
    let no = refused c.args.old.now.live.now c.args.new.now.live.now _ c.args.list.now c.count_changes-counts.ensures (sym c.if-not-fit.ensures) in
    record { answer = no.0; after = no.1; counts = tt; replays = tt; fewest = tt; successive = tt; kinds = tt; runs = runs_replay; rule = one_rule }

pub write_changes-requires : goal.write_changes-requires
write_changes-requires c = record { counts = c.count_changes-counts.ensures; room = room c.args.old.now.live.now c.args.new.now.live.now _ c.args.list.now c.count_changes-counts.ensures (sym c.if-not-fit.ensures) }

pub returns : goal.returns
returns c =
    let old = c.args.old.now.live.now in
    let new = c.args.new.now.live.now in
    let was = c.args.list.now in
    let counts = c.count_changes-counts.ensures in
    let fit = sym c.if-not-fit.ensures in
    let wrote = c.write_changes.ensures in
    let laws = kept_promises old new _ was counts _ fit wrote c.args.old.now.rises c.args.new.now.rises in
    record {
      answer = answered old new _ was counts _ fit wrote;
      after = written old new _ was counts _ fit wrote;
      counts = laws.counts;
      replays = laws.replays;
      fewest = laws.fewest;
      successive = laws.successive;
      kinds = laws.kinds;
      runs = runs_replay;
      rule = one_rule;
    }
