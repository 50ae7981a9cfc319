use Rattle.std.proofs.Common.{length, ◌<◌, ◌≡◌, arith}
use Rattle.std.proofs.lemmas.Bool.Decides.{nat_tests}
use Rattle.lexis.proofs.Puts.{push_room, push_full}
use Rattle.lexis.proofs.line.Line.push.Goals as goal

pub returns-then-not-is_full : goal.returns-then-not-is_full
returns-then-not-is_full c =
    let room : length c.args.self.now.text.items < 256 = grind (arith, nat_tests) in
    record { shows = push_room _ _ 256 _ room c.push.ensures.items }

pub returns-else-not-is_full : goal.returns-else-not-is_full
returns-else-not-is_full c =
    let full : length c.args.self.now.text.items ≡ 256 = grind (arith, nat_tests) in
    record { shows = push_full _ 256 _ full }
