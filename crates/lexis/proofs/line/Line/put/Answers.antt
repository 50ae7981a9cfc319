use Rattle.std.proofs.Common.{◌≡◌, ◌≤◌, ◌+◌, length, take, ◌++◌, ◌∙◌, rules}
use Rattle.lexis.proofs.Puts.{put_front}
use Rattle.lexis.proofs.line.Line.put.Goals as goal

pub returns : goal.returns
returns c =
    let shown = c.args.self.now.text.items in
    let n = c.min-n.result in
    let fits : length shown + length (take n c.args.text.now) ≤ 256 = search rules in
    let put : c.try_extend_from_slice.new.self.items ≡ shown ++ take n c.args.text.now = search rules in
    record { shows = put ∙ put_front shown c.args.text.now 256 n c.remaining_capacity.result c.remaining_capacity.ensures c.min-n.ensures }
