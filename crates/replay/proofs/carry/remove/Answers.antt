use Rattle.std.proofs.Common.{◌≡◌, None, Some, sym, ap, ◌∙◌, rules}
use Rattle.interval.specs.Maps.{live}
use Rattle.replay.proofs.Removing.{stays, takes_out}
use Rattle.replay.proofs.carry.remove.Goals as goal

pub returns-in_err-at : goal.returns-in_err-at
returns-in_err-at c =
    let none : c.position.result ≡ None = search rules in
    let gone = stays (live c.args.held.now) c.args.range.now _ c.position.ensures none in search rules

pub returns : goal.returns
returns c =
    let some : c.position.result ≡ Some c.in_ok-at.at = search rules in
    takes_out (live c.args.held.now) c.in_ok-at.at c.args.range.now _ c.position.ensures some ∙ ap Some (sym c.take_out.ensures)
