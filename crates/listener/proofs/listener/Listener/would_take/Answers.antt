use Rattle.std.proofs.Common.{true, false, sym, ◌∙◌}
use Rattle.listener.proofs.Hearings.{answer_is, probed, set_laws, stays_refused}
use Rattle.listener.proofs.listener.Listener.would_take.Goals as goal

pub returns-then-is_err : goal.returns-then-is_err
returns-then-is_err g c =
    let h = g.Self.Listener.hearing c.args.self.now in
    let a = answer_is _ true c.add.result c.add.ensures.answer c.if-is_err.ensures.value in
    record {
      answer = a;
      after = c.add.ensures.after ∙ stays_refused h c.args.range (sym a);
      set = set_laws h c.args.range (g.met.Self.Listener.kept c.args.self.now);
    }

pub returns : goal.returns
returns g c =
    let h = g.Self.Listener.hearing c.args.self.now in
    let a = answer_is _ false c.add.result c.add.ensures.answer c.if-is_err.ensures.value in
    record {
      answer = a;
      after = probed h c.args.range _ _ (sym a) c.add.ensures.after c.remove.ensures.after;
      set = set_laws h c.args.range (g.met.Self.Listener.kept c.args.self.now);
    }
