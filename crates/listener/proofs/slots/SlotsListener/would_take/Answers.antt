use Rattle.std.proofs.Common.{true, false, sym, ◌∙◌}
use Rattle.listener.specs.Slots.{table}
use Rattle.listener.proofs.Changing.{stays_through}
use Rattle.listener.proofs.Hearings.{answer_is, probed, set_laws, stays_refused}
use Rattle.listener.specs.Slotting.{slots_kept}
use Rattle.listener.proofs.slots.SlotsListener.would_take.Goals as goal

pub returns-then-is_err : goal.returns-then-is_err
returns-then-is_err g c =
    let s = c.args.self.now in
    let h = table g.K.KindSet.taken g.row.N s.slots in
    let a = answer_is _ true c.add.result c.add.ensures.answer c.if-is_err.ensures.value in
    record {
      answer = a;
      after = c.add.ensures.after ∙ stays_refused h c.args.range (sym a);
      set = set_laws h c.args.range (slots_kept g.K.KindSet.taken g.row.N s.slots s.whole s.apart);
      stays = c.add.ensures.stays;
    }

pub returns : goal.returns
returns g c =
    let s = c.args.self.now in
    let h = table g.K.KindSet.taken g.row.N s.slots in
    let a = answer_is _ false c.add.result c.add.ensures.answer c.if-is_err.ensures.value in
    record {
      answer = a;
      after = probed h c.args.range _ _ (sym a) c.add.ensures.after c.remove.ensures.after;
      set = set_laws h c.args.range (slots_kept g.K.KindSet.taken g.row.N s.slots s.whole s.apart);
      stays = stays_through g.K.KindSet.taken g.row.N s.slots c.add.new.self.slots c.remove.new.self.slots c.args.range c.add.ensures.after c.add.ensures.stays c.remove.ensures.stays;
    }
