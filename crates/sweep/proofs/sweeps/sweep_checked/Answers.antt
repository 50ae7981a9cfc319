use Rattle.std.proofs.Common.{sym, refl}
use Rattle.std.proofs.lemmas.Bool.{leb-true, leb-false}
use Rattle.sweep.proofs.Answering.{swept_stands, refused_for_all}
use Rattle.sweep.proofs.Before.{Labels}
use Rattle.sweep.proofs.sweeps.sweep_checked.Given as given
use Rattle.sweep.proofs.sweeps.sweep_checked.Goals as goal

laws : (g : given.Over) → Labels g.S.Shown.Label.advanced g.S.Shown.SameLabel.matches
laws g = record { zero = g.met.S.Shown.Label.zero; sum = g.met.S.Shown.Label.sum; exact = g.met.S.Shown.SameLabel.exact }

pub returns-then-not-fits-clause-stands : goal.returns-then-not-fits-clause-stands
returns-then-not-fits-clause-stands g c = (refl, refused_for_all _ _ (laws g) (g.S.Source.shows c.args.source.now) c.args.size c.args.table.now c.requires (leb-false _ _ (sym c.if-not-fits.ensures)))

pub returns-clause-stands : goal.returns-clause-stands
returns-clause-stands g c =
    let room = leb-true _ _ (sym c.if-not-fits.ensures) in
    (c.requires, swept_stands _ _ (laws g) (g.S.Source.shows c.args.source.now) c.args.size c.args.table.now c.requires c.fill.new.table c.fill.result room c.fill.ensures.count c.fill.ensures.after)
