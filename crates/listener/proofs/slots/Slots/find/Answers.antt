use Rattle.std.proofs.Common.{◌∙◌, rules, tests}
use Rattle.std.proofs.lemmas.Iterator.{YieldsList-from_slice}
use Rattle.std.proofs.lemmas.Iterator.Search.{position_from_yields_List}
use Rattle.std.proofs.lemmas.Iterator.Adapters.{position_from-zero}
use Rattle.listener.specs.Slotting.{seated}
use Rattle.listener.proofs.Searches.{has, first_slot}
use Rattle.listener.proofs.slots.Slots.find.Goals as goal

pub returns : goal.returns
returns g c =
    let s = c.args.self.now in
    let r = c.args.range.now in
    record {
      is = position_from_yields_List (has r) _ _ c.position.result c.position.ensures.ran (YieldsList-from_slice s.slots c.iter.ensures.rest) (λ x b q k. search (rules, tests)) ∙ position_from-zero (has r) s.slots ∙ first_slot r s.slots;
      seated = seated g.row.N s.slots r s.whole;
    }
