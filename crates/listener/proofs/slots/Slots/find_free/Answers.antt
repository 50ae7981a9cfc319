use Rattle.std.proofs.Common.{◌∙◌, rules, tests}
use Rattle.std.proofs.lemmas.Iterator.{YieldsList-from_slice}
use Rattle.std.proofs.lemmas.Iterator.Search.{position_from_yields_List}
use Rattle.std.proofs.lemmas.Iterator.Adapters.{position_from-zero}
use Rattle.listener.proofs.Searches.{is_free, first_free}
use Rattle.listener.proofs.slots.Slots.find_free.Goals as goal

pub returns : goal.returns
returns g c =
    let s = c.args.self.now in
    position_from_yields_List is_free _ _ c.position.result c.position.ensures.ran (YieldsList-from_slice s.slots c.iter.ensures.rest) (λ x b q k. search (rules, tests)) ∙ position_from-zero is_free s.slots ∙ first_free s.slots
