use Rattle.std.proofs.Common.{◌∙◌, rules, tests}
use Rattle.std.proofs.lemmas.Iterator.{YieldsList-from_slice}
use Rattle.std.proofs.lemmas.Iterator.Adapters.{YieldsList-from_flatten}
use Rattle.std.proofs.lemmas.Iterator.Consumers.{YieldsList-at}
use Rattle.std.proofs.lemmas.Iterator.Search.{all_from_yields_List}
use Rattle.std.specs.Iterator.Adapters.{option_iter_item, option_iter_done}
use Rattle.std.specs.Option.{option_to_list}
use Rattle.interval.specs.Stretches.{stop}
use Rattle.interval.specs.Edits.{apart}
use Rattle.listener.proofs.Searches.{of_option, all_clear}
use Rattle.listener.proofs.slots.Slots.is_clear.Goals as goal

pub returns : goal.returns
returns g c =
    let s = c.args.self.now in
    let r = c.args.range.now in
    all_from_yields_List (apart r.start (stop r)) _ _ c.all.result c.all.ensures.ran (YieldsList-from_flatten _ _ _ option_to_list (λ x j e. of_option option_iter_item option_iter_done x.now j e.0 e.1) (YieldsList-at c.flatten.ensures.source (YieldsList-from_slice s.slots c.iter.ensures.rest)) c.flatten.ensures.front c.flatten.ensures.back c.flatten.ensures.done) (λ x b q k. search (rules, tests)) ∙ all_clear r.start (stop r) s.slots
