use Rattle.std.proofs.Common.{ltb, ◌∙◌, rules, tests}
use Rattle.std.proofs.lemmas.Iterator.{YieldsList-from_slice}
use Rattle.std.proofs.lemmas.Iterator.Consumers.{count_from_yields_List}
use Rattle.std.proofs.lemmas.Iterator.Search.{YieldsList-from_take_while}
use Rattle.std.proofs.lemmas.List.Folds.{length-prefix_len}
use Rattle.std.proofs.lemmas.List.{take_rest}
use Rattle.model.specs.Ranges.{Range}
use Rattle.diff.proofs.merge.from_start.Goals as goal

pub returns : goal.returns
returns c =
    let starts = λ (s : Range). ltb s.start c.args.address in
    let below = count_from_yields_List c.take_while.result _ c.count-below.ensures.ran (YieldsList-from_take_while _ starts (YieldsList-from_slice c.args.ranges.now (cc)) c.take_while.ensures.closure c.take_while.ensures.done (λ x b q k. search (rules, tests))) ∙ length-prefix_len starts c.args.ranges.now in
    rw (take_rest, below)
