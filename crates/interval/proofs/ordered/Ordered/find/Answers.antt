use Rattle.std.proofs.Common.{◌<◌, ◌≤◌, length, sym, ◌∙◌, rules}
use Rattle.std.proofs.lemmas.Bool.{cond-true, cond-false}
use Rattle.interval.proofs.Finding.{found_one, found_none, finds_as}
use Rattle.interval.proofs.ordered.Ordered.find.Goals as goal
use Rattle.interval.proofs.ordered.Ordered.find.Goals.{in_default-via-in-Some+else-covers, in_default-via-in_default}

pub returns-in-Some : goal.returns-in-Some
returns-in-Some g c =
    let xs = c.args.self.now.live.now in
    let a = c.args.address in
    let within : c.count_ended.result < length xs = search rules in
    let e = sym (found_one a 0 xs c.count_ended.result c.in-Some.s.now c.args.self.now.rises c.count_ended.ensures within c.in-Some.ensures.lookup.1 ∙ cond-true _ _ _ (sym c.if-covers.ensures)) in
    record { value = e; finds = finds_as xs a _ e }

pub returns-in_default-clause-value : goal.returns-in_default-clause-value
returns-in_default-clause-value g c =
    let xs = c.args.self.now.live.now in
    let a = c.args.address in
    let r = c.args.self.now.rises in
    let n = c.count_ended.result in
    elim c.in_default.branch [
      | in_default-via-in-Some+else-covers w ↦ (let within : n < length xs = search rules in sym (found_one a 0 xs n w.in-Some.s.now r c.count_ended.ensures within w.in-Some.ensures.lookup.1 ∙ cond-false _ _ _ (sym w.if-covers.ensures)))
      | in_default-via-in_default w ↦ (let past : length xs ≤ n = search rules in sym (found_none a 0 xs n r c.count_ended.ensures past))
    ]

pub returns-in_default-clause-finds : goal.returns-in_default-clause-finds
returns-in_default-clause-finds g c = finds_as c.args.self.now.live.now c.args.address _ (returns-in_default-clause-value g c)
