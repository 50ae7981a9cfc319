use Rattle.std.proofs.Common.{Bool, not, arith}
use Rattle.std.proofs.lemmas.List.Sums.{length-filter, count_by-le-length}
use Rattle.model.specs.Ranges.{Range, listed}
use Rattle.diff.proofs.merge.Missing.between.Goals as goal

pub returns-clause-fits : goal.returns-clause-fits
returns-clause-fits c =
    let lacks : Range → Bool = λ x. not (listed c.args.ys.now.live.now x) in
    omega (arith, length-filter lacks c.args.xs.now.live.now, count_by-le-length lacks c.args.xs.now.live.now)
