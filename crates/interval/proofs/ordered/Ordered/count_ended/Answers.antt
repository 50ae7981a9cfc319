use Rattle.std.proofs.Common.{leb, rules}
use Rattle.std.proofs.lemmas.List.Sorted.{IsPartitionPoint-from_clause, IsPartitionedBy-leb}
use Rattle.interval.specs.Stretches.{stop}
use Rattle.interval.proofs.Finding.{ends_rise, point_is}
use Rattle.interval.proofs.ordered.Ordered.count_ended.Goals as goal

pub returns : goal.returns
returns g c =
    let xs = c.args.self.now.live.now in
    let a = c.args.address in
    let parted = IsPartitionedBy-leb stop xs a (ends_rise 0 xs c.args.self.now.rises) in
    let point = IsPartitionPoint-from_clause (λ s. leb (stop s) a) xs _ c.partition_point.ensures.partitioned parted (λ w r q k. search rules) in
    point_is (λ s. leb (stop s) a) xs _ c.partition_point.ensures.bound point
