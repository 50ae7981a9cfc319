use Rattle.std.proofs.Common.{ltb, rules}
use Rattle.std.proofs.lemmas.List.Sorted.{IsPartitionPoint-from_clause, IsPartitionedBy-ltb}
use Rattle.interval.proofs.Finding.{starts_rise, point_is}
use Rattle.interval.proofs.ordered.Ordered.count_started.Goals as goal

pub returns : goal.returns
returns g c =
    let xs = c.args.self.now.live.now in
    let a = c.args.address in
    let parted = IsPartitionedBy-ltb (λ s. s.start) xs a (starts_rise 0 xs c.args.self.now.rises) in
    let point = IsPartitionPoint-from_clause (λ s. ltb s.start a) xs _ c.partition_point.ensures.partitioned parted (λ w r q k. search rules) in
    point_is (λ s. ltb s.start a) xs _ c.partition_point.ensures.bound point
