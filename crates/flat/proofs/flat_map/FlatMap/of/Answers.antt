use Rattle.std.proofs.Common.{◌^◌, ◌≤◌, arith}
use Rattle.tree.specs.Model.{model_of}
use Rattle.tree.specs.Search.{root_size}
use Rattle.tree.proofs.Agree.{agrees}
use Rattle.flat.proofs.Flattening.{map_only, map_ruled, of_is, of_stands}
use Rattle.flat.proofs.Layering.{layered}
use Rattle.flat.proofs.Leaves.{all_lie}
use Rattle.flat.proofs.flat_map.FlatMap.of.Goals as goal

pub returns : goal.returns
returns c =
    let t = model_of c.args.tree.now.table in
    let size = c.root_size.ensures.is in
    let top : root_size t ≤ 2 ^ 40 = omega arith in
    let map = map_only t top in
    let ruled = map_ruled t top (agrees t c.args.tree.now.short) in
    record {
      is = of_is t _ size _ c.flattened.ensures.is;
      stands = of_stands t _ size _ c.flattened.ensures.stands;
      map = map;
      ruled = ruled;
      lie = all_lie t _ c.args.tree.now.table.sizes map.maximal.order ruled;
      layers = layered t top;
    }
