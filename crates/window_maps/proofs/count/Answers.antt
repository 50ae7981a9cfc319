use Rattle.std.proofs.Common.{refl}
use Rattle.window_maps.proofs.Each.{map_1, map_2, map_3, map_4, map_5, map_6, map_7, map_8}
use Rattle.window_maps.proofs.count.Goals as goal

pub returns : goal.returns
returns c = record {
  count = refl;
  mapped = record { all = refl; maps = (map_1, (map_2, (map_3, (map_4, (map_5, (map_6, (map_7, (map_8, tt)))))))) };
}
