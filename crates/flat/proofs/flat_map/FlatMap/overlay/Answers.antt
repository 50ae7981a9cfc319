use Rattle.flat.specs.Overlays.{chart}
use Rattle.flat.proofs.Overlaying.{overlay_laws, overlay_below}
use Rattle.flat.proofs.flat_map.FlatMap.overlay.Goals as goal

pub returns : goal.returns
unfolding chart
returns c = record {
  is = c.flattened.ensures.is;
  stands = overlay_below c.args.self.now c.args.lower.now _ c.flattened.ensures.stands;
  laws = overlay_laws;
}
