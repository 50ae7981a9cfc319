-- The bounds of what changes take.
use Rattle.std.specs.Prelude.{◌^◌, ◌<◌, ◌≤◌}
use Rattle.tree.specs.declared.regions.Attachment.{Attachment}

-- the numbers of one attachment are within their bounds
pub record Low (c : Attachment) : Type 0 where
  pub some : 1 ≤ c.child
  pub child : c.child < 64
  pub parent : c.parent < 64
  pub offset : c.offset ≤ 2 ^ 40
