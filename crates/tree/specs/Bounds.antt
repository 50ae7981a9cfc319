-- The bounds of the numbers in a tree.
use Rattle.std.specs.Prelude.{ℕ, ◌^◌, Bool, true, ◌&&◌, ◌||◌, List, [], ◌∷◌, Some, None, Option, ◌==◌, nat_le, nat_lt}
use Rattle.std.specs.List.{list_all}
use Rattle.tree.specs.declared.regions.Body.{Body}
use Rattle.tree.specs.declared.regions.Body.TheVariants.{Container, Leaf, Alias}
use Rattle.tree.specs.declared.regions.Region.{Region}
use Rattle.tree.specs.declared.regions.Attachment.{Attachment}

-- a size that no region may have
abbrev pub bad_size : ℕ → Bool
bad_size s = s == 0 || nat_lt (2 ^ 40) s

-- an alias's target is a region number, and its offset is at most 2^40
abbrev pub bounded_body : Body → Bool
bounded_body Container = true
bounded_body (Leaf d k) = true
bounded_body (Alias t f) = nat_lt t 64 && nat_le f (2 ^ 40)

-- a size is 1 to 2^40
abbrev pub bounded_region : Option Region → Bool
bounded_region None = true
bounded_region (Some g) = nat_le 1 g.size && (nat_le g.size (2 ^ 40) && bounded_body g.body)

abbrev pub bounded_regions : List (Option Region) → Bool
bounded_regions gs = list_all bounded_region gs

-- the root is nobody's child, and an offset is at most 2^40
abbrev pub bounded_attachments : List Attachment → Bool
bounded_attachments [] = true
bounded_attachments (c ∷ cs) = nat_le 1 c.child && (nat_lt c.child 64 && (nat_lt c.parent 64 && (nat_le c.offset (2 ^ 40) && bounded_attachments cs)))
