-- A tree of regions as a plain value.
use Rattle.std.specs.Prelude.{ℕ, true, false, List, [], ◌∷◌, filter, replicate, Some, None, Option, ◌==◌, slice_index_or}
use Rattle.tree.specs.declared.regions.Body.{Body}
use Rattle.tree.specs.declared.regions.Body.TheVariants.{Container, Leaf, Alias}
use Rattle.tree.specs.declared.regions.Region.{Region}
use Rattle.tree.specs.declared.regions.Attachment.{Attachment}
use Rattle.tree.specs.declared.table.Table.{Table}
use Rattle.tree.specs.Listed.{listed}

-- the regions by their numbers 0 to 63, and all attachments in search order: higher priority first,
-- among equals the later attached or moved first
pub record Model : Type 0 where
  pub regions : List (Option Region)
  pub attachments : List Attachment

abbrev pub model_of : Table → Model
model_of t = record { regions = t.regions; attachments = listed t.order }

abbrev pub region_at : Model → ℕ → Option Region
region_at t n = slice_index_or t.regions n None

-- of the attachments cs those of the parent r
abbrev pub under : ℕ → List Attachment → List Attachment
under r cs = filter (λ c. c.parent == r) cs

-- the subregions of r, in search order
abbrev pub subregions : Model → ℕ → List Attachment
subregions t r = under r t.attachments

-- a region as it is made: switched on, and not protected
abbrev pub fresh : Body → ℕ → Region
fresh b s = record { body = b; size = s; on = true; protected = false }

-- the region that an alias shows
abbrev pub target_of : Body → Option ℕ
target_of Container = None
target_of (Leaf d k) = None
target_of (Alias s f) = Some s

-- the root alone
abbrev pub root_alone : ℕ → Model
root_alone s = record { regions = Some (fresh Container s) ∷ replicate 63 None; attachments = [] }
