-- The bounds of the numbers in a tree, entry by entry.
use Rattle.std.proofs.Common.{◌≡◌, ℕ, ◌^◌, ◌<◌, true, ltb, leb, List, [], ◌∷◌, length, get_or, None, Option, refl, ap, ⊎_elim}
use Rattle.std.specs.List.{AllByRecursion}
use Rattle.std.proofs.ByRecursion.{All-get_or}
use Rattle.std.proofs.lemmas.List.{get_or_past}
use Rattle.std.proofs.lemmas.Bool.{and_parts, and_from, cases_lt, leb-true, ltb-true, le-leb, lt-ltb}
use Rattle.tree.specs.declared.regions.Region.{Region}
use Rattle.tree.specs.declared.regions.Attachment.{Attachment}
use Rattle.tree.specs.declared.table.Table.{Table}
use Rattle.tree.specs.Model.{Model, model_of}
use Rattle.edits.specs.Limits.{Low}
use Rattle.tree.specs.Bounds.{bounded_region, bounded_regions, bounded_attachments}

-- all numbers of a tree are within their bounds
pub record Bounded (t : Model) : Type 0 where
  pub numbered : length t.regions ≡ 64
  pub sizes : bounded_regions t.regions ≡ true
  pub offsets : bounded_attachments t.attachments ≡ true

pub bounded_table : (t : Table) → Bounded (model_of t)
bounded_table t = record { numbered = t.numbered; sizes = t.sizes; offsets = t.offsets }

pub low_from : (cs : List Attachment) → bounded_attachments cs ≡ true → AllByRecursion Low cs
low_from [] e = tt
low_from (c ∷ cs) e =
    let some = and_parts (leb 1 c.child) _ e in
    let child = and_parts (ltb c.child 64) _ some.1 in
    let parent = and_parts (ltb c.parent 64) _ child.1 in
    let offset = and_parts (leb c.offset (2 ^ 40)) (bounded_attachments cs) parent.1 in
    (record { some = leb-true _ _ some.0; child = ltb-true _ _ child.0; parent = ltb-true _ _ parent.0; offset = leb-true _ _ offset.0 }, low_from cs offset.1)

pub from_low : (cs : List Attachment) → AllByRecursion Low cs → bounded_attachments cs ≡ true
from_low [] h = refl
from_low (c ∷ cs) h =
    and_from _ _ (le-leb _ _ h.0.some) (and_from _ _ (lt-ltb _ _ h.0.child) (and_from _ _ (lt-ltb _ _ h.0.parent) (and_from _ _ (le-leb _ _ h.0.offset) (from_low cs h.1))))

abbrev pub Fine : Option Region → Type 0
Fine g = bounded_region g ≡ true

pub fine_from : (gs : List (Option Region)) → bounded_regions gs ≡ true → AllByRecursion Fine gs
fine_from [] e = tt
fine_from (g ∷ gs) e = let h = and_parts (bounded_region g) (bounded_regions gs) e in (h.0, fine_from gs h.1)

pub from_fine : (gs : List (Option Region)) → AllByRecursion Fine gs → bounded_regions gs ≡ true
from_fine [] h = refl
from_fine (g ∷ gs) h = and_from _ _ h.0 (from_fine gs h.1)

pub fine_at : (gs : List (Option Region)) (i : ℕ) (d : Option Region) → bounded_regions gs ≡ true → i < length gs → Fine (get_or gs i d)
fine_at gs i d e lt = All-get_or Fine gs i d lt (fine_from gs e)

-- and where there is no region too
pub fine_anywhere : (gs : List (Option Region)) (n : ℕ) → AllByRecursion Fine gs → Fine (get_or gs n None)
fine_anywhere gs n h = ⊎_elim (λ lt. All-get_or Fine gs n None lt h) (λ le. ap bounded_region (get_or_past gs n None le)) (cases_lt n (length gs))
