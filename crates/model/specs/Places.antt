-- A place as a label.
use Rattle.std.specs.Prelude.{ℕ, ◌+◌, ◌%◌, ◌^◌, Bool, true, false, cond, ◌&&◌, ◌==◌}
use Rattle.model.specs.declared.places.Place.{Place}
use Rattle.model.specs.Kinds.{same_kind}

-- an offset i addresses on, modulo 2^64; the case of 0 makes that the same offset also for a number
-- that no offset is
abbrev pub moved_offset : ℕ → ℕ → ℕ
moved_offset o i = cond (i == 0) o ((o + i) % 2 ^ 64)

-- the place i addresses on
abbrev pub moved : Place → ℕ → Place
moved p i = record {
  leaf = p.leaf;
  device = p.device;
  offset = moved_offset p.offset i;
  kind = p.kind;
  writes = p.writes;
}

abbrev pub same_bool : Bool → Bool → Bool
same_bool true b = b
same_bool false true = false
same_bool false false = true

-- equal in all five parts
abbrev pub same_place : Place → Place → Bool
same_place p q =
    (p.leaf == q.leaf) && (p.device == q.device && (p.offset == q.offset
    && (same_kind p.kind q.kind && same_bool p.writes q.writes)))
