-- What a sighting has to say.
use Rattle.std.specs.Prelude.{◌≡◌, ℕ, ◌+◌, ◌<◌, ◌≤◌, Option}
use Rattle.std.specs.Option.{option_map}
use Rattle.interval.specs.declared.sightings.Sighting.{Sighting}

-- from the address on the labels run on from the one that is sighted, or there is none, for `extent` addresses: at most `limit`, and one at least if that is not 0
pub record Sees {L : Type 0} (advanced : L → ℕ → L) (shows : ℕ → Option L) (address limit : ℕ) (s : Sighting L) : Type 0 where
  pub within : s.extent ≤ limit
  pub some : 0 < limit → 0 < s.extent
  pub same : (i : ℕ) → i < s.extent → shows (address + i) ≡ option_map (λ x. advanced x i) s.label
