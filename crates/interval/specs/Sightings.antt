-- What a sighting says.
use Rattle.std.specs.Prelude.{ℕ, None}
use Rattle.interval.specs.declared.sightings.Sighting.{Sighting}

-- no label for as long as the limit goes
abbrev pub nothing : {L : Type 0} → ℕ → Sighting L
nothing limit = record { label = None; extent = limit }
