pub mod Calls
pub mod Edits
pub mod Laws
pub mod Maps
pub mod Sightings
pub mod Stretches
