pub mod Laws
pub mod Maps
pub mod Overlays
pub mod Ranges
