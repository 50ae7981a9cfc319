pub mod Flattening
pub mod Layering
pub mod Leaves
pub mod Overlaying
pub mod Placed
pub mod Settling
pub mod Sighting
