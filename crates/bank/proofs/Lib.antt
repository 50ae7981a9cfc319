pub mod Fronts
pub mod Halves
pub mod Joining
pub mod Mixes
pub mod Clears
pub mod Transfers
pub mod Writes
