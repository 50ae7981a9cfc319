pub mod Joins
pub mod Glyphs
pub mod Words
pub mod Picks
pub mod Steps
pub mod Chains
pub mod Puts
