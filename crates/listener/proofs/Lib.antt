pub mod Changing
pub mod Hearings
pub mod Searches
