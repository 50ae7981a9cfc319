pub mod Trees
pub mod Runs
pub mod Written
pub mod Backed
pub mod Reading
pub mod Keeping
pub mod Moves
pub mod Opened
