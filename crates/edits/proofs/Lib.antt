pub mod Limits
pub mod Orders
mod Promised
mod Rounds
pub mod Sound
mod Trees
pub mod Walks
