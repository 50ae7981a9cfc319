pub mod Answered
pub mod AtLaws
pub mod Cutting
pub mod Finding
pub mod Fits
pub mod Joining
pub mod Only
pub mod Orders
pub mod Painting
pub mod Placing
mod Removing
pub mod Rest
pub mod Spans
pub mod Standing
