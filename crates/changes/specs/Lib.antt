pub mod Words
pub mod WordSets
pub mod Lines
pub mod Shapes
pub mod Calls
