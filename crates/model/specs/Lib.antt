pub mod Changes
pub mod Faults
pub mod Kinds
pub mod Places
pub mod Ranges
pub mod Rows
pub mod Touches
pub mod SamePlace
