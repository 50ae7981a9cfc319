pub mod Offsets
pub mod SameOffset
