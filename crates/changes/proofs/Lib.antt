pub mod Items
pub mod Tables
pub mod Texts
pub mod Outcomes
