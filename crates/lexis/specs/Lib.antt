pub mod Lang
pub mod Tokens
pub mod Numeral
pub mod Reading
pub mod Moving
pub mod Shown
