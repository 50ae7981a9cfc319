pub mod Edited
pub mod PathTests
pub mod Edges
pub mod Limits
pub mod Rows
pub mod Checks
pub mod Marks
pub mod Promises
