pub mod Answering
pub mod Before
pub mod Counting
pub mod Showing
pub mod Stepping
