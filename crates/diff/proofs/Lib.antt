pub mod Carrying
pub mod Fewer
pub mod Filtering
pub mod Members
pub mod Promises
pub mod Rooms
pub mod Walking
pub mod Writing
