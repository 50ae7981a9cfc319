pub mod Calls
pub mod Refusals
pub mod Machine
pub mod Lists
pub mod History
pub mod Contract
pub mod Told
