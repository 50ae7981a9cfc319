pub mod Orders
pub mod RootAlone
pub mod Steps
pub mod Agree
mod Sighted
