pub mod Switches
pub mod SwitchSet
