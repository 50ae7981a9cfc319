pub mod Alterations
pub mod Answers
pub mod Banks
pub mod Devices
pub mod Halves
pub mod JointWrites
pub mod Transfers
pub mod Soundness
