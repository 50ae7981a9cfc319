pub mod Filtering
pub mod Hearing
pub mod Slots
pub mod Slotting
pub mod Rising
pub mod Sets
