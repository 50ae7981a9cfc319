pub mod ChangeLists
pub mod Laws
pub mod Merge
pub mod Sets
