pub mod Accesses
pub mod Judgements
