pub mod Walks
pub mod Room
pub mod Tellers
pub mod Evenings
