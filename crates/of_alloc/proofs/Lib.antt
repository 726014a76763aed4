pub mod Takings
pub mod Givings
pub mod Heaped
pub mod Stored
pub mod Staying
pub mod Leaving
pub mod TakingsOn
