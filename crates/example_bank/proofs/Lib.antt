pub mod Own
pub mod Money
pub mod Counts
pub mod Clerks
pub mod Evenings
pub mod Together
pub mod Settling
pub mod Founded
