pub mod MapPrograms
pub mod Found
pub mod Means
