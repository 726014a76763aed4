pub mod Jobs
pub mod Counts
pub mod Workers
pub mod Filling
