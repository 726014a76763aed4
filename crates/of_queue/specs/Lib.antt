pub mod QueuePrograms
pub mod Fronts
pub mod Means
