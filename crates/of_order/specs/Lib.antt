pub mod Means
pub mod OrderPrograms
pub mod Dropping
pub mod Passing
