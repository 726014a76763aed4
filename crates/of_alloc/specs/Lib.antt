pub mod Blocks
pub mod BlockPrograms
pub mod Took
pub mod Found
