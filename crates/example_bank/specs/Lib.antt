pub mod Transfers
pub mod Calls
pub mod Clerks
pub mod Days
pub mod Founding
