pub mod Accounts
pub mod Meaning
pub mod Money
pub mod Sound
pub mod Days
