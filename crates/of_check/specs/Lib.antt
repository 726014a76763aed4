pub mod Starts
pub mod Claims
pub mod Endings
pub mod Replay
pub mod Verdict
pub mod Causes
pub mod LineRules
pub mod Ends
