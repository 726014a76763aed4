pub mod Starts
pub mod ThreeCallers
