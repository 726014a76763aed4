pub mod Steps
pub mod Boxes
pub mod Stores
pub mod Knowing
pub mod Same
pub mod Marked
