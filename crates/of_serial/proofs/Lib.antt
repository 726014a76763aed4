pub mod Cases
pub mod HeldReplies
pub mod KnownCells
pub mod Courses
