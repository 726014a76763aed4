pub mod Called
pub mod Seats
pub mod Times
pub mod OwnCells
pub mod Closing
pub mod Holding
pub mod LostCalls
pub mod Still
pub mod Looked
pub mod Renumbering
mod Meant
pub mod Handing
mod AnyMoment
