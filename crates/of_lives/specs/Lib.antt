pub mod Lives
pub mod RenumberedStarts
pub mod OneHistory
pub mod Restarts
pub mod Images
pub mod Continuing
pub mod Worked
