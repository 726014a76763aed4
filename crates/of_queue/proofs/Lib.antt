pub mod Pushes
pub mod Pops
pub mod Knows
pub mod Wholes
pub mod Staying
pub mod AppendsOn
pub mod PopsOn
