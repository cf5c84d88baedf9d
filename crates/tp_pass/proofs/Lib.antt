pub mod Following
pub mod Live
pub mod Picks
pub mod OnePass
pub mod AllPasses
pub mod Sweeping
