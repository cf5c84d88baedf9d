pub mod Several
pub mod Loops
pub mod Apart
pub mod Called
pub mod Listing
pub mod Spreading
