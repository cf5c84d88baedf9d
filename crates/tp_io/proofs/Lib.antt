pub mod Lookup
pub mod Kept
pub mod Numbers
pub mod Parts
pub mod CallsMade
