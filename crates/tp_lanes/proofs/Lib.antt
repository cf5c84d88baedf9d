pub mod Edits
pub mod OneNumber
pub mod Passing
pub mod Planes
pub mod RunLemmas
pub mod Words
pub mod Ends
