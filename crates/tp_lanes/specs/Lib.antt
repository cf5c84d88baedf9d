pub mod Classes
pub mod Planes
