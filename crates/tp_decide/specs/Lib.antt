pub mod Read
pub mod ReadBound
pub mod NewLeaves
pub mod Decided
pub mod Found
pub mod Fits
pub mod Holders
pub mod Equated
