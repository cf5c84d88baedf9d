pub mod WideOf
pub mod Told
pub mod Seen
pub mod Standing
pub mod Right
