pub mod Scope
pub mod Phrases
pub mod Names
pub mod Callers
pub mod Seen
