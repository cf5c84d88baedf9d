pub mod Reached
pub mod Evaluate
pub mod Outcome
pub mod Right
pub mod Bound
pub mod Answers
pub mod Places
pub mod Operand
