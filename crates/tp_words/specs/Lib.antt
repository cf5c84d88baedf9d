pub mod Options
pub mod Words
pub mod Command
pub mod Laws
pub mod Usual
pub mod Subject
