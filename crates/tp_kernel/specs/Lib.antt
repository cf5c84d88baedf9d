pub mod Read
pub mod Equations
