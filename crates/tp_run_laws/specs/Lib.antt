pub mod Agree
pub mod AlikeRuns
pub mod Beginnings
pub mod Printable
pub mod PrintableRuns
