pub mod AppLemmas
pub mod NumeralLemmas
pub mod SizeLemmas
pub mod WordsLemmas
pub mod LawLemmas
