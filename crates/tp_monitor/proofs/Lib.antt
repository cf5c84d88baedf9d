pub mod StandLemmas
pub mod KindLemmas
pub mod FillLemmas
pub mod JudgeLemmas
pub mod TraceRight
pub mod Fitting
pub mod InOrder
pub mod Forms
