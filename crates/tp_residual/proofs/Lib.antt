mod ResidualExampleLemmas
mod Conjunctions
mod BoundNames
mod Always
mod Standing
mod Chains
pub mod Carried
mod Reductions
pub mod OnePhrase
