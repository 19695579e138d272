pub mod ItemLemmas
pub mod TilingLemmas
pub mod NumeralLemmas
pub mod RefusalLemmas
pub mod BoundLemmas
pub mod PlaceLemmas
pub mod UsageLemmas
