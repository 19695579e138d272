pub mod BlockSteps
pub mod LineLemmas
pub mod PlaceLemmas
pub mod PlainSteps
pub mod QuoteLemmas
pub mod QuoteSteps
