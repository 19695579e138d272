-- The laws.
pub mod ClaimLaws
pub mod Rolled
pub mod RunOrders
pub mod SparingRuns
-- What is worked out.
pub mod Ready
pub mod OneService
pub mod OneDown
pub mod TwoNetworks
pub mod LostCreate
pub mod TwoWorlds
pub mod Moments
