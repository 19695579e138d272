-- The laws.
pub mod Laws
pub mod Orders
pub mod Sparing
-- Projects, and runs of them.
pub mod OneService
pub mod OneWorld
pub mod OneDown
pub mod OtherRuns
pub mod TwoWorkers
pub mod ThreeServices
pub mod FourServices
pub mod TwoNetworks
pub mod TwoWorlds
pub mod Updates
