mod Served
mod Observed
mod Next
mod OneJournal
mod MemoryRules
mod OneVolume
