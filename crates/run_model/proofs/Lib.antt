pub mod DistinctLists
pub mod Firsts
pub mod PlanLaws
pub mod RollLaws
pub mod LegalLaws
pub mod KeptLaws
pub mod RequestLemmas
pub mod ToldLaws
