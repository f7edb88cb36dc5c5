pub mod ArgumentLemmas
pub mod LineLemmas
pub mod PlanLemmas
pub mod SuitLemmas
pub mod SpellingLemmas
pub mod First
pub mod Numbers
pub mod Hinted
