pub mod PartsLemmas
pub mod IntegerLemmas
pub mod DecimalLemmas
pub mod SplitLemmas
pub mod Lengths
