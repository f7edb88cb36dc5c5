pub mod OpcodeLaws
pub mod PartLaws
pub mod InstrLaws
pub mod FunctionLaws
pub mod CustomLaws
pub mod SlotLaws
pub mod SectionLaws
pub mod Verdict
pub mod Loop
pub mod ReadAnswers
pub mod ReadLaws
pub mod ReadNumbers
pub mod NameLaws
mod NameItems
mod OffsetItems
mod OffsetTable
