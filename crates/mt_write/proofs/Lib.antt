pub mod EntryLengths
pub mod Lengths
pub mod PlainText
pub mod PlanTexts
pub mod Putting
pub mod ValueTexts
