pub mod CompleteEntries
pub mod EntryBack
pub mod EntryLaw
pub mod MembersRead
pub mod PlainText
pub mod ReadBack
pub mod ReplyBack
pub mod TrailingLine
