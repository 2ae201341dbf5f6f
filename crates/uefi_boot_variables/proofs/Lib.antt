pub mod NameTexts
pub mod OrderLists
mod Edits
