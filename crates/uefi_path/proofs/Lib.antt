pub mod Joining
pub mod SeparatorPlaces
pub mod Drafts
pub mod ParentForm
pub mod Validity
pub mod TakenComponents
pub mod NormalLengths
pub mod Rewriting
pub mod KeptNames
pub mod LastPieces
mod Slashes
mod Rules
