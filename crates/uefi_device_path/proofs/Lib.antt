pub mod Splits
pub mod ShortForms
pub mod CutPaths
pub mod CheckedRuns
pub mod Names
pub mod Lists
pub mod ListFaults
pub mod Entries
pub mod Building
pub mod InstanceCuts
pub mod Headers
pub mod OptionBytes
pub mod BufferPaths
pub mod PathTexts
pub mod PathReading
pub mod TextLengths
mod PushedAt
pub mod NamesInARow
pub mod ShownPaths
mod LoweredTexts
mod TurnedNodes
mod AroundNodes
mod FirstBytes
mod PastedTexts
pub mod StyledReading
pub mod HeldPaths
pub mod PrintedReading
pub mod TextRoom
