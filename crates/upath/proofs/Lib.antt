pub mod LineEnds
pub mod CommandCuts
pub mod ParentWalks
pub mod PrintedLines
