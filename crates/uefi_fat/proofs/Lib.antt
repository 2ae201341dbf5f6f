pub mod FatNames
pub mod Trims
pub mod DottedNames
pub mod KeptUnits
pub mod ShortAreFat
