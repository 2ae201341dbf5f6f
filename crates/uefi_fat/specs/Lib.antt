pub mod Trimming
pub mod LongNames
pub mod ShortNames
pub mod Oem
pub mod ErrorTexts
pub mod Laws
