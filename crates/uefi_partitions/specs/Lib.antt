pub mod StoredFields
pub mod Crc32
pub mod GuidTables
pub mod MbrTables
pub mod ErrorTexts
pub mod Views
