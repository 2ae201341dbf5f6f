pub mod Names
pub mod Orders
pub mod Present
pub mod ErrorTexts
pub mod Laws
pub mod Views
