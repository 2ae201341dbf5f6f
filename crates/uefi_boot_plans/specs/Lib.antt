pub mod Plans
pub mod PowerFailures
