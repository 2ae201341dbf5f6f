pub mod Inputs
pub mod NodeOffsets
pub mod Options
pub mod CallOutputs
mod Judged
mod FirstUnits
mod Halves
pub mod TextCapacities
mod GrownPaths
mod KindNumbers
