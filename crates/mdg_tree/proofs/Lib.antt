pub mod Heights
pub mod OffsetEquations
pub mod ViewEquations
