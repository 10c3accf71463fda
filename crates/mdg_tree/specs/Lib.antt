pub mod Height
pub mod Offsets
pub mod Views
