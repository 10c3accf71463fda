pub mod Keys
pub mod Unique
pub mod Numbers
pub mod Turns
pub mod Answer
pub mod DistinctTable
pub mod DistinctRead
