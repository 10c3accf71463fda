pub mod Listing
pub mod Table
pub mod Members
pub mod Distinct
pub mod Entries
pub mod Parts
pub mod Format
pub mod Listed
