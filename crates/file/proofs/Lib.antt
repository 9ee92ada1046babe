pub mod Made
pub mod Parts
pub mod Refused
pub mod Rows
