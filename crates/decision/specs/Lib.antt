pub mod Bytes
pub mod Classes
pub mod Kinds
