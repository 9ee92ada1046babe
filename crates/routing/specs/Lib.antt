pub mod Firsts
pub mod Packing
pub mod Rules
pub mod Lawful
pub mod Space
pub mod Fields
pub mod Refusals
pub mod Examples
