pub mod Lawful
pub mod Layout
pub mod Contents
