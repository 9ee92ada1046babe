pub mod Cells
pub mod First
pub mod Matching
pub mod Packs
pub mod Test
