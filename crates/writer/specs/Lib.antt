pub mod Stages
pub mod Tables
