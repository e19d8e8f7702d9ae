pub mod Contents
pub mod Regions
