pub mod Order
pub mod Parts
pub mod Core
pub mod Differences
pub mod Simples
pub mod Wraps
