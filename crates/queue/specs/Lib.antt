pub mod Packed
pub mod Queue
pub mod Laws
