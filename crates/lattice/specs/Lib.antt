pub mod Faults
pub mod Refusals
pub mod Ops
pub mod Laws
pub mod Least
pub mod Simple
pub mod Wrapped
pub mod Walks
