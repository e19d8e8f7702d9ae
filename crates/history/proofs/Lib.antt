mod Joins
mod Invariant
mod Growth
mod Steps
mod Reading
mod Deliver
pub mod Promise
