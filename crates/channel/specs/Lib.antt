pub mod Faults
pub mod Meaning
pub mod Memory
pub mod Patterns
pub mod Losing
pub mod Holding
pub mod HoldingLaws
pub mod Sending
