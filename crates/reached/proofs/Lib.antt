pub mod Waits
pub mod Calls
pub mod States
pub mod Ends
