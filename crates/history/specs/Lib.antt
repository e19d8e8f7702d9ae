pub mod Group
pub mod Book
pub mod Lines
pub mod History
