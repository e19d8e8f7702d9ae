pub mod Cells
pub mod Mailbox
pub mod Laws
