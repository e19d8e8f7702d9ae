pub mod Heads
pub mod Packing
pub mod Walks
pub mod Queued
