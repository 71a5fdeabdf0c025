-- Document 01's texts: the bytes of words and numbers, what a reader finds from the left, and what the crate's functions promise.
pub mod Numbers
pub mod Readings
pub mod Promise
pub mod Cases
