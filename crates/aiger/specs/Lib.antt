-- Document 02, Q-5: the words of a circuit, its text, what a reader finds in a text, the two calls; and what the crate's functions promise.
pub mod Circuits
pub mod Texts
pub mod Accepted
pub mod Calls
pub mod Cases
pub mod Promise
pub mod Reads
pub mod Writes
