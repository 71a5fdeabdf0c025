-- What the writer of the CNF promises, and what each of its functions writes or numbers.
pub mod Promise
pub mod Numbering
pub mod Writing
pub mod ItemParts
pub mod Each
