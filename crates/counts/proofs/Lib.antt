-- The closed forms are words of 64 bits, and the numbers of the CNF.
pub mod Counted
