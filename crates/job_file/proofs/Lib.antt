-- The plain mathematics of the crate's proofs.
pub mod JobOrder
pub mod JobChecks
pub mod ReadWords
pub mod WordsText
pub mod Prints
pub mod TextLengths
pub mod FlatText
pub mod Unique
pub mod WriteCnf
pub mod PrintJob
pub mod TextRoom
pub mod LazyText
