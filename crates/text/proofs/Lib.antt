-- The plain mathematics of the crate's proofs.
pub mod ReadingLaws
pub mod Decimals
pub mod NumberLaws
pub mod StateLaws
pub mod ByteByByte
pub mod UniqueWord
pub mod Buffers
pub mod Unique
pub mod Lazy
