-- What the functions' proofs share.
pub mod Ranges
pub mod Copies
pub mod RowLaws
pub mod RowGates
pub mod NodeValues
pub mod Fits
pub mod FirstOpen
pub mod ValueShown
pub mod Lazy
