-- What the judge of a witness promises, and what its tables hold.
pub mod ShownRun
pub mod Promise
