-- What the finder promises, the runs that it goes through, and what its search has found so far.
pub mod Calls
pub mod Runs
pub mod Search
pub mod Promise
