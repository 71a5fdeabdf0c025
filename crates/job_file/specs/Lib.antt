-- What reading a job file and printing promise.
pub mod JobFile
pub mod Cases
pub mod Text
pub mod Promise
