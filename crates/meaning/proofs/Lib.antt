-- What follows from the definitions of specs/.
pub mod Numbers
pub mod ShownBy
pub mod VersionOne
pub mod Check
pub mod Calls
pub mod ItemByItem
pub mod ClosedForms
pub mod Counts
pub mod Duals
pub mod Within
pub mod Ranges
pub mod ReadBack
pub mod AllLimits
