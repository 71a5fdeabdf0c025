-- Lists that definitions are written with, answers and the orders of checks, and the limits.
pub mod Lists
pub mod Answers
pub mod Limits
pub mod Table
