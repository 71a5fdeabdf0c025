-- What follows from the definitions of specs/.
pub mod Tests
pub mod Answers
pub mod NumberedChecks
pub mod PutAt
