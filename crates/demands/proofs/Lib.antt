-- The demands on one page, the other public functions, and what they are proved by.
pub mod CallsMean
pub mod Refutable
pub mod ByRecord
pub mod OtherCalls
pub mod Demands
pub mod BeforeSteps
pub mod LeftBuffers
pub mod Buffers
pub mod RoomRefused
pub mod StepsRefused
pub mod RunRefused
pub mod NoneAtAll
pub mod VersionOneKept
pub mod PrintedKept
pub mod Refusals
pub mod Requests
pub mod Further
