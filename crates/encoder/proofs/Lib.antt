-- What follows from the definitions of specs/.
pub mod OneAfterAnother
pub mod ForEachNumber
pub mod ItemsWritten
pub mod MachineLiterals
pub mod OpForms
pub mod RoomAnswers
pub mod Unique
pub mod WrittenCnf
pub mod Lazy
pub mod LazyLimits
pub mod WrongConstraints
pub mod LazyConstraints
