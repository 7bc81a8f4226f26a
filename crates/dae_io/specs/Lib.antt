pub mod Faults
pub mod FailedCalls
pub mod Told
pub mod Sinks
pub mod Pieces
pub mod Failing
pub mod Held
pub mod Listed
