pub mod Assignments
pub mod Lowered
