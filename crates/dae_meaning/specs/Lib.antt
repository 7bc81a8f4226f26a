pub mod Worlds
pub mod Results
pub mod Alike
pub mod Variables
pub mod Operations
