pub mod Linkage
pub mod Frames
pub mod Sound
pub mod Reading
