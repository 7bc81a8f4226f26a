pub mod Accepted
pub mod Checked
pub mod Origins
pub mod Refusals
pub mod Alike
pub mod Once
pub mod Read
