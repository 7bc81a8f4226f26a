pub mod Arms
pub mod Written
