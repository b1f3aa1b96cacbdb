pub mod IsNext
pub mod Rows
