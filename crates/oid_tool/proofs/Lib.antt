pub mod Output
pub mod Lines
pub mod Names
