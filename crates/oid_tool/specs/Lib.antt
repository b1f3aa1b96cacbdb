pub mod Names
pub mod Results
pub mod Failures
pub mod ToolError
