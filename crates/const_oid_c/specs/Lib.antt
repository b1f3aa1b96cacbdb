pub mod Status
pub mod Results
pub mod Lists
