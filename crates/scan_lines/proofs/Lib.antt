pub mod Bounding
pub mod Examples
pub mod Reporting
