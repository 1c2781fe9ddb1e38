pub mod Cases
pub mod Filling
pub mod Examples
