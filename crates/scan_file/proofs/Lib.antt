pub mod Files
pub mod Parsing
pub mod Wording
