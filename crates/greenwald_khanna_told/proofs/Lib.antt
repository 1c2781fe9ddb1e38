pub mod Exactly
pub mod Returns
