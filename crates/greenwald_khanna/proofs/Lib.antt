pub mod Asking
pub mod Cases
pub mod Exactly
pub mod Kept
pub mod Outcomes
pub mod Returns
