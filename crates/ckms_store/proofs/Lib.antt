pub mod Abacus
pub mod Accepted
pub mod Calls
pub mod Ends
pub mod Exactly
pub mod Outcomes
