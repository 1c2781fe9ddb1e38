pub mod Abacus
pub mod Calls
pub mod Exactly
pub mod Outcomes
pub mod Tests
