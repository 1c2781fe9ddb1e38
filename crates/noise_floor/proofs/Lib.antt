pub mod Abacus
pub mod Asking
pub mod Bounds
pub mod Outcomes
pub mod Runs
pub mod Scans
