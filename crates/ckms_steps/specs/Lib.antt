pub mod Opening
pub mod State
pub mod Steps
