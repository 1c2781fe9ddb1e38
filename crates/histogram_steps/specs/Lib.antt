pub mod Bounds
pub mod State
pub mod Sound
pub mod Standing
pub mod Opening
