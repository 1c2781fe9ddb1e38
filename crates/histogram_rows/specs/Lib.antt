pub mod Bounds
pub mod Bins
pub mod Props
pub mod Laws
