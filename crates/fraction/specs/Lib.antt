pub mod Allowed
pub mod Band
pub mod Inv
pub mod Products
