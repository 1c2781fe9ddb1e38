pub mod Puts
pub mod Tidies
pub mod Works
