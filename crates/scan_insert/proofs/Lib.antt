pub mod Going
pub mod Inserting
