pub mod Backs
pub mod Misfits
