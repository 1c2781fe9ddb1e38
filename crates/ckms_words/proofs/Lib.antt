pub mod Backs
pub mod Fitting
pub mod Misfits
pub mod Zeros
