pub mod Searching
pub mod Summing
pub mod Choosing
pub mod Splitting
pub mod Binning
