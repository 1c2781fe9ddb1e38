pub mod Histograms
pub mod Laws
pub mod Promises
