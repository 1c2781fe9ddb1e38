pub mod Entry
pub mod Lists
pub mod Order
pub mod Place
pub mod Promises
pub mod Ranks
pub mod Total
