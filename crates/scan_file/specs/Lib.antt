pub mod Answers
pub mod Layout
pub mod Promises
pub mod Words
