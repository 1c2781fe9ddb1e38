pub mod CkmsAnswers
pub mod Laws
pub mod Promises
