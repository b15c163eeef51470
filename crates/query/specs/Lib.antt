-- What questions and answers look like as text.
pub mod Answers
pub mod Asking
pub mod Chosen
pub mod Code
pub mod Reading
