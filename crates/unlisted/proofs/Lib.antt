pub mod Growing
pub mod Lengths
pub mod Unread
pub mod Answers
pub mod Numbers
pub mod SetAnew
pub mod NumberLengths
