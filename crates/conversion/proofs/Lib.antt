mod Written
mod Zeros
mod Answers
