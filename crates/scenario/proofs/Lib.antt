mod Digits
mod Back
mod Chars
