pub mod PlainUnits
pub mod Digits
pub mod Written
pub mod WrittenLines
