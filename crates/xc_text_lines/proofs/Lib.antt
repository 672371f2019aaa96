pub mod Reading
pub mod Numerals
pub mod Joins
pub mod Signs
pub mod HexLemmas
pub mod Laws
