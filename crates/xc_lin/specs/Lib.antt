pub mod Affine
pub mod InnerAffine
pub mod Region
pub mod InnerRegion
