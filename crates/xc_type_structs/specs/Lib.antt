pub mod Kinds
pub mod InnerKinds
pub mod Members
pub mod Table
pub mod Agree
