pub mod Items
pub mod InnerItems
pub mod Globals
pub mod Parameters
pub mod Functions
pub mod Texts
