pub mod Credits
pub mod Sizes
pub mod Roles
pub mod Statements
pub mod Items
pub mod Few
