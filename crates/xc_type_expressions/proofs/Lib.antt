pub mod Few
pub mod Outcomes
pub mod Roles
pub mod Shapes
