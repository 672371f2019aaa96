pub mod Marks
pub mod Grammar
pub mod Spots
pub mod Plan
pub mod InnerPlan
pub mod Building
