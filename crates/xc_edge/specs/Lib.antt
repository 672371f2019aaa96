pub mod Counts
pub mod Gained
pub mod ShelfState
pub mod InnerShelfState
pub mod SinkState
pub mod InnerSinkState
