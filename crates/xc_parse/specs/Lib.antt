pub mod Depth
pub mod Nodes
pub mod Raws
pub mod Texts
pub mod InnerTexts
