pub mod Checked
pub mod InnerChecked
