pub mod Puts
pub mod Served
pub mod Numbers
