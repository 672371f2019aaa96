pub mod Standing
mod Rows
