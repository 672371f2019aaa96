mod Depth
mod Changes
mod Turns
