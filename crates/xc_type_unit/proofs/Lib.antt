mod Zips
mod Turns
