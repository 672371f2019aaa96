pub mod Arguments
pub mod InnerArguments
pub mod Calls
pub mod Accesses
pub mod Prints
