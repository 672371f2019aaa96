pub mod Forms
pub mod Lasting
pub mod Initialisers
pub mod InnerInitialisers
