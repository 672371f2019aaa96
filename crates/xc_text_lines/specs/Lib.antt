pub mod Lines
pub mod InnerLines
pub mod Numbers
pub mod HexWords
pub mod Grammar
pub mod InnerGrammar
