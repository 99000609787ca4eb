pub mod BuiltFile
pub mod Made
