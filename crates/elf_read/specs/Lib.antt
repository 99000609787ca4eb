pub mod Bytes
pub mod Fields
pub mod FirstFault
pub mod FileFaults
pub mod Checked
pub mod Elf
pub mod Listed
pub mod ElfFile
