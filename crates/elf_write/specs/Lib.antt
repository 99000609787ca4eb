pub mod ImageFile
pub mod Image
pub mod Written
