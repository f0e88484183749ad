pub mod Pass
pub mod Laid
pub mod Deep
pub mod Stated
pub mod Answer
pub mod Whole
