pub mod Next
pub mod Parts
pub mod Tests
pub mod Found
pub mod Steps
pub mod One
