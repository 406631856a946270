pub mod Place
pub mod After
pub mod Worked
