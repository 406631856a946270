pub mod Name
pub mod Library
pub mod FaultKind
pub mod Meter
pub mod Text
pub mod Picture
pub mod Announced
pub mod Turn
