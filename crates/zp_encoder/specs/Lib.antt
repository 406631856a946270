pub use Rattle.zp_table.specs.Rows
pub use Rattle.zp_decoder.specs.Decision
pub mod Codes
pub mod Written
pub mod Digits
pub mod Encoder
