pub mod Group
pub mod Total
