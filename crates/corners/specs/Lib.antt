pub mod Rows
pub mod Table
pub mod Laws
pub mod Transfers
