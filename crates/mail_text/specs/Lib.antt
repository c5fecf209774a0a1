pub mod Ascii
pub mod Holding
pub mod Lending
pub mod Lines
pub mod Number
pub mod Room
