pub mod Addressing
pub mod AddressingLaws
pub mod Recording
pub mod Lines
