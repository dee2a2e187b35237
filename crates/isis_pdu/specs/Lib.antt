pub mod Pdu
pub mod Bytes
pub mod Header
pub mod Tlvs
pub mod Checksum
pub mod Spelling
pub mod Reading
pub mod Grammar
