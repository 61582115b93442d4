pub mod Dump
pub mod Texts
pub mod Scanned
pub mod Inspected
pub mod Laws
