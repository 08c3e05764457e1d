pub mod Objections
