pub mod Dialling
