pub mod Ready
pub mod Fitting
