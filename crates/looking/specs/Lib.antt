pub mod Views
pub mod Lent
pub mod Verdicts
pub mod Looks
pub mod Fitting
pub mod Inner
