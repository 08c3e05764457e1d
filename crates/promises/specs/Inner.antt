-- What only the proofs need: no statement in the files beside this folder uses it.
pub mod ByParts
pub mod Came
