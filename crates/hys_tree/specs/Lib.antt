pub mod Certificate
pub mod Shows
pub mod Fits
pub mod Worked
pub mod Laws
pub mod Multiplied
