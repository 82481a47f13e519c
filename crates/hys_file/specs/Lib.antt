pub mod Matrix
pub mod Reading
pub mod Texts
pub mod Laws
pub mod Fitting
