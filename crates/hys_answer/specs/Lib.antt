pub mod Shown
pub mod Fitting
pub mod Reading
pub mod Texts
pub mod Laws
