pub mod Tableau
pub mod Status
pub mod Rule
pub mod Path
pub mod Unfit
pub mod Alike
pub mod Worked
pub mod Laws
