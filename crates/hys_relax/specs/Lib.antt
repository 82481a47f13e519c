pub mod Node
pub mod LinearProgram
pub mod Bound
pub mod BoundSum
pub mod Worked
pub mod Laws
