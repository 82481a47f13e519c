-- Notes on how this crate is proved: forms that worked, and traps.
-- - A command is a function to an `Outcome`; `carry_out` alone touches files and sink, so the order of effects is
--   one proof. A `data` with a constructor for each way a run may end, with lemmas `by_..` named by `using(..)`,
--   proves every branch with no file.
pub mod Ends
pub mod Stages
pub mod Asking
pub mod Compiling
pub mod Migrating
pub mod Simulating
pub mod Accepting
pub mod Planning
pub mod Checking
pub mod Demonstrating
pub mod Consequences
pub mod Tolerances
