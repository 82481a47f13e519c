-- Notes on these proofs.
-- A step is proved in two parts. The code (Walking, Stopping) finds lists of numbers along the order, specs/Walk: what
-- is still to be found from here on gives the same values and the same first stop as from the start.
-- The rest speaks of assignments alone. Reading: two assignments that agree where a body reads give it the same number
-- and the same checks. Assigning: by induction on the order, "known" is a state, an input, a parameter or what is taken.
-- Valuing: the values found are a valued assignment. Judging: checks against legal steps, both ways.
-- Look-ups answer 0 beyond a list (`number_at`), so bodies are evaluated without a condition on places.
-- The tests on numbers are Booleans (`at_most`, `equals`), so that stops of a concrete program compute by `refl`.
-- The first item that defines a name is `IsFirstAt`; one recursion each gives its checks and its number.
pub mod Smallest
pub mod Crossed
pub mod Defined
pub mod Names
pub mod Members
pub mod Stopping
pub mod Walking
pub mod Placing
pub mod Deciding
pub mod Reading
pub mod Assigning
pub mod Valuing
pub mod Judging
pub mod Fitted
pub mod Guards
