-- Notes on how this crate is proved. Every fact is kept by a node's place in the list and none over the tree: one
-- expansion is a `set` at one place and two nodes at the end, and one lemma carries all other nodes (`holds_on`). The
-- tree is read off at the end, by a function with fuel over places (`shape`); that each node stands in it exactly once
-- is a law of sums over every function on places (`once`), out of which come membership, counts and the bound on the
-- number of nodes. Paths are a left fold over the list. Steps are functions on the plain record `Core`, and the code
-- says only that its table is one of them. Certificates and faults stand in lists that only grow, and nodes hold places
-- in them. A tableau is kept by what it is at its node, and an expansion speaks of what was kept after it alone
-- (`warm_expanded`). That the lower bound doesn't fall needs no tree: leaves that stay keep their certificates, and by
-- weak duality no relaxed point costs less than the bound that was kept at its node (`over_kept`, `Rising`).

pub mod Conclusions
pub mod Outcomes
pub mod Paths
pub mod Picking
pub mod Preorder
pub mod Queue
pub mod Shapes
pub mod Sizes
pub mod Start
pub mod Walk
pub mod Certified
pub mod Changes
pub mod Warming
pub mod Among
pub mod Rising
