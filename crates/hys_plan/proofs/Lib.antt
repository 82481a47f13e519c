-- Notes on how this crate is proved. All is said of the search's nodes first (Ending), and carried over to the places
-- of the answer's own tree by the walk, which goes through the nodes in preorder (Answering).
pub mod Ending
pub mod Answering
pub mod Samples
