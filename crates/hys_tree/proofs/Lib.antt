-- Notes on how this crate is proved. What a tree shows goes by induction on the tree, with the path as an argument and
-- a solution that agrees with it; the two children of an inner place cover the solutions. The preorder is read back by a
-- parser on lists with what is left (`front`), so that it is that of one tree alone.
pub mod Sound
pub mod Unique
pub mod WorkedTrees
