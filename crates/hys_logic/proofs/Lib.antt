-- Notes on the proofs of this crate.
--
-- A formula is short where it has a connective and a table of the columns of its names is small beside its connectives.
-- Then its rows are those of the table, else those of its connectives and the rows that tie the literal to its use. Both
-- ways stand beside each other in `stated_if`, by a truth value, and mean the same for either value: the lemmas
-- `means_if`, `read_is` and `under_below` go by cases of it. Only the number of rows needs that the formula is short.
--
-- Settings: columns with truth values, in rising order. `every_setting` turns the rows of a table into "for each list of
-- truth values". `miss` counts where settings differ from an assignment, and the sum of a row's own terms is the number
-- of ones less the misses (`total`), so that a row says nothing where one is missed. `told` gives the truth at settings
-- that miss none.
--
-- The target column is put among the settings (`placed`) like a name's column, so one lemma on order and one on the sum
-- serve both.
pub mod Smalls
pub mod Terms
pub mod Connectives
pub mod Truths
pub mod Settings
pub mod Tabled
pub mod TableMeans
pub mod Used
