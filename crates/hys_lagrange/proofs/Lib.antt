-- Notes on how this crate is proved. A sum over multipliers goes backwards: what is still to be added gives the same
-- whole and the same first loss from the partial sum (Summed). Coefficients are gathered row by row where all numbers
-- fit: a term changes the sum of its own column alone, and the other columns' products are 0, which lose nothing as long
-- as each sum fits (Gathering); so that nothing is lost row by row says that nothing is lost column by column. Where a
-- number is lost the coefficients are taken again column by column, whose order decides which is shown.
pub mod Summed
pub mod Listing
pub mod Written
pub mod Gathering
