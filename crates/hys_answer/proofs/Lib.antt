-- Notes on how this crate is proved. The text of a value is that of its parts as long as it has no float (Floats); `json!`
-- builds the values with no proof file.
-- - Multiplied takes the checks of a value apart, Again and Claimed put those of a written value together, piece by piece.
-- - A form that keys or a kind choose is a `cond` of opaque lists of checks: each branch of the reader is one call, and the
--   function that chooses has no proof file.
-- - Four long keys and three more pieces in one function are too much for the search: the keys have a function of their own.
-- - Plain: the value of an answer whose numbers fit is one whose text reads as it again (hys_json). So a text is the
--   answer's as soon as it is what is written for the answer, however the answer was found: `guess` promises nothing, and
--   `read_written` compares.
pub mod Floats
pub mod Shapes
pub mod Multiplied
pub mod Outcomes
pub mod OneAnswer
pub mod Again
pub mod Claimed
pub mod Depths
pub mod Written
pub mod Plain
