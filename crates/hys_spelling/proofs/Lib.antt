-- Notes on how this crate is proved.
-- - `longest_scan` says of std's scan what the lexer's code says of itself: that it goes as far as the longest literal.
--   Then a literal is scanned as a whole by `most`, and what is scanned as a whole is a literal by `found`: both
--   directions come from one lemma, and no part of a literal is taken apart.
-- - std's `is_ascii_digit` and the lexer's `is_digit` compute to the same, so `digits_len` is `prefix_len is_digit`.
-- - `scan_numeral` computes to `0 + digits_len text`, which doesn't reduce: `rw zero-add` first.
pub mod Scanned
pub mod Spelled
pub mod Texts
