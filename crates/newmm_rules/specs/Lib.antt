-- In 01's order: rows of positions, words, the steps of plain cutting, the search of step 2, the
-- non-dictionary rule of step 3, tokens, safe mode. Before them the numbers. Fewest, Stretches and
-- Sheet are of 02.
pub mod Limits
pub mod Positions
pub mod Words
pub mod Cutting
pub mod Search
pub mod NonThai
pub mod NonDictionary
pub mod Tokens
pub mod Claims
pub mod Fewest
pub mod Stretches
pub mod Longest
pub mod Parts
pub mod Modes
pub mod Sheet
pub mod inner
