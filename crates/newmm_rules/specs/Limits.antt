-- The numbers of newmm.rs, each said once.
use Rattle.std.specs.Prelude.{ℕ}

-- the most characters of a word
abbrev pub max_word : ℕ
max_word = 255

-- a place stops recording behind the edge that makes them more
abbrev pub max_graph_size : ℕ
max_graph_size = 50

-- the sample of a text: its characters from the first of these to the last before the second
abbrev pub text_scan_begin : ℕ
text_scan_begin = 100

abbrev pub text_scan_end : ℕ
text_scan_end = 140
