-- 02, ticket 14: the figures, one name and number a line.
use Rattle.std.specs.Prelude.{ℕ, List, [], ◌∷◌, ◌++◌}
use Rattle.sheet_texts.specs.Texts.{decimal}
use Rattle.figures_rules.specs.Figures.{figure}

-- `texts`
abbrev pub texts_name : List ℕ
texts_name =
    116 ∷ 101 ∷ 120 ∷ 116 ∷ 115 ∷ []

-- `characters`
abbrev pub characters_name : List ℕ
characters_name =
    99 ∷ 104 ∷ 97 ∷ 114 ∷ 97 ∷ 99 ∷ 116 ∷ 101 ∷ 114 ∷ 115 ∷ []

-- `tokens`
abbrev pub tokens_name : List ℕ
tokens_name =
    116 ∷ 111 ∷ 107 ∷ 101 ∷ 110 ∷ 115 ∷ []

-- `words`
abbrev pub words_name : List ℕ
words_name =
    119 ∷ 111 ∷ 114 ∷ 100 ∷ 115 ∷ []

-- `runs`
abbrev pub runs_name : List ℕ
runs_name =
    114 ∷ 117 ∷ 110 ∷ 115 ∷ []

-- `skipped-to-word`
abbrev pub skipped_to_word_name : List ℕ
skipped_to_word_name =
    115 ∷ 107 ∷ 105 ∷ 112 ∷ 112 ∷ 101 ∷ 100 ∷ 45 ∷ 116 ∷ 111 ∷ 45 ∷ 119 ∷ 111 ∷ 114 ∷ 100 ∷ []

-- `skipped-to-run`
abbrev pub skipped_to_run_name : List ℕ
skipped_to_run_name =
    115 ∷ 107 ∷ 105 ∷ 112 ∷ 112 ∷ 101 ∷ 100 ∷ 45 ∷ 116 ∷ 111 ∷ 45 ∷ 114 ∷ 117 ∷ 110 ∷ []

-- `skipped-to-end`
abbrev pub skipped_to_end_name : List ℕ
skipped_to_end_name =
    115 ∷ 107 ∷ 105 ∷ 112 ∷ 112 ∷ 101 ∷ 100 ∷ 45 ∷ 116 ∷ 111 ∷ 45 ∷ 101 ∷ 110 ∷ 100 ∷ []

-- `edges`
abbrev pub edges_name : List ℕ
edges_name =
    101 ∷ 100 ∷ 103 ∷ 101 ∷ 115 ∷ []

-- `most-edges`
abbrev pub most_edges_name : List ℕ
most_edges_name =
    109 ∷ 111 ∷ 115 ∷ 116 ∷ 45 ∷ 101 ∷ 100 ∷ 103 ∷ 101 ∷ 115 ∷ []

-- `refused-1`
abbrev pub refused1_name : List ℕ
refused1_name =
    114 ∷ 101 ∷ 102 ∷ 117 ∷ 115 ∷ 101 ∷ 100 ∷ 45 ∷ 49 ∷ []

-- `refused-2`
abbrev pub refused2_name : List ℕ
refused2_name =
    114 ∷ 101 ∷ 102 ∷ 117 ∷ 115 ∷ 101 ∷ 100 ∷ 45 ∷ 50 ∷ []

-- `refused-3`
abbrev pub refused3_name : List ℕ
refused3_name =
    114 ∷ 101 ∷ 102 ∷ 117 ∷ 115 ∷ 101 ∷ 100 ∷ 45 ∷ 51 ∷ []

-- `refused-4`
abbrev pub refused4_name : List ℕ
refused4_name =
    114 ∷ 101 ∷ 102 ∷ 117 ∷ 115 ∷ 101 ∷ 100 ∷ 45 ∷ 52 ∷ []

-- `refused-5`
abbrev pub refused5_name : List ℕ
refused5_name =
    114 ∷ 101 ∷ 102 ∷ 117 ∷ 115 ∷ 101 ∷ 100 ∷ 45 ∷ 53 ∷ []

-- `refused-6`
abbrev pub refused6_name : List ℕ
refused6_name =
    114 ∷ 101 ∷ 102 ∷ 117 ∷ 115 ∷ 101 ∷ 100 ∷ 45 ∷ 54 ∷ []

-- A name, a space, the number, and a line feed.
unfoldable pub figure_line : List ℕ → ℕ → List ℕ
figure_line name n = ((name ++ (32 ∷ [])) ++ decimal n) ++ (10 ∷ [])

-- Texts, characters and tokens.
unfoldable pub size_lines : List ℕ → List ℕ
size_lines figures =
    (figure_line texts_name (figure figures 0)
    ++ figure_line characters_name (figure figures 1))
    ++ figure_line tokens_name (figure figures 2)

-- The tokens that are a word or a run.
unfoldable pub found_lines : List ℕ → List ℕ
found_lines figures =
    figure_line words_name (figure figures 3)
    ++ figure_line runs_name (figure figures 4)

-- The tokens that were skipped, by what stopped them.
unfoldable pub skipped_lines : List ℕ → List ℕ
skipped_lines figures =
    (figure_line skipped_to_word_name (figure figures 5)
    ++ figure_line skipped_to_run_name (figure figures 6))
    ++ figure_line skipped_to_end_name (figure figures 7)

-- Edges, in all and of one text.
unfoldable pub edge_lines : List ℕ → List ℕ
edge_lines figures =
    figure_line edges_name (figure figures 8)
    ++ figure_line most_edges_name (figure figures 9)

-- The texts refused with 1 to 3, for themselves.
unfoldable pub text_refusal_lines : List ℕ → List ℕ
text_refusal_lines figures =
    (figure_line refused1_name (figure figures 10)
    ++ figure_line refused2_name (figure figures 11))
    ++ figure_line refused3_name (figure figures 12)

-- The texts refused with 4 to 6, for pool, scratch or output.
unfoldable pub row_refusal_lines : List ℕ → List ℕ
row_refusal_lines figures =
    (figure_line refused4_name (figure figures 13)
    ++ figure_line refused5_name (figure figures 14))
    ++ figure_line refused6_name (figure figures 15)

-- THE TABLE: each figure behind its name, in the order of the cells.
unfoldable pub table : List ℕ → List ℕ
table figures =
    ((((size_lines figures ++ found_lines figures) ++ skipped_lines figures) ++ edge_lines figures)
    ++ text_refusal_lines figures)
    ++ row_refusal_lines figures
