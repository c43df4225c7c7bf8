-- RELEASE FIGURES (02, ticket 14): sixteen cells, and two batches of them joined.
use Rattle.std.specs.Prelude.{ℕ, zero, suc, ◌+◌, Bool, false, cond, ◌||◌, List, [], ◌∷◌, get_or, replicate, ltb, eqb}

-- Where each figure stands: texts, characters, tokens, tokens by reason 1 to 5 in the cells behind
-- the tokens, edges, the most edges in one text, and texts refused with 1 to 6 in the cells behind
-- it.
abbrev pub texts : ℕ
texts = 0

abbrev pub characters : ℕ
characters = 1

abbrev pub tokens : ℕ
tokens = 2

abbrev pub tokens_by : ℕ → ℕ
tokens_by reason = 2 + reason

abbrev pub edges : ℕ
edges = 8

abbrev pub most_edges : ℕ
most_edges = 9

abbrev pub refused_with : ℕ → ℕ
refused_with number = 9 + number

abbrev pub figure_count : ℕ
figure_count = 16

-- the figure that stands in a cell
abbrev pub figure : List ℕ → ℕ → ℕ
figure figures i = get_or figures i 0

-- n cells by their index, the first of which is cell i
unfoldable pub row_from : (ℕ → ℕ) → ℕ → ℕ → List ℕ
row_from f zero i = []
row_from f (suc n) i = f i ∷ row_from f n (suc i)

-- sixteen cells by their index
abbrev pub row : (ℕ → ℕ) → List ℕ
row f = row_from f figure_count 0

abbrev pub zeros : List ℕ
zeros = replicate figure_count 0

-- ---- two batches joined

abbrev pub larger : ℕ → ℕ → ℕ
larger x y = cond (ltb x y) y x

-- Of the most edges in one text the larger stays, all other figures are added.
abbrev pub join_cell : ℕ → ℕ → ℕ → ℕ
join_cell i x y = cond (eqb i most_edges) (larger x y) (x + y)

unfoldable pub joined : List ℕ → List ℕ → List ℕ
joined a b = row (λ (i : ℕ). join_cell i (figure a i) (figure b i))

-- ---- figures that are full

-- Texts are at most 4,294,967,295. Any other figure has 64 bits.
abbrev pub max_texts : ℕ
max_texts = 4294967295

abbrev pub limit : ℕ → ℕ
limit i = cond (eqb i texts) max_texts 18446744073709551615

-- some index below n passes the test
unfoldable pub some : (ℕ → Bool) → ℕ → Bool
some test zero = false
some test (suc n) = test n || some test n

-- Some figure of both batches would pass its limit.
unfoldable pub full : List ℕ → List ℕ → Bool
full a b = some (λ (i : ℕ). ltb (limit i) (join_cell i (figure a i) (figure b i))) figure_count

-- The figures with one batch more; those that would be too large are left as they are.
unfoldable pub after : List ℕ → List ℕ → List ℕ
after a b = cond (full a b) a (joined a b)
