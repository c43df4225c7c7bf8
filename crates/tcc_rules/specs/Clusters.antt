-- 01, "Clusters": where the clusters of a text end.
use Rattle.std.specs.Prelude.{ℕ, zero, suc, ◌+◌, ◌-◌, cond, List, [], ◌∷◌, length, take, ltb}
use Rattle.tcc_rules.specs.Patterns.{Pattern, Match, none, upto, match, is_match, first_of}
use Rattle.tcc_rules.specs.Rules.{alternatives, lookahead}

-- Where the match ends, one character less where the matched characters also satisfy `ahead` from
-- their start; `single` where there is no match.
abbrev pub ended : Pattern → List ℕ → ℕ → ℕ → Match → ℕ
ended ahead text p single none = single
ended ahead text p single (upto e) = cond (is_match (match ahead (take e text) p)) (e - 1) e

-- At each place the first alternative that matches wins, each optional part taken where it can be.
-- If the matched characters also satisfy `LOOKAHEAD_TCC` from their start, the cluster is one
-- character shorter, no more. If none matches, one character is a cluster.
unfoldable pub cluster_end : List ℕ → ℕ → ℕ
cluster_end text p = ended (first_of lookahead) text p (p + 1) (match (first_of alternatives) text p)

-- the ends of the first clusters from p on, at most so many
unfoldable pub ends_from : ℕ → List ℕ → ℕ → List ℕ
ends_from zero text p = []
ends_from (suc most) text p = cond (ltb p (length text)) (cluster_end text p ∷ ends_from most text (cluster_end text p)) []

-- The ends are positions in characters. A cluster has a character or more, so there are at most as
-- many as characters.
unfoldable pub cluster_ends : List ℕ → List ℕ
cluster_ends text = ends_from (length text) text 0
