-- Beyond 50 edges fewer words may do: {กก, กกก} on 30 times ก. Assumes nothing.
use Prim.Native.Nat.{ℕ}
use native.Mathlib.Omega.{arith}
use mathlib.Core.Path.{◌≡◌, refl}
use mathlib.Core.Bool.{true}
use mathlib.Core.List.Memᴰ
use mathlib.Core.List.{List, [], ◌∷◌}
use lib.ListN.{replicate}
use Rattle.lists.specs.Scans.{leading}
use Rattle.tcc_rules.specs.Patterns.{holds_at, match}
use Rattle.tcc_rules.specs.Clusters.{cluster_end, ends_from, cluster_ends}
use Rattle.tcc.specs.Flags.{is_end}
use Rattle.newmm_rules.specs.Positions.{up_from, those, first_or, any, inserted}
use Rattle.newmm_rules.specs.NonThai.{groups, number, first_match, non_thai}
use Rattle.newmm_rules.specs.Words.{Given, word_ends}
use Rattle.newmm_rules.specs.Search.{queued, passed, after, searched, path_to}
use Rattle.newmm_rules.specs.NonDictionary.{stops_at, skip_end, token_end}
use Rattle.newmm_rules.specs.Cutting.{recorded, recorded_all, graph_of, settled, turn, turns, cut}
use Rattle.newmm_rules.specs.Fewest.{WordChain, stay, word, handled_since}
use Rattle.newmm_rules.specs.Stretches.{Stretch, stretches_in, stretches}
use Rattle.newmm_answers.specs.Answers.{given}
use Rattle.theorems_demands.specs.Cases.{among}
use Rattle.theorems_demands.specs.FewestWords.{FewerWouldDo}

abbrev g : Given
g = given (among ((0xE01 ∷ 0xE01 ∷ []) ∷ (0xE01 ∷ 0xE01 ∷ 0xE01 ∷ []) ∷ [])) (replicate {A = ℕ} 30 0xE01)

abbrev stretch : Stretch
stretch =
    record {
      first = 0;
      second = 30;
      ends = 2 ∷ 4 ∷ 7 ∷ 10 ∷ 13 ∷ 16 ∷ 19 ∷ 22 ∷ 25 ∷ 28 ∷ 30 ∷ [];
      searched = true;
      edges = 53;
      places = 29;
    }

one_stretch : stretches g ≡ stretch ∷ []
unfolding leading holds_at match cluster_end ends_from cluster_ends is_end up_from those first_or any inserted groups number first_match non_thai word_ends queued passed after searched path_to stops_at skip_end token_end recorded recorded_all graph_of settled turn turns cut handled_since stretches_in
one_stretch = refl

-- ten words of three
ten_words : WordChain g 0 (3 ∷ 6 ∷ 9 ∷ 12 ∷ 15 ∷ 18 ∷ 21 ∷ 24 ∷ 27 ∷ 30 ∷ []) 30
unfolding leading holds_at match cluster_end ends_from cluster_ends is_end up_from those word_ends
ten_words =
    word (Memᴰ.tail (Memᴰ.head refl)) (
    word (Memᴰ.tail (Memᴰ.head refl)) (
    word (Memᴰ.tail (Memᴰ.head refl)) (
    word (Memᴰ.tail (Memᴰ.head refl)) (
    word (Memᴰ.tail (Memᴰ.head refl)) (
    word (Memᴰ.tail (Memᴰ.head refl)) (
    word (Memᴰ.tail (Memᴰ.head refl)) (
    word (Memᴰ.tail (Memᴰ.head refl)) (
    word (Memᴰ.tail (Memᴰ.head refl)) (
    word (Memᴰ.tail (Memᴰ.head refl)) stay)))))))))

-- 53 edges are recorded in the one stretch, which has 11 words
pub fails : FewerWouldDo g
fails =
    record {
      stretch = stretch;
      alone = one_stretch;
      searched = refl;
      many = omega arith;
      others = 3 ∷ 6 ∷ 9 ∷ 12 ∷ 15 ∷ 18 ∷ 21 ∷ 24 ∷ 27 ∷ 30 ∷ [];
      chain = ten_words;
      fewer = omega arith;
    }
