-- What the engine tries, and what it asks of the tables.
use Rattle.std.specs.Prelude.{ℕ, suc, ◌+◌, ◌-◌, ◌/◌, ◌≡◌, Bool, true, cond, ◌&&◌, List, [], ◌∷◌, map, length, get_or, take, drop, T, ltb, leb, Option, Some, None}
use Rattle.tcc_rules.specs.Patterns.{Pattern, Match, none, upto, match, items, optional, Alternative, first_of, winner}
use Rattle.tcc_rules.specs.Rules.{alternatives}
use Rattle.tcc_rules.specs.Clusters.{cluster_end}
use Rattle.tcc_engine.specs.declared.Won.{Won}
use Rattle.tcc_engine.specs.Tables.{item_in, in_group, alternatives_from, ReadBack}

-- items a to e
unfoldable pub part : List ℕ → ℕ → ℕ → List ℕ
part row a e = take (e - a) (drop a row)

-- how many items stand before the first of the group
unfoldable pub ungrouped : List ℕ → ℕ
ungrouped [] = 0
ungrouped (x ∷ xs) = cond (in_group x) 0 (suc (ungrouped xs))

-- items i to g, and then items g to e as the group
unfoldable pub stretch : (classes row : List ℕ) → (i g e : ℕ) → Pattern
stretch classes row i g e =
    items (map (item_in classes) (part row i g)) (optional (map (item_in classes) (part row g e)))

-- where the group of items a to e starts
abbrev pub group_start : List ℕ → ℕ → ℕ → ℕ
group_start row a e = a + ungrouped (part row a e)

-- an alternative as it is tried: its group goes from the first item that stands in it to the end
abbrev pub split : (classes row : List ℕ) → (number a g e : ℕ) → Alternative
split classes row number a g e =
    record {
      number = number;
      parts = map (item_in classes) (part row a g);
      group = map (item_in classes) (part row g e);
    }

-- the one behind the first k
unfoldable pub tried_at : (classes row starts : List ℕ) → ℕ → Alternative
tried_at classes row starts k =
    split classes row (suc k) (get_or starts k 0) (group_start row (get_or starts k 0) (get_or starts (suc k) 0))
    (get_or starts (suc k) 0)

abbrev pub each : (ℕ → Bool) → List ℕ → Bool
each f [] = true
each f (x ∷ xs) = f x && each f xs

-- each number is at least the one before it, the first at least `low`, and all at most n
abbrev pub stepped : ℕ → ℕ → List ℕ → Bool
stepped n low [] = true
stepped n low (s ∷ ss) = leb low s && (leb s n && stepped n s ss)

-- there are 195 items, each of one of the 29 classes
pub record Classed (row : List ℕ) : Type 0 where
  pub many : length row ≡ 195
  pub all : T (each (λ (x : ℕ). ltb (x / 256) 29) row)

-- The tables are right, and can be gone through.
pub record Tables (classes row starts : List ℕ) : Type 0 where
  pub right : ReadBack classes row starts
  pub tried : alternatives_from (tried_at classes row starts) 29 0 ≡ alternatives
  pub classed : Classed row
  pub ends : length starts ≡ 30
  pub rising : T (stepped 195 0 starts)

-- a match, and the first of several, as the engine tells them
abbrev pub matched : Match → Option ℕ
matched none = None
matched (upto e) = Some e

abbrev pub found : ℕ → Match → Option Won
found number none = None
found number (upto e) = Some (record { number = number; end = e })

unfoldable pub found_in : List Alternative → List ℕ → ℕ → Option Won
found_in as' text p = found (winner as' text p) (match (first_of as') text p)

-- the cluster that starts at p
unfoldable pub told_at : List ℕ → ℕ → Won
told_at text p = record { number = winner alternatives text p; end = cluster_end text p }
