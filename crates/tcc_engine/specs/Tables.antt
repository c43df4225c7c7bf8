-- 02, ticket 5: the alternatives as tables of items (class, optional, group), and how the tables
-- are read.
use Rattle.std.specs.Prelude.{ℕ, zero, suc, ◌+◌, ◌-◌, ◌*◌, ◌/◌, ◌%◌, ◌≡◌, Bool, cond, not, List, [], ◌∷◌, map, get_or, take, drop, eqb, leb}
use Rattle.tcc_rules.specs.Patterns.{Range, Item, one, opt, Alternative}
use Rattle.tcc_rules.specs.Rules.{alternatives}

-- A range is lo and hi, four hexadecimal digits each; it is none where lo is above hi.
abbrev pub range : ℕ → List Range → List Range
range x more = cond (leb (x / 65536) (x % 65536)) (record { lo = x / 65536; hi = x % 65536 } ∷ more) more

-- The first table has the classes of characters, three ranges each.
abbrev pub class_in : List ℕ → ℕ → List Range
class_in classes number =
    range (get_or classes (3 * number) 0)
    (range (get_or classes (3 * number + 1) 0) (range (get_or classes (3 * number + 2) 0) []))

-- The second table has the items. The last hexadecimal digit of an item says whether it stands in
-- the group, the one before it whether it is optional, and those before that are its class.
abbrev pub item_in : List ℕ → ℕ → Item
item_in classes x = cond (eqb (x / 16 % 16) 0) (one (class_in classes (x / 256))) (opt (class_in classes (x / 256)))

abbrev pub in_group : ℕ → Bool
in_group x = not (eqb (x % 16) 0)

-- those that don't stand in the group, and those that do
abbrev pub parts_of : List ℕ → List ℕ
parts_of [] = []
parts_of (x ∷ xs) = cond (in_group x) (parts_of xs) (x ∷ parts_of xs)

abbrev pub group_of : List ℕ → List ℕ
group_of [] = []
group_of (x ∷ xs) = cond (in_group x) (x ∷ group_of xs) (group_of xs)

-- The third table says where an alternative's items start; they go on to where the next one's do.
abbrev pub items_at : List ℕ → List ℕ → ℕ → List ℕ
items_at items starts k = take (get_or starts (suc k) 0 - get_or starts k 0) (drop (get_or starts k 0) items)

-- the alternative behind the first k
abbrev pub alternative_at : List ℕ → List ℕ → List ℕ → ℕ → Alternative
alternative_at classes items starts k =
    record {
      number = suc k;
      parts = map (item_in classes) (parts_of (items_at items starts k));
      group = map (item_in classes) (group_of (items_at items starts k));
    }

-- n alternatives, from the one behind the first k on
abbrev pub alternatives_from : (ℕ → Alternative) → ℕ → ℕ → List Alternative
alternatives_from one_at zero k = []
alternatives_from one_at (suc n) k = one_at k ∷ alternatives_from one_at n (suc k)

-- The alternatives that the tables hold.
abbrev pub alternatives_in : List ℕ → List ℕ → List ℕ → List Alternative
alternatives_in classes items starts = alternatives_from (alternative_at classes items starts) 29 0

-- THE TABLES' RULE: read back, they are the definition's alternatives.
abbrev pub ReadBack : (classes items starts : List ℕ) → Type 0
ReadBack classes items starts = alternatives_in classes items starts ≡ alternatives
