-- The nodes of all levels are those that the words are charged with. Assumes nothing.
use mathlib.Core.Path.{◌≡◌, refl, ap, ◌∙◌}
use mathlib.Core.List.{List, [], ◌∷◌}
use Prim.Native.Nat.{ℕ, zero, suc, ◌+◌, ◌-◌, ◌≤◌, ◌<◌}
use native.Mathlib.Omega.{arith}
use native.Mathlib.Decide.{dec_lt}
use lib.ListN.{length, get_or}
use Rattle.image_rules.specs.Records.{Term}
use Rattle.image_rules.specs.Order.{common}
use Rattle.image_rules.specs.Lists.{charge_from}
use Rattle.image_rules.specs.inner.News.{new, news_from}
use Rattle.image_rules.proofs.Order.{parts}
use Rattle.image_read.proofs.Raising.{new_low, new_high, new_in}
use Rattle.image_starts.specs.inner.Starts.{start_of}
use Rattle.image_starts.proofs.Beginning.{start_next, start_one, start_zero}

-- the sum over the levels 1 to m
total : (ℕ → ℕ) → ℕ → ℕ
total f zero = 0
total f (suc m) = total f m + f (suc m)

total_same : (f g : ℕ → ℕ) → ((d : ℕ) → f d ≡ g d) → (m : ℕ) → total f m ≡ total g m
unfolding total
total_same f g h zero = refl
total_same f g h (suc m) = omega (arith, total_same f g h m, h (suc m))

total_add : (f g : ℕ → ℕ) (m : ℕ) → total (λ d. f d + g d) m ≡ total f m + total g m
unfolding total
total_add f g zero = omega arith
total_add f g (suc m) = omega (arith, total_add f g m)

total_none : (m : ℕ) → total (λ d. 0) m ≡ 0
unfolding total
total_none zero = refl
total_none (suc m) = omega (arith, total_none m)

-- a word's new nodes
record Sum (l n m : ℕ) : Type 0 where
  low : m ≤ l → total (new l n) m ≡ 0
  mid : l ≤ m → m ≤ n → total (new l n) m ≡ m - l
  high : n ≤ m → total (new l n) m ≡ n - l

sum : (l n m : ℕ) → l ≤ n → Sum l n m
unfolding total
sum l n zero h = record { low = λ a. refl; mid = λ a b. omega arith; high = λ a. omega arith }
sum l n (suc m) h =
    let s = sum l n m h in
    record {
      low = λ a. omega (arith, s.low (omega arith), new_low l n (suc m) a);
      mid = λ a b. go a b (dec_lt l (suc m)) s;
      high = λ a. top a (dec_lt n (suc m)) s;
    }
  where
    go : l ≤ suc m → suc m ≤ n → Dec (l < suc m) → Sum l n m → total (new l n) m + new l n (suc m) ≡ suc m - l
    go a b (yes q) s = omega (arith, s.mid (omega arith) (omega arith), new_in l n (suc m) q b)
    go a b (no q) s = omega (arith, s.low (omega arith), new_low l n (suc m) (omega arith))

    top : n ≤ suc m → Dec (n < suc m) → Sum l n m → total (new l n) m + new l n (suc m) ≡ n - l
    top a (yes q) s = omega (arith, s.high (omega arith), new_high l n (suc m) q)
    top a (no q) s = let z : suc m ≡ n = omega arith in eq z (dec_lt l (suc m)) s
      where
        eq : suc m ≡ n → Dec (l < suc m) → Sum l n m → total (new l n) m + new l n (suc m) ≡ n - l
        eq z (yes w) s = omega (arith, s.mid (omega arith) (omega arith), new_in l n (suc m) w (omega arith))
        eq z (no w) s = omega (arith, s.low (omega arith), new_low l n (suc m) (omega arith))

-- words of at most 255 characters
abbrev pub Short : List Term → Type 0
Short [] = Unit {0}
Short (t ∷ ts) = (length t.word ≤ 255) × Short ts

sum_charge : (before : List ℕ) (ts : List Term) → Short ts → total (λ d. news_from d before ts) 255 ≡ charge_from before ts
unfolding news_from charge_from
sum_charge before [] h = total_none 255
sum_charge before (t ∷ ts) h =
    total_add (λ d. new (common before t.word) (length t.word) d) (λ d. news_from d t.word ts) 255
    ∙ omega (arith, (sum (common before t.word) (length t.word) 255 (parts before t.word).right).high h.0, sum_charge t.word ts h.1)

start_total : (counts : List ℕ) (m : ℕ) → start_of counts (suc m) ≡ suc (total (λ d. get_or counts d 0) m)
unfolding total
start_total counts zero = start_one counts
start_total counts (suc m) = start_next counts (suc m) (omega arith) ∙ omega (arith, start_total counts m)

-- the last level ends with the last node
pub last_start : (counts : List ℕ) (ts : List Term) → Short ts → ((d : ℕ) → get_or counts d 0 ≡ news_from d [] ts) → start_of counts 256 ≡ suc (charge_from [] ts)
last_start counts ts h e = start_total counts 255 ∙ ap suc (total_same (λ d. get_or counts d 0) (λ d. news_from d [] ts) e 255 ∙ sum_charge [] ts h)

-- levels start behind each other
pub start_rise : (counts : List ℕ) (d : ℕ) → d ≤ 256 → start_of counts d ≤ start_of counts 256
start_rise counts d l = go (256 - d) d (omega arith)
  where
    go : (k d : ℕ) → d + k ≡ 256 → start_of counts d ≤ start_of counts 256
    go zero d e = let z : d ≡ 256 = omega arith in omega (arith, ap (start_of counts) z)
    go (suc k) zero e = omega (arith, start_zero counts)
    go (suc k) (suc d) e = omega (arith, go k (suc (suc d)) (omega arith), start_next counts (suc d) (omega arith))
