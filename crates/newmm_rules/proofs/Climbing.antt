-- Ends that rise strictly from one position to another. Assumes nothing.
use Prim.Native.Nat.{ℕ, zero, suc, ◌+◌, ◌-◌, ◌≤◌, ◌<◌}
use native.Mathlib.Omega.{arith}
use mathlib.Core.Path.{◌≡◌, refl, sym, ◌∙◌, ap}
use mathlib.Core.List.{List, [], ◌∷◌, ◌++◌}
use lib.ListN.{length, get_or}
use Rattle.newmm_rules.specs.Words.{Given}
use Rattle.newmm_rules.specs.Positions.{Rises, none, next}
use Rattle.newmm_rules.specs.Tokens.{Tokens, stop, then}
use Rattle.newmm_rules.proofs.Tokens.{spans}
use Rattle.newmm_rules.specs.inner.Climbing.{Climbs, there, up}
use Rattle.newmm_rules.specs.Modes.{shifted}

pub onward : {a z : ℕ} {es : List ℕ} → Climbs a es z → a ≤ z
onward there = omega arith
onward (up h r) = omega (arith, onward r)

pub behind : {a m z : ℕ} {xs ys : List ℕ} → Climbs a xs m → Climbs m ys z → Climbs a (xs ++ ys) z
behind there u = u
behind (up h r) u = up h (behind r u)

pub shift : {a z : ℕ} {es : List ℕ} (by : ℕ) → Climbs a es z → Climbs (by + a) (shifted by es) (by + z)
shift by there = there
shift by (up {a = a} {e = e} h r) = up {a = by + a} {e = by + e} (omega arith) (shift by r)

-- no more ends than positions
pub few : {a z : ℕ} {es : List ℕ} → Climbs a es z → a + length es ≤ z
few there = omega arith
few (up h r) = omega (arith, few r)

-- tokens one behind the other climb
pub of_tokens : {g : Given} {a z : ℕ} {es : List ℕ} → Tokens g a es z → Climbs a es z
of_tokens stop = there
of_tokens (then t r) = up (spans t).0 (of_tokens r)

pub rises : {a z : ℕ} {es : List ℕ} → Climbs a es z → Rises (suc a) es
rises there = none
rises (up h r) = next h (rises r)

-- the last end, if there is one
pub last_is : {a z : ℕ} {es : List ℕ} → Climbs a es z → a < z → get_or es (length es - 1) 0 ≡ z
last_is there h = absurd (omega arith)
last_is (up {e = e} t there) h = refl
last_is (up {e = e} t (up {e = d} {es = es} u r)) h =
    let f : suc (suc (length es)) - 1 ≡ suc (length es) = omega arith in
    let k : length es ≡ suc (length es) - 1 = omega arith in
    ap (λ (i : ℕ). get_or (e ∷ d ∷ es) i 0) f ∙ ap (λ (i : ℕ). get_or (d ∷ es) i 0) k ∙ last_is (up u r) (omega (arith, onward r))

pub no_ends : {a z : ℕ} {es : List ℕ} → Climbs a es z → z ≡ a → es ≡ []
no_ends there e = refl
no_ends (up h r) e = absurd (omega (arith, onward r))
