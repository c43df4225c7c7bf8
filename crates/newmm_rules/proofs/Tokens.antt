-- Tokens one behind the other. Assumes nothing.
use Prim.Native.Nat.{ℕ, suc, ◌+◌, ◌-◌, ◌≤◌, ◌<◌}
use native.Mathlib.Omega.{arith}
use mathlib.Core.Path.{◌≡◌, refl, ◌∙◌, ap}
use mathlib.Core.List.{List, [], ◌∷◌, ◌++◌}
use lib.ListN.{length, get_or}
use Rattle.newmm_rules.specs.Words.{Given, size, word_ends}
use Rattle.newmm_rules.specs.Positions.{In, Rises, none, next}
use Rattle.newmm_rules.specs.Search.{Graph, Chain, stay, along}
use Rattle.newmm_rules.specs.Tokens.{Token, word, other, Tokens, stop, then}
use Rattle.newmm_rules.proofs.Spans.{word_spans, token_spans}

pub spans : {g : Given} {b e : ℕ} → Token g b e → (b < e) × (e ≤ size g)
spans {g} {b} {e} (word m) = word_spans g b e m
spans {g} {b} {e} (other n h q) = let t = token_spans g b h in (omega (arith, t.0), omega (arith, t.1))

pub behind : {g : Given} {a m z : ℕ} {xs ys : List ℕ} → Tokens g a xs m → Tokens g m ys z → Tokens g a (xs ++ ys) z
behind stop u = u
behind (then t r) u = then t (behind r u)

-- a way along words is tokens
pub chained : {g : Given} {graph : Graph} {a z : ℕ} {xs : List ℕ} → ((x y : ℕ) → In y (graph x) → In y (word_ends g x)) → Chain graph a xs z → Tokens g a xs z
chained h stay = stop
chained h (along {a = a} {x = x} m c) = then (word (h a x m)) (chained h c)

pub rising : {g : Given} {a z : ℕ} {xs : List ℕ} → Tokens g a xs z → Rises (suc a) xs
rising stop = none
rising (then t r) = next (spans t).0 (rising r)

pub onward : {g : Given} {a z : ℕ} {xs : List ℕ} → Tokens g a xs z → a ≤ z
onward stop = omega arith
onward (then t r) = omega (arith, (spans t).0, onward r)

-- the last end, if there is one
pub last_is : {g : Given} {a z : ℕ} {xs : List ℕ} → Tokens g a xs z → a < z → get_or xs (length xs - 1) 0 ≡ z
last_is stop h = absurd (omega arith)
last_is (then {e = e} t stop) h = refl
last_is (then {e = e} t (then {e = d} {es = es} u r)) h =
    let f : suc (suc (length es)) - 1 ≡ suc (length es) = omega arith in
    let k : length es ≡ suc (length es) - 1 = omega arith in
    ap (λ (i : ℕ). get_or (e ∷ d ∷ es) i 0) f ∙ ap (λ (i : ℕ). get_or (d ∷ es) i 0) k ∙ last_is (then u r) (omega (arith, (spans u).0, onward r))

-- no more tokens than characters
pub few_tokens : {g : Given} {a z : ℕ} {xs : List ℕ} → Tokens g a xs z → a + length xs ≤ z
few_tokens stop = omega arith
few_tokens (then t r) = omega (arith, (spans t).0, few_tokens r)

-- no token, no character
pub none_here : {g : Given} {a z : ℕ} {xs : List ℕ} → Tokens g a xs z → z ≡ a → xs ≡ []
none_here stop e = refl
none_here (then t r) e = absurd (omega (arith, (spans t).0, onward r))
