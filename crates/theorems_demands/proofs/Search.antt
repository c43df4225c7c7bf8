-- THE PATH SEARCH NEVER FAILS. Assumes nothing.
use Prim.Native.Nat.{ℕ, zero, suc, ◌+◌, ◌*◌, ◌-◌, ◌≤◌, ◌<◌}
use native.Mathlib.Omega.{arith}
use native.Mathlib.Decide.{dec_lt}
use mathlib.Core.Path.{◌≡◌, refl, sym, ◌∙◌, ap, subst}
use mathlib.Core.List.{List, [], ◌∷◌}
use lib.ListN.{length}
use Rattle.newmm_rules.specs.Words.{Given, size}
use Rattle.newmm_rules.specs.Search.{Graph, Chain, stay, along}
use Rattle.newmm_rules.specs.Cutting.{State, begin, turn, turns}
use Rattle.newmm_rules.proofs.Recording.{Handled}
use Rattle.newmm_rules.proofs.Turns.{Between, at_first, turn_on, turn_off, path_on, path}
use Rattle.theorems_demands.specs.Search.{Finds, SearchFinds}

-- what holds between turns holds after any number of them
between : (k : ℕ) {g : Given} (s : State) → Between g s → Between g (turns k g s)
unfolding turns
between zero s h = h
between (suc k) {g} s h = go (λ s' h'. between k s' h') (dec_lt h.least (size g))
  where
    go : ((s' : State) → Between g s' → Between g (turns k g s')) → Dec (h.least < size g) → Between g (turns k g (turn g s.candidates s))
    go ih (yes l) = ih (turn g s.candidates s) (turn_on h l).between
    go ih (no n) = subst (λ (x : State). Between g (turns k g x)) (sym (turn_off h (omega arith))) (ih s h)

-- a way on has an edge
chain_some : {graph : Graph} {a z : ℕ} {xs : List ℕ} → Chain graph a xs z → a < z → 0 < length xs
chain_some stay h = absurd (omega arith)
chain_some (along m c) h = omega arith

pub search_finds : SearchFinds
search_finds g k b c cs is below only =
    let h = between k begin (at_first g) in
    let same : h.least ∷ h.rest ≡ b ∷ cs = sym h.is ∙ is in
    let e : h.least ≡ b = cc in
    let r : h.rest ≡ cs = cc in
    let order : (turns k g begin).committed ≤ b = omega (arith, h.order) in
    let few : length (turns k g begin).edges ≤ 50 + (b - (turns k g begin).committed) = omega (arith, h.few) in
    let total : (turns k g begin).count ≤ 51 * b = omega (arith, h.total) in
    let handled : Handled g b (turns k g begin) = subst (λ (z : ℕ). Handled g z (turns k g begin)) e h.handled in
    let on = path_on g (turns k g begin) b cs is below handled order (λ q. h.sole (r ∙ q) ∙ e) few total h.tokens c only in
    let chain = path g (turns k g begin) b cs is below handled order (λ q. h.sole (r ∙ q) ∙ e) few total h.tokens c only in
    record { on = on; some = chain_some chain on; chain = chain }
