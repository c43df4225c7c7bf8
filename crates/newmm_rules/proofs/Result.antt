-- What every plain cut comes to. Assumes nothing.
use Prim.Native.Nat.{ℕ, zero, suc, ◌+◌, ◌*◌, ◌-◌, ◌≤◌, ◌<◌}
use native.Mathlib.Omega.{arith}
use native.Mathlib.Decide.{dec_lt}
use mathlib.Core.Path.{◌≡◌, refl, sym, subst}
use mathlib.Core.List.Memᴰ
use mathlib.Core.List.{List, [], ◌∷◌}
use lib.ListN.{length, get_or}
use Rattle.newmm_rules.specs.Words.{Given, size}
use Rattle.newmm_rules.specs.Cutting.{Edge, State, begin, turn, turns, cut}
use Rattle.newmm_rules.specs.Positions.{In, Rises}
use Rattle.newmm_rules.proofs.Positions.{at_least}
use Rattle.newmm_rules.proofs.Edges.{edge_of}
use Rattle.newmm_rules.proofs.Recording.{Stands}
use Rattle.newmm_rules.specs.Tokens.{Tokens}
use Rattle.newmm_rules.proofs.Tokens.{rising, last_is, few_tokens, none_here}
use Rattle.newmm_rules.proofs.Turns.{Between, at_first, turn_on, turn_off, rest_rises}

-- no candidate below n is left
pub record Ended (g : Given) (s : State) : Type 0 where
  pub between : Between g s
  pub through : size g ≤ between.least

pub ended : (k : ℕ) {g : Given} (s : State) (h : Between g s) → size g ≤ h.least + k → Ended g (turns k g s)
unfolding turns
ended zero s h e = record { between = h; through = omega arith }
ended (suc k) {g} s h e = go (λ s' h' e'. ended k s' h' e') (dec_lt h.least (size g))
  where
    go : ((s' : State) (h' : Between g s') → size g ≤ h'.least + k → Ended g (turns k g s')) → Dec (h.least < size g) → Ended g (turns k g (turn g s.candidates s))
    go ih (yes l) = let t = turn_on h l in ih (turn g s.candidates s) t.between (let o = t.on in omega arith)
    go ih (no n) = subst (λ (x : State). Ended g (turns k g x)) (sym (turn_off h (omega arith))) (ih s h (omega arith))

module _ (g : Given) where
  at_end : Ended g (turns (size g) g begin)
  at_end = ended (size g) begin (at_first g) (omega arith)

  abbrev last : Between g (turns (size g) g begin)
  last = at_end.between

  inside : (x : ℕ) → In x (last.least ∷ last.rest) → x ≤ size g
  inside x m = last.handled.inside x (subst (λ (l : List ℕ). In x l) (sym last.is) m)

  no_rest : (l : List ℕ) → l ≡ last.rest → l ≡ []
  no_rest [] e = refl
  no_rest (c ∷ l) e =
      let m : In c last.rest = subst (λ (k : List ℕ). In c k) e (Memᴰ.head refl) in
      let r = at_least (rest_rises (subst (λ (k : List ℕ). Rises last.least k) last.is last.handled.rises)) m in
      absurd (omega (arith, inside c (Memᴰ.tail m), at_end.through))

  pub committed_end : (turns (size g) g begin).committed ≡ size g
  committed_end =
      let e = last.sole (no_rest last.rest refl) in
      omega (arith, inside last.least (Memᴰ.head refl), at_end.through, e)

  -- no edge stands at the end
  pub edges_cleared : length (turns (size g) g begin).edges ≡ 0
  edges_cleared = go (turns (size g) g begin).edges (λ x y m. last.handled.edges x y m)
    where
      go : (es : List Edge) → ((x y : ℕ) → In (edge_of x y) es → Stands g last.least (turns (size g) g begin) x y) → length es ≡ 0
      go [] h = refl
      go (e ∷ es) h =
          let st = h e.from e.to (Memᴰ.head refl) in
          absurd (omega (arith, st.after, st.before, last.sole (no_rest last.rest refl)))

  -- EVERY TOKEN is a held word that ends at a cluster end, or exactly the span of the
  -- non-dictionary rule at its start, where no such word starts; the first starts at 0, each other
  -- where the one before it ends, and the last ends at n.
  pub tokens : Tokens g 0 (cut g).ends (size g)
  unfolding cut
  tokens = subst (λ (z : ℕ). Tokens g 0 (turns (size g) g begin).ends z) committed_end last.tokens

  -- ENDS RISE STRICTLY, the last equal to n; none for an empty text.
  pub ends_rise : Rises 1 (cut g).ends
  ends_rise = rising tokens

  pub last_end : 0 < size g → get_or (cut g).ends (length (cut g).ends - 1) 0 ≡ size g
  last_end h = last_is tokens h

  pub no_ends : size g ≡ 0 → (cut g).ends ≡ []
  no_ends e = none_here tokens e

  pub ends_most : length (cut g).ends ≤ size g
  ends_most = omega (arith, few_tokens tokens)

  -- At most 51 edges are recorded for each character.
  pub edges_most : (cut g).edges ≤ 51 * size g
  unfolding cut
  edges_most = omega (arith, last.total, inside last.least (Memᴰ.head refl))
