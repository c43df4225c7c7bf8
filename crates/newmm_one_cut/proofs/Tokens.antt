-- Step 3 of a round: one token. Assumes nothing.
use Prim.Native.Nat.{ℕ, ◌+◌, ◌*◌, ◌-◌, ◌≤◌, ◌<◌}
use native.Mathlib.Omega.{arith}
use native.Mathlib.Numerals.{add-one}
use mathlib.Core.Path.{◌≡◌, refl, sym, ◌∙◌, ap, subst}
use mathlib.Core.Bool.{Bool, true, false, not}
use mathlib.Core.List.Memᴰ
use mathlib.Core.List.{List, [], ◌∷◌, ◌++◌, head-eq_of_cons-eq, tail-eq_of_cons-eq}
use lib.ListN.{length, get_or, set, take, length-set, length-append}
use lib.Seq.{get_or-set_same, get_or-set_other, take-set-le, drop-set-lt, take-suc-set}
use lib.Dec.{eqb}
use borrow.Author.Tests.{ne_eqb, eqb-true, eqb-false}
use Rattle.newmm_rules.specs.Positions.{any, member}
use Rattle.newmm_rules.specs.Words.{Given, size}
use Rattle.newmm_rules.specs.NonDictionary.{token_end}
use Rattle.newmm_rules.specs.Cutting.{State, commit, settled, turns}
use Rattle.newmm_rules.proofs.Spans.{token_spans}
use Rattle.newmm_rules.proofs.Turns.{Turned}
use Rattle.newmm_word_step.specs.inner.Walks.{given_by}
use Rattle.newmm_edges.specs.declared.Progress.{Progress}
use Rattle.newmm_one_cut.specs.inner.Strips.{TokenAt}
use Rattle.newmm_one_cut.proofs.Rounds.{Round, Recorded}

module _ {text pool row : List ℕ} {m b committed ends : ℕ} {q : Progress} (a : Recorded text pool row m b committed ends q) where
  abbrev g : Given
  g = given_by text pool

  abbrev s₁ : State
  s₁ = a.s

  module _ (zero_left : q.left ≡ 0) where
    nothing : s₁.candidates ≡ []
    nothing = no_cell s₁.candidates (sym a.numbers.left ∙ zero_left)
      where
        no_cell : (l : List ℕ) → length l ≡ 0 → l ≡ []
        no_cell [] e = refl
        no_cell (x ∷ l) e = absurd (omega arith)

    abbrev t : ℕ
    t = token_end g b

    abbrev s₃ : State
    s₃ = commit (t ∷ []) t s₁

    settled₃ : settled g b s₁.candidates s₁ ≡ s₃
    unfolding settled
    settled₃ = ap (λ (l : List ℕ). settled g b l s₁) nothing

    turned₃ : Turned g b s₃
    turned₃ = subst (λ (x : State). Turned g b x) settled₃ a.to

    pub token_asks : TokenAt text pool row m b ends
    token_asks =
        record { sized = a.sized; size = a.size_is; inside = a.below; root_is = a.root_is; flags_are = a.flags_are; room = (let e = a.ends_few in let c = a.committed_low in omega (arith, a.size_is)) }

    abbrev row₃ : List ℕ
    row₃ = set (set row (5 * m + t) 1) ends t

    t_above : b < t
    t_above = (token_spans g b a.below).0

    t_inside : t < m
    t_inside = omega (arith, (token_spans g b a.below).1, a.size_is)

    cell₃ : (i : ℕ) → m ≤ i → (i ≡ 5 * m + t → ⊥) → get_or row₃ i 0 ≡ get_or row i 0
    cell₃ i h n = get_or-set_other (set row (5 * m + t) 1) ends i t 0 (λ e. omega (arith, token_asks.room)) ∙ get_or-set_other row (5 * m + t) i 1 0 n

    size₃ : length row₃ ≡ length row
    size₃ = length-set (set row (5 * m + t) 1) ends t ∙ length-set row (5 * m + t) 1

    marks₃ : (x : ℕ) → x < m → member x (t ∷ s₁.known) ≡ not (eqb (get_or row₃ (5 * m + x) 0) 0)
    unfolding any
    marks₃ x h = go (eqb x t) refl
      where
        new : get_or row₃ (5 * m + t) 0 ≡ 1
        new =
            get_or-set_other (set row (5 * m + t) 1) ends (5 * m + t) t 0 (λ e. omega (arith, token_asks.room, t_inside))
            ∙ get_or-set_same row (5 * m + t) 1 0 (omega (arith, t_inside, a.sized.long))

        go : (u : Bool) → eqb x t ≡ u → member x (t ∷ s₁.known) ≡ not (eqb (get_or row₃ (5 * m + x) 0) 0)
        go true e =
            let z : get_or row₃ (5 * m + x) 0 ≡ 1 = ap (λ (y : ℕ). get_or row₃ (5 * m + y) 0) (eqb-true x t e) ∙ new in
            simp (e, ne_eqb (get_or row₃ (5 * m + x) 0) 0 (λ w. omega arith))
        go false e =
            let n = eqb-false x t e in
            simp e (a.stand.marks x h ∙ ap (λ (y : ℕ). not (eqb y 0)) (sym (cell₃ (5 * m + x) (omega arith) (λ w. n (omega arith)))))

    head₃ : t ≡ turned₃.between.least
    head₃ = head-eq_of_cons-eq turned₃.between.is

    tail₃ : [] ≡ turned₃.between.rest
    tail₃ = tail-eq_of_cons-eq turned₃.between.is

    token_here : Round text pool row₃ m t t (ends + 1) (record { edges = 0; left = 0; total = q.total })
    token_here =
        let ta = t_above in let ti = t_inside in let el = a.ends_few in let cl = a.committed_low in
        record {
          size_is = a.size_is;
          sized = record { small = a.sized.small; long = omega (arith, size₃, a.sized.long) };
          exact = size₃ ∙ a.exact;
          root_is = a.root_is;
          flags_are = ap (take (7 * m - 6 * m)) (drop-set-lt (6 * m) (set row (5 * m + t) 1) ends t (omega (arith, token_asks.room)) ∙ drop-set-lt (6 * m) row (5 * m + t) 1 (omega arith)) ∙ a.flags_are;
          s = s₃;
          between = turned₃.between;
          k = a.k;
          enough = omega (arith, a.enough);
          rest = a.rest ∙ ap (λ (x : State). turns a.k g x) settled₃;
          b_is = head₃;
          committed_is = refl;
          stand = record {
            marks = marks₃;
            graph = λ v l h. absurd (omega arith);
            fits = λ v l h. absurd (omega arith);
            shown = λ x i. Memᴰ.head (Memᴰ.eq_of_singleton i);
          };
          edges_is = refl;
          left_is = ap length tail₃;
          total_is = a.numbers.total;
          ends_is = omega (arith, a.ends_is, length-append s₁.ends (t ∷ []));
          ends_are = ap (λ (j : ℕ). take j row₃) (add-one ends) ∙ take-suc-set (set row (5 * m + t) 1) ends t (simp length-set (omega (arith, token_asks.room, a.sized.long)))
              ∙ ap (λ (l : List ℕ). l ++ (t ∷ [])) (take-set-le ends row (5 * m + t) 1 (omega (arith, token_asks.room)) ∙ a.ends_are);
          unmarked = λ x l h. cell₃ (2 * m + x) (omega arith) (λ e. omega arith) ∙ a.unmarked x (omega arith) h;
          firsts = λ v l h. cell₃ (3 * m + v) (omega arith) (λ e. omega arith) ∙ a.firsts v (omega arith) h;
          counts = λ v l h. cell₃ (4 * m + v) (omega arith) (λ e. omega arith) ∙ a.counts v (omega arith) h;
        }

    pub token_round : (e : ℕ) (row' : List ℕ) → e ≡ t → row' ≡ set (set row (5 * m + e) 1) ends e → Round text pool row' m e e (ends + 1) (record { edges = 0; left = 0; total = q.total })
    token_round e row' h f =
        subst (λ (l : List ℕ). Round text pool l m e e (ends + 1) (record { edges = 0; left = 0; total = q.total })) (sym f)
        (subst (λ (x : ℕ). Round text pool (set (set row (5 * m + x) 1) ends x) m x x (ends + 1) (record { edges = 0; left = 0; total = q.total })) (sym h) token_here)
