-- What holds between turns, and that a turn keeps it. Assumes nothing.
use Prim.Native.Nat.{ℕ, suc, ◌+◌, ◌*◌, ◌-◌, ◌≤◌, ◌<◌}
use native.Mathlib.Omega.{arith}
use native.Mathlib.Decide.{dec_lt}
use mathlib.Core.Path.{◌≡◌, refl, sym, ◌∙◌, ap, subst}
use mathlib.Core.Logic.{⊎_elim}
use mathlib.Core.List.Memᴰ
use mathlib.Core.List.{List, [], ◌∷◌, nil≢cons}
use lib.ListN.{length}
use borrow.Author.Tests.{lt-ltb, le-ltb}
use Rattle.newmm_rules.specs.Words.{Given, size, word_ends}
use Rattle.newmm_rules.specs.NonDictionary.{token_end}
use Rattle.newmm_rules.specs.Search.{path_to, Chain}
use Rattle.newmm_rules.specs.Cutting.{State, begin, graph_of, commit, settled, taken_out, step1, turn}
use Rattle.newmm_rules.specs.Positions.{In, Rises, none, next}
use Rattle.newmm_rules.proofs.Positions.{at_least}
use Rattle.newmm_rules.proofs.Spans.{word_spans, token_spans}
use Rattle.newmm_rules.proofs.Search.{Reach, here, Within, path_found}
use Rattle.newmm_rules.proofs.Edges.{edge_recorded, few_stand, each_counted}
use Rattle.newmm_rules.specs.Tokens.{Tokens, other, stop, then}
use Rattle.newmm_rules.proofs.Tokens.{behind, chained}
use Rattle.newmm_rules.proofs.Recording.{Handled, Placing, Placed, placed}

-- Between turns: the places below the least candidate are handled; a sole candidate is the
-- committed end; edges and their count keep within their bounds; and the ends so far are tokens
-- from 0 to the committed end.
pub record Between (g : Given) (s : State) : Type 0 where
  pub least : ℕ
  pub rest : List ℕ
  pub is : s.candidates ≡ least ∷ rest
  pub handled : Handled g least s
  pub order : s.committed ≤ least
  pub sole : rest ≡ [] → s.committed ≡ least
  pub few : length s.edges ≤ 50 + (least - s.committed)
  pub total : s.count ≤ 51 * least
  pub tokens : Tokens g 0 s.ends s.committed

pub at_first : (g : Given) → Between g begin
at_first g =
    record {
      least = 0;
      rest = [];
      is = refl;
      handled = record {
        rises = next {low = 0} {x = 0} (omega arith) none;
        inside = λ x m. let e = Memᴰ.eq_of_singleton m in omega arith;
        left = λ x m h. m;
        reach = λ x m. subst (λ (z : ℕ). Reach (graph_of []) 0 z) (sym (Memᴰ.eq_of_singleton m)) here;
        edges = λ x y m. absurd (Memᴰ.not-nil m);
      };
      order = omega arith;
      sole = λ e. refl;
      few = omega arith;
      total = omega arith;
      tokens = stop;
    }

pub rest_rises : {low x : ℕ} {xs : List ℕ} → Rises low (x ∷ xs) → Rises (suc x) xs
rest_rises (next h r) = r

-- a turn leads from a least candidate to a greater one
pub record Turned (g : Given) (b : ℕ) (s : State) : Type 0 where
  pub between : Between g s
  pub on : b < between.least

module _ (g : Given) (s : State) (b : ℕ) (cs : List ℕ) (is : s.candidates ≡ b ∷ cs) (below : b < size g) (h : Handled g b s) (order : s.committed ≤ b)
    (sole : cs ≡ [] → s.committed ≡ b) (few : length s.edges ≤ 50 + (b - s.committed)) (total : s.count ≤ 51 * b) (tokens : Tokens g 0 s.ends s.committed) where
  abbrev after : State
  after = step1 g b cs s

  all_in : (x : ℕ) → In x (b ∷ cs) → In x s.candidates
  all_in x m = subst (λ (l : List ℕ). In x l) (sym is) m

  taken_out_placing : Placing g b (taken_out cs s)
  taken_out_placing =
      record {
        handled = record {
          rises = rest_rises (subst (λ (l : List ℕ). Rises b l) is h.rises);
          inside = λ x m. h.inside x (all_in x (Memᴰ.tail m));
          left = λ x m k.
              ⊎_elim (λ e. absurd (omega arith)) (λ l. l) (Memᴰ.cases_cons (subst (λ (l : List ℕ). In x l) is (h.left x m (omega arith))));
          reach = λ x m. h.reach x (all_in x (Memᴰ.tail m));
          edges = λ x y m.
              let e = h.edges x y m in record { after = e.after; before = (let k = e.before in omega arith); word = e.word; known = e.known };
        };
        here = h.reach b (all_in b (Memᴰ.head refl));
        order = order;
      }

  words_placed : Placed g b (word_ends g b) (taken_out cs s) after
  words_placed = placed g b (word_ends g b) (taken_out cs s) (λ e m. m) taken_out_placing

  count_most : after.count ≤ 51 * (b + 1)
  count_most = omega (arith, each_counted b (word_ends g b) (taken_out cs s), few_stand b (length s.edges) (word_ends g b) (taken_out cs s) (omega arith))

  -- IN STEP 3 b IS THE COMMITTED END, and no word starts there.
  module _ (nothing : after.candidates ≡ []) where
    none_left : (x : ℕ) → In x after.candidates → ⊥
    none_left x m = Memᴰ.not-nil (subst (λ (l : List ℕ). In x l) nothing m)

    no_rest : (l : List ℕ) → l ≡ cs → l ≡ []
    no_rest [] e = refl
    no_rest (c ∷ l) e = absurd (none_left c (words_placed.keeps c (subst (λ (k : List ℕ). In c k) e (Memᴰ.head refl))))

    pub committed_is : s.committed ≡ b
    committed_is = sole (no_rest cs refl)

    no_words : (l : List ℕ) → l ≡ word_ends g b → l ≡ []
    no_words [] e = refl
    no_words (c ∷ l) e = absurd (let w = words_placed.some c (subst (λ (k : List ℕ). In c k) e (Memᴰ.head refl)) in none_left w.0 w.1)

    pub no_word : word_ends g b ≡ []
    no_word = no_words (word_ends g b) refl

    token : Tokens g after.committed (token_end g b ∷ []) (token_end g b)
    token = subst (λ (z : ℕ). Tokens g z (token_end g b ∷ []) (token_end g b)) (sym (words_placed.committed ∙ committed_is)) (then (other no_word below refl) stop)

  -- tokens up to e are committed
  to_end : (path : List ℕ) (e : ℕ) → b < e → e ≤ size g → ((x : ℕ) → In x after.known → e ≤ x → x ≡ e) → Tokens g after.committed path e → Turned g b (commit path e after)
  to_end path e k l known t =
      record {
        between = record {
          least = e;
          rest = [];
          is = refl;
          handled = record {
            rises = next {low = e} {x = e} (omega arith) none;
            inside = λ x m. let q = Memᴰ.eq_of_singleton m in omega arith;
            left = λ x m o. ⊎_elim (λ q. Memᴰ.head q) (λ n. Memᴰ.head (known x n o)) (Memᴰ.cases_cons m);
            reach = λ x m. subst (λ (z : ℕ). Reach (graph_of []) e z) (sym (Memᴰ.eq_of_singleton m)) here;
            edges = λ x y m. absurd (Memᴰ.not-nil m);
          };
          order = omega arith;
          sole = λ q. refl;
          few = omega arith;
          total = omega (arith, count_most);
          tokens = behind (subst (λ (xs : List ℕ). Tokens g 0 xs after.committed) (sym words_placed.ends) (subst (λ (z : ℕ). Tokens g 0 s.ends z) (sym words_placed.committed) tokens)) t;
        };
        on = k;
      }

  step3 : after.candidates ≡ [] → Turned g b (commit (token_end g b ∷ []) (token_end g b) after)
  step3 e =
      let t = token_spans g b below in
      to_end (token_end g b ∷ []) (token_end g b) t.0 t.1 (λ x m k. absurd (none_left e x (words_placed.placing.handled.left x m (omega (arith, t.0))))) (token e)

  -- THE PATH SEARCH NEVER FAILS: edges that stand lead from the committed end to the sole
  -- candidate.
  module _ (c : ℕ) (only : after.candidates ≡ c ∷ []) where
    in_only : (x : ℕ) → In x after.candidates → x ≡ c
    in_only x m = Memᴰ.eq_of_singleton (subst (λ (l : List ℕ). In x l) only m)

    there : In c after.candidates
    there = subst (λ (l : List ℕ). In c l) (sym only) (Memᴰ.head refl)

    c_above : b < c
    c_above = at_least words_placed.placing.handled.rises there

    c_known : (x : ℕ) → In x after.known → c ≤ x → x ≡ c
    c_known x m k = in_only x (words_placed.placing.handled.left x m (let d = c_above in omega arith))

    no_farther : (y : ℕ) → In y after.known → y ≤ c
    no_farther y m = elim (dec_lt y c) [ yes l ↦ omega arith | no n ↦ (let e = c_known y m (omega arith) in omega arith) ]

    within : Within (graph_of after.edges) after.committed c
    within x y m =
        let st = words_placed.placing.handled.edges x y (edge_recorded x y after.edges m) in
        (omega (arith, st.after, (word_spans g x y st.word).0), no_farther y st.known)

    pub path_on : after.committed < c
    path_on = omega (arith, c_above, words_placed.placing.order)

    pub path : Chain (graph_of after.edges) after.committed (path_to (graph_of after.edges) after.committed c) c
    path = path_found within path_on (words_placed.placing.handled.reach c there)

    step2 : Turned g b (commit (path_to (graph_of after.edges) after.committed c) c after)
    step2 =
        to_end (path_to (graph_of after.edges) after.committed c) c c_above (words_placed.placing.handled.inside c there) c_known
        (chained (λ x y m. (words_placed.placing.handled.edges x y (edge_recorded x y after.edges m)).word) path)

  step4 : (c d : ℕ) (ds : List ℕ) → after.candidates ≡ c ∷ d ∷ ds → Turned g b after
  step4 c d ds e =
      let p = words_placed.placing.handled in
      let k : b < c = at_least p.rises (subst (λ (l : List ℕ). In c l) (sym e) (Memᴰ.head refl)) in
      record {
        between = record {
          least = c;
          rest = d ∷ ds;
          is = e;
          handled = record {
            rises = subst (λ (l : List ℕ). Rises c l) (sym e) (next {low = c} {x = c} (omega arith) (rest_rises (subst (λ (l : List ℕ). Rises (suc b) l) e p.rises)));
            inside = p.inside;
            left = λ x m l. p.left x m (omega arith);
            reach = p.reach;
            edges = λ x y m. let f = p.edges x y m in record { after = f.after; before = (let o = f.before in omega arith); word = f.word; known = f.known };
          };
          order = (let o = words_placed.placing.order in omega arith);
          sole = λ q. absurd (nil≢cons (sym q));
          few = omega (arith, words_placed.committed, words_placed.placing.order, few_stand b (b - s.committed) (word_ends g b) (taken_out cs s) few);
          total = omega (arith, count_most);
          tokens = subst (λ (xs : List ℕ). Tokens g 0 xs after.committed) (sym words_placed.ends) (subst (λ (z : ℕ). Tokens g 0 s.ends z) (sym words_placed.committed) tokens);
        };
        on = k;
      }

  settles : (l : List ℕ) → after.candidates ≡ l → Turned g b (settled g b l after)
  unfolding settled
  settles [] e = step3 e
  settles (c ∷ []) e = step2 c e
  settles (c ∷ d ∷ ds) e = step4 c d ds e

  turned : Turned g b (turn g (b ∷ cs) s)
  unfolding turn
  turned = rw (lt-ltb b (size g) below) (settles after.candidates refl)

-- A turn at a least candidate below n keeps what holds between turns.
pub turn_on : {g : Given} {s : State} (h : Between g s) → h.least < size g → Turned g h.least (turn g s.candidates s)
turn_on {g} {s} h k =
    subst (λ (l : List ℕ). Turned g h.least (turn g l s)) (sym h.is)
    (turned g s h.least h.rest h.is k h.handled h.order h.sole h.few h.total h.tokens)

-- With none below n there is no turn.
pub turn_off : {g : Given} {s : State} (h : Between g s) → size g ≤ h.least → turn g s.candidates s ≡ s
unfolding turn
turn_off {g} {s} h k = ap (λ (l : List ℕ). turn g l s) h.is ∙ rw (le-ltb h.least (size g) k)

-- What a turn at b comes to: the words there are recorded, and the candidates left decide.
pub record At (g : Given) (s : State) (b : ℕ) (cs : List ℕ) : Type 0 where
  pub is : s.candidates ≡ b ∷ cs
  pub handled : Handled g b s
  pub order : s.committed ≤ b
  pub placed_at : Placed g b (word_ends g b) (taken_out cs s) (step1 g b cs s)
  pub turn_is : turn g s.candidates s ≡ settled g b (step1 g b cs s).candidates (step1 g b cs s)
  pub turned_to : Turned g b (settled g b (step1 g b cs s).candidates (step1 g b cs s))

pub turn_at : {g : Given} {s : State} (h : Between g s) → h.least < size g → At g s h.least h.rest
unfolding turn
turn_at {g} {s} h k =
    record {
      is = h.is;
      handled = h.handled;
      order = h.order;
      placed_at = words_placed g s h.least h.rest h.is k h.handled h.order h.sole h.few h.total h.tokens;
      turn_is = ap (λ (l : List ℕ). turn g l s) h.is ∙ rw (lt-ltb h.least (size g) k);
      turned_to = settles g s h.least h.rest h.is k h.handled h.order h.sole h.few h.total h.tokens (step1 g h.least h.rest s).candidates refl;
    }
