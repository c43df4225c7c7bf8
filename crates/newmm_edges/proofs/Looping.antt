-- The loop over the words at a place. Assumes nothing.
use Prim.Native.Nat.{ℕ, ◌+◌, ◌*◌, ◌-◌, ◌≤◌, ◌<◌, min}
use native.Mathlib.Omega.{arith}
use mathlib.Core.Path.{◌≡◌, refl, sym, ◌∙◌, ap, subst}
use mathlib.Core.Bool.{Bool, true, false, cond, not}
use mathlib.Core.List.{List, [], ◌∷◌}
use lib.ListN.{length, get_or, set, take, drop, length-set}
use lib.Seq.{get_or-set_same, get_or-set_other, take-set-le, drop-set-lt}
use lib.Dec.{eqb}
use borrow.Author.Tests.{eq-eqb, ne_eqb, lt-ltb, le-ltb}
use Rattle.newmm_rules.specs.Words.{Given, size, word_ends}
use Rattle.newmm_rules.specs.Cutting.{State, recorded, recorded_all, graph_of}
use Rattle.newmm_rules.proofs.Lengths.{behind, behind_all, behind_end, behind_none, behind_word, behind_part}
use Rattle.newmm_bfs.specs.inner.Strips.{Sized, graph_in}
use Rattle.tcc.specs.Flags.{end_flags}
use Rattle.trie_pool.specs.inner.Sound.{Readable}
use Rattle.newmm_word_step.specs.declared.Step.{Step}
use Rattle.newmm_word_step.specs.declared.Step.TheVariants.{Nothing, Word, Part}
use Rattle.newmm_word_step.specs.inner.Walks.{given_by, Walked, Asks, Next, StepIs}
use Rattle.newmm_word_step.proofs.Steps.{start_walk}
use Rattle.newmm_edges.specs.declared.Progress.{Progress}
use Rattle.newmm_edges.specs.inner.Recording.{row_after, progress_after, StandFor, Counts, Here, Alone, After, RecordsAll}
use Rattle.newmm_edges.proofs.Cells.{size_same}
use Rattle.newmm_edges.proofs.Edging.{Mid, mid_done, mid_more, counts_more, alone_more}

-- ---- the answers of `record_edge`

module _ (row : List ℕ) (m e : ℕ) (p : Progress) where
  pub rec_new : get_or row (5 * m + e) 0 ≡ 0 → ◌≡◌ {A = Progress} (record { edges = p.edges + 1; left = p.left + 1; total = p.total + 1 }) (progress_after row m e p)
  unfolding progress_after
  rec_new z = simp (eq-eqb (get_or row (5 * m + e) 0) 0 z)

  pub rec_old : (get_or row (5 * m + e) 0 ≡ 0 → ⊥) → ◌≡◌ {A = Progress} (record { edges = p.edges + 1; left = p.left; total = p.total + 1 }) (progress_after row m e p)
  unfolding progress_after
  rec_old n = simp (ne_eqb (get_or row (5 * m + e) 0) 0 n)

  pub rec_row : (b first x y : ℕ) → x ≡ e → y ≡ p.edges + 1 - first → set (set (set row (7 * m + p.edges) x) (4 * m + b) y) (5 * m + e) 1 ≡ row_after row m b e first p.edges
  unfolding row_after
  rec_row b first x y h k =
      ap (λ (i : ℕ). set (set (set row (7 * m + p.edges) i) (4 * m + b) y) (5 * m + e) 1) h ∙ ap (λ (i : ℕ). set (set (set row (7 * m + p.edges) e) (4 * m + b) i) (5 * m + e) 1) k

-- the numbers that it gives
pub record Numbers (p r : Progress) : Type 0 where
  pub edges : r.edges ≡ p.edges + 1
  pub left : r.left ≤ p.left + 1
  pub total : r.total ≡ p.total + 1

pub rec_numbers : (row : List ℕ) (m e : ℕ) (p : Progress) → Numbers p (progress_after row m e p)
unfolding progress_after
rec_numbers row m e p = record { edges = refl; left = go (eqb (get_or row (5 * m + e) 0) 0); total = refl }
  where
    go : (t : Bool) → cond t (p.left + 1) p.left ≤ p.left + 1
    go true = omega arith
    go false = omega arith

-- ---- the loop

pub record Going (text pool row : List ℕ) (m b limit first : ℕ) (q : Progress) (e : ℕ) (s₀ : State) : Type 0 where
  pub s : State
  pub mid : Mid row m b first q.edges s
  pub counts : Counts q s
  pub rest : recorded_all b (word_ends (given_by text pool) b) s₀ ≡ recorded_all b (behind (given_by text pool) b limit e) s

pub record Looping (text pool row₀ row : List ℕ) (m b limit first : ℕ) (p q : Progress) (e node : ℕ) : Type 0 where
  pub walked : Walked text pool b e node
  pub node_is : Readable pool node
  pub far : limit ≤ length text
  pub upto : e ≤ limit
  pub sized : Sized row m
  pub alone : Alone row₀ row m b
  pub same_size : length row ≡ length row₀
  pub few : q.edges ≤ 50 + b
  pub low : first ≤ q.edges
  pub lefts : q.left + first ≤ p.left + q.edges
  pub totals : q.total + first ≡ p.total + q.edges
  pub all : (s : State) → Mid row₀ m b first p.edges s → Counts p s → Going text pool row m b limit first q e s

alone_same : (row : List ℕ) (m b : ℕ) → Alone row row m b
alone_same row m b = record { low = refl; others = λ i h l n k. refl; flags = refl }

pub alone_on : {row row₁ row₂ : List ℕ} {m b : ℕ} → Alone row row₁ m b → Alone row₁ row₂ m b → Alone row row₂ m b
alone_on x y = record { low = y.low ∙ x.low; others = λ i h l n k. y.others i h l n k ∙ x.others i h l n k; flags = y.flags ∙ x.flags }

-- the first edge of b is known
module _ (text pool row : List ℕ) (m b : ℕ) (p : Progress) (h : Here text pool row m b p) where
  pub below : b < m
  below = omega (arith, h.size, h.inside)

  abbrev row₁ : List ℕ
  row₁ = set row (3 * m + b) p.edges

  pub alone_first : Alone row row₁ m b
  alone_first =
      let l = below in
      record {
        low = take-set-le (3 * m) row (3 * m + b) p.edges (omega arith);
        others = λ i u v n k. get_or-set_other row (3 * m + b) i p.edges 0 n;
        flags = ap (take (7 * m - 6 * m)) (drop-set-lt (6 * m) row (3 * m + b) p.edges (omega arith));
      }

  other_graph : (v : ℕ) → v < b → graph_in row₁ m v ≡ graph_in row m v
  unfolding graph_in
  other_graph v k =
      let l = below in
      ap (λ (c : ℕ). take c (drop (7 * m + get_or row₁ (3 * m + v) 0) row₁)) (get_or-set_other row (3 * m + b) (4 * m + v) p.edges 0 (λ q. omega arith))
      ∙ ap (λ (f : ℕ). take (get_or row (4 * m + v) 0) (drop (7 * m + f) row₁)) (get_or-set_other row (3 * m + b) (3 * m + v) p.edges 0 (λ q. omega arith))
      ∙ ap (take (get_or row (4 * m + v) 0)) (drop-set-lt (7 * m + get_or row (3 * m + v) 0) row (3 * m + b) p.edges (omega arith))

  no_count : get_or row₁ (4 * m + b) 0 ≡ 0
  no_count = let l = below in get_or-set_other row (3 * m + b) (4 * m + b) p.edges 0 (λ q. omega arith) ∙ h.none

  no_edges : graph_in row₁ m b ≡ []
  unfolding graph_in
  no_edges = ap (λ (c : ℕ). take c (drop (7 * m + get_or row₁ (3 * m + b) 0) row₁)) no_count

  pub mid_first : (s : State) → StandFor row m b p.edges s → graph_of s.edges b ≡ [] → Mid row₁ m b p.edges p.edges s
  mid_first s r e =
      let l = below in
      record {
        stand = record {
          marks = λ x k. r.marks x k ∙ ap (λ (i : ℕ). not (eqb i 0)) (sym (get_or-set_other row (3 * m + b) (5 * m + x) p.edges 0 (λ q. omega arith)));
          graph = λ v a k. other_graph v k ∙ r.graph v a k;
          fits = λ v a k.
              let f = get_or-set_other row (3 * m + b) (3 * m + v) p.edges 0 (λ q. omega arith) in
              let c = get_or-set_other row (3 * m + b) (4 * m + v) p.edges 0 (λ q. omega arith) in
              omega (arith, r.fits v a k);
          shown = r.shown;
        };
        from = get_or-set_same row (3 * m + b) p.edges 0 (omega (arith, h.sized.long));
        many = no_count ∙ omega arith;
        upto = omega arith;
        here = no_edges ∙ sym e;
      }

  pub loop_first : (row₂ : List ℕ) (limit : ℕ) → row₂ ≡ row₁ → limit ≡ b + min 255 (length text - b) → Looping text pool row₂ row₂ m b limit p.edges p p b 0
  loop_first row₂ limit f e =
      record {
        walked = start_walk text pool b;
        node_is = h.root_is;
        far = (let i = h.inside in omega arith);
        upto = omega arith;
        sized = record { small = h.sized.small; long = omega (arith, h.sized.long, ap length f, length-set row (3 * m + b) p.edges) };
        alone = alone_same row₂ m b;
        same_size = refl;
        few = h.few;
        low = omega arith;
        lefts = omega arith;
        totals = refl;
        all = λ s d c. record { s = s; mid = d; counts = c; rest = ap (λ (l : List ℕ). recorded_all b l s) (behind_all (given_by text pool) b limit e) };
      }

module _ {text pool row₀ row : List ℕ} {m b limit first : ℕ} {p q : Progress} {e node : ℕ} (i : Looping text pool row₀ row m b limit first p q e node) where
  abbrev g : Given
  g = given_by text pool

  pub asks : (flags : List ℕ) → flags ≡ end_flags text → e < limit → Asks text pool flags e node
  asks flags f h = record { inside = omega (arith, i.far); node_is = i.node_is; flags_are = f }

  none_after : (s : State) → recorded_all b [] s ≡ s
  unfolding recorded_all
  none_after s = refl

  finish : behind g b limit e ≡ [] → (s : State) → Mid row₀ m b first p.edges s → Counts p s → After row m b q (recorded_all b (word_ends g b) s)
  finish z s d c =
      let o = i.all s d c in
      subst (λ (t : State). After row m b q t) (sym (o.rest ∙ ap (λ (l : List ℕ). recorded_all b l o.s) z ∙ none_after o.s))
      (record { stand = mid_done o.mid; counts = o.counts })

  pub finish_end : limit ≤ e → (s : State) → Mid row₀ m b first p.edges s → Counts p s → After row m b q (recorded_all b (word_ends g b) s)
  finish_end h = finish (behind_end g b limit e h)

  module _ (r : Step) (told : (b : ℕ) → Walked text pool b e node → StepIs r text pool b e) where
    pub finish_none : r ≡ Nothing → (s : State) → Mid row₀ m b first p.edges s → Counts p s → After row m b q (recorded_all b (word_ends g b) s)
    finish_none z = finish (behind_none g b limit e (subst (λ (x : Step). StepIs x text pool b e) z (told b i.walked)))

    module _ (more : e < limit) where
      pub loop_part : {k : ℕ} → r ≡ Part k → Looping text pool row₀ row m b limit first p q (e + 1) k
      loop_part {k} z =
          let n : Next text pool b e k false = subst (λ (x : Step). StepIs x text pool b e) z (told b i.walked) in
          record {
            walked = n.walked;
            node_is = n.node_is;
            far = i.far;
            upto = omega arith;
            sized = i.sized;
            alone = i.alone;
            same_size = i.same_size;
            few = i.few;
            low = i.low;
            lefts = i.lefts;
            totals = i.totals;
            all = λ s d c. let o = i.all s d c in record { s = o.s; mid = o.mid; counts = o.counts; rest = o.rest ∙ ap (λ (l : List ℕ). recorded_all b l o.s) (behind_part g b limit e more n.tells) };
          }

      module _ {k : ℕ} (z : r ≡ Word k) (size : m ≡ length text + 1) (inside : b < length text) where
        n_word : Next text pool b e k true
        n_word = subst (λ (x : Step). StepIs x text pool b e) z (told b i.walked)

        abbrev row' : List ℕ
        row' = row_after row m b (e + 1) first q.edges

        abbrev q' : Progress
        q' = progress_after row m (e + 1) q

        hb : b < m
        hb = omega arith

        he : e + 1 < m
        he = omega (arith, i.far)

        hk : q.edges < m + 50
        hk = omega (arith, i.few)

        one_on : (s : State) → Mid row m b first q.edges s → Counts q s → Mid row' m b first q'.edges (recorded b (e + 1) s) × Counts q' (recorded b (e + 1) s)
        unfolding progress_after
        one_on s d c = (mid_more row m b (e + 1) first q.edges s i.sized hb he hk d, counts_more row m b (e + 1) first q.edges s i.sized hb he hk d q c)

        stop_at : (s : State) (es : List ℕ) → 50 < length (recorded b (e + 1) s).edges → recorded_all b ((e + 1) ∷ es) s ≡ recorded b (e + 1) s
        unfolding recorded_all
        stop_at s es h = simp (lt-ltb 50 (length (recorded b (e + 1) s).edges) h)

        go_on : (s : State) (es : List ℕ) → length (recorded b (e + 1) s).edges ≤ 50 → recorded_all b ((e + 1) ∷ es) s ≡ recorded_all b es (recorded b (e + 1) s)
        unfolding recorded_all
        go_on s es h = simp (le-ltb 50 (length (recorded b (e + 1) s).edges) h)

        pub alone_next : Alone row₀ row' m b
        alone_next = alone_on i.alone (alone_more row m b (e + 1) first q.edges i.sized hb he hk)

        pub size_next : length row' ≡ length row₀
        size_next = size_same row m b (e + 1) first q.edges i.sized hb he hk ∙ i.same_size

        pub finish_stop : 50 < q'.edges → (s : State) → Mid row₀ m b first p.edges s → Counts p s → After row' m b q' (recorded_all b (word_ends g b) s)
        finish_stop h s d c =
            let o = i.all s d c in
            let w = one_on o.s o.mid o.counts in
            subst (λ (t : State). After row' m b q' t)
            (sym (o.rest ∙ ap (λ (l : List ℕ). recorded_all b l o.s) (behind_word g b limit e more n_word.tells) ∙ stop_at o.s (behind g b limit (e + 1)) (omega (arith, w.1.edges))))
            (record { stand = mid_done w.0; counts = w.1 })

        pub loop_word : q'.edges ≤ 50 → Looping text pool row₀ row' m b limit first p q' (e + 1) k
        loop_word h =
            let u = rec_numbers row m (e + 1) q in
            record {
              walked = n_word.walked;
              node_is = n_word.node_is;
              far = i.far;
              upto = omega arith;
              sized = record { small = i.sized.small; long = omega (arith, i.sized.long, size_same row m b (e + 1) first q.edges i.sized hb he hk) };
              alone = alone_next;
              same_size = size_next;
              few = omega arith;
              low = omega (arith, i.low, u.edges);
              lefts = omega (arith, i.lefts, u.edges, u.left);
              totals = omega (arith, i.totals, u.edges, u.total);
              all = λ s d c.
                  let o = i.all s d c in
                  let w = one_on o.s o.mid o.counts in
                  record {
                    s = recorded b (e + 1) o.s;
                    mid = w.0;
                    counts = w.1;
                    rest = o.rest ∙ ap (λ (l : List ℕ). recorded_all b l o.s) (behind_word g b limit e more n_word.tells) ∙ go_on o.s (behind g b limit (e + 1)) (omega (arith, w.1.edges));
                  };
            }

        -- the same, of the row and the numbers that an edge left
        module _ {row'' : List ℕ} {r'' : Progress} (f : r'' ≡ q') (h : row'' ≡ row') where
          pub stopped : 50 < r''.edges → (s : State) → Mid row₀ m b first p.edges s → Counts p s → After row'' m b r'' (recorded_all b (word_ends g b) s)
          stopped l s d c =
              subst (λ (x : List ℕ). After x m b r'' (recorded_all b (word_ends g b) s)) (sym h)
              (subst (λ (x : Progress). After row' m b x (recorded_all b (word_ends g b) s)) (sym f) (finish_stop (subst (λ (x : Progress). 50 < x.edges) f l) s d c))

          pub alone_stopped : Alone row₀ row'' m b
          alone_stopped = subst (λ (x : List ℕ). Alone row₀ x m b) (sym h) alone_next

          pub looped : r''.edges ≤ 50 → Looping text pool row₀ row'' m b limit first p r'' (e + 1) k
          looped l =
              subst (λ (x : List ℕ). Looping text pool row₀ x m b limit first p r'' (e + 1) k) (sym h)
              (subst (λ (x : Progress). Looping text pool row₀ row' m b limit first p x (e + 1) k) (sym f) (loop_word (subst (λ (x : Progress). x.edges ≤ 50) f l)))

-- ---- from the row as it was given

module _ (text pool row : List ℕ) (m b : ℕ) (p : Progress) (h : Here text pool row m b p) {row₂ row' : List ℕ} (f : row₂ ≡ row₁ text pool row m b p h) where
  pub from_given : {r : Progress} → ((s : State) → Mid row₂ m b p.edges p.edges s → Counts p s → After row' m b r (recorded_all b (word_ends (given_by text pool) b) s)) → RecordsAll text pool row row' m b p r
  from_given k s r c z = k s (subst (λ (l : List ℕ). Mid l m b p.edges p.edges s) (sym f) (mid_first text pool row m b p h s r z)) c

  pub alone_given : Alone row₂ row' m b → Alone row row' m b
  alone_given a = alone_on (subst (λ (l : List ℕ). Alone row l m b) (sym f) (alone_first text pool row m b p h)) a

  pub flags_given : Alone row₂ row' m b → take (7 * m - 6 * m) (drop (6 * m) row') ≡ end_flags text
  flags_given a = (alone_given a).flags ∙ h.flags_are
