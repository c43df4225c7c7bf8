-- The loop of a word: its characters one by one, then its mark. Assumes nothing.
use mathlib.Core.Path.{◌≡◌, refl, sym, ap, subst, ◌∙◌}
use mathlib.Core.Bool.{true, false}
use mathlib.Core.List.{List, [], ◌∷◌}
use Prim.Native.Nat.{ℕ, zero, suc, ◌+◌, ◌-◌, ◌*◌, ◌≤◌, ◌<◌}
use native.Mathlib.Omega.{arith}
use native.Mathlib.Decide.{dec_lt}
use lib.ListN.{length, get_or, set, take, length-set}
use lib.Seq.{get_or-set_same, get_or-set_other}
use Rattle.char_string_white_space.specs.Trimmed.{is_trimmed}
use Rattle.trie_pool.specs.Cells.{scalar_at, first_at, count_at, mark_at}
use Rattle.trie_pool.specs.Words.{Word, at, rev}
use Rattle.trie_pool.specs.Meaning.{Terms, with_term}
use Rattle.trie_pool.specs.inner.Paths.{reach}
use Rattle.trie_pool.proofs.Shape.{child_found, step, count_is}
use Rattle.trie_pool.proofs.Edges.{Edges, edges_of}
use Rattle.trie_leaf.specs.inner.Planting.{Beside}
use Rattle.trie_change.proofs.Sides.{no_change, both_change}
use Rattle.trie_build_rules.specs.inner.Laid.{Laid}
use Rattle.trie_build_rules.specs.inner.Growing.{Grown, Path, Built, Above}
use Rattle.trie_build_rules.proofs.Building.{levels_apart}
use Rattle.trie_build_rules.proofs.Paths.{Last, last, path_same, rev_take}
use Rattle.trie_build_rules.proofs.Leaf.{Asks, Done, leaf_grown, leaf_path, no_mark, no_child}
use Rattle.trie_build_rules.proofs.Mark.{Sets, mark_grown, mark_path}
use Rattle.trie_build.specs.inner.Appending.{row, Spot, leaf_cells, one_more, Fits, Puts, Put}
use Rattle.trie_build.proofs.Stores.{leaf_done, leaf_long, leaf_beside, mark_set, mark_beside}

-- the first d characters of w stand in the trie, at the last nodes of their levels
pub record State (s : ℕ → ℕ) (held : Terms) (p : List ℕ) (next : ℕ → ℕ) (w : List ℕ) (l d : ℕ) : Type 0 where
  pub grown : Grown p s next held (next d - 1)
  pub path : Path p next w d
  pub above : d < length w → (k : ℕ) → suc k ≡ next (suc d) → first_at p (next d - 1) ≤ k → scalar_at p k < get_or w d 0
  pub clean : l < d → (count_at p (next d - 1) ≡ 0) × (mark_at p (next d - 1) ≡ 0)

except : {p : List ℕ} {s next : ℕ → ℕ} {held : Terms} (cur : ℕ) → Grown p s next held 0 → Grown p s next held cur
except {p} {s} {next} {held} cur g = record {
  laid = g.laid;
  top = g.top;
  in_use = g.in_use;
  fits = g.fits;
  small = g.small;
  fit = g.fit;
  alive = λ d i o l a c ne. g.alive d i o l a c (λ z. absurd (root d i o l a z));
  start = g.start;
  blank = g.blank;
  words = g.words;
  marks = g.marks;
}
  where
    root : (d i : ℕ) → 0 < d → d ≤ 256 → s d ≤ i → i ≡ 0 → ⊥
    root d i o l a z = omega (arith, levels_apart p s next g.laid 0 d o l, g.laid.root)

-- before the loop
pub state_first : {s : ℕ → ℕ} {before : List ℕ} {held : Terms} {p next w : List ℕ} {l mark : ℕ} → Fits s before held p next w l mark → State s held p (row next) w l l
state_first {s} {before} {held} {p} {next} {w} {l} {mark} f = record {
  grown = except (row next l - 1) f.built.grown;
  path = path_same before w l (length before) f.above.upto f.above.same f.built.path;
  above = λ h k e a. go k e a (dec_lt l (length before));
  clean = λ h. absurd (omega arith);
}
  where
    v : Laid p s (row next)
    v = f.built.grown.laid

    q : Last s (row next) l
    q = last p s (row next) v before (length before) l f.built.path f.above.upto (omega arith) f.built.short

    go : (k : ℕ) → suc k ≡ row next (suc l) → first_at p (row next l - 1) ≤ k → Dec (l < length before) → scalar_at p k < get_or w l 0
    go k e a (yes y) =
        let z : reach p (get_or before l 0 ∷ rev (take l before) []) ≡ at k
        = ap (reach p) (sym (rev_take before l y)) ∙ f.built.path.along (suc l) (omega arith) ∙ (let t : row next (suc l) - 1 ≡ k = omega arith in ap at t) in
        let t = step p (rev (take l before) []) (get_or before l 0) k z in
        omega (arith, (child_found p t.mid (get_or before l 0) k t.then).is, f.above.less y)
    go k e a (no y) =
        let z : l ≡ length before = omega (arith, f.above.upto) in
        let t : suc (row next l - 1) ≡ row next l = omega (arith, q.high) in
        let c : count_at p (row next l - 1) ≡ 0 = f.built.ends (row next l - 1) (t ∙ ap (row next) z) in
        let u = v.tip l (row next l - 1) (omega (arith, f.word.short, f.above.inside)) q.low t in
        absurd (omega arith)

-- the loop
pub record Going (p₀ next₀ w : List ℕ) (l mark : ℕ) (p next : List ℕ) (d : ℕ) : Type 0 where
  pub low : l ≤ d
  pub high : d ≤ length w
  pub long : length p ≡ length p₀
  pub beside : Beside p₀ p
  pub levels : length next ≡ 257
  pub state : (s : ℕ → ℕ) (before : List ℕ) (held : Terms) → Fits s before held p₀ next₀ w l mark → State s held p (row next) w l d
  pub raised : (e : ℕ) → l < e → e ≤ d → row next e ≡ suc (row next₀ e)
  pub kept : (e : ℕ) → (l < e → e ≤ d → ⊥) → row next e ≡ row next₀ e

pub going_none : {p next w : List ℕ} {l mark : ℕ} → Puts p next w l mark → Going p next w l mark p next l
going_none {p} {next} {w} {l} {mark} h = record {
  low = omega arith;
  high = omega (arith, h.may.above.inside);
  long = refl;
  beside = no_change p;
  levels = h.levels;
  state = λ s before held f. state_first f;
  raised = λ e a b. absurd (omega arith);
  kept = λ e n. refl;
}

-- the parent and the leaf of a turn, for the levels s
record Turn (s : ℕ → ℕ) (p : List ℕ) (next : ℕ → ℕ) (d : ℕ) : Type 0 where
  some : 1 ≤ next d
  own : s d ≤ next d - 1
  room : next (suc d) < s (suc (suc d))
  last : s (suc (suc d)) ≤ s 256
  parent : next d ≤ s (suc d)
  few : count_at p (next d - 1) ≤ s 256

module _ {p₀ next₀ w : List ℕ} {l mark : ℕ} {p next : List ℕ} {d : ℕ} (g : Going p₀ next₀ w l mark p next d) (more : d < length w) (s : ℕ → ℕ) (before : List ℕ) (held : Terms) (f : Fits s before held p₀ next₀ w l mark) where
  st : State s held p (row next) w l d
  st = g.state s before held f

  v : Laid p s (row next)
  v = st.grown.laid

  deep : d < 255
  deep = omega (arith, f.word.short, more)

  q : Last s (row next) d
  q = last p s (row next) v w d d st.path (omega arith) g.high f.word.short

  turn : Turn s p (row next) d
  turn =
      let r : row next (suc d) ≡ row next₀ (suc d) = g.kept (suc d) (λ a b. omega arith) in
      let u = v.upto d (row next d - 1) (omega (arith, deep)) q.low (omega (arith, q.high)) in
      let t = v.high (suc d) (omega (arith, deep)) in
      let e : s (suc (suc d)) ≤ s 256 = after (dec_lt (suc (suc d)) 256) in
      let ro : row next (suc d) < s (suc (suc d)) = omega (arith, f.room (suc d) (omega (arith, g.low)) (omega (arith, more))) in
      record { some = q.high; own = q.low; room = ro; last = e; parent = v.high d (omega (arith, deep)); few = omega arith }
    where
      after : Dec (suc (suc d) < 256) → s (suc (suc d)) ≤ s 256
      after (yes y) = omega (arith, v.low (suc (suc d)) (omega arith), levels_apart p s (row next) v (suc (suc d)) 256 y (omega arith))
      after (no y) = let z : suc (suc d) ≡ 256 = omega (arith, deep) in omega (arith, ap s z)

  pub spot : Spot p next d
  spot =
      let t = turn in
      let s1 : row next (d + 1) ≡ row next (suc d) = (let e : d + 1 ≡ suc d = omega arith in ap (row next) e) in
      let s2 : row next (d + 2) ≡ row next (suc (suc d)) = (let e : d + 2 ≡ suc (suc d) = omega arith in ap (row next) e) in
      let a = v.low (suc d) (omega (arith, deep)) in
      record {
        deep = deep;
        levels = g.levels;
        some = t.some;
        parent = omega (arith, t.parent, t.room, t.last, a, st.grown.fits);
        leaf = omega (arith, t.room, t.last, st.grown.fits);
        fits = omega (arith, t.room, t.last, st.grown.small);
        small = omega (arith, s2, upper);
        few = omega (arith, count_is p (row next d - 1), t.few, st.grown.small);
      }
    where
      upper : row next (suc (suc d)) ≤ 1048576
      upper = go (dec_lt (suc (suc d)) 256)
        where
          go : Dec (suc (suc d) < 256) → row next (suc (suc d)) ≤ 1048576
          go (yes y) = omega (arith, levels_apart p s (row next) v (suc (suc d)) 256 y (omega arith), st.grown.small)
          go (no y) = let z : suc (suc d) ≡ 256 = omega (arith, deep) in omega (arith, ap (row next) z, st.grown.top, st.grown.small)

  asks : Asks p s (row next) held w d (row next d - 1)
  asks = record {
    grown = st.grown;
    path = st.path;
    parent = omega (arith, q.high);
    inside = more;
    short = f.word.short;
    legal = f.word.legal d more;
    first = λ e. edges.start;
    above = st.above more;
    room = turn.room;
  }
    where
      edges : Edges w
      edges = subst Edges f.word.trimmed (edges_of w (omega (arith, ap length f.word.trimmed, f.word.some)))

  module _ (p' next' : List ℕ) (e : p' ≡ one_more (leaf_cells p (row next (d + 1)) (get_or w d 0) (row next (d + 2))) (row next d - 1)) (e' : next' ≡ set next (d + 1) (row next (d + 1) + 1)) where
    done : Done p p' (row next) (row next') d (row next d - 1) (get_or w d 0)
    done =
        let t = turn in
        let h = spot in
        let s1 : d + 1 ≡ suc d = omega arith in
        let n : row next (suc d) ≡ row next (d + 1) = ap (row next) (sym s1) in
        leaf_done p next d (row next d - 1) (get_or w d 0) p' next' (omega (arith, q.high)) deep g.levels h.parent h.leaf
        (λ z. omega (arith, t.parent, v.low (suc d) (omega (arith, deep)), q.high))
        (ap (count_at p) (sym n) ∙ (st.grown.blank (row next (suc d)) (λ k few a c. free k few a c)).count) e e'
      where
        free : (k : ℕ) → k ≤ 256 → s k ≤ row next (suc d) → row next (suc d) < row next k → ⊥
        free k few a c = go (dec_lt k (suc d)) (dec_lt (suc d) k)
          where
            go : Dec (k < suc d) → Dec (suc d < k) → ⊥
            go (yes y) z = omega (arith, levels_apart p s (row next) v k (suc d) y (omega (arith, deep)), v.low (suc d) (omega (arith, deep)))
            go (no y) (yes z) = behind (dec_lt (suc (suc d)) k)
              where
                behind : Dec (suc (suc d) < k) → ⊥
                behind (yes t) = omega (arith, levels_apart p s (row next) v (suc (suc d)) k t few, v.low (suc (suc d)) (omega (arith, deep)), turn.room)
                behind (no t) = let o : k ≡ suc (suc d) = omega arith in omega (arith, ap s o, turn.room)
            go (no y) (no z) = let o : k ≡ suc d = omega arith in omega (arith, ap (row next) o)

    pub state_next : State s held p' (row next') w l (suc d)
    state_next =
        let b = row next d - 1 in
        let gr = leaf_grown p s (row next) held w d b asks p' (row next') done in
        let here : row next (suc d) ≡ row next' (suc d) - 1 = omega (arith, done.up) in
        let c = no_child p s (row next) held w d b asks p' (row next') done in
        let m = no_mark p s (row next) held w d b asks p' (row next') done in
        record {
          grown = subst (λ (k : ℕ). Grown p' s (row next') held k) here gr;
          path = leaf_path p s (row next) held w d b asks p' (row next') done;
          above = λ h k i a.
              let t = gr.laid.tip (suc d) (row next (suc d)) (omega (arith, deep)) (omega (arith, v.low (suc d) (omega (arith, deep)))) (omega (arith, done.up)) in
              absurd (omega (arith, ap (first_at p') here));
          clean = λ h. (ap (count_at p') (sym here) ∙ c, ap (mark_at p') (sym here) ∙ m);
        }

-- one turn
pub going_next : {p₀ next₀ w : List ℕ} {l mark : ℕ} {p next : List ℕ} {d : ℕ} → Going p₀ next₀ w l mark p next d → d < length w → (p' next' : List ℕ)
    → p' ≡ one_more (leaf_cells p (row next (d + 1)) (get_or w d 0) (row next (d + 2))) (row next d - 1) → next' ≡ set next (d + 1) (row next (d + 1) + 1)
    → d < 255 → Going p₀ next₀ w l mark p' next' (d + 1)
going_next {p₀} {next₀} {w} {l} {mark} {p} {next} {d} g more p' next' e e' deep = record {
  low = omega (arith, g.low);
  high = omega arith;
  long = ap length e ∙ length-set (leaf_cells p (row next (d + 1)) (get_or w d 0) (row next (d + 2))) (8 * (row next d - 1) + 2) _ ∙ leaf_long p (row next (d + 1)) (get_or w d 0) (row next (d + 2)) ∙ g.long;
  beside = both_change g.beside (subst (Beside p) (sym e) (leaf_beside p (row next (d + 1)) (get_or w d 0) (row next (d + 2)) (row next d - 1)));
  levels = ap length e' ∙ length-set next (d + 1) (row next (d + 1) + 1) ∙ g.levels;
  state = λ s before held f. let z : suc d ≡ d + 1 = omega arith in subst (λ (k : ℕ). State s held p' (row next') w l k) z (state_next g more s before held f p' next' e e');
  raised = λ k a c. raise k a c (dec_lt k (d + 1));
  kept = λ k n. other k (λ z. n (omega (arith, g.low)) (omega arith)) ∙ g.kept k (λ a c. n a (omega arith));
}
  where
    other : (k : ℕ) → (k ≡ d + 1 → ⊥) → row next' k ≡ row next k
    other k n = ap (λ (q : List ℕ). row q k) e' ∙ get_or-set_other next (d + 1) k (row next (d + 1) + 1) 0 n

    raise : (k : ℕ) → l < k → k ≤ d + 1 → Dec (k < d + 1) → row next' k ≡ suc (row next₀ k)
    raise k a c (yes y) = other k (omega arith) ∙ g.raised k a (omega arith)
    raise k a c (no y) =
        let z : k ≡ d + 1 = omega arith in
        let t : row next (d + 1) ≡ row next₀ (d + 1) = g.kept (d + 1) (λ u v. omega arith) in
        let n : row next (d + 1) + 1 ≡ suc (row next₀ (d + 1)) = omega arith in
        ap (row next') z ∙ ap (λ (q : List ℕ). row q (d + 1)) e' ∙ get_or-set_same next (d + 1) (row next (d + 1) + 1) 0 (omega (arith, g.levels)) ∙ n ∙ ap (λ (q : ℕ). suc (row next₀ q)) (sym z)

-- where the word ends
pub record End (p next : List ℕ) (d : ℕ) : Type 0 where
  pub some : 1 ≤ row next d
  pub past : 0 < row next d - 1
  pub inside : 8 * row next d ≤ length p + 4
  pub small : row next d ≤ 1048576

pub end_of : {p₀ next₀ w : List ℕ} {l mark : ℕ} {p next : List ℕ} {d : ℕ} → Going p₀ next₀ w l mark p next d → length w ≤ d → Puts p₀ next₀ w l mark → End p next d
end_of {p₀} {next₀} {w} {l} {mark} {p} {next} {d} g all h =
    let f = h.may in
    let st = g.state h.s h.before h.held f in
    let v = st.grown.laid in
    let q = last p h.s (row next) v w d d st.path (omega arith) g.high f.word.short in
    let a = levels_apart p h.s (row next) v 0 d (omega (arith, f.word.some)) (omega (arith, f.word.short, g.high)) in
    let b = levels_apart p h.s (row next) v d 256 (omega (arith, f.word.short, g.high)) (omega arith) in
    record { some = q.high; past = omega (arith, q.low, v.root); inside = omega (arith, st.grown.fits); small = omega (arith, st.grown.small) }

-- after the loop
going_done : {p₀ next₀ w : List ℕ} {l mark : ℕ} {p next : List ℕ} {d : ℕ} → Going p₀ next₀ w l mark p next d → length w ≤ d → End p next d → (p' : List ℕ)
    → p' ≡ set p (8 * (row next d - 1) + 3) mark → Put p₀ next₀ w l mark p' next
going_done {p₀} {next₀} {w} {l} {mark} {p} {next} {d} g all end p' e = record {
  built = λ s before held f. done s before held f;
  beside = both_change g.beside (subst (Beside p) (sym e) (mark_beside p (row next d - 1) mark end.past));
  raised = λ k a c. g.raised k a (omega arith);
  kept = λ k n. g.kept k (λ a c. n a (omega (arith, g.high)));
  levels = g.levels;
}
  where
    long : d ≡ length w
    long = omega (arith, g.high)

    done : (s : ℕ → ℕ) (before : List ℕ) (held : Terms) → Fits s before held p₀ next₀ w l mark → Built p' s (row next) w (with_term w (mark - 1) held)
    done s before held f =
        record {
          grown = mark_grown p s (row next) held w b (mark - 1) gr path here f.word.some f.word.short edges.stop (omega (arith, f.upto)) clean.1 p' sets;
          path = mark_path p s (row next) held w b (mark - 1) gr path here f.word.some f.word.short edges.stop (omega (arith, f.upto)) clean.1 p' sets;
          short = f.word.short;
          ends = λ i q. let z : i ≡ b = omega (arith, here) in ap (count_at p') z ∙ sets.count_same b ∙ clean.0;
        }
      where
        st : State s held p (row next) w l d
        st = g.state s before held f

        b : ℕ
        b = row next d - 1

        gr : Grown p s (row next) held b
        gr = st.grown

        path : Path p (row next) w (length w)
        path = subst (λ (k : ℕ). Path p (row next) w k) long st.path

        here : suc b ≡ row next (length w)
        here = let z : suc (row next d - 1) ≡ row next d = omega (arith, end.some) in z ∙ ap (row next) long

        clean : (count_at p b ≡ 0) × (mark_at p b ≡ 0)
        clean = st.clean (omega (arith, f.above.inside))

        edges : Edges w
        edges = subst Edges f.word.trimmed (edges_of w (omega (arith, ap length f.word.trimmed, f.word.some)))

        sets : Sets p p' b (suc (mark - 1))
        sets =
            let z : suc (mark - 1) ≡ mark = omega (arith, f.marks) in
            subst (λ (m : ℕ). Sets p p' b m) (sym z) (mark_set p b mark p' end.past (omega (arith, end.some, end.inside)) e)

pub going_end : {p₀ next₀ w : List ℕ} {l mark : ℕ} {p next : List ℕ} {d : ℕ} → Going p₀ next₀ w l mark p next d → length w ≤ d → End p next d → Put p₀ next₀ w l mark (set p (8 * (row next d - 1) + 3) mark) next
going_end {p₀} {next₀} {w} {l} {mark} {p} {next} {d} g all end = going_done g all end (set p (8 * (row next d - 1) + 3) mark) refl

-- the same at the word's end
module _ {p₀ next₀ w : List ℕ} {l mark : ℕ} {p next : List ℕ} {d : ℕ} (g : Going p₀ next₀ w l mark p next d) (all : length w ≤ d) (h : Puts p₀ next₀ w l mark) where
  here : d ≡ length w
  here = omega (arith, g.high)

  pub end_here : End p next (length w)
  end_here = subst (λ (z : ℕ). End p next z) here (end_of g all h)

  pub put_here : Put p₀ next₀ w l mark (set p (8 * (row next (length w) - 1) + 3) mark) next
  put_here = subst (λ (z : ℕ). Put p₀ next₀ w l mark (set p (8 * (row next z - 1) + 3) mark) next) here (going_end g all (end_of g all h))
