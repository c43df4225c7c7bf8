-- The rounds of cutting in parts, whatever is written of a part: as many cells as it has ends.
-- Assumes nothing.
use Prim.Native.Nat.{ℕ, zero, suc, ◌+◌, ◌*◌, ◌-◌, ◌≤◌, ◌<◌}
use native.Mathlib.Omega.{arith}
use mathlib.Core.Path.{◌≡◌, refl, sym, ◌∙◌, ap, subst}
use mathlib.Core.Bool.{Bool, true, false, cond}
use mathlib.Core.List.{List, [], ◌∷◌, ◌++◌, append_assoc, append-nil}
use lib.ListN.{length, get_or, take, drop, length-append, length-take, length-drop}
use lib.Seq.{length-take-le, drop_at, drop-drop, get_or-drop}
use lib.Dec.{ltb}
use borrow.Author.Tests.{lt-ltb, le-ltb}
use Rattle.lists.proofs.Parts.{tail_drop}
use Rattle.char_string_last_space.specs.Spaces.{last_space}
use Rattle.trie_pool.specs.Meaning.{Words}
use Rattle.newmm_rules.specs.Cutting.{Cut}
use Rattle.newmm_rules.specs.declared.Ends.{Ends}
use Rattle.newmm_rules.specs.Parts.{Cutter, sample_of, cut_at, sampled, Runs, last_part, one_part, first, runs_of}
use Rattle.newmm_rules.specs.Modes.{part_ends, edges_of, joined, in_parts}
use Rattle.newmm_rules.proofs.Climbing.{few, no_ends}
use Rattle.newmm_rules.proofs.Samples.{Fits, Right, cut_inside}
use Rattle.newmm_rules.proofs.RunEdges.{edges_two, edges_cons, sample_few}
use Rattle.newmm_answers.specs.Answers.{plain_cut}
use Rattle.newmm_answers.proofs.Plain.{plain_right, plain_edges}
use Rattle.newmm_segment.specs.declared.Part.{Part}
use Rattle.newmm_segment.specs.inner.Written.{Ready, Written, first_of, FirstTold, parts_told, all_told, ends_told}
use Rattle.newmm_segment.proofs.Samples.{by_fits}
use Rattle.newmm_segment.proofs.Behind.{behind}

-- ---- the rounds that are left

abbrev pub told_in : (ℕ → ℕ) → Cutter → (ℕ → List ℕ → List ℕ) → ℕ → List ℕ → ℕ → List ℕ
told_in space plain told k rest start = parts_told told start (runs_of k space plain rest).parts

unfoldable pub edges_in : Cutter → Runs → ℕ
edges_in plain r = edges_of plain (r.samples ++ r.parts)

-- the text before `start` is cut, and what is told of it stands at the front of the row
pub record Until (space : ℕ → ℕ) (plain : Cutter) (told : ℕ → List ℕ → List ℕ) (text old row : List ℕ) (start count edges : ℕ) : Type 0 where
  pub inside : start ≤ length text
  pub done : List ℕ
  pub number : count ≡ length done
  pub row_is : row ≡ done ++ drop count old
  pub few_ends : count ≤ start
  pub rounds : ℕ
  pub enough : length text ≤ start + rounds
  pub told_are : told_in space plain told (length text) text 0 ≡ done ++ told_in space plain told rounds (drop start text) start
  pub edges_are : edges_in plain (runs_of (length text) space plain text) ≡ edges + edges_in plain (runs_of rounds space plain (drop start text))
  pub few_edges : edges ≤ 2091 * start

pub until_none : (space : ℕ → ℕ) (plain : Cutter) (told : ℕ → List ℕ → List ℕ) (text old : List ℕ) → Until space plain told text old old 0 0 0
until_none space plain told text old =
    record {
      inside = omega arith;
      done = [];
      number = refl;
      row_is = refl;
      few_ends = omega arith;
      rounds = length text;
      enough = omega arith;
      told_are = refl;
      edges_are = omega arith;
      few_edges = omega arith;
    }

-- ---- what is lent on

module _ {space : ℕ → ℕ} {plain : Cutter} {told : ℕ → List ℕ → List ℕ} {text old row : List ℕ} {start count edges : ℕ} (u : Until space plain told text old row start count edges) where
  -- the remaining text, and the row from the current count onward
  pub rest_is : take (length text - start) (drop start text) ≡ drop start text
  rest_is = tail_drop text start

  pub lent_is : take (length row - count) (drop count row) ≡ drop count old
  lent_is = tail_drop row count ∙ ap (drop count) u.row_is ∙ drop_at u.done (drop count old) count (sym u.number)

  pub row_long : length text ≤ length old → length row ≡ length old
  row_long h = ap length u.row_is ∙ omega (arith, length-append u.done (drop count old), length-drop count old, u.number, u.few_ends, u.inside)

  pub rest_ready : {pool : List ℕ} → Ready text pool old → Ready (take (length text - start) (drop start text)) pool (take (length row - count) (drop count row))
  rest_ready ready =
      record {
        short = omega (arith, ready.short, ap length rest_is, length-drop start text);
        root_is = ready.root_is;
        room = omega (arith, ready.room, ap length rest_is, length-drop start text, ap length lent_is, length-drop count old, u.few_ends, u.inside);
        blank = λ k. ap (λ (l : List ℕ). get_or l k 0) lent_is ∙ get_or-drop count old k 0 ∙ ready.blank (count + k);
      }

  pub room_left : {pool : List ℕ} → Ready text pool old → (count ≤ length row) × (count ≤ 65535)
  room_left ready = (omega (arith, row_long (omega (arith, ready.room)), u.few_ends, u.inside, ready.room), omega (arith, u.few_ends, u.inside, ready.short))

  pub rest_short : length text ≤ 65535 → start + length (take (length text - start) (drop start text)) ≤ 65535
  rest_short h = omega (arith, ap length rest_is, length-drop start text, u.inside)

  pub rest_size : length (take (length text - start) (drop start text)) ≡ length text - start
  rest_size = ap length rest_is ∙ length-drop start text

-- a space cut and a plain cut, and what is written of a part
pub record Told (space : ℕ → ℕ) (plain : Cutter) (told : ℕ → List ℕ → List ℕ) : Type 0 where
  pub fits : Fits space
  pub right : Right plain
  pub small : (t : List ℕ) → (plain t).edges ≤ 51 * length t
  pub as_many : (start : ℕ) (part : List ℕ) → length (told start part) ≡ length (plain part).ends

pub plainly : (by : ℕ) → 1 ≤ by → by ≤ 101 → (words : Words) (told : ℕ → List ℕ → List ℕ) → ((start : ℕ) (part : List ℕ) → length (told start part) ≡ length (plain_cut words part).ends)
    → Told (λ (i : ℕ). i + by) (plain_cut words) told
plainly by some most words told as_many = record { fits = by_fits by some most; right = plain_right words; small = plain_edges words; as_many = as_many }

module _ (space : ℕ → ℕ) (plain : Cutter) (told : ℕ → List ℕ → List ℕ) (w : Told space plain told) where
  -- ---- one round

  module _ (rest : List ℕ) (long : 140 ≤ length rest) (k : ℕ) where
    abbrev size : ℕ
    size = cut_at space plain rest

    abbrev sample : List (List ℕ)
    sample = sampled (sample_of rest) (last_space (sample_of rest))

    one_round : runs_of (suc k) space plain rest ≡ first sample (take size rest) (runs_of k space plain (drop size rest))
    unfolding runs_of
    one_round = rw (le-ltb (length rest) 140 long) refl

    inside : (0 < size) × (size ≤ length rest)
    inside = let c = cut_inside space plain w.fits w.right rest long in (c.0, omega (arith, c.1))

    told_round : (start : ℕ) → told_in space plain told (suc k) rest start ≡ told start (take size rest) ++ told_in space plain told k (drop size rest) (start + size)
    unfolding parts_told
    told_round start =
        ap (λ (r : Runs). parts_told told start r.parts) one_round
        ∙ ap (λ (n : ℕ). told start (take size rest) ++ parts_told told (start + n) (runs_of k space plain (drop size rest)).parts) (length-take-le size rest inside.1)

    edges_round : edges_in plain (runs_of (suc k) space plain rest) ≡ (edges_of plain sample + (plain (take size rest)).edges) + edges_in plain (runs_of k space plain (drop size rest))
    unfolding edges_in
    edges_round =
        let r = runs_of k space plain (drop size rest) in
        ap (λ (q : Runs). edges_of plain (q.samples ++ q.parts)) one_round
        ∙ omega (
          arith,
          edges_two plain (sample ++ r.samples) (take size rest ∷ r.parts),
          edges_two plain sample r.samples,
          edges_cons plain (take size rest) r.parts,
          edges_two plain r.samples r.parts,
        )

  -- ---- the last part

  no_cells : (l : List ℕ) → length l ≡ 0 → [] ≡ l
  no_cells [] e = refl
  no_cells (x ∷ l) e = absurd (omega arith)

  -- an empty rest is no part, and nothing is written of it
  pub last_told : (l : List ℕ) (start : ℕ) → parts_told told start (last_part l) ≡ told start l
  unfolding parts_told
  last_told [] start = no_cells (told start []) (w.as_many start [] ∙ ap length (no_ends (w.right []) refl))
  last_told (x ∷ l) start = append-nil (told start (x ∷ l))

  module _ (rest : List ℕ) (short : length rest < 140) where
    runs_one_part : (k : ℕ) → runs_of k space plain rest ≡ one_part rest
    unfolding runs_of
    runs_one_part zero = refl
    runs_one_part (suc k) = rw (lt-ltb (length rest) 140 short) refl

    last_edges : (l : List ℕ) → edges_of plain (last_part l) ≡ (plain l).edges
    unfolding edges_of
    last_edges [] = omega (arith, w.small [])
    last_edges (x ∷ l) = omega arith

    told_last : (k start : ℕ) → told_in space plain told k rest start ≡ told start rest
    told_last k start = ap (λ (r : Runs). parts_told told start r.parts) (runs_one_part k) ∙ last_told rest start

    edges_last : (k : ℕ) → edges_in plain (runs_of k space plain rest) ≡ (plain rest).edges
    unfolding edges_in
    edges_last k = ap (λ (r : Runs). edges_of plain (r.samples ++ r.parts)) (runs_one_part k) ∙ last_edges rest

  -- ---- between rounds

  module _ (text old : List ℕ) where
    module _ {row : List ℕ} {start count edges : ℕ} (u : Until space plain told text old row start count edges) where
      abbrev back : List ℕ → List ℕ
      back ys = take count row ++ (ys ++ drop (length row - count) (drop count row))

      -- ---- a round

      module _ (long : 140 ≤ length text - start) (ys : List ℕ) (p : Part)
          (given : FirstTold space plain told (take (length text - start) (drop start text)) start (take (length row - count) (drop count row)) ys p) where
        q : FirstTold space plain told (drop start text) start (drop count old) ys p
        q = subst (λ (t : List ℕ). FirstTold space plain told t start (drop count old) ys p) (rest_is u) (subst (λ (t : List ℕ). FirstTold space plain told (take (length text - start) (drop start text)) start t ys p) (lent_is u) given)

        rest_long : 140 ≤ length (drop start text)
        rest_long = omega (arith, length-drop start text)

        abbrev here : ℕ
        here = cut_at space plain (drop start text)

        abbrev part : List ℕ
        part = first_of space plain (drop start text)

        part_long : length part ≡ here
        part_long = length-take-le here (drop start text) (inside (drop start text) rest_long 0).1

        few_here : p.ends ≤ here
        few_here = omega (arith, q.ends, few (w.right part), part_long)

        few_sampled : edges_of plain (sample (drop start text) rest_long 0) ≤ 2040
        few_sampled = sample_few plain w.small (drop start text)

        on : (n : ℕ) → length text ≤ start + n → told_in space plain told (length text) text 0 ≡ u.done ++ told_in space plain told n (drop start text) start
            → edges_in plain (runs_of (length text) space plain text) ≡ edges + edges_in plain (runs_of n space plain (drop start text)) → Until space plain told text old (back ys) (start + here) (count + p.ends) (edges + p.edges)
        on zero e a b = absurd (omega arith)
        on (suc k) e a b =
            let t = told start part in
            let c = inside (drop start text) rest_long k in
            let d : drop here (drop start text) ≡ drop (start + here) text = drop-drop here start text in
            record {
              inside = omega (arith, c.1, length-drop start text, u.inside);
              done = u.done ++ t;
              number = omega (arith, length-append u.done t, u.number, q.ends, w.as_many start part);
              row_is = behind old row ys u.done t count p.ends u.number u.row_is (q.is ∙ ap (λ (x : List ℕ). t ++ drop p.ends x) (sym (lent_is u) ∙ tail_drop row count));
              few_ends = omega (arith, u.few_ends, few_here);
              rounds = k;
              enough = omega (arith, c.0);
              told_are = a ∙ ap (λ (x : List ℕ). u.done ++ x) (told_round (drop start text) rest_long k start ∙ ap (λ (x : List ℕ). t ++ told_in space plain told k x (start + here)) d)
                  ∙ sym (append_assoc u.done t (told_in space plain told k (drop (start + here) text) (start + here)));
              edges_are = b ∙ omega (arith, edges_round (drop start text) rest_long k, q.edges, ap (λ (x : List ℕ). edges_in plain (runs_of k space plain x)) d);
              few_edges = omega (arith, q.edges, few_sampled, w.small part, part_long, u.few_edges, c.0);
            }

        -- how far it goes
        pub part_most : (0 < p.size) × (start + p.size ≤ length text) × (p.ends ≤ p.size) × (p.edges ≤ 2091 * p.size)
        part_most =
            let c = inside (drop start text) rest_long 0 in
            let e = q.size in (
              omega (arith, c.0),
              omega (arith, c.1, length-drop start text, u.inside),
              omega (arith, few_here),
              omega (arith, q.edges, few_sampled, w.small part, part_long, c.0),
            )

        pub until_more : Until space plain told text old (back ys) (start + p.size) (count + p.ends) (edges + p.edges)
        until_more = subst (λ (x : ℕ). Until space plain told text old (back ys) (start + x) (count + p.ends) (edges + p.edges)) (sym q.size) (on u.rounds u.enough u.told_are u.edges_are)

      -- ---- the end

      module _ (short : length text - start < 140) (ys : List ℕ) (r : Ends)
          (given : Written (record { ends = told start (take (length text - start) (drop start text)); edges = (plain (take (length text - start) (drop start text))).edges }) (take (length row - count) (drop count row)) ys r) where
        abbrev one : List ℕ → Cut
        one t = record { ends = told start t; edges = (plain t).edges }

        w' : Written (one (drop start text)) (drop count old) ys r
        w' = subst (λ (t : List ℕ). Written (one t) (drop count old) ys r) (rest_is u) (subst (λ (t : List ℕ). Written (one (take (length text - start) (drop start text))) t ys r) (lent_is u) given)

        rest_under : length (drop start text) < 140
        rest_under = omega (arith, length-drop start text)

        all_is : all_told space plain told text ≡ record { ends = u.done ++ told start (drop start text); edges = edges + (plain (drop start text)).edges }
        unfolding edges_in
        all_is =
            λ i. record {
              ends = (u.told_are ∙ ap (λ (x : List ℕ). u.done ++ x) (told_last (drop start text) rest_under u.rounds start)) i;
              edges = (u.edges_are ∙ ap (λ (x : ℕ). edges + x) (edges_last (drop start text) rest_under u.rounds)) i;
            }

        pub until_all : Written (all_told space plain told text) old (back ys) (record { ends = count + r.ends; edges = edges + r.edges })
        until_all =
            let t = told start (drop start text) in
            let n : count + r.ends ≡ length (u.done ++ t) = omega (arith, length-append u.done t, u.number, w'.ends) in
            subst (λ (c : Cut). Written c old (back ys) (record { ends = count + r.ends; edges = edges + r.edges })) (sym all_is)
            (record {
              ends = n;
              edges = ap (λ (x : ℕ). edges + x) w'.edges;
              is = behind old row ys u.done t count r.ends u.number u.row_is (w'.is ∙ ap (λ (k : ℕ). t ++ drop k (drop count old)) (sym w'.ends) ∙ ap (λ (x : List ℕ). t ++ drop r.ends x) (sym (lent_is u) ∙ tail_drop row count))
                  ∙ ap (λ (k : ℕ). (u.done ++ t) ++ drop k old) n;
            })

        pub rest_most : (r.ends ≤ length text) × (r.edges ≤ 51 * length text)
        rest_most = (
          omega (arith, w'.ends, w.as_many start (drop start text), few (w.right (drop start text)), length-drop start text),
          omega (arith, w'.edges, w.small (drop start text), length-drop start text),
        )

-- ---- the ends themselves

module _ (words : Words) where
  ends_are : (start : ℕ) (parts : List (List ℕ)) → parts_told (ends_told words) start parts ≡ part_ends (plain_cut words) start parts
  unfolding parts_told part_ends
  ends_are start [] = refl
  ends_are start (part ∷ parts) = ap (λ (l : List ℕ). ends_told words start part ++ l) (ends_are (start + length part) parts)

  pub in_parts_is : (space : ℕ → ℕ) (text : List ℕ) → 140 ≤ length text → all_told space (plain_cut words) (ends_told words) text ≡ in_parts space (plain_cut words) text
  unfolding in_parts
  in_parts_is space text long =
      let r = runs_of (length text) space (plain_cut words) text in
      rw (le-ltb (length text) 140 long) (λ i. record { ends = ends_are 0 r.parts i; edges = edges_of (plain_cut words) (r.samples ++ r.parts) })
