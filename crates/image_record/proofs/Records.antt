-- What the tests on a record tell. Assumes nothing.
use mathlib.Core.Path.{◌≡◌, refl, sym, ap, ◌∙◌}
use mathlib.Core.Bool.{true, false}
use mathlib.Core.List.{List}
use Prim.Native.Nat.{ℕ, ◌+◌, ◌-◌, ◌≤◌, ◌<◌}
use native.Mathlib.Omega.{arith}
use borrow.Author.Tests.{le-leb, lt-leb, eq-eqb, ne_eqb}
use lib.ListN.{length, take, drop, length-drop}
use lib.Seq.{drop-drop, take-take, length-take-le}
use Rattle.lists.proofs.Parts.{drop_take}
use Rattle.image_rules.specs.Records.{value}
use Rattle.image_rules.specs.Reading.{size_at, whole, kind_at, body_at, behind, word_bytes, term_of, is_word, is_last}
use Rattle.image_record.specs.inner.Records.{Entry, End, Neither}

module _ (s : List ℕ) (at : ℕ) (l : at ≤ length s) where
  b : List ℕ
  b = drop at s

  long : length (drop at s) ≡ length s - at
  long = length-drop at s

  -- the header or the body is cut off
  torn : (b : List ℕ) → whole b ≡ false → Neither b
  unfolding is_word is_last
  torn b e = record { no_word = λ before. simp e; no_last = λ m. simp e }

  pub short : length s - at < 4 → Neither (drop at s)
  unfolding whole
  short h = torn (drop at s) (simp (lt-leb 4 (length (drop at s)) (omega (arith, long))))

  module _ (h4 : 4 ≤ length s - at) (size : ℕ) (is : size ≡ value (take 4 (drop at s))) where
    size_is : size_at (drop at s) ≡ size
    unfolding size_at
    size_is = sym is

    pub small : size < 2 → Neither (drop at s)
    unfolding whole
    small h = torn (drop at s) (simp (le-leb 4 (length (drop at s)) (omega (arith, long)), lt-leb 2 (size_at (drop at s)) (omega (arith, size_is))))

    module _ (h2 : 2 ≤ size) where
      pub cut : length s - at - 4 < size → Neither (drop at s)
      unfolding whole
      cut h =
          torn (drop at s) (simp (
            le-leb 4 (length (drop at s)) (omega (arith, long)),
            le-leb 2 (size_at (drop at s)) (omega (arith, size_is)),
            lt-leb (4 + size_at (drop at s)) (length (drop at s)) (omega (arith, size_is, long)),
          ))

      module _ (hs : size ≤ length s - at - 4) (kind : ℕ) (k : kind ≡ value (take 2 (drop (at + 4) s))) where
        there : whole (drop at s) ≡ true
        unfolding whole
        there =
            simp (
              le-leb 4 (length (drop at s)) (omega (arith, long)),
              le-leb 2 (size_at (drop at s)) (omega (arith, size_is)),
              le-leb (4 + size_at (drop at s)) (length (drop at s)) (omega (arith, size_is, long)),
            )

        kind_is : kind_at (drop at s) ≡ kind
        unfolding kind_at
        kind_is = ap (λ (q : List ℕ). value (take 2 q)) (drop-drop 4 at s) ∙ sym k

        body_is : body_at (drop at s) ≡ take (size - 2) (drop (at + 6) s)
        unfolding body_at
        body_is = ap (λ (n : ℕ). take (n - 2) (drop 6 (drop at s))) size_is ∙ ap (take (size - 2)) (drop-drop 6 at s)

        body_long : length (body_at (drop at s)) ≡ size - 2
        body_long = ap length body_is ∙ length-take-le (size - 2) (drop (at + 6) s) (omega (arith, length-drop (at + 6) s))

        -- kind 0
        zero_no_word : kind ≡ 0 → (before : List ℕ) → is_word before (drop at s) ≡ false
        unfolding is_word
        zero_no_word z before = simp (there, ne_eqb (kind_at (drop at s)) 1 (omega (arith, kind_is)))

        pub last_size : kind ≡ 0 → (size ≡ 6 → ⊥) → Neither (drop at s)
        unfolding is_last
        last_size z n = record {
          no_word = zero_no_word z;
          no_last = λ m. simp (there, eq-eqb (kind_at (drop at s)) 0 (kind_is ∙ z), ne_eqb (length (body_at (drop at s))) 4 (omega (arith, body_long)));
        }

        pub last_is : kind ≡ 0 → size ≡ 6 → (n : ℕ) → n ≡ value (take 4 (drop (at + 6) s)) → End s at n
        unfolding is_last
        last_is z e n v =
            let f : 6 - 2 ≡ 4 = omega arith in
            let q : value (body_at (drop at s)) ≡ n = ap value (body_is ∙ ap (λ (i : ℕ). take (i - 2) (drop (at + 6) s)) e) ∙ sym v in
            record {
              no_word = zero_no_word z;
              is = λ m. simp (there, eq-eqb (kind_at (drop at s)) 0 (kind_is ∙ z), eq-eqb (length (body_at (drop at s))) 4 (omega (arith, body_long)), q);
              inside = omega arith;
            }

        -- no kind
        pub no_kind : (kind ≡ 0 → ⊥) → (kind ≡ 1 → ⊥) → Neither (drop at s)
        unfolding is_word is_last
        no_kind z o = record {
          no_word = λ before. simp (there, ne_eqb (kind_at (drop at s)) 1 (λ e. o (sym kind_is ∙ e)));
          no_last = λ m. simp (there, ne_eqb (kind_at (drop at s)) 0 (λ e. z (sym kind_is ∙ e)));
        }

        -- kind 1
        one_no_last : kind ≡ 1 → (m : ℕ) → is_last m (drop at s) ≡ false
        unfolding is_last
        one_no_last o m = simp (there, ne_eqb (kind_at (drop at s)) 0 (omega (arith, kind_is)))

        pub word_small : kind ≡ 1 → size < 5 → Neither (drop at s)
        unfolding is_word
        word_small o h = record {
          no_word = λ before. simp (there, eq-eqb (kind_at (drop at s)) 1 (kind_is ∙ o), lt-leb 3 (length (body_at (drop at s))) (omega (arith, body_long)));
          no_last = one_no_last o;
        }

        pub word_is : kind ≡ 1 → 5 ≤ size → (c : ℕ) → c ≡ value (take 2 (drop (at + 6) s)) → c ≤ 65535 → Entry s at c (at + 8) (at + 4 + size)
        unfolding is_word term_of word_bytes behind
        word_is o h c v few = record {
          is = λ before. simp (there, eq-eqb (kind_at (drop at s)) 1 (kind_is ∙ o), le-leb 3 (length (body_at (drop at s))) (omega (arith, body_long)));
          no_last = one_no_last o;
          class = v ∙ ap value (sym (ap (take 2) body_is ∙ take-take 2 (size - 2) (drop (at + 6) s) (omega arith)));
          few = few;
          word =
              let n : at + 4 + size - (at + 8) ≡ size - 2 - 2 = omega arith in
              let m : at + 8 ≡ at + 6 + 2 = omega arith in
              ap (λ (k : ℕ). take k (drop (at + 8) s)) n ∙ ap (λ (k : ℕ). take (size - 2 - 2) (drop k s)) m ∙ ap (take (size - 2 - 2)) (sym (drop-drop 2 (at + 6) s))
              ∙ sym (drop_take 2 (size - 2) (drop (at + 6) s)) ∙ ap (drop 2) (sym body_is);
          low = refl;
          order = omega arith;
          inside = omega arith;
          next = (let e : at + 4 + size ≡ at + (4 + size) = omega arith in e ∙ ap (λ (k : ℕ). at + (4 + k)) (sym size_is));
          rest = (let e : at + 4 + size ≡ at + (4 + size) = omega arith in ap (λ (k : ℕ). drop k s) e ∙ sym (drop-drop (4 + size) at s) ∙ ap (λ (k : ℕ). drop (4 + k) (drop at s)) (sym size_is));
        }
