-- The alternatives of NON_THAI_PATTERN, a test at a time. Assumes nothing.
use Prim.Native.Nat.{ℕ, zero, suc, ◌+◌, ◌-◌, ◌≤◌, ◌<◌}
use native.Mathlib.Omega.{arith}
use mathlib.Core.Path.{◌≡◌, refl, sym, ◌∙◌, ap}
use mathlib.Core.Bool.{Bool, true, false, cond, ◌||◌}
use mathlib.Core.List.{List, [], ◌∷◌}
use lib.ListN.{length, get_or, take, drop, length-drop}
use lib.Seq.{drop-drop}
use lib.Dec.{ltb}
use borrow.Author.Tests.{lt-ltb, le-ltb, le-leb, lt-leb, eq-eqb, ne_eqb}
use Rattle.std.specs.List.{prefix_len, take_while}
use Rattle.std.proofs.lemmas.List.Folds.{length-prefix_len}
use Rattle.lists.specs.Scans.{leading}
use Rattle.lists.proofs.Parts.{tail_drop}
use Rattle.newmm_rules.specs.NonThai.{is_letter, is_digit, is_thai_digit, is_blank, group_of, groups, number, line_end, first_match, non_thai}
use Rattle.newmm_rules.proofs.Spans.{group_inside, non_thai_inside}

-- the characters at the front, as std counts them
leading_prefix : (p : ℕ → Bool) (s : List ℕ) → leading p s ≡ prefix_len p s
unfolding leading
leading_prefix p [] = refl
leading_prefix p (x ∷ s) = go (leading_prefix p s) (p x)
  where
    go : leading p s ≡ prefix_len p s → (b : Bool) → cond b (suc (leading p s)) 0 ≡ cond b (1 + prefix_len p s) 0
    go ih true = omega (arith, ih)
    go ih false = refl

pub run_is_leading : (p : ℕ → Bool) (s : List ℕ) → length (take_while p s) ≡ leading p s
run_is_leading p s = length-prefix_len p s ∙ sym (leading_prefix p s)

-- ---- all of them

-- the first i characters are digits and groups
pub record Through (digit : ℕ → Bool) (s : List ℕ) (i : ℕ) : Type 0 where
  pub inside : i ≤ length s
  pub turns : ℕ
  pub enough : length s ≤ i + turns
  pub rest : number digit s ≡ i + groups turns digit (drop i s)

module _ (digit : ℕ → Bool) (s : List ℕ) where
  pub no_digit : (k : ℕ) → k ≡ leading digit s → k ≡ 0 → 0 ≡ number digit s
  unfolding number
  no_digit k h e = simp (eq-eqb (leading digit s) 0 (sym h ∙ e))

  pub some_digits : (k : ℕ) → k ≡ leading digit s → k ≤ length s → (k ≡ 0 → ⊥) → Through digit s k
  unfolding number
  some_digits k h l n =
      record {
        inside = l;
        turns = length s;
        enough = omega arith;
        rest = simp (ne_eqb (leading digit s) 0 (λ e. n (h ∙ e)), ← h);
      }

  groups_stop : (f : ℕ) (l : List ℕ) → group_of digit l ≡ 0 → groups f digit l ≡ 0
  unfolding groups
  groups_stop zero l e = refl
  groups_stop (suc f) l e = simp (eq-eqb (group_of digit l) 0 e)

  groups_on : (f : ℕ) (l : List ℕ) → (group_of digit l ≡ 0 → ⊥) → groups (suc f) digit l ≡ group_of digit l + groups f digit (drop (group_of digit l) l)
  unfolding groups
  groups_on f l n = simp (ne_eqb (group_of digit l) 0 n)

  pub through_stop : {i : ℕ} (k : ℕ) → Through digit s i → k ≡ group_of digit (take (length s - i) (drop i s)) → k ≡ 0 → i ≡ number digit s
  through_stop {i} k t h e =
      let z : group_of digit (drop i s) ≡ 0 = sym (ap (group_of digit) (tail_drop s i)) ∙ sym h ∙ e in
      omega (arith, t.rest, groups_stop t.turns (drop i s) z)

  more_turns : (f : ℕ) (l : List ℕ) → length l ≤ f → (group_of digit l ≡ 0 → ⊥) → groups f digit l ≡ group_of digit l + groups (f - 1) digit (drop (group_of digit l) l)
  more_turns zero l h n = absurd (n (omega (arith, group_inside digit l)))
  more_turns (suc f) l h n = let e : suc f - 1 ≡ f = omega arith in groups_on f l n ∙ ap (λ (j : ℕ). group_of digit l + groups j digit (drop (group_of digit l) l)) (sym e)

  pub through_more : {i : ℕ} (k : ℕ) → Through digit s i → k ≡ group_of digit (take (length s - i) (drop i s)) → (k ≡ 0 → ⊥) → Through digit s (i + k)
  through_more {i} k t h n =
      let z : group_of digit (drop i s) ≡ k = sym (ap (group_of digit) (tail_drop s i)) ∙ sym h in
      let m = more_turns t.turns (drop i s) (omega (arith, length-drop i s, t.enough)) (λ e. n (sym z ∙ e)) in
      let d : groups (t.turns - 1) digit (drop (group_of digit (drop i s)) (drop i s)) ≡ groups (t.turns - 1) digit (drop (i + k) s) =
      ap (λ (l : List ℕ). groups (t.turns - 1) digit l) (drop-drop (group_of digit (drop i s)) i s ∙ ap (λ (j : ℕ). drop (i + j) s) z)
      in
      record {
        inside = omega (arith, t.inside, group_inside digit (drop i s), length-drop i s);
        turns = t.turns - 1;
        enough = omega (arith, t.enough);
        rest = omega (arith, t.rest);
      }

-- ---- the first alternative that matches, by the first character

-- x is the first character
pub record First (s : List ℕ) (x : ℕ) : Type 0 where
  pub some : length s ≡ 0 → ⊥
  pub is : x ≡ get_or s 0 0

-- as std tells of the first element
pub first_is : (s : List ℕ) (x : ℕ) → (0 < length s) × ((d : ℕ) → x ≡ get_or s 0 d) → First s x
first_is s x h = record { some = λ e. omega (arith, h.0); is = h.1 0 }

run_no : (p : ℕ → Bool) (s : List ℕ) (x : ℕ) → First s x → p x ≡ false → leading p s ≡ 0
unfolding leading
run_no p [] x f e = refl
run_no p (y ∷ s) x f e = let h : p y ≡ false = sym (ap p f.is) ∙ e in simp h

run_yes : (p : ℕ → Bool) (s : List ℕ) (x : ℕ) → First s x → p x ≡ true → leading p s ≡ 0 → ⊥
unfolding leading
run_yes p [] x f e z = f.some refl
run_yes p (y ∷ s) x f e z =
    let h : p y ≡ true = sym (ap p f.is) ∙ e in
    let k : suc (leading p s) ≡ 0 = simp h at z in
    omega arith

number_no : (p : ℕ → Bool) (s : List ℕ) (x : ℕ) → First s x → p x ≡ false → number p s ≡ 0
unfolding number
number_no p s x f e = simp (eq-eqb (leading p s) 0 (run_no p s x f e))

number_yes : (p : ℕ → Bool) (s : List ℕ) (x : ℕ) → First s x → p x ≡ true → number p s ≡ 0 → ⊥
unfolding number
number_yes p s x f e z =
    let r = run_yes p s x f e in
    let k : leading p s + groups (length s) p (drop (leading p s) s) ≡ 0 = simp (ne_eqb (leading p s) 0 r) at z in
    r (omega arith)

pass : (m : ℕ) (ms : List ℕ) → m ≡ 0 → first_match (m ∷ ms) ≡ first_match ms
unfolding first_match
pass m ms e = simp (eq-eqb m 0 e)

stop : (m : ℕ) (ms : List ℕ) → (m ≡ 0 → ⊥) → m ≡ first_match (m ∷ ms)
unfolding first_match
stop m ms n = simp (ne_eqb m 0 n)

none_left : first_match [] ≡ 0
unfolding first_match
none_left = refl

pub no_text : (s : List ℕ) → length s ≤ 0 → 0 ≡ non_thai s
no_text s e = omega (arith, non_thai_inside s)

pub no_match : (s : List ℕ) → length s ≤ 0 → false ≡ ltb 0 (non_thai s)
no_match s e = sym (le-ltb 0 (non_thai s) (omega (arith, no_text s e)))

-- what a chain of || comes to
pub or_yes : {v a : Bool} (b : Bool) → v ≡ a → a ≡ true → v ≡ (a || b)
or_yes b e h = e ∙ h ∙ sym (ap (λ (t : Bool). t || b) h)

pub or_no : {v a b : Bool} → a ≡ false → v ≡ b → v ≡ (a || b)
or_no {b = b} h e = e ∙ sym (ap (λ (t : Bool). t || b) h)

module _ (s : List ℕ) (x : ℕ) (f : First s x) where
  pub by_letters : is_letter x ≡ true → leading is_letter s ≡ non_thai s
  unfolding non_thai
  by_letters l = stop _ _ (run_yes is_letter s x f l)

  module _ (no_l : is_letter x ≡ false) where
    past_letters : non_thai s ≡ first_match (number is_digit s ∷ number is_thai_digit s ∷ leading is_blank s ∷ line_end s ∷ [])
    unfolding non_thai
    past_letters = pass _ _ (run_no is_letter s x f no_l)

    pub by_digits : is_digit x ≡ true → number is_digit s ≡ non_thai s
    by_digits d = stop _ _ (number_yes is_digit s x f d) ∙ sym past_letters

    module _ (no_d : is_digit x ≡ false) where
      past_digits : non_thai s ≡ first_match (number is_thai_digit s ∷ leading is_blank s ∷ line_end s ∷ [])
      past_digits = past_letters ∙ pass _ _ (number_no is_digit s x f no_d)

      by_thai_digits : is_thai_digit x ≡ true → number is_thai_digit s ≡ non_thai s
      by_thai_digits d = stop _ _ (number_yes is_thai_digit s x f d) ∙ sym past_digits

      module _ (no_t : is_thai_digit x ≡ false) where
        past_thai_digits : non_thai s ≡ first_match (leading is_blank s ∷ line_end s ∷ [])
        past_thai_digits = past_digits ∙ pass _ _ (number_no is_thai_digit s x f no_t)

        by_blanks' : is_blank x ≡ true → leading is_blank s ≡ non_thai s
        by_blanks' b = stop _ _ (run_yes is_blank s x f b) ∙ sym past_thai_digits

        by_line_end' : is_blank x ≡ false → line_end s ≡ non_thai s
        by_line_end' b = last (line_end s) ∙ sym (past_thai_digits ∙ pass _ _ (run_no is_blank s x f b))
          where
            last : (m : ℕ) → m ≡ first_match (m ∷ [])
            last zero = sym (pass 0 [] refl ∙ none_left)
            last (suc m) = stop (suc m) [] (λ e. omega arith)

      module _ (low : x ≤ 0x7A) where
        no_thai : is_thai_digit x ≡ false
        no_thai = simp (lt-leb 0xE50 x (omega arith))

        pub by_blanks : is_blank x ≡ true → leading is_blank s ≡ non_thai s
        by_blanks b = by_blanks' no_thai b

        pub by_line_end : is_blank x ≡ false → line_end s ≡ non_thai s
        by_line_end b = by_line_end' no_thai b

  -- above z only the Thai digits are in the pattern
  module _ (high : 0x7A < x) where
    no_letter : is_letter x ≡ false
    no_letter = simp (ne_eqb x 0x2D (λ e. omega arith), lt-leb x 0x7A high, lt-leb x 0x5A (omega arith), le-leb 0x61 x (omega arith), le-leb 0x41 x (omega arith))

    no_digit_here : is_digit x ≡ false
    no_digit_here = simp (le-leb 0x30 x (omega arith), lt-leb x 0x39 (omega arith))

    no_blank : is_blank x ≡ false
    no_blank = simp (ne_eqb x 0x20 (λ e. omega arith), ne_eqb x 0x9 (λ e. omega arith))

    no_line : (t : List ℕ) → First t x → 0 ≡ line_end t
    no_line [] k = refl
    no_line (y ∷ []) k = simp (ne_eqb y 0xA (λ e. omega (arith, k.is)))
    no_line (y ∷ z ∷ t) k = simp (ne_eqb y 0xA (λ e. omega (arith, k.is)), ne_eqb y 0xD (λ e. omega (arith, k.is)))

    pub high_digits : is_thai_digit x ≡ true → number is_thai_digit s ≡ non_thai s
    high_digits d = by_thai_digits no_letter no_digit_here d

    pub high_none : is_thai_digit x ≡ false → 0 ≡ non_thai s
    high_none d = no_line s f ∙ by_line_end' no_letter no_digit_here d no_blank

  -- ---- whether there is a match

  some_match : (k : ℕ) → (k ≡ 0 → ⊥) → k ≡ non_thai s → true ≡ ltb 0 (non_thai s)
  some_match k n e = sym (lt-ltb 0 (non_thai s) (omega arith))

  pub high_starts : (t : Bool) → 0x7A < x → t ≡ is_thai_digit x → t ≡ ltb 0 (non_thai s)
  high_starts true h e = some_match _ (number_yes is_thai_digit s x f (sym e)) (high_digits h (sym e))
  high_starts false h e = sym (le-ltb 0 (non_thai s) (omega (arith, high_none h (sym e))))

  letter_starts : is_letter x ≡ true → true ≡ ltb 0 (non_thai s)
  letter_starts l = some_match _ (run_yes is_letter s x f l) (by_letters l)

  pub low_starts : x ≤ 0x7A → ((is_letter x || is_digit x) || is_blank x) ≡ true → true ≡ ltb 0 (non_thai s)
  low_starts low e = letter (is_letter x) refl
    where
      blank : is_letter x ≡ false → is_digit x ≡ false → true ≡ ltb 0 (non_thai s)
      blank l d = let b : is_blank x ≡ true = simp (l, d) at e in some_match _ (run_yes is_blank s x f b) (by_blanks l d low b)

      digit : is_letter x ≡ false → (b : Bool) → is_digit x ≡ b → true ≡ ltb 0 (non_thai s)
      digit l true d = some_match _ (number_yes is_digit s x f d) (by_digits l d)
      digit l false d = blank l d

      letter : (b : Bool) → is_letter x ≡ b → true ≡ ltb 0 (non_thai s)
      letter true l = letter_starts l
      letter false l = digit l (is_digit x) refl

  pub line_starts : (k : ℕ) → x ≤ 0x7A → ((is_letter x || is_digit x) || is_blank x) ≡ false → k ≡ line_end s → ltb 0 k ≡ ltb 0 (non_thai s)
  line_starts k low e h = letter (is_letter x) refl
    where
      digit : is_letter x ≡ false → (b : Bool) → is_digit x ≡ b → ltb 0 k ≡ ltb 0 (non_thai s)
      digit l true d = cc (simp (l, d) at e)
      digit l false d = let b : is_blank x ≡ false = simp (l, d) at e in ap (ltb 0) (h ∙ by_line_end l d low b)

      letter : (b : Bool) → is_letter x ≡ b → ltb 0 k ≡ ltb 0 (non_thai s)
      letter true l = cc (simp l at e)
      letter false l = digit l (is_digit x) refl
