-- The charge of a list is the number of distinct non-empty prefixes of its words: each is counted
-- at the first word that has it. Assumes nothing.
use Prim.Native.Nat.{ℕ, suc, ◌+◌, ◌-◌, ◌≤◌}
use native.Mathlib.Omega.{arith}
use mathlib.Core.Path.{◌≡◌, refl, sym, ap, subst, ◌∙◌}
use mathlib.Core.Bool.{Bool, true, false, cond}
use mathlib.Core.List.{List, [], ◌∷◌, ◌++◌}
use mathlib.Core.Logic.{◌⊎◌, inl, inr}
use mathlib.Core.Option.{some}
use borrow.Author.Tests.{ltb-true}
use lib.ListN.{length, length-append}
use Rattle.trie_pool.specs.Meaning.{same, is_some, words_in}
use Rattle.trie_pool.specs.Listing.{Member, Distinct, Number, Prefix}
use Rattle.trie_pool.proofs.Sets.{same_true, same_self}
use Rattle.trie_pool.proofs.With.{in_either, in_left, in_right, both_distinct}
use Rattle.image_rules.specs.Records.{Term}
use Rattle.image_rules.specs.Order.{below, common}
use Rattle.image_rules.specs.Lists.{Rising, terms_in, charge_from}
use Rattle.trie_pool.proofs.Rules.{clash}
use Rattle.image_rules.proofs.Order.{Two, one, other, two, common_nil, common_none, common_same, common_apart}
use Rattle.image_rules.proofs.Order.{below_nil, below_same, below_apart, below_trans}
use Rattle.image_rules.proofs.Lists.{no_term, terms_first}
use Rattle.theorems_images.specs.Images.{ChargeIs}

abbrev hd : List ℕ → ℕ
hd [] = 0
hd (x ∷ v) = x

abbrev tl : List ℕ → List ℕ
tl [] = []
tl (x ∷ v) = v

-- ---- a scalar before each word of a list

abbrev put : ℕ → List (List ℕ) → List (List ℕ)
put y [] = []
put y (w ∷ ws) = (y ∷ w) ∷ put y ws

put_long : (y : ℕ) (ws : List (List ℕ)) → length (put y ws) ≡ length ws
put_long y [] = refl
put_long y (w ∷ ws) = ap suc (put_long y ws)

record Under (y : ℕ) (p : List ℕ) (ws : List (List ℕ)) : Type 0 where
  rest : List ℕ
  is : p ≡ y ∷ rest
  there : Member rest ws

under : (y : ℕ) (p : List ℕ) (ws : List (List ℕ)) → Member p (put y ws) → Under y p ws
under y p [] m = absurd m
under y p (w ∷ ws) (inl e) = record { rest = w; is = e; there = inl refl }
under y p (w ∷ ws) (inr m) = let u = under y p ws m in record { rest = u.rest; is = u.is; there = inr u.there }

on_put : (y : ℕ) (p : List ℕ) (ws : List (List ℕ)) → Member p ws → Member (y ∷ p) (put y ws)
on_put y p [] m = absurd m
on_put y p (w ∷ ws) (inl e) = inl (ap (λ (z : List ℕ). y ∷ z) e)
on_put y p (w ∷ ws) (inr m) = inr (on_put y p ws m)

put_distinct : (y : ℕ) (ws : List (List ℕ)) → Distinct ws → Distinct (put y ws)
put_distinct y [] d = tt
put_distinct y (w ∷ ws) d = (λ m. d.0 (inner (under y (y ∷ w) ws m)), put_distinct y ws d.1)
  where
    inner : Under y (y ∷ w) ws → Member w ws
    inner u = subst (λ (z : List ℕ). Member z ws) (sym (ap tl u.is)) u.there

-- ---- prefixes

record Begins (p w : List ℕ) : Type 0 where
  rest : List ℕ
  is : p ++ rest ≡ w

begins_on : (x : ℕ) (p w : List ℕ) → Begins p w → (z : ℕ) → z ≡ x → Begins (z ∷ p) (x ∷ w)
begins_on x p w b z e = record { rest = b.rest; is = ap (λ (k : ℕ). k ∷ (p ++ b.rest)) e ∙ ap (λ (l : List ℕ). x ∷ l) b.is }

begins_off : (z : ℕ) (p : List ℕ) (x : ℕ) (w : List ℕ) → Begins (z ∷ p) (x ∷ w) → (z ≡ x) × Begins p w
begins_off z p x w b = (ap hd b.is, record { rest = b.rest; is = ap tl b.is })

not_of_none : (p : List ℕ) → 1 ≤ length p → Begins p [] → ⊥
not_of_none p s b = omega (arith, s, ap length b.is, length-append p b.rest)

begins : (p w : List ℕ) → Begins p w ⊎ (Begins p w → ⊥)
begins [] w = inl (record { rest = w; is = refl })
begins (z ∷ p) [] = inr (λ b. not_of_none (z ∷ p) (omega arith) b)
begins (z ∷ p) (x ∷ w) = go (two z x) (begins p w)
  where
    go : Two z x → Begins p w ⊎ (Begins p w → ⊥) → Begins (z ∷ p) (x ∷ w) ⊎ (Begins (z ∷ p) (x ∷ w) → ⊥)
    go (one e) (inl b) = inl (begins_on x p w b z e)
    go (one e) (inr n) = inr (λ b. n (begins_off z p x w b).1)
    go (other n) q = inr (λ b. n (begins_off z p x w b).0)

same_first : (p : List ℕ) (x : ℕ) (v : List ℕ) (y : ℕ) (w : List ℕ) → 1 ≤ length p → Begins p (x ∷ v) → Begins p (y ∷ w) → x ≡ y
same_first [] x v y w s a b = absurd (omega arith)
same_first (z ∷ p) x v y w s a b = sym (begins_off z p x v a).0 ∙ (begins_off z p y w b).0

-- what two words start with, each word between them does
between : (p u v w : List ℕ) → below u v ≡ true → below v w ≡ true → Begins p u → Begins p w → Begins p v
between [] u v w h k a b = record { rest = v; is = refl }
between (z ∷ p) [] v w h k a b = absurd (not_of_none (z ∷ p) (omega arith) a)
between (z ∷ p) (x ∷ u) [] w h k a b = clash (sym (below_nil (x ∷ u)) ∙ h)
between (z ∷ p) (x ∷ u) (y ∷ v) [] h k a b = absurd (not_of_none (z ∷ p) (omega arith) b)
between (z ∷ p) (x ∷ u) (y ∷ v) (t ∷ w) h k a b = go (two x y) (between p u v w) (begins_off z p x u a) (begins_off z p t w b)
  where
    go : Two x y → (below u v ≡ true → below v w ≡ true → Begins p u → Begins p w → Begins p v) → (z ≡ x) × Begins p u → (z ≡ t) × Begins p w → Begins (z ∷ p) (y ∷ v)
    go (one e) ih c d =
        begins_on y p v (ih (sym (below_same x y u v e) ∙ h) (sym (below_same y t v w (sym e ∙ sym c.0 ∙ d.0)) ∙ k) c.1 d.1) z (c.0 ∙ e)
    go (other n) ih c d =
        let f = ltb-true x y (sym (below_apart x y u v n) ∙ h) in
        let g = ltb-true y t (sym (below_apart y t v w (λ q. n (sym c.0 ∙ d.0 ∙ sym q))) ∙ k) in
        absurd (omega (arith, f, g, c.0, d.0))

-- ---- all non-empty prefixes of a word

abbrev heads : List ℕ → List (List ℕ)
heads [] = []
heads (y ∷ w) = (y ∷ []) ∷ put y (heads w)

heads_only : (w p : List ℕ) → Member p (heads w) → (1 ≤ length p) × Begins p w
heads_only [] p m = absurd m
heads_only (y ∷ w) p (inl e) = (omega (arith, ap length e), record { rest = w; is = ap (λ (z : List ℕ). z ++ w) e })
heads_only (y ∷ w) p (inr m) = go (under y p (heads w) m) (λ q k. heads_only w q k)
  where
    go : Under y p (heads w) → ((q : List ℕ) → Member q (heads w) → (1 ≤ length q) × Begins q w) → (1 ≤ length p) × Begins p (y ∷ w)
    go u ih =
        let b = begins_on y u.rest w (ih u.rest u.there).1 y refl in
        (omega (arith, ap length u.is), subst (λ (z : List ℕ). Begins z (y ∷ w)) (sym u.is) b)

heads_all : (w p : List ℕ) → 1 ≤ length p → Begins p w → Member p (heads w)
heads_all [] p s b = absurd (not_of_none p s b)
heads_all (y ∷ w) [] s b = absurd (omega arith)
heads_all (y ∷ w) (x ∷ []) s b = inl (ap (λ (z : ℕ). z ∷ []) (begins_off x [] y w b).0)
heads_all (y ∷ w) (x ∷ (q ∷ p)) s b =
    let o = begins_off x (q ∷ p) y w b in
    inr (subst (λ (z : ℕ). Member (z ∷ (q ∷ p)) (put y (heads w))) (sym o.0) (on_put y (q ∷ p) (heads w) (heads_all w (q ∷ p) (omega arith) o.1)))

heads_distinct : (w : List ℕ) → Distinct (heads w)
heads_distinct [] = tt
heads_distinct (y ∷ w) = (λ m. go (under y (y ∷ []) (heads w) m), put_distinct y (heads w) (heads_distinct w))
  where
    go : Under y (y ∷ []) (heads w) → ⊥
    go u = omega (arith, (heads_only w u.rest u.there).0, ap length (ap tl u.is))

heads_long : (w : List ℕ) → length (heads w) ≡ length w
heads_long [] = refl
heads_long (y ∷ w) = omega (arith, put_long y (heads w), heads_long w)

-- ---- those that are none of the word before

record Fresh (v w : List ℕ) : Type 0 where
  words : List (List ℕ)
  only : (p : List ℕ) → Member p words → (1 ≤ length p) × Begins p w
  new : (p : List ℕ) → Member p words → Begins p v → ⊥
  all : (p : List ℕ) → 1 ≤ length p → Begins p w → (Begins p v → ⊥) → Member p words
  distinct : Distinct words
  long : length words ≡ length w - common v w

all_fresh : (v w : List ℕ) → common v w ≡ 0 → ((p : List ℕ) → 1 ≤ length p → Begins p w → Begins p v → ⊥) → Fresh v w
all_fresh v w c apart = record {
  words = heads w;
  only = λ p m. heads_only w p m;
  new = λ p m b. let h = heads_only w p m in apart p h.0 h.1 b;
  all = λ p s b n. heads_all w p s b;
  distinct = heads_distinct w;
  long = omega (arith, heads_long w, c);
}

fresh_on : (x : ℕ) (v : List ℕ) (y : ℕ) (w : List ℕ) → x ≡ y → Fresh v w → Fresh (x ∷ v) (y ∷ w)
fresh_on x v y w e f = record {
  words = put y f.words;
  only = λ p m. only p (under y p f.words m);
  new = λ p m b. new p (under y p f.words m) b;
  all = all;
  distinct = put_distinct y f.words f.distinct;
  long = omega (arith, put_long y f.words, f.long, common_same x y v w e);
}
  where
    only : (p : List ℕ) → Under y p f.words → (1 ≤ length p) × Begins p (y ∷ w)
    only p u =
        let b = begins_on y u.rest w (f.only u.rest u.there).1 y refl in
        (omega (arith, ap length u.is), subst (λ (z : List ℕ). Begins z (y ∷ w)) (sym u.is) b)

    new : (p : List ℕ) → Under y p f.words → Begins p (x ∷ v) → ⊥
    new p u b = f.new u.rest u.there (begins_off y u.rest x v (subst (λ (z : List ℕ). Begins z (x ∷ v)) u.is b)).1

    all : (p : List ℕ) → 1 ≤ length p → Begins p (y ∷ w) → (Begins p (x ∷ v) → ⊥) → Member p (put y f.words)
    all [] s b n = absurd (omega arith)
    all (z ∷ []) s b n = absurd (n (record { rest = v; is = ap (λ (k : ℕ). k ∷ v) ((begins_off z [] y w b).0 ∙ sym e) }))
    all (z ∷ (q ∷ p)) s b n =
        let o = begins_off z (q ∷ p) y w b in
        let m = f.all (q ∷ p) (omega arith) o.1 (λ c. n (begins_on x (q ∷ p) v c z (o.0 ∙ sym e))) in
        subst (λ (k : ℕ). Member (k ∷ (q ∷ p)) (put y f.words)) (sym o.0) (on_put y (q ∷ p) f.words m)

fresh : (v w : List ℕ) → Fresh v w
fresh [] w = all_fresh [] w (common_none w) (λ p s b a. not_of_none p s a)
fresh (x ∷ v) [] = all_fresh (x ∷ v) [] (common_nil (x ∷ v)) (λ p s b a. not_of_none p s b)
fresh (x ∷ v) (y ∷ w) = go (two x y) (fresh v w)
  where
    go : Two x y → Fresh v w → Fresh (x ∷ v) (y ∷ w)
    go (one e) f = fresh_on x v y w e f
    go (other n) f = all_fresh (x ∷ v) (y ∷ w) (common_apart x y v w n) (λ p s b a. n (same_first p x v y w s a b))

-- ---- the words of a list

held_first : (t : Term) (ts : List Term) (u : List ℕ) → same u t.word ≡ true → words_in (terms_in (t ∷ ts)) u ≡ true
held_first t ts u e = ap is_some (terms_first t ts u) ∙ ap (λ (b : Bool). is_some (cond b (some t.class) (terms_in ts u))) e

held_later : (t : Term) (ts : List Term) (u : List ℕ) → same u t.word ≡ false → words_in (terms_in (t ∷ ts)) u ≡ words_in (terms_in ts) u
held_later t ts u e = ap is_some (terms_first t ts u) ∙ ap (λ (b : Bool). is_some (cond b (some t.class) (terms_in ts u))) e

held_on : (t : Term) (ts : List Term) (u : List ℕ) → words_in (terms_in ts) u ≡ true → words_in (terms_in (t ∷ ts)) u ≡ true
held_on t ts u h = go (same u t.word) refl
  where
    go : (b : Bool) → same u t.word ≡ b → words_in (terms_in (t ∷ ts)) u ≡ true
    go true e = held_first t ts u e
    go false e = held_later t ts u e ∙ h

-- each stands above the word before them
above_all : (w : List ℕ) (ts : List Term) → Rising w ts → (u : List ℕ) → words_in (terms_in ts) u ≡ true → below w u ≡ true
above_all w [] r u h = clash (sym (ap is_some (no_term u)) ∙ h)
above_all w (t ∷ ts) r u h = go (same u t.word) refl (above_all t.word ts r.1 u)
  where
    go : (b : Bool) → same u t.word ≡ b → (words_in (terms_in ts) u ≡ true → below t.word u ≡ true) → below w u ≡ true
    go true e ih = subst (λ (z : List ℕ). below w z ≡ true) (sym (same_true u t.word e)) r.0.above
    go false e ih = below_trans w t.word u r.0.above (ih (sym (held_later t ts u e) ∙ h))

-- ---- the theorem

-- a non-empty prefix of a word of the list, but not of the word before it
record New (before : List ℕ) (ts : List Term) (v : List ℕ) : Type 0 where
  some : 1 ≤ length v
  rest : List ℕ
  held : words_in (terms_in ts) (v ++ rest) ≡ true
  new : Begins v before → ⊥

charge_nil : (w : List ℕ) → charge_from w [] ≡ 0
unfolding charge_from
charge_nil w = refl

charge_next : (w : List ℕ) (t : Term) (ts : List Term) → charge_from w (t ∷ ts) ≡ (length t.word - common w t.word) + charge_from t.word ts
unfolding charge_from
charge_next w t ts = refl

next : (w : List ℕ) (t : Term) (ts : List Term) → Rising w (t ∷ ts) → Fresh w t.word → Number (New t.word ts) (charge_from t.word ts) → Number (New w (t ∷ ts)) (charge_from w (t ∷ ts))
next w t ts r f n = record {
  words = f.words ++ n.words;
  distinct = both_distinct f.words n.words f.distinct n.distinct (λ v a b. (n.only v b).new (f.only v a).1);
  only = λ v m. only v (in_either v f.words n.words m);
  all = λ v h. either v (all v h (same (v ++ h.rest) t.word) refl);
  long = omega (arith, length-append f.words n.words, f.long, n.long, charge_next w t ts);
}
  where
    only : (v : List ℕ) → Member v f.words ⊎ Member v n.words → New w (t ∷ ts) v
    only v (inl m) =
        let b = f.only v m in
        record {
          some = b.0;
          rest = b.1.rest;
          held = held_first t ts (v ++ b.1.rest) (ap (λ (z : List ℕ). same z t.word) b.1.is ∙ same_self t.word);
          new = f.new v m;
        }
    only v (inr m) =
        let h = n.only v m in
        record {
          some = h.some;
          rest = h.rest;
          held = held_on t ts (v ++ h.rest) h.held;
          new = λ b. h.new (between v w t.word (v ++ h.rest) r.0.above (above_all t.word ts r.1 (v ++ h.rest) h.held) b (record { rest = h.rest; is = refl }));
        }

    all : (v : List ℕ) (h : New w (t ∷ ts) v) (b : Bool) → same (v ++ h.rest) t.word ≡ b → Member v f.words ⊎ Member v n.words
    all v h true e = inl (f.all v h.some (record { rest = h.rest; is = same_true (v ++ h.rest) t.word e }) h.new)
    all v h false e = go (begins v t.word)
      where
        go : Begins v t.word ⊎ (Begins v t.word → ⊥) → Member v f.words ⊎ Member v n.words
        go (inl b) = inl (f.all v h.some b h.new)
        go (inr x) = inr (n.all v (record { some = h.some; rest = h.rest; held = sym (held_later t ts (v ++ h.rest) e) ∙ h.held; new = x }))

    either : (v : List ℕ) → Member v f.words ⊎ Member v n.words → Member v (f.words ++ n.words)
    either v (inl m) = in_left v f.words n.words m
    either v (inr m) = in_right v f.words n.words m

counted : (w : List ℕ) (ts : List Term) → Rising w ts → Number (New w ts) (charge_from w ts)
counted w [] r = record {
  words = [];
  distinct = tt;
  only = λ v m. absurd m;
  all = λ v h. clash (sym (ap is_some (no_term (v ++ h.rest))) ∙ h.held);
  long = sym (charge_nil w);
}
counted w (t ∷ ts) r = next w t ts r (fresh w t.word) (counted t.word ts r.1)

pub charge_is : ChargeIs
charge_is ts g =
    let n = counted [] ts g.rising in
    record {
      words = n.words;
      distinct = n.distinct;
      only = λ v m. let h = n.only v m in record { some = h.some; rest = h.rest; held = h.held };
      all = λ v h. n.all v (record { some = h.some; rest = h.rest; held = h.held; new = λ b. not_of_none v h.some b });
      long = n.long;
    }
