-- The order of edits, over what the contracts of the calls say. Assumes nothing.
use Rattle.std.specs.Prelude.{Result, Ok}
use Rattle.refusal.specs.declared.Refusal.{Refusal}
use Prim.Native.Nat.{ℕ, ◌*◌, ◌≤◌}
use native.Mathlib.Omega.{arith}
use mathlib.Core.Path.{◌≡◌, refl, sym, ap, subst, ◌∙◌}
use mathlib.Core.Bool.{true, false}
use mathlib.Core.List.{List, [], ◌∷◌}
use mathlib.Core.Option.{some}
use mathlib.Core.Option as option
use borrow.Author.Tests.{le-ltb}
use lib.ListN.{length, drop}
use Rattle.refusal.proofs.Causes.{none_of}
use Rattle.char_string_trim.specs.Trimming.{trimmed_of}
use Rattle.trie_pool.specs.Cells.{used, mark_at}
use Rattle.trie_pool.specs.Words.{Place, none, at, on_place, child, walk, term, term_at, lacking}
use Rattle.trie_pool.specs.Rules.{capacity, cells_of, is_dictionary}
use Rattle.trie_pool.specs.Meaning.{Terms, meaning, terms, no_term, with_term, without_term, report_term}
use Rattle.trie_pool.proofs.Rules.{sound}
use Rattle.trie_pool.proofs.Terms.{means_of}
use Rattle.trie_pool.proofs.Sets.{no_change}
use Rattle.trie_check.specs.Refusals.{is_none, held_terms}
use Rattle.trie_check.proofs.Parts.{terms_known, terms_is, long}
use Rattle.trie_char_answers.specs.Refusals.{nodes_with, add_causes, remove_causes}
use Rattle.trie_char_answers.specs.Answers.{terms_of, add_answer, remove_answer}
use Rattle.trie_char_answers.specs.Changes.{Became, After}
use Rattle.trie_char_answers.proofs.Changing.{stayed}
use Rattle.trie_char_answers.proofs.One.{one_became}
use Rattle.newmm_answers.proofs.Told.{accepted_is}
use Rattle.theorems_demands.specs.Demand3.{Freshened}
use Rattle.theorems_demands.proofs.Demand3.{all_pass}
use Rattle.theorems_demands.proofs.Dictionary.{none_some, with_self}
use Rattle.theorems_order.specs.Order.{Edit, add, remove, word_of, Done, AllDone, nothing, next, Order, Files, Twice, adds, HoldsUnion, Union, UnionEitherWay}
use Rattle.theorems_order.proofs.Edits.{edited, swapped, same_report, twice_once, edited_all, joined_is, union_held, one_union}
use Rattle.theorems_order.proofs.Alike.{same_answers}

-- ---- what an accepted edit leaves and reports

held_of : (pool : List ℕ) {held : Terms} → terms pool ≡ some held → terms_of pool ≡ held
held_of pool e = ap held_terms e

module _ (old new : List ℕ) (n : ℕ) where
  done_became : (e : Edit) → Done e n old new → Became old new (edited e (terms_of old))
  done_became (add word class) d = d.1
  done_became (remove word) d = d.1

  done_report : (e : Edit) → Done e n old new → report_term (word_of e) (terms_of old) (edited e (terms_of old)) ≡ n
  done_report (add word class) d = accepted_is (add_causes word old) (report_term (trimmed_of word) (terms_of old) (with_term (trimmed_of word) class (terms_of old))) n (sym d.0)
  done_report (remove word) d = accepted_is (remove_causes word (meaning old)) (report_term (trimmed_of word) (terms_of old) (without_term (trimmed_of word) (terms_of old))) n (sym d.0)

  -- the same from words that are known
  module _ (e : Edit) (held : Terms) (known : terms old ≡ some held) (d : Done e n old new) where
    from : Became old new (edited e held)
    from = subst (λ (t : Terms). Became old new (edited e t)) (held_of old known) (done_became e d)

    reported : report_term (word_of e) held (edited e held) ≡ n
    reported = sym (ap (λ (t : Terms). report_term (word_of e) t (edited e t)) (held_of old known)) ∙ done_report e d

-- one change behind another
behind : (old mid new : List ℕ) (s t : Terms) → Became old mid s → Became mid new t → Became old new t
behind old mid new s t a b = record {
  means = b.means;
  later = ap (λ (k : ℕ). drop (8 * k) new) same ∙ b.later ∙ sym (ap (λ (k : ℕ). drop (8 * k) mid) same) ∙ a.later;
  kept = b.kept ∙ a.kept;
}
  where
    same : capacity old ≡ capacity mid
    same = omega (arith, a.kept)

all_became : {es : List Edit} {old new : List ℕ} → AllDone es old new → (held : Terms) → terms old ≡ some held → Became old new (edited_all es held)
all_became nothing held h = record { means = h; later = refl; kept = refl }
all_became (next e {es = es} {old = old} {mid = mid} {new = new} n d ds) held h =
    let b = from old mid n e held h d in
    behind old mid new (edited e held) (edited_all es (edited e held)) b (all_became ds (edited e held) b.means)

-- ---- either order

pub order : Order
order e f pool p₁ p₂ q₁ q₂ i j k l ne d₁ d₂ c₁ c₂ =
    let t : Terms = terms_of pool in
    let p = done_became pool p₁ i e d₁ in
    let q = done_became pool q₁ k f c₁ in
    let bp : Became pool p₂ (edited f (edited e t)) = behind pool p₁ p₂ (edited e t) (edited f (edited e t)) p (from p₁ p₂ j f (edited e t) p.means d₂) in
    let bq' : Became pool q₂ (edited e (edited f t)) = behind pool q₁ q₂ (edited f t) (edited e (edited f t)) q (from q₁ q₂ l e (edited f t) q.means c₂) in
    let bq : Became pool q₂ (edited f (edited e t)) = subst (Became pool q₂) (swapped e f ne t) bq' in (
      bp.means ∙ sym bq.means,
      sym (done_report pool p₁ i e d₁) ∙ same_report e f ne t ∙ reported q₁ q₂ l e (edited f t) q.means c₂,
      sym (reported p₁ p₂ j f (edited e t) p.means d₂) ∙ sym (same_report f e (λ z. ne (sym z)) t) ∙ done_report pool q₁ k f c₁,
      one_became pool p₂ q₂ (edited f (edited e t)) bp bq,
    )

-- two pools of the same words and classes, and equal ones where they come from one
alike : (old old' p q : List ℕ) (s t : Terms) → s ≡ t → Became old p s → Became old' q t → old ≡ old' → p ≡ q
alike old old' p q s t e f g same = one_became old p q t (subst (Became old p) e f) (subst (λ (o : List ℕ). Became o q t) (sym same) g)

pub files : Files
files a b one two pool pool' p q held d j k h h' x y =
    let f = all_became x held h in
    let g = all_became y held h' in
    let e : edited_all one held ≡ edited_all two held = joined_is j d held ∙ sym (joined_is k d held) in
    let gm : terms q ≡ some (edited_all one held) = g.means ∙ ap some (sym e) in
    (f.means ∙ sym gm, same_answers p q (edited_all one held) f.means gm, alike pool pool' p q (edited_all one held) (edited_all two held) e f g)

-- ---- twice

-- a word that is held lacks no node
lacks_none : (p w : List ℕ) (i c : ℕ) → on_place option.none (λ r. term (mark_at p r)) (walk p w i) ≡ some c → lacking p w i ≡ 0
lacks_none p [] i c h = refl
lacks_none p (x ∷ w) i c h = go (child p i x) h (λ r k. lacks_none p w r c k)
  where
    go : (q : Place) → on_place option.none (λ r. term (mark_at p r)) (on_place none (λ r. walk p w r) q) ≡ some c
        → ((r : ℕ) → on_place option.none (λ r. term (mark_at p r)) (walk p w r) ≡ some c → lacking p w r ≡ 0) → on_place (length (x ∷ w)) (λ r. lacking p w r) q ≡ 0
    go none h ih = none_some h
    go (at r) h ih = ih r h

-- the nodes in use are no more than there are
used_fits : (pool : List ℕ) → is_dictionary pool ≡ true → used (cells_of pool) ≤ capacity pool
used_fits pool good = omega (arith, (sound (cells_of pool) good).fits, long pool (capacity pool) refl)

-- so an add of a word that is held, or of a blank one, is not refused with 8
fits : (pool w : List ℕ) (c : ℕ) (held : Terms) → terms pool ≡ some (with_term w c held) → nodes_with pool w ≤ capacity pool
fits pool w c held e = omega (arith, used_fits pool good, none_lacks w there)
  where
    good : is_dictionary pool ≡ true
    good = terms_known pool (with_term w c held) e

    there : term_at (cells_of pool) w ≡ with_term w c held w
    there = ap (λ (t : Terms). t w) (sym (terms_is pool good) ∙ held_of pool e)

    none_lacks : (w : List ℕ) → term_at (cells_of pool) w ≡ with_term w c held w → lacking (cells_of pool) w 0 ≡ 0
    none_lacks [] h = refl
    none_lacks (x ∷ w) h = lacks_none (cells_of pool) (x ∷ w) 0 c (h ∙ with_self (x ∷ w) c held (omega arith))

module _ (old once : List ℕ) (n : ℕ) where
  -- what is held already is reported with 0
  module _ (e : Edit) (d : Done e n old once) where
    stands : (v : List ℕ) → terms_of once v ≡ edited e (terms_of once) v
    stands v =
        let h : terms_of once ≡ edited e (terms_of old) = held_of once (done_became old once n e d).means in
        ap (λ (t : Terms). t v) h ∙ twice_once e (terms_of old) v ∙ sym (ap (λ (t : Terms). edited e t v) h)

    zero_told : report_term (word_of e) (terms_of once) (edited e (terms_of once)) ≡ 0
    zero_told = sym (no_change (word_of e) (terms_of once) (edited e (terms_of once)) stands)

    good : is_dictionary once ≡ true
    good = terms_known once (edited e (terms_of old)) (done_became old once n e d).means

    known : is_none (meaning once) ≡ false
    known = ap is_none (means_of once (edited e (terms_of old)) (done_became old once n e d).means)

    still : (again : List ℕ) → Became once again (edited e (terms_of once)) → again ≡ once
    still again b = one_became once again once (edited e (terms_of once)) b (stayed once (edited e (terms_of once)) good stands)

  second_add : (word : List ℕ) (class : ℕ) → Done (add word class) n old once → add_answer word class once ≡ Ok 0
  second_add word class d =
      let r = none_of (add_causes word old) (report_term (trimmed_of word) (terms_of old) (with_term (trimmed_of word) class (terms_of old))) n (sym d.0) in
      all_pass (add_causes word once) (report_term (trimmed_of word) (terms_of once) (with_term (trimmed_of word) class (terms_of once)))
      (r.0, (r.1.0, (known (add word class) d, (r.1.1.1.0, (le-ltb (capacity once) (nodes_with once (trimmed_of word)) (fits once (trimmed_of word) class (terms_of old) d.1.means), tt)))))
      ∙ ap Ok (zero_told (add word class) d)

  second_remove : (word : List ℕ) → Done (remove word) n old once → remove_answer word once ≡ Ok 0
  second_remove word d =
      let r = none_of (remove_causes word (meaning old)) (report_term (trimmed_of word) (terms_of old) (without_term (trimmed_of word) (terms_of old))) n (sym d.0) in
      all_pass (remove_causes word (meaning once)) (report_term (trimmed_of word) (terms_of once) (without_term (trimmed_of word) (terms_of once)))
      (r.0, (r.1.0, (known (remove word) d, (r.1.1.1.0, tt))))
      ∙ ap Ok (zero_told (remove word) d)

pub twice : Twice
twice (add word class) old once again n r d c =
    let e : r ≡ Ok 0 = c.0 ∙ second_add old once n word class d in
    (e, still old once n (add word class) d again (subst (λ (a : Result ℕ Refusal). After a once again (with_term (trimmed_of word) class (terms_of once))) e c.1))
twice (remove word) old once again n r d c =
    let e : r ≡ Ok 0 = c.0 ∙ second_remove old once n word d in
    (e, still old once n (remove word) d again (subst (λ (a : Result ℕ Refusal). After a once again (without_term (trimmed_of word) (terms_of once))) e c.1))

-- ---- the union

abbrev both : List (List ℕ) → List (List ℕ) → Terms
both a b = edited_all (adds b) (edited_all (adds a) no_term)

both_became : (a b : List (List ℕ)) (old empty mid new : List ℕ) (n : ℕ) → Freshened (Ok n) old empty → AllDone (adds a) empty mid → AllDone (adds b) mid new → Became old new (both a b)
both_became a b old empty mid new n f x y =
    let p = all_became x no_term f.1.means in
    let q = all_became y (edited_all (adds a) no_term) p.means in
    behind old mid new (edited_all (adds a) no_term) (both a b) (behind old empty mid no_term (edited_all (adds a) no_term) f.1 p) q

pub union : Union
union a b old empty mid new n f x y =
    let u = both_became a b old empty mid new n f x y in
    (terms_known new (both a b) u.means, subst (HoldsUnion a b) (sym (held_of new u.means)) (union_held a b no_term (λ v. refl)))

pub union_either_way : UnionEitherWay
union_either_way a b old empty mid new old' empty' mid' new' n n' f x y f' x' y' =
    let u = both_became a b old empty mid new n f x y in
    let u' = both_became b a old' empty' mid' new' n' f' x' y' in
    let e : both a b ≡ both b a = one_union a b (both a b) (both b a) (union_held a b no_term (λ v. refl)) (union_held b a no_term (λ v. refl)) in
    let m : terms new' ≡ some (both a b) = u'.means ∙ ap some (sym e) in
    (u.means ∙ sym m, same_answers new new' (both a b) u.means m, alike old old' new new' (both a b) (both b a) e u u')
