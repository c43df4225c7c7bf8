-- The loop that puts the words of an image into a pool. Assumes nothing.
use mathlib.Core.Path.{◌≡◌, refl, sym, ap, subst, ◌∙◌}
use mathlib.Core.Bool.{Bool, true, false, ◌&&◌}
use mathlib.Core.List.{List, [], ◌∷◌}
use Rattle.std.specs.Prelude.{Option, None, Some}
use Prim.Native.Nat.{ℕ, zero, suc, ◌+◌, ◌-◌, ◌*◌, ◌≤◌, ◌<◌}
use native.Mathlib.Omega.{arith}
use native.Mathlib.Decide.{dec_lt}
use borrow.Author.Tests.{lt-ltb, le-ltb, le-leb, lt-leb, ltb-true}
use lib.Dec.{ltb, leb}
use lib.ListN.{length, get_or, take, drop, drop_of_length-le}
use Rattle.utf8.specs.Decoding.{run_all, scalars_of}
use Rattle.trie_pool.specs.Cells.{scalar_at, used}
use Rattle.trie_pool.specs.Words.{Word, term_at}
use Rattle.trie_pool.specs.Meaning.{Terms, with_term, no_term}
use Rattle.trie_pool.specs.inner.Sound.{Sound}
use Rattle.image_rules.specs.Records.{Term}
use Rattle.image_rules.specs.Order.{below, common}
use Rattle.image_rules.specs.Lists.{terms_in}
use Rattle.image_rules.specs.Reading.{word_bytes, term_of, follows, is_word, is_last, Read, broken, list, onto, ended, read, read_of}
use Rattle.image_rules.specs.inner.News.{new, news_from}
use Rattle.trie_pool.proofs.Rules.{clash}
use Rattle.trie_leaf.specs.inner.Planting.{Beside}
use Rattle.trie_change.proofs.Sides.{no_change, both_change}
use Rattle.image_rules.proofs.Order.{Parts, parts}
use Rattle.image_rules.proofs.Lists.{Climbs, over, over_none, over_end, hand_over}
use Rattle.image_rules.proofs.Readings.{no_list}
use Rattle.image_record.specs.declared.Record.{Record}
use Rattle.image_record.specs.declared.Record.TheVariants as records
use Rattle.image_record.specs.inner.Records.{Entry, End, Neither, Says}
use Rattle.image_word.specs.declared.Taken.{Taken}
use Rattle.image_word.specs.declared.WordReader.{WordReader}
use Rattle.image_word.specs.inner.Words.{is_next, Follows, Takes}
use Rattle.image_read.proofs.Readings.{read_other, read_none, term_word, word_is, is_word_holds, read_on}
use Rattle.image_read.proofs.Surveying.{news_first, none_news}
use Rattle.image_read.proofs.Raising.{new_low, new_high, new_in}
use Rattle.trie_build_rules.specs.inner.Growing.{Grown, Built, Above, Bare, Starts}
use Rattle.trie_build_rules.proofs.Start.{start_built}
use Rattle.trie_build_rules.proofs.Whole.{whole_sound, whole_terms, scalar_is}
use Rattle.trie_build.specs.inner.Appending.{row, Fits, Puts, Put}
use Rattle.image_place.specs.inner.Placing.{Opens, Holds, Placed}
use Rattle.image_place.proofs.Readings.{word_of, read_zero, climbs, Onto, onto_list, ended_list}

-- words of the image are in the pool, `rest` are to come
pub record Going (image p next w : List ℕ) (at : ℕ) : Type 0 where
  pub terms : List Term
  pub reads : read_of image ≡ list terms
  pub s : ℕ → ℕ
  pub held : Terms
  pub rest : List Term
  pub fuel : ℕ
  pub words : ℕ
  pub left : read fuel w words at (drop at image) ≡ list rest
  pub built : Built p s (row next) w held
  pub room : (d : ℕ) → d < 256 → row next d + news_from d w rest ≡ s (suc d)
  pub all : (v : List ℕ) → over (terms_in rest v) (held v) ≡ terms_in terms v
  pub many : length next ≡ 257

pub going_none : {image p next : List ℕ} → Opens image p next → Going image p next [] 0
unfolding read_of
going_none {image} {p} {next} o = record {
  terms = o.terms;
  reads = o.reads;
  s = o.s;
  held = no_term;
  rest = o.terms;
  fuel = length image;
  words = 0;
  left = o.reads;
  built = start_built p o.s (row next) o.bare o.starts;
  room = o.room;
  all = λ v. over_none (terms_in o.terms v);
  many = o.many;
}

same_list : {a b : List Term} → list a ≡ list b → a ≡ b
same_list e = cc

module _ {image p next w : List ℕ} {at : ℕ} (g : Going image p next w at) where
  -- nothing is left: the pool holds the words
  finished : g.rest ≡ [] → Placed image p
  finished e = record { is = λ ts r n u. done ts r n u }
    where
      full : (d : ℕ) → d < 256 → row next d ≡ g.s (suc d)
      full d l = sym (none_news d w (row next d)) ∙ ap (λ (q : List Term). row next d + news_from d w q) (sym e) ∙ g.room d l

      done : (ts : List Term) → read_of image ≡ list ts → (n : ℕ) → get_or p 0 0 ≡ n → Holds p n ts
      done ts r n u =
          let same : g.terms ≡ ts = same_list (sym g.reads ∙ r) in
          let size : g.s 256 ≡ n = sym g.built.grown.in_use ∙ scalar_is p 0 ∙ u in
          record {
            sound = subst (λ (k : ℕ). Sound p k 0) size (whole_sound p g.s (row next) g.held g.built.grown full);
            held = λ v.
                whole_terms p g.s (row next) g.held g.built.grown full v ∙ sym (over_end g.held v) ∙ ap (λ (q : List Term). over (terms_in q v) (g.held v)) (sym e) ∙ g.all v
                ∙ ap (λ (q : List Term). terms_in q v) same;
          }

  -- no word stands here
  pub no_more : is_word w (drop at image) ≡ false → Placed image p
  no_more h = go g.fuel refl
    where
      go : (f : ℕ) → g.fuel ≡ f → Placed image p
      go zero q = no_list (sym (read_zero w g.words at (drop at image)) ∙ ap (λ (i : ℕ). read i w g.words at (drop at image)) (sym q) ∙ g.left)
      go (suc f) q =
          finished (ended_list g.words at (drop at image) g.rest (sym (read_other f w g.words at (drop at image) h) ∙ ap (λ (i : ℕ). read i w g.words at (drop at image)) (sym q) ∙ g.left))

  pub at_end : length image ≤ at → Placed image p
  at_end h = no_list (sym (ap (read g.fuel w g.words at) (drop_of_length-le image {i = at} h) ∙ read_none g.fuel w g.words at) ∙ g.left)

  module _ {c from to : ℕ} (e : Entry image at c from to) where
    pub not_next : is_next (take (to - from) (drop from image)) w ≡ false → Placed image p
    not_next n =
        no_more (e.is w ∙ ap (λ (q : List ℕ). (run_all (word_bytes (drop at image))).whole && follows w q) (term_word (drop at image))
        ∙ ap (λ (q : List ℕ). (run_all q).whole && follows w (scalars_of q)) (sym e.word) ∙ n)

    module _ {prev : List ℕ} {size shared : ℕ} (t : Follows (take (to - from) (drop from image)) w prev size shared) where
      -- the word and what is behind it
      record Split : Type 0 where
        us : List Term
        fuel : ℕ
        here : g.rest ≡ term_of (drop at image) ∷ us
        there : read fuel (take size prev) (g.words + 1) to (drop to image) ≡ list us

      split : Split
      split = go g.fuel refl
        where
          go : (f : ℕ) → g.fuel ≡ f → Split
          go zero q = no_list (sym (read_zero w g.words at (drop at image)) ∙ ap (λ (i : ℕ). read i w g.words at (drop at image)) (sym q) ∙ g.left)
          go (suc f) q =
              let o = onto_list (term_of (drop at image)) (read f (take size prev) (g.words + 1) to (drop to image)) g.rest
              (sym (read_on e t f g.words) ∙ ap (λ (i : ℕ). read i w g.words at (drop at image)) (sym q) ∙ g.left) in
              record { us = o.us; fuel = f; here = o.is; there = o.rest }

      scalars : take size prev ≡ scalars_of (take (to - from) (drop from image))
      scalars = t.word

      long : length (take size prev) ≡ size
      long = ap length scalars ∙ sym t.number

      word : Word (take size prev)
      word = subst Word (sym scalars) (word_of (take (to - from) (drop from image)) w t.is)

      together : shared ≡ common w (take size prev)
      together = t.together ∙ ap (common w) (sym scalars)

      above : Above w (take size prev) shared
      above =
          let q = subst (Parts w (take size prev)) (sym together) (parts w (take size prev)) in
          let b : below w (take size prev) ≡ true = climbs_first in
          record {
            same = q.same;
            upto = q.left;
            inside = inside q b (dec_lt shared (length (take size prev)));
            less = λ h. ltb-true (get_or w shared 0) (get_or (take size prev) shared 0) (sym (q.less (inside q b (dec_lt shared (length (take size prev)))) h) ∙ b);
          }
        where
          climbs_first : below w (take size prev) ≡ true
          climbs_first =
              let k = climbs g.fuel w g.words at (drop at image) g.rest g.left in
              ap (below w) (sym (word_is e t)) ∙ (subst (Climbs w) split.here k).0

          inside : Parts w (take size prev) shared → below w (take size prev) ≡ true → Dec (shared < length (take size prev)) → shared < length (take size prev)
          inside q b (yes h) = h
          inside q b (no h) = clash (sym (q.end (omega (arith, q.right))) ∙ b)

      -- the new nodes of the word, then those of the rest
      news : (d : ℕ) → news_from d w g.rest ≡ new shared size d + news_from d (take size prev) split.us
      news d =
          ap (news_from d w) split.here ∙ news_first d w (term_of (drop at image)) split.us
          ∙ ap (λ (u : List ℕ). new (common w u) (length u) d + news_from d u split.us) (word_is e t)
          ∙ ap (λ (i : ℕ). new i (length (take size prev)) d + news_from d (take size prev) split.us) (sym together)
          ∙ ap (λ (i : ℕ). new shared i d + news_from d (take size prev) split.us) long

      fits : {mark : ℕ} → mark ≡ c + 1 → Fits g.s w g.held p next (take size prev) shared mark
      fits m = record {
        built = g.built;
        above = above;
        word = word;
        marks = omega arith;
        upto = omega (arith, e.few);
        room = λ d h k. omega (arith, g.room d (omega (arith, word.short)), news d, new_in shared size d h (omega (arith, long)));
      }

      pub puts : {mark : ℕ} → mark ≡ c + 1 → Puts p next (take size prev) shared mark
      puts m = record { levels = g.many; s = g.s; before = w; held = g.held; may = fits m }

      pub going_next : {mark : ℕ} {p' next' : List ℕ} → mark ≡ c + 1 → Put p next (take size prev) shared mark p' next' → Going image p' next' (take size prev) to
      going_next {mark} {p'} {next'} m q =
          let class : mark - 1 ≡ (term_of (drop at image)).class = (let z : mark - 1 ≡ c = omega arith in z ∙ e.class) in
          record {
            terms = g.terms;
            reads = g.reads;
            s = g.s;
            held = with_term (take size prev) (mark - 1) g.held;
            rest = split.us;
            fuel = split.fuel;
            words = g.words + 1;
            left = split.there;
            built = q.built g.s w g.held (fits m);
            room = λ d l. roomy d l (dec_lt shared d) (dec_lt size d);
            all = λ v.
                ap (λ (i : ℕ). over (terms_in split.us v) (with_term (take size prev) i g.held v)) class
                ∙ ap (λ (u : List ℕ). over (terms_in split.us v) (with_term u (term_of (drop at image)).class g.held v)) (sym (word_is e t))
                ∙ hand_over (term_of (drop at image)) split.us g.held v (omega (arith, ap length (word_is e t), word.some)) (subst (λ (u : List ℕ). Climbs u split.us) (sym (word_is e t)) (climbs split.fuel (take size prev) (g.words + 1) to (drop to image) split.us split.there))
                ∙ ap (λ (r : List Term). over (terms_in r v) (g.held v)) (sym split.here) ∙ g.all v;
            many = q.levels;
          }
        where
          roomy : (d : ℕ) → d < 256 → Dec (shared < d) → Dec (size < d) → row next' d + news_from d (take size prev) split.us ≡ g.s (suc d)
          roomy d l (yes h) (no k) = omega (arith, g.room d l, news d, new_in shared size d h (omega arith), q.raised d h (omega (arith, long)))
          roomy d l (yes h) (yes k) = omega (arith, g.room d l, news d, new_high shared size d k, q.kept d (λ a b. omega (arith, long)))
          roomy d l (no h) k = omega (arith, g.room d l, news d, new_low shared size d (omega arith), q.kept d (λ a b. omega arith))

      pub same_use : {mark : ℕ} {p' next' : List ℕ} → mark ≡ c + 1 → Put p next (take size prev) shared mark p' next' → used p' ≡ used p
      same_use {mark} {p'} {next'} m q = sym (scalar_is p' 0) ∙ (q.built g.s w g.held (fits m)).grown.in_use ∙ sym g.built.grown.in_use ∙ scalar_is p 0

-- ---- the turns, as the code takes them

pub record Turn (p₀ image p next : List ℕ) (reader : WordReader) (at : ℕ) : Type 0 where
  pub size : length p ≡ length p₀
  pub beside : Beside p₀ p
  pub in_use : used p ≡ used p₀
  pub going : Going image p next (take reader.size reader.last) at

pub turn_none : {image p next : List ℕ} (reader : WordReader) → Opens image p next → reader.size ≡ 0 → Turn p image p next reader 0
turn_none {image} {p} {next} reader o z = record {
  size = refl;
  beside = no_change p;
  in_use = refl;
  going = subst (λ (n : ℕ). Going image p next (take n reader.last) 0) (sym z) (going_none o);
}

module _ {p₀ image p next : List ℕ} {reader : WordReader} {at : ℕ} (t : Turn p₀ image p next reader at) where
  pub all_placed : length image ≤ at → Placed image p
  all_placed h = at_end t.going h

  module _ (r : Option Record) (s : Says image at r) where
    pub stop_last : {n : ℕ} → r ≡ Some (records.Last n) → Placed image p
    stop_last e = no_more t.going ((subst (Says image at) e s).no_word (take reader.size reader.last))

    pub stop_broken : r ≡ None → Placed image p
    stop_broken e = no_more t.going ((subst (Says image at) e s).no_word (take reader.size reader.last))

    module _ {c from to : ℕ} (e : r ≡ Some (records.Word c from to)) where
      pub entry : Entry image at c from to
      entry = subst (Says image at) e s

      module _ (reader' : WordReader) (k : Option Taken) (q : Takes (take (to - from) (drop from image)) (take reader.size reader.last) reader' k) where
        pub stop_word : k ≡ None → Placed image p
        stop_word z = not_next t.going entry (subst (Takes (take (to - from) (drop from image)) (take reader.size reader.last) reader') z q)

        module _ {taken : Taken} (z : k ≡ Some taken) where
          both' : Follows (take (to - from) (drop from image)) (take reader.size reader.last) reader'.last taken.size taken.shared × (reader'.size ≡ taken.size)
          both' = subst (Takes (take (to - from) (drop from image)) (take reader.size reader.last) reader') z q

          pub few : taken.size ≤ 255
          few = both'.0.short

          pub asks : {mark : ℕ} → mark ≡ c + 1 → Puts p next (take taken.size reader'.last) taken.shared mark
          asks m = puts t.going entry both'.0 m

          pub turn_next : {mark : ℕ} {p' next' : List ℕ} → mark ≡ c + 1 → Put p next (take taken.size reader'.last) taken.shared mark p' next' → length p' ≡ length p → Turn p₀ image p' next' reader' to
          turn_next {mark} {p'} {next'} m h f = record {
            size = f ∙ t.size;
            beside = both_change t.beside h.beside;
            in_use = same_use t.going entry both'.0 m h ∙ t.in_use;
            going = subst (λ (n : ℕ). Going image p' next' (take n reader'.last) to) (sym both'.1) (going_next t.going entry both'.0 m h);
          }
