-- Writing what is listed at a node, child by child. Assumes nothing.
use Prim.Native.Nat.{ℕ, zero, suc, ◌+◌, ◌-◌, ◌*◌, ◌≤◌, ◌<◌}
use native.Mathlib.Omega.{arith}
use native.Mathlib.Numerals.{add-one}
use mathlib.Core.Path.{◌≡◌, refl, sym, ap, subst, ◌∙◌}
use mathlib.Core.Bool.{Bool, true, false, ◌&&◌, ◌||◌}
use mathlib.Core.List.{List, [], ◌∷◌, ◌++◌, append_assoc, append-nil}
use borrow.Author.Tests.{ltb-true, leb-true}
use lib.Dec.{ltb, leb}
use lib.ListN.{length, get_or, take, drop}
use lib.Seq.{length-take-le, take-take}
use Rattle.utf8_sequences.specs.Utf8.{bytes_of, encode}
use Rattle.char_string_scalars.specs.Scalars.{is_scalar}
use Rattle.trie_pool.specs.Cells.{scalar_at, first_at, count_at, mark_at, used}
use Rattle.trie_pool.specs.Words.{at, rev}
use Rattle.trie_pool.specs.Meaning.{amount}
use Rattle.trie_pool.specs.inner.Paths.{reach}
use Rattle.trie_pool.specs.inner.Sound.{Sound}
use Rattle.trie_pool.proofs.Rules.{clash}
use Rattle.trie_pool.proofs.Shape.{mark_is, one_path}
use Rattle.trie_pool.proofs.Held.{root_mark}
use Rattle.image_rules.specs.Records.{Term, le, record_of, word_record, last_record, word_records, image_of}
use Rattle.image_list.specs.Listed.{own, block, list_of}
use Rattle.image_list.specs.inner.Under.{under}
use Rattle.image_list.proofs.Under.{block_next, block_none, under_is, under_root, records_both, size_both, path_short, path_on}
use Rattle.image_list.proofs.Lists.{list_long}
use Rattle.image_bytes.specs.inner.Laying.{laid_at}
use Rattle.image_bytes.proofs.Laying.{laid_none, laid_head, laid_before, laid_then}
use Rattle.image_size.specs.inner.Sizing.{Stands}
use Rattle.image_size.proofs.Bytes.{encode_more, more_long, path_most, encode_none, image_long, last_long, own_none, own_some}
use Rattle.image_size.proofs.Sizing.{own_more, inside, block_end, nodes_few, child_later}
use Rattle.image_write.specs.inner.Writing.{OwnAsks, OwnWrote, kids, Writes, Wrote}

-- a scalar value is below 0x110000
scalar_top : (v : ℕ) → is_scalar v ≡ true → v < 0x110000
unfolding is_scalar
scalar_top v h = go (ltb v 0xD800) refl (leb 0xE000 v) (leb v 0x10FFFF) refl h
  where
    go : (a : Bool) → ltb v 0xD800 ≡ a → (b c : Bool) → leb v 0x10FFFF ≡ c → (a || (b && c)) ≡ true → v < 0x110000
    go true e b c f h = omega (arith, ltb-true v 0xD800 e)
    go false e true true f h = omega (arith, leb-true v 0x10FFFF f)
    go false e true false f h = clash h
    go false e false c f h = clash h

-- ---- a node's own word

own_empty : (u : List ℕ) (m : ℕ) → m ≡ 0 → word_records (own u m) ≡ []
unfolding word_records
own_empty u zero e = refl
own_empty u (suc m) e = absurd (omega arith)

own_record : (u : List ℕ) (m : ℕ) → (m ≡ 0 → ⊥) → record_of 1 (le 2 (m - 1) ++ encode (rev u [])) ≡ word_records (own u m)
unfolding word_record
own_record u zero e = absurd (e refl)
own_record u (suc c) e =
    let z : suc c - 1 ≡ c = omega arith in
    ap (λ (k : ℕ). record_of 1 (le 2 k ++ encode (rev u []))) z ∙ sym (own_some u c)

module _ (mark n from : ℕ) (row out : List ℕ) where
  pub own_left : mark ≡ 0 → (u : List ℕ) → take n row ≡ encode (rev u []) → OwnWrote mark u out out from from
  own_left e u b = record {
    count = omega (arith, ap (λ (k : ℕ). length (word_records (own u k))) e, own_none u);
    is = sym (ap (λ (l : List ℕ). laid_at from l out) (own_empty u mark e) ∙ laid_none out from);
  }

  pub own_room : OwnAsks mark row n out from → (mark ≡ 0 → ⊥) → (from + 8) + length (take n row) ≤ length out
  own_room a e = omega (arith, a.room, own_more mark (length (take n row)) e a.path (ap length a.bytes))

  pub own_put : OwnAsks mark row n out from → (mark ≡ 0 → ⊥) → (new : List ℕ) (r : ℕ) → r ≡ (from + 8) + length (take n row) → new ≡ laid_at from (record_of 1 (le 2 (mark - 1) ++ take n row)) out
      → (u : List ℕ) → take n row ≡ encode (rev u []) → OwnWrote mark u out new from r
  own_put a e new r er en u b = record {
    count = omega (arith, own_more mark (length (take n row)) e u (ap length b));
    is = en ∙ ap (λ (l : List ℕ). laid_at from l out) (ap (λ (l : List ℕ). record_of 1 (le 2 (mark - 1) ++ l)) b ∙ own_record u mark e);
  }

-- ---- a node

module _ {p : List ℕ} {i : ℕ} {row : List ℕ} {n : ℕ} {out : List ℕ} {from : ℕ} (s : Writes p i row n out from) where
  pub stands : Stands p i n
  stands = record { sound = s.sound; path = s.path; leads = s.leads; long = s.long }

  short : length s.path ≤ 255
  short = path_short p (used p) s.sound s.path i s.leads

  -- any path to the node is this one
  pub room_for : (u : List ℕ) → reach p u ≡ at i → from + length (word_records (kids p u i)) ≤ length out
  room_for u e = subst (λ (z : List ℕ). from + length (word_records (kids p z i)) ≤ length out) (one_path p (used p) s.sound.shaped s.path u i s.leads e) s.room

  pub long_for : (u : List ℕ) → take n row ≡ encode (rev u []) → n ≡ length (encode (rev u []))
  long_for u b = omega (arith, sym (ap length b), length-take-le n row (omega (arith, s.long, path_most s.path, short, s.large)))

-- ---- the loop over the children

-- with the path u: `done` is written, and the rest is still to come
pub record Part (p u : List ℕ) (i : ℕ) (row₀ row : List ℕ) (n : ℕ) (out₀ out : List ℕ) (from end k stop : ℕ) : Type 0 where
  pub done : List Term
  pub all : done ++ block (under p) p u k (stop - k) ≡ kids p u i
  pub keeps : take n row ≡ take n row₀
  pub count : end ≡ from + length (word_records done)
  pub is : out ≡ laid_at from (word_records done) out₀

pub record Going (p : List ℕ) (i : ℕ) (row₀ row : List ℕ) (n : ℕ) (out₀ out : List ℕ) (from end k stop : ℕ) : Type 0 where
  pub last : stop ≡ first_at p i + count_at p i
  pub low : first_at p i ≤ k
  pub high : k ≤ stop
  pub same_row : length row ≡ length row₀
  pub same_out : length out ≡ length out₀
  pub each : (u : List ℕ) → reach p u ≡ at i → take n row₀ ≡ encode (rev u []) → Part p u i row₀ row n out₀ out from end k stop

pub going_none : {p : List ℕ} {i : ℕ} {row : List ℕ} {n : ℕ} {out : List ℕ} {from : ℕ} → Writes p i row n out from
    → (first count : ℕ) → first ≡ first_at p i → count ≡ count_at p i → Going p i row row n out out from from first (first + count)
going_none {p} {i} {row} {n} {out} {from} s first count ef ec = record {
  last = omega arith;
  low = omega arith;
  high = omega arith;
  same_row = refl;
  same_out = refl;
  each = λ u e b.
      record {
        done = [];
        all = (let a : first + count - first ≡ count_at p i = omega arith in ap (λ (z : ℕ). block (under p) p u first z) a) ∙ ap (λ (z : ℕ). block (under p) p u z (count_at p i)) ef;
        keeps = refl;
        count = omega (arith, own_none u);
        is = sym (ap (λ (l : List ℕ). laid_at from l out) (own_empty u 0 refl) ∙ laid_none out from);
      };
}

module _ {p : List ℕ} {i : ℕ} {row₀ row : List ℕ} {n : ℕ} {out₀ out : List ℕ} {from end k stop : ℕ}
    (s : Writes p i row₀ n out₀ from) (v : Going p i row₀ row n out₀ out from end k stop) (h : k < stop) where
  below_stop : k < first_at p i + count_at p i
  below_stop = omega (arith, v.last)

  -- its cells are there
  pub kid_in : (8 * k + 4 ≤ length p) × (k < used p) × (used p ≤ 1048576) × (i < k)
  kid_in =
      let e = block_end (stands s) in
      (omega (arith, below_stop, s.sound.fits), omega (arith, below_stop), nodes_few (stands s), child_later (stands s) k v.low below_stop)

  pub kid_mark : (mark : ℕ) → mark ≡ get_or p (8 * k + 3) 0 → mark ≡ mark_at p k
  kid_mark mark e = let z = kid_in in e ∙ sym (mark_is p k (omega arith))

  module _ (x : ℕ) (ex : x ≡ scalar_at p k) where
    -- the longer path and its bytes
    longer : (u : List ℕ) → reach p u ≡ at i → reach p (scalar_at p k ∷ u) ≡ at k
    longer u e = path_on p (used p) s.sound u i k e v.low below_stop

    scalar_long : (u : List ℕ) → n ≡ length (encode (rev u [])) → n + length (bytes_of x) ≡ length (encode (rev (scalar_at p k ∷ u) []))
    scalar_long u l = omega (arith, more_long (scalar_at p k) u, ap (λ (y : ℕ). length (bytes_of y)) ex)

    pub scalar_fits : (x < 0x110000) × (n + length (bytes_of x) ≤ length row)
    scalar_fits =
        let k2 = kid_in in (
          subst (λ (y : ℕ). y < 0x110000) (sym ex) (scalar_top (scalar_at p k) (s.sound.fit k (omega arith) k2.1).legal),
          omega (
            arith,
            scalar_long s.path s.long,
            path_most (scalar_at p k ∷ s.path),
            path_short p (used p) s.sound (scalar_at p k ∷ s.path) k (longer s.path s.leads),
            s.large,
            v.same_row,
          ),
        )

    -- what a child's words take is still free
    kid_room : (u : List ℕ) → reach p u ≡ at i → take n row₀ ≡ encode (rev u []) → end + length (word_records (under p (scalar_at p k ∷ u) k)) ≤ length out₀
    kid_room u e b =
        let d = v.each u e b in
        omega (
          arith,
          d.count,
          room_for s u e,
          ap (λ (l : List Term). length (word_records l)) (sym d.all ∙ ap (λ (l : List Term). d.done ++ l) (block_next (under p) p u k stop h)),
          size_both d.done (under p (scalar_at p k ∷ u) k ++ block (under p) p u (suc k) (stop - suc k)),
          size_both (under p (scalar_at p k ∷ u) k) (block (under p) p u (suc k) (stop - suc k)),
        )

    module _ (row1 : List ℕ) (m : ℕ) (em : m ≡ n + length (bytes_of x)) (is1 : row1 ≡ laid_at n (bytes_of x) row) where
      head : (u : List ℕ) → reach p u ≡ at i → take n row₀ ≡ encode (rev u []) → take m row1 ≡ encode (rev (scalar_at p k ∷ u) [])
      head u e b =
          ap (λ (z : ℕ). take z row1) em ∙ ap (take (n + length (bytes_of x))) is1 ∙ laid_head row (bytes_of x) n scalar_fits.1
          ∙ ap (λ (l : List ℕ). l ++ bytes_of x) ((v.each u e b).keeps ∙ b) ∙ ap (λ (y : ℕ). encode (rev u []) ++ bytes_of y) ex ∙ sym (encode_more (scalar_at p k) u)

      kid_long : (u : List ℕ) → reach p u ≡ at i → length (word_records (under p (scalar_at p k ∷ u) k)) ≡ length (word_records (own (scalar_at p k ∷ u) (mark_at p k))) + length (word_records (kids p (scalar_at p k ∷ u) k))
      kid_long u e =
          ap (λ (l : List Term). length (word_records l)) (under_is p (scalar_at p k ∷ u) k (path_short p (used p) s.sound (scalar_at p k ∷ u) k (longer u e)))
          ∙ size_both (own (scalar_at p k ∷ u) (mark_at p k)) (kids p (scalar_at p k ∷ u) k)

      module _ (mark : ℕ) (ek : mark ≡ mark_at p k) where
        pub own_asks : length row1 ≡ length row → OwnAsks mark row1 m out end
        own_asks same1 = record {
          path = scalar_at p k ∷ s.path;
          fits = omega (arith, scalar_fits.1);
          bytes = head s.path s.leads s.bytes;
          room =
              omega (
                arith,
                kid_room s.path s.leads s.bytes,
                kid_long s.path s.leads,
                ap (λ (z : ℕ). length (word_records (own (scalar_at p k ∷ s.path) z))) ek,
                v.same_out,
              );
        }

        module _ (out1 : List ℕ) (next : ℕ) (own' : (u : List ℕ) → take m row1 ≡ encode (rev u []) → OwnWrote mark u out out1 end next) where
          own_long : (u : List ℕ) → reach p u ≡ at i → take n row₀ ≡ encode (rev u []) → next ≡ end + length (word_records (own (scalar_at p k ∷ u) (mark_at p k)))
          own_long u e b = (own' (scalar_at p k ∷ u) (head u e b)).count ∙ ap (λ (z : ℕ). end + length (word_records (own (scalar_at p k ∷ u) z))) ek

          pub kid_writes : length row1 ≡ length row → length out1 ≡ length out → Writes p k row1 m out1 next
          kid_writes same1 same2 = record {
            sound = s.sound;
            path = scalar_at p k ∷ s.path;
            leads = longer s.path s.leads;
            large = omega (arith, s.large, v.same_row);
            bytes = head s.path s.leads s.bytes;
            long = em ∙ scalar_long s.path s.long;
            room =
                omega (
                  arith,
                  kid_room s.path s.leads s.bytes,
                  kid_long s.path s.leads,
                  own_long s.path s.leads s.bytes,
                  v.same_out,
                );
          }

          module _ (row2 out2 : List ℕ) (r : ℕ) (wrote : (u : List ℕ) → reach p u ≡ at k → take m row1 ≡ encode (rev u []) → Wrote p k u row1 row2 m out1 out2 next r) where
            -- the child's own word and those below it
            kid_laid : (u : List ℕ) → reach p u ≡ at i → take n row₀ ≡ encode (rev u []) → out2 ≡ laid_at end (word_records (under p (scalar_at p k ∷ u) k)) out
            kid_laid u e b =
                let o = own' (scalar_at p k ∷ u) (head u e b) in
                let w = wrote (scalar_at p k ∷ u) (longer u e) (head u e b) in
                w.is ∙ ap (laid_at next (word_records (kids p (scalar_at p k ∷ u) k))) (o.is ∙ ap (λ (z : ℕ). laid_at end (word_records (own (scalar_at p k ∷ u) z)) out) ek)
                ∙ laid_then out (word_records (own (scalar_at p k ∷ u) (mark_at p k))) (word_records (kids p (scalar_at p k ∷ u) k)) end next (own_long u e b)
                (omega (arith, kid_room u e b, kid_long u e, own_long u e b, v.same_out))
                ∙ ap (λ (l : List ℕ). laid_at end l out) (sym (records_both (own (scalar_at p k ∷ u) (mark_at p k)) (kids p (scalar_at p k ∷ u) k)))
                ∙ ap (λ (l : List Term). laid_at end (word_records l) out) (sym (under_is p (scalar_at p k ∷ u) k (path_short p (used p) s.sound (scalar_at p k ∷ u) k (longer u e))))

            part_next : (u : List ℕ) → reach p u ≡ at i → take n row₀ ≡ encode (rev u []) → Part p u i row₀ row2 n out₀ out2 from r (k + 1) stop
            part_next u e b =
                let d = v.each u e b in
                let w = wrote (scalar_at p k ∷ u) (longer u e) (head u e b) in
                record {
                  done = d.done ++ under p (scalar_at p k ∷ u) k;
                  all = append_assoc d.done (under p (scalar_at p k ∷ u) k) (block (under p) p u (k + 1) (stop - (k + 1)))
                      ∙ ap (λ (z : ℕ). d.done ++ (under p (scalar_at p k ∷ u) k ++ block (under p) p u z (stop - z))) (add-one k)
                      ∙ ap (λ (l : List Term). d.done ++ l) (sym (block_next (under p) p u k stop h)) ∙ d.all;
                  keeps = sym (take-take n m row2 (omega arith)) ∙ ap (take n) w.keeps ∙ take-take n m row1 (omega arith)
                      ∙ ap (take n) is1 ∙ laid_before row (bytes_of x) n scalar_fits.1 ∙ d.keeps;
                  count = omega (arith, d.count, w.count, kid_long u e, own_long u e b, size_both d.done (under p (scalar_at p k ∷ u) k));
                  is = kid_laid u e b ∙ ap (laid_at end (word_records (under p (scalar_at p k ∷ u) k))) d.is
                      ∙ laid_then out₀ (word_records d.done) (word_records (under p (scalar_at p k ∷ u) k)) from end d.count (kid_room u e b)
                      ∙ ap (λ (l : List ℕ). laid_at from l out₀) (sym (records_both d.done (under p (scalar_at p k ∷ u) k)));
                }

            pub going_next : length row1 ≡ length row → length row2 ≡ length row1 → length out1 ≡ length out → length out2 ≡ length out1 → Going p i row₀ row2 n out₀ out2 from r (k + 1) stop
            going_next same1 same2 same3 same4 = record {
              last = v.last;
              low = omega (arith, v.low);
              high = omega arith;
              same_row = omega (arith, v.same_row);
              same_out = omega (arith, v.same_out);
              each = part_next;
            }

pub going_all : {p : List ℕ} {i : ℕ} {row₀ row : List ℕ} {n : ℕ} {out₀ out : List ℕ} {from end k stop : ℕ} → Going p i row₀ row n out₀ out from end k stop → stop ≤ k
    → (u : List ℕ) → reach p u ≡ at i → take n row₀ ≡ encode (rev u []) → Wrote p i u row₀ row n out₀ out from end
going_all {p} {i} {row₀} {row} {n} {out₀} {out} {from} {end} {k} {stop} v h u e b =
    let d = v.each u e b in
    let whole : d.done ≡ kids p u i = sym (append-nil d.done) ∙ ap (λ (z : List Term). d.done ++ z) (sym (block_none (under p) p u k stop h)) ∙ d.all in
    record {
      keeps = d.keeps;
      count = d.count ∙ ap (λ (z : List Term). from + length (word_records z)) whole;
      is = d.is ∙ ap (λ (z : List Term). laid_at from (word_records z) out₀) whole;
    }

-- ---- the root, and the last record

-- no word ends at the root
root_kids : (p : List ℕ) → list_of p ≡ kids p [] 0
root_kids p = under_root p ∙ under_is p [] 0 (omega arith) ∙ ap (λ (m : ℕ). own [] m ++ kids p [] 0) (root_mark p)

module _ (p : List ℕ) (g : Sound p (used p) 0) (out : List ℕ) (room : length (image_of (list_of p)) ≤ length out) where
  root_long : length (word_records (kids p [] 0)) ≡ length (word_records (list_of p))
  root_long = ap (λ (l : List Term). length (word_records l)) (sym (root_kids p))

  pub root_writes : (row : List ℕ) → 1020 ≤ length row → Writes p 0 row 0 out 0
  root_writes row h = record {
    sound = g;
    path = [];
    leads = refl;
    large = h;
    bytes = sym encode_none;
    long = sym (ap length encode_none);
    room = omega (arith, root_long, image_long (list_of p));
  }

  module _ (row row' out1 : List ℕ) (end : ℕ) (wrote : (u : List ℕ) → reach p u ≡ at 0 → take 0 row ≡ encode (rev u []) → Wrote p 0 u row row' 0 out out1 0 end) where
    w : Wrote p 0 [] row row' 0 out out1 0 end
    w = wrote [] refl (sym encode_none)

    pub last_room : length out1 ≡ length out → end + 10 ≤ length out1
    last_room same = omega (arith, w.count, root_long, image_long (list_of p))

    pub image_written : (n : ℕ) (new : List ℕ) → n ≡ amount p → new ≡ laid_at end (last_record n) out1 → new ≡ laid_at 0 (image_of (list_of p)) out
    unfolding image_of
    image_written n new en is =
        is ∙ ap (λ (k : ℕ). laid_at end (last_record k) out1) (en ∙ sym (list_long p (used p) g))
        ∙ ap (laid_at end (last_record (length (list_of p)))) (w.is ∙ ap (λ (l : List Term). laid_at 0 (word_records l) out) (sym (root_kids p)))
        ∙ laid_then out (word_records (list_of p)) (last_record (length (list_of p))) 0 end (w.count ∙ ap (λ (k : ℕ). 0 + k) root_long)
        (omega (arith, w.count, root_long, last_long (length (list_of p)), image_long (list_of p)))

-- a part laid on the front
pub laid_front : (part row : List ℕ) → laid_at 0 part row ≡ part ++ drop (length part) row
unfolding laid_at
laid_front part row = let z : 0 + length part ≡ length part = omega arith in ap (λ (k : ℕ). part ++ drop k row) z
