-- What the verdict on a claim says. Assumes nothing.
use Rattle.std.specs.Prelude.{Result, Ok, Err}
use Rattle.refusal.specs.declared.Refusal.{Refusal}
use Prim.Native.Nat.{ℕ, suc, ◌+◌, ◌*◌, ◌≤◌}
use native.Mathlib.Omega.{arith}
use mathlib.Core.Path.{◌≡◌, refl, sym, ◌∙◌, ap, subst}
use mathlib.Core.Bool.{Bool, true, false, cond}
use mathlib.Core.List.{List, [], ◌∷◌}
use mathlib.Core.Option.{Option, some}
use lib.ListN.{length, take}
use lib.Dec.{ltb, eqb}
use borrow.Author.Tests.{le-ltb, ne_eqb, eqb-false}
use Rattle.refusal.specs.Answers.{answer}
use Rattle.refusal.proofs.Causes.{none_of}
use Rattle.lists.specs.Scans.{leading}
use Rattle.char_string_scalars.specs.Scalars.{first_non_scalar}
use Rattle.tcc_rules.specs.Patterns.{holds_at, match}
use Rattle.tcc_rules.specs.Clusters.{cluster_end, ends_from, cluster_ends}
use Rattle.tcc.specs.Flags.{is_end}
use Rattle.trie_pool.specs.Meaning.{Words, words_in, meaning}
use Rattle.trie_pool.proofs.Terms.{means_of}
use Rattle.trie_check.specs.Refusals.{held}
use Rattle.newmm_rules.specs.Positions.{up_from, those, first_or, any, inserted}
use Rattle.newmm_rules.specs.NonThai.{groups, number, first_match, non_thai}
use Rattle.newmm_rules.specs.Words.{Given, size, word_ends}
use Rattle.newmm_rules.specs.Search.{queued, passed, after, searched, path_to}
use Rattle.newmm_rules.specs.NonDictionary.{stops_at, skip_end, token_end}
use Rattle.newmm_rules.specs.Cutting.{recorded, recorded_all, graph_of, settled, turn, turns, cut}
use Rattle.newmm_rules.specs.Tokens.{Token}
use Rattle.newmm_rules.specs.Claims.{token_right, Verdict, right, wrong, verdict_from, verdict}
use Rattle.newmm_rules.specs.declared.Mode.TheVariants.{Plain}
use Rattle.newmm_rules.proofs.Claims.{right_token, token_right_holds, tokens_of, of_tokens}
use Rattle.newmm_answers.specs.Answers.{given, plain_cut, cut_of, scratch_for, first_causes, cut_causes, accepts}
use Rattle.newmm_claim.specs.Answers.{verdict_told, claim_told, claim_answer}
use Rattle.theorems_demands.specs.Claims.{RightExactly, Breaks, short, here, behind, WrongExactly, OursPass, AnswersPass, NotOurs, SameWordsSameVerdict, ReachedSameVerdict}
use Rattle.newmm_answers.proofs.Told.{told_ends}
use Rattle.theorems_demands.proofs.Demand3.{all_pass}
use Rattle.theorems_demands.proofs.Ends.{plain_tokens, told}
use Rattle.theorems_demands.proofs.Reaching.{means}

-- ---- right and wrong

pub right_exactly : RightExactly
right_exactly g claimed = (λ h. tokens_of g 0 0 claimed h, λ t. of_tokens g 0 t refl)

-- token j of the whole is token i of the ends from token k on
record Names (g : Given) (k a : ℕ) (es : List ℕ) (j : ℕ) : Type 0 where
  i : ℕ
  place : j ≡ k + i
  breaks : Breaks g a es i

module _ (g : Given) where
  not_wrong : {k : ℕ} {A : Type 0} → right ≡ wrong k → A
  not_wrong h = absurd (let z : ◌≡◌ {A = ℕ} 0 1 = cc in omega arith)

  names : (k a : ℕ) (es : List ℕ) (j : ℕ) → verdict_from g k a es ≡ wrong j → Names g k a es j
  unfolding verdict_from
  names k a [] j h = go (eqb a (size g)) refl h
    where
      go : (t : Bool) → eqb a (size g) ≡ t → cond t right (wrong k) ≡ wrong j → Names g k a [] j
      go true e q = not_wrong q
      go false e q = let p : k ≡ j = cc in record { i = 0; place = omega arith; breaks = short (eqb-false a (size g) e) }
  names k a (e ∷ es) j h = go (λ q. names (suc k) e es j q) (token_right g a e) refl h
    where
      not_both : token_right g a e ≡ false → Token g a e → ⊥
      not_both d t = let z : true ≡ false = sym (token_right_holds g a e t) ∙ d in absurd (let y : ◌≡◌ {A = ℕ} 0 1 = cc in omega arith)

      go : (verdict_from g (suc k) e es ≡ wrong j → Names g (suc k) e es j) → (t : Bool) → token_right g a e ≡ t → cond t (verdict_from g (suc k) e es) (wrong k) ≡ wrong j → Names g k a (e ∷ es) j
      go ih true d q = let n = ih q in record { i = suc n.i; place = omega (arith, n.place); breaks = behind (right_token g a e d) n.breaks }
      go ih false d q = let p : k ≡ j = cc in record { i = 0; place = omega arith; breaks = here (not_both d) }

  named : (k : ℕ) {a i : ℕ} {es : List ℕ} → Breaks g a es i → verdict_from g k a es ≡ wrong (k + i)
  unfolding verdict_from
  named k {a} (short n) =
      let z : k ≡ k + 0 = omega arith in
      ap (λ (t : Bool). cond t right (wrong k)) (ne_eqb a (size g) n) ∙ ap wrong z
  named k {a} (here {e = e} {es = es} n) =
      let z : k ≡ k + 0 = omega arith in
      ap (λ (t : Bool). cond t (verdict_from g (suc k) e es) (wrong k)) (no_token e n) ∙ ap wrong z
    where
      no_token : (e : ℕ) → (Token g a e → ⊥) → token_right g a e ≡ false
      no_token e n = go (token_right g a e) refl
        where
          go : (t : Bool) → token_right g a e ≡ t → t ≡ false
          go true d = absurd (n (right_token g a e d))
          go false d = refl
  named k {a} (behind {e = e} {k = i} {es = es} t b) =
      let z : suc k + i ≡ k + suc i = omega arith in
      ap (λ (u : Bool). cond u (verdict_from g (suc k) e es) (wrong k)) (token_right_holds g a e t) ∙ named (suc k) b ∙ ap wrong z

pub wrong_exactly : WrongExactly
wrong_exactly g claimed k = (
  λ h. let n = names g 0 0 claimed k h in let z : n.i ≡ k = omega (arith, n.place) in subst (λ (i : ℕ). Breaks g 0 claimed i) z n.breaks,
  λ b. let z : 0 + k ≡ k = omega arith in named g 0 b ∙ ap wrong z,
)

-- ---- ours

pub ours_pass : OursPass
ours_pass words text = of_tokens (given words text) 0 (plain_tokens words text) refl

pub not_ours : NotOurs
unfolding leading holds_at match cluster_end ends_from cluster_ends is_end up_from those first_or any inserted groups number first_match non_thai word_ends queued passed after searched path_to stops_at skip_end token_end recorded recorded_all graph_of settled turn turns cut plain_cut cut_of token_right verdict_from
not_ours = record { passes = refl; not_ours = λ h. let e : ◌≡◌ {A = List ℕ} (2 ∷ 4 ∷ []) (3 ∷ 4 ∷ []) = h in let z : ◌≡◌ {A = ℕ} 2 3 = cc in omega arith }

-- ---- calls

module _ (text claimed : List ℕ) (words : Words) (cells : ℕ) (room : scratch_for (length text) ≤ cells) where
  -- a text of scalars, with scratch enough
  passing : ltb 65535 (length text) ≡ false → ltb (first_non_scalar text) (length text) ≡ false → answer (first_causes text (some words) cells) 0 ≡ Ok 0
  passing few legal = all_pass (first_causes text (some words) cells) 0 (few, (legal, (refl, (le-ltb cells (9 * length text + 128) room, tt))))

  -- a call that gave a verdict was not refused, so the other is not
  same_told : (cells' : ℕ) (x : Result ℕ Refusal) → answer (first_causes text (some words) cells') 0 ≡ x → (v : Verdict) → claim_told x (verdict (given words text) claimed) ≡ Ok (verdict_told v)
      → claim_answer text (some words) cells claimed ≡ Ok (verdict_told v)
  same_told cells' (Ok n) e v h =
      let r = none_of (first_causes text (some words) cells') 0 n e in
      ap (λ (x : Result ℕ Refusal). claim_told x (verdict (given words text) claimed)) (passing r.0 r.1.0) ∙ h
  same_told cells' (Err r) e right h = absurd (let z : ◌≡◌ {A = ℕ} 0 1 = cc in omega arith)
  same_told cells' (Err r) e (wrong k) h = absurd (let z : ◌≡◌ {A = ℕ} 0 1 = cc in omega arith)

pub same_words_same_verdict : SameWordsSameVerdict
same_words_same_verdict a b v w pa pb same text claimed u h room =
    let ma : meaning a.pool ≡ some w = pa ∙ (λ i. some (λ (x : List ℕ). same x i)) in
    let ha : claim_answer b.text (some w) (length a.scratch) b.claimed ≡ Ok (verdict_told u) =
    sym (λ i. claim_answer (text i) (ma i) (length a.scratch) (claimed i)) ∙ h in
    ap (λ (m : Option Words). claim_answer b.text m (length b.scratch) b.claimed) pb
    ∙ same_told b.text b.claimed w (length b.scratch) room (length a.scratch) _ refl u ha

pub reached_same_verdict : ReachedSameVerdict
reached_same_verdict a b v w ra rb = same_words_same_verdict a b (words_in v) (words_in w) (means_of a.pool v (means ra)) (means_of b.pool w (means rb))

some_one : {v w : Words} → ◌≡◌ {A = Option Words} (some v) (some w) → v ≡ w
some_one h = cc

pub answers_pass : AnswersPass
answers_pass a c v w n edges pa pc same plain h text claimed room =
    let t = told a n edges h in
    let words : t.words ≡ w = some_one (sym t.means ∙ pa) ∙ (λ i. λ (x : List ℕ). same x i) in
    let ours : c.claimed ≡ (cut_of Plain w c.text).ends = claimed ∙ t.front ∙ (λ i. (cut_of (plain i) (words i) (sym text i)).ends) in
    let accepted = (told_ends (accepts a.mode a.text (meaning a.pool) (length a.scratch) (length a.out)) (cut_of a.mode (held (meaning a.pool)) a.text).edges n edges h).0 in
    let r = none_of (cut_causes a.mode a.text (meaning a.pool) (length a.scratch) (length a.out)) (length (cut_of a.mode (held (meaning a.pool)) a.text).ends) n accepted in
    let few : ltb 65535 (length c.text) ≡ false = ap (λ (l : List ℕ). ltb 65535 (length l)) text ∙ r.0 in
    let legal : ltb (first_non_scalar c.text) (length c.text) ≡ false = ap (λ (l : List ℕ). ltb (first_non_scalar l) (length l)) text ∙ r.1.0 in
    ap (λ (m : Option Words). claim_answer c.text m (length c.scratch) c.claimed) pc
    ∙ ap (λ (x : Result ℕ Refusal). claim_told x (verdict (given w c.text) c.claimed)) (passing c.text c.claimed w (length c.scratch) room few legal)
    ∙ ap (λ (l : List ℕ). Ok (verdict_told (verdict (given w c.text) l))) ours
    ∙ ap (λ (v : Verdict). Ok (verdict_told v)) (ours_pass w c.text)
