-- Two runs in which a plant has the same limit and makes the same calls: it is told the same.
-- Assumes nothing.
use Prim.Native.Nat.{ℕ, ◌*◌}
use native.Mathlib.Omega.{arith}
use mathlib.Core.Path.{◌≡◌, refl, sym, ap, subst, ◌∙◌}
use mathlib.Core.Bool.{Bool, true, false, cond}
use mathlib.Core.List.{List, [], ◌∷◌}
use lib.ListN.{length, drop}
use Rattle.trie_pool.specs.Rules.{capacity}
use Rattle.trie_pool.specs.Meaning.{no_term}
use Rattle.trie_pool.proofs.Rules.{clash}
use Rattle.trie_plants.specs.declared.Plant.{Plant}
use Rattle.trie_plants.specs.declared.Plant.TheVariants.{A, B}
use Rattle.trie_plants.specs.Halves.{other_of, room_of, limit_of}
use Rattle.trie_plants.specs.Rules.{is_plants}
use Rattle.trie_plants.proofs.Parts.{terms_known}
use Rattle.trie_plants.proofs.Same.{pool_same}
use Rattle.trie_plants_answers.proofs.One.{one_own}
use Rattle.theorems_plants.specs.Plants.{Call, Told, Kept, SameOwn, EitherOrder, Step, Steps, nothing, next, Run, limit_for, same_plant, asked_by, told_to, Undisturbed, EitherPlant}
use Rattle.theorems_plants.proofs.Own.{T, by_own}
use Rattle.theorems_plants.proofs.Frame.{beside, same_self, same_back, same_on, same_beside}

-- ---- whose call it is

pub is_plant : (p q : Plant) → same_plant p q ≡ true → q ≡ p
is_plant A A e = refl
is_plant A B e = clash e
is_plant B A e = clash e
is_plant B B e = refl

pub is_other : (p q : Plant) → same_plant p q ≡ false → other_of q ≡ p
is_other A A e = clash (sym e)
is_other A B e = refl
is_other B A e = refl
is_other B B e = clash (sym e)

other_other : (p : Plant) → other_of (other_of p) ≡ p
other_other A = refl
other_other B = refl

-- ---- either order

-- two pools that came of one hold the same of each plant: so they are the same
one_pool : (pool p q : List ℕ) → ((any : Plant) → SameOwn any p any q) → ((any : Plant) → room_of any p ≡ room_of any q) → drop (8 * capacity pool) p ≡ drop (8 * capacity pool) q
    → length p ≡ length pool → length q ≡ length pool → p ≡ q
one_pool pool p q same rooms later long_p long_q =
    pool_same p q (long_p ∙ sym long_q) (λ any. one_own any p q (same any).terms_one (same any).means_one (sym (T any any p q (same any)) ∙ (same any).means_one) (rooms any)) (capacity pool) (omega (arith, long_p)) later

pub either_order : EitherOrder
either_order p call other pool p₁ p₂ q₁ q₂ t u t' u' known k₁ k₂ k₃ k₄ =
    let q : Plant = other_of p in
    let b₁ = beside p call pool p₁ known k₁.left in
    let b₂ = beside q other p₁ p₂ b₁.passes k₂.left in
    let b₃ = beside q other pool q₁ known k₃.left in
    let b₄ = beside p call q₁ q₂ b₃.passes k₄.left in
    let own = by_own p p call pool p₁ q₁ q₂ t t' (same_beside p q (other_other p) other pool q₁ known k₃.left) k₁ k₄ in
    let others = by_own q q other p₁ p₂ pool q₁ u u' (same_back q q pool p₁ (same_beside q p refl call pool p₁ known k₁.left)) k₂ k₃ in
    let for_p : SameOwn p p₂ p q₂ = same_on p p p p₂ p₁ q₂ (same_back p p p₁ p₂ (same_beside p q (other_other p) other p₁ p₂ b₁.passes k₂.left)) own.1 in
    let for_q : SameOwn q p₂ q q₂ = same_on q q q p₂ q₁ q₂ others.1 (same_beside q p refl call q₁ q₂ b₃.passes k₄.left) in (
      own.0,
      others.0,
      one_pool pool p₂ q₂ (either p for_p for_q) (λ any. b₂.rooms any ∙ b₁.rooms any ∙ sym (b₄.rooms any ∙ b₃.rooms any))
          (behind pool p₁ p₂ b₁.long b₁.later b₂.later ∙ sym (behind pool q₁ q₂ b₃.long b₃.later b₄.later))
          (b₂.long ∙ b₁.long) (b₄.long ∙ b₃.long),
    )
  where
    either : (p : Plant) → SameOwn p p₂ p q₂ → SameOwn (other_of p) p₂ (other_of p) q₂ → (any : Plant) → SameOwn any p₂ any q₂
    either A a b A = a
    either A a b B = b
    either B b a A = a
    either B b a B = b

    behind : (old mid new : List ℕ) → length mid ≡ length old → drop (8 * capacity old) mid ≡ drop (8 * capacity old) old → drop (8 * capacity mid) new ≡ drop (8 * capacity mid) mid
        → drop (8 * capacity old) new ≡ drop (8 * capacity old) old
    behind old mid new long a b =
        let c : capacity old ≡ capacity mid = omega (arith, long) in
        ap (λ (k : ℕ). drop (8 * k) new) c ∙ b ∙ sym (ap (λ (k : ℕ). drop (8 * k) mid) c) ∙ a

-- ---- a run as one plant sees it

-- a call of its own, on a pool in which it holds what it held when the one before it was told
record Turn (plant : Plant) (pool : List ℕ) (call : Call) (told : Told) (Rest : List ℕ → Type 0) : Type 0 where
  lent : List ℕ
  left : List ℕ
  still : SameOwn plant pool plant lent
  kept : Kept plant call lent left told
  rest : Rest left

abbrev Own : Plant → List ℕ → List Call → List Told → List ℕ → Type 0
Own plant pool [] [] new = SameOwn plant pool plant new
Own plant pool [] (t ∷ ts) new = ⊥
Own plant pool (c ∷ cs) [] new = ⊥
Own plant pool (c ∷ cs) (t ∷ ts) new = Turn plant pool c t (λ left. Own plant left cs ts new)

-- from a pool in which it holds the same
from : (plant : Plant) (pool mid : List ℕ) (cs : List Call) (ts : List Told) (new : List ℕ) → SameOwn plant pool plant mid → Own plant mid cs ts new → Own plant pool cs ts new
from plant pool mid [] [] new s o = same_on plant plant plant pool mid new s o
from plant pool mid [] (t ∷ ts) new s o = o
from plant pool mid (c ∷ cs) [] new s o = o
from plant pool mid (c ∷ cs) (t ∷ ts) new s o = record { lent = o.lent; left = o.left; still = same_on plant plant plant pool mid o.lent s o.still; kept = o.kept; rest = o.rest }

own_steps : (plant : Plant) {ss : List Step} {pool new : List ℕ} → Steps ss pool new → is_plants pool ≡ true → Own plant pool (asked_by plant ss) (told_to plant ss) new
own_steps plant (nothing {pool = pool}) known = same_self plant pool known
own_steps plant (next s {ss = ss} {old = old} {mid = mid} {new = new} k ks) known =
    go (same_plant plant s.plant) refl (own_steps plant ks (beside s.plant s.call old mid known k.left).passes)
  where
    go : (b : Bool) → same_plant plant s.plant ≡ b → Own plant mid (asked_by plant ss) (told_to plant ss) new
        → Own plant old (cond b (s.call ∷ asked_by plant ss) (asked_by plant ss)) (cond b (s.told ∷ told_to plant ss) (told_to plant ss)) new
    go true e o = record { lent = old; left = mid; still = same_self plant old known; kept = subst (λ (p : Plant). Kept p s.call old mid s.told) (is_plant plant s.plant e) k; rest = o }
    go false e o = from plant old mid (asked_by plant ss) (told_to plant ss) new (same_beside plant s.plant (is_other plant s.plant e) s.call old mid known k.left) o

-- ---- two of them

alike : (p q : Plant) (cs : List Call) (ts us : List Told) (one two new new' : List ℕ) → SameOwn p one q two → Own p one cs ts new → Own q two cs us new' → (ts ≡ us) × SameOwn p new q new'
alike p q [] [] [] one two new new' s a b = (refl, same_on p p q new one new' (same_back p p one new a) (same_on p q q one two new' s b))
alike p q [] [] (u ∷ us) one two new new' s a b = absurd b
alike p q [] (t ∷ ts) us one two new new' s a b = absurd a
alike p q (c ∷ cs) [] us one two new new' s a b = absurd a
alike p q (c ∷ cs) (t ∷ ts) [] one two new new' s a b = absurd b
alike p q (c ∷ cs) (t ∷ ts) (u ∷ us) one two new new' s a b =
    let met : SameOwn p a.lent q b.lent = same_on p p q a.lent one b.lent (same_back p p one a.lent a.still) (same_on p q q one two b.lent s b.still) in
    let turn = by_own p q c a.lent a.left b.lent b.left t u met a.kept b.kept in
    let rest = alike p q cs ts us a.left b.left new new' turn.1 a.rest b.rest in
    ((λ i. turn.0 i ∷ rest.0 i), rest.1)

-- ---- from the start

module _ (limit_a limit_b : ℕ) (steps : List Step) (pool : List ℕ) (r : Run limit_a limit_b steps pool) where
  pub begun_passes : is_plants r.begun ≡ true
  begun_passes = terms_known A r.begun no_term (r.started.means A)

  pub begun_limit : (plant : Plant) → limit_of plant r.begun ≡ limit_for plant limit_a limit_b
  begun_limit A = r.started.limit_of_a
  begun_limit B = r.started.limit_of_b

pub either_plant : EitherPlant
either_plant p q limit_a limit_b limit_a' limit_b' one two new new' r r' limit asked =
    alike p q (asked_by p one) (told_to p one) (told_to q two) r.begun r'.begun new new' begin
    (own_steps p r.calls (begun_passes limit_a limit_b one new r))
    (subst (λ (cs : List Call). Own q r'.begun cs (told_to q two) new') (sym asked) (own_steps q r'.calls (begun_passes limit_a' limit_b' two new' r')))
  where
    begin : SameOwn p r.begun q r'.begun
    begin = record {
      terms_one = no_term;
      terms_two = no_term;
      means_one = r.started.means p;
      means_two = r'.started.means q;
      same = λ v. refl;
      limit = begun_limit limit_a limit_b one new r p ∙ limit ∙ sym (begun_limit limit_a' limit_b' two new' r' q);
    }

pub undisturbed : Undisturbed
undisturbed plant = either_plant plant plant
