-- The order of edits speaks of the proved contracts: it holds of any runs of the dictionary's
-- functions. Assumes nothing.
use Rattle.std.specs.Prelude.{Result, Ok}
use Rattle.refusal.specs.declared.Refusal.{Refusal}
use Prim.Native.Nat.{ℕ}
use mathlib.Core.Path.{◌≡◌, subst}
use mathlib.Core.List.{List, map}
use Rattle.theorems_demands.specs.Demand3.{Freshened}
use Rattle.theorems_order.specs.Order.{Edit, Called, AllDone, adds, SameTold}
use Rattle.theorems_order.specs.Order as order
use Rattle.theorems_order.proofs.Order as shown
use Rattle.theorems_one_answer.specs.Runs.{call_of}
use Rattle.theorems_one_answer.specs.OrderRuns.{FreshRun, fresh_lent, fresh_left, EditRun, added, added_class, removed, edit_of, told_by, lent_to, left_by, InTurn, nothing, next, CutAlike, OrderOfRuns, FilesOfRuns, TwiceOfRuns, UnionOfRuns, UnionEitherWayOfRuns}
use Rattle.theorems_one_answer.proofs.Demand3.{runs}

-- what the contract of its function says of a run
pub called : (r : EditRun) → Called (told_by r) (edit_of r) (lent_to r) (left_by r)
called (added r) = r.promise
called (added_class r) = r.promise
called (removed r) = r.promise

-- the same of what it asked, of the pool that it was lent, and of its answer, as they are known
known : (r : EditRun) (e : Edit) (a : Result ℕ Refusal) (pool : List ℕ) → edit_of r ≡ e → told_by r ≡ a → lent_to r ≡ pool → Called a e pool (left_by r)
known r e a pool asked told lent =
    subst (λ (p : List ℕ). Called a e p (left_by r)) lent (subst (λ (x : Result ℕ Refusal). Called x e (lent_to r) (left_by r)) told (subst (λ (x : Edit). Called (told_by r) x (lent_to r) (left_by r)) asked (called r)))

all_done : {rs : List EditRun} {pool new : List ℕ} → InTurn rs pool new → AllDone (map edit_of rs) pool new
all_done nothing = order.nothing
all_done (next r {pool = pool} n lent told rs) = order.next (edit_of r) n (known r (edit_of r) (Ok n) pool (λ i. edit_of r) told lent) (all_done rs)

all_adds : {rs : List EditRun} {pool new : List ℕ} (words : List (List ℕ)) → map edit_of rs ≡ adds words → InTurn rs pool new → AllDone (adds words) pool new
all_adds {rs} {pool} {new} words e t = subst (λ (es : List Edit). AllDone es pool new) e (all_done t)

cut_alike : (p q : List ℕ) → SameTold p q → CutAlike p q
cut_alike p q s a b pa pb = runs a b (s.cuts (call_of a) (call_of b) pa pb)

fresh_is : (f : FreshRun) (n : ℕ) → f.answer ≡ Ok n → Freshened (Ok n) (fresh_lent f) (fresh_left f)
fresh_is f n e = subst (λ (x : Result ℕ Refusal). Freshened x (fresh_lent f) (fresh_left f)) e f.promise

pub order_of_runs : OrderOfRuns
order_of_runs e f f' e' i j k l ee ff ne te tf tf' te' lf lf' le' =
    shown.order (edit_of e) (edit_of f) (lent_to e) (left_by e) (left_by f) (left_by f') (left_by e') i j k l ne
    (known e (edit_of e) (Ok i) (lent_to e) (λ z. edit_of e) te (λ z. lent_to e))
    (known f (edit_of f) (Ok j) (left_by e) (λ z. edit_of f) tf lf)
    (known f' (edit_of f) (Ok k) (lent_to e) ff tf' lf')
    (known e' (edit_of e) (Ok l) (left_by f') ee te' le')

pub files_of_runs : FilesOfRuns
files_of_runs a b one two pool pool' p q held d j k h h' x y =
    let r = shown.files a b (map edit_of one) (map edit_of two) pool pool' p q held d j k h h' (all_done x) (all_done y) in
    (r.0, cut_alike p q r.1, r.2)

pub twice_of_runs : TwiceOfRuns
twice_of_runs e f n same told lent =
    shown.twice (edit_of e) (lent_to e) (left_by e) (left_by f) n (told_by f)
    (known e (edit_of e) (Ok n) (lent_to e) (λ z. edit_of e) told (λ z. lent_to e))
    (known f (edit_of e) (told_by f) (left_by e) same (λ z. told_by f) lent)

pub union_of_runs : UnionOfRuns
union_of_runs a b f x y mid new n told xs ys tx ty = shown.union a b (fresh_lent f) (fresh_left f) mid new n (fresh_is f n told) (all_adds a xs tx) (all_adds b ys ty)

pub union_either_way_of_runs : UnionEitherWayOfRuns
union_either_way_of_runs a b f f' x y y' x' mid new mid' new' n n' told xs ys tx ty told' ys' xs' ty' tx' =
    let r = shown.union_either_way a b (fresh_lent f) (fresh_left f) mid new (fresh_lent f') (fresh_left f') mid' new' n n'
    (fresh_is f n told) (all_adds a xs tx) (all_adds b ys ty) (fresh_is f' n' told') (all_adds b ys' ty') (all_adds a xs' tx') in
    (r.0, cut_alike new new' r.1, r.2)
