-- No second answer fits a contract.
use Rattle.std.specs.Prelude.{ℕ, ◌≡◌, List}
use contract.Lifetimes.{Lfts}
use borrow.Fn.Kinds.{ParamKind, ResultKind, Dens, res_t, ended_of}
use denote.Triple.Clauses.{AtExit}

-- A function has lifetimes, parameters and a result: n, ps and r. The kit computes them from its
-- signature. With the lifetimes κs of one call it gives a type to what the call is given, to what
-- it answers, and to the lent memory as it returns.
abbrev pub Arguments : {n : ℕ} → Lfts n → List (ParamKind n) → Type 0
Arguments κs ps = Dens κs ps

abbrev pub Result : {n : ℕ} → Lfts n → ResultKind n → Type 0
Result κs r = (res_t r κs).Denot

abbrev pub Exit : {n : ℕ} → Lfts n → List (ParamKind n) → ResultKind n → Type 0
Exit {n} κs ps r = AtExit (ended_of n ps r) κs

-- A contract's promise: what the check has proved of every call of the function.
abbrev pub Promise : (n : ℕ) → List (ParamKind n) → ResultKind n → Type 1
Promise n ps r = (κs : Lfts n) → Arguments κs ps → Result κs r → Exit κs ps r → Type 0

-- What a caller sees of a call: the answer, and the cells of each row that was lent to be written.
abbrev pub Seen : Type 0 → (n : ℕ) → List (ParamKind n) → ResultKind n → Type 0
Seen A n ps r = (κs : Lfts n) → Result κs r → Exit κs ps r → A

-- ONE ANSWER: any two calls with the same arguments that keep the promise are seen as the same.
abbrev pub OneAnswer : {A : Type 0} (n : ℕ) (ps : List (ParamKind n)) (r : ResultKind n) → Promise n ps r → Seen A n ps r → Type 0
OneAnswer n ps r promise seen =
    (κs : Lfts n) (a : Arguments κs ps) (x y : Result κs r) (s t : Exit κs ps r)
    → promise κs a x s
    → promise κs a y t
    → seen κs x s ≡ seen κs y t
