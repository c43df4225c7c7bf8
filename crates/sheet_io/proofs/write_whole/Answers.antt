use Rattle.std.proofs.Common.{arith, ◌≡◌, ℕ, ◌≤◌, ◌+◌, ◌-◌, List, ◌++◌, length, take, drop, sym, ap, ◌∙◌, subst}
use Rattle.std.proofs.lemmas.List.{take_rest}
use Rattle.std.specs.Io.KnownBytes.{Appends}
use Rattle.std.proofs.KnownBytes.{Appends-trans}
use lib.Seq.{take-add}
use lib.ListN.{length-drop}
use Rattle.sheet_io.proofs.write_whole.Goals as goal

-- What has gone and what goes now are the front of the text together.
goes_on : (at put : ℕ) (text : List ℕ) → take at text ++ take put (take (length text - at) (drop at text)) ≡ take (at + put) text
goes_on at put text = ap (λ l. take at text ++ take put l) (take_rest text at) ∙ sym (take-add at put text)

stays_within : (at put : ℕ) (text : List ℕ) → at ≤ length text → put ≤ length (take (length text - at) (drop at text)) → at + put ≤ length text
stays_within at put text low fits =
    let rest : put ≤ length (drop at text) = subst (λ l. put ≤ length l) (take_rest text at) fits in
    omega (arith, length-drop at text)

pub loop-preserved-in-Ok : goal.loop-preserved-in-Ok
loop-preserved-in-Ok g c =
    let at = c.loop.at in
    let text = c.args.text.now in
    let grown = Appends-trans _ _ _ _ _ c.loop.invariant.1 c.in-Ok.ensures.bytes in
    (stays_within at c.in-Ok.put text c.loop.invariant.0 c.in-Ok.ensures.bound, subst (Appends _ _) (goes_on at c.in-Ok.put text) grown)
