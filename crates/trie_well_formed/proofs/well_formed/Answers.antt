use mathlib.Core.Path.{refl, sym}
use Prim.Native.Nat.{◌+◌, ◌*◌}
use native.Mathlib.Omega.{arith}
use Rattle.trie_well_formed.proofs.Passing.{refused, accepted}
use Rattle.trie_well_formed.proofs.Whole.{at_n, of_n, plain_nodes_of, sound_of, plain_of, blank_of, starts_fit, starts_at, starts_from}
use Rattle.trie_nodes.proofs.Ends.{all_plain, plain_nodes}
use Rattle.trie_well_formed.proofs.well_formed.Goals as goal

pub returns-then-p-lt-NODE : goal.returns-then-p-lt-NODE
returns-then-p-lt-NODE c = refused _ (λ d. omega (arith, d.room, d.sound.shaped.some))

pub returns-then-n-eq0 : goal.returns-then-n-eq0
returns-then-n-eq0 c = refused _ (λ d. omega (arith, d.sound.shaped.some, c.if-n-eq0.true))

pub returns-then-n-gt-MAX_NODES : goal.returns-then-n-gt-MAX_NODES
returns-then-n-gt-MAX_NODES c = refused _ (λ d. omega (arith, d.sound.small, c.if-n-gt-MAX_NODES.true))

pub returns-then-p-n : goal.returns-then-p-n
returns-then-p-n c = refused _ (λ d. omega (arith, d.room, c.if-p-n.true))

pub returns-then-p-ne0 : goal.returns-then-p-ne0
returns-then-p-ne0 c = refused _ (λ d. c.if-p-ne0.true d.plain.root)

pub returns-then-not-blank : goal.returns-then-not-blank
returns-then-not-blank c =
    refused _ (λ d. c.blank.ensures.no' c.if-not-blank.true
    (blank_of _ _ (at_n _ _ refl d.sound) d.plain))

pub nodes_ok-requires : goal.nodes_ok-requires
nodes_ok-requires c = record { small = (omega arith, omega arith); room = omega arith; both = λ e. omega arith; used = refl }

pub returns-then-not-nodes_ok : goal.returns-then-not-nodes_ok
returns-then-not-nodes_ok c =
    refused _ (λ d. c.nodes_ok.ensures.no' c.if-not-nodes_ok.true
    (all_plain (plain_nodes_of _ _ (at_n _ _ refl d.sound) d.plain)))

pub starts_ok-requires : goal.starts_ok-requires
starts_ok-requires c =
    starts_fit c.args.p.now _ _ (c.nodes_ok.ensures.yes' c.if-not-nodes_ok.false).nodes
    (omega (arith, c.if-p-n.false)) refl

pub returns-then-not-starts_ok : goal.returns-then-not-starts_ok
returns-then-not-starts_ok c =
    refused _ (λ d. c.starts_ok.ensures.no' c.if-not-starts_ok.true
    (starts_from c.args.p.now _ refl d.sound.start))

pub shallow-requires : goal.shallow-requires
shallow-requires c = ((c.nodes_ok.ensures.yes' c.if-not-nodes_ok.false).nodes.shaped, omega (arith, c.if-p-n.false))

pub returns-then-not-shallow : goal.returns-then-not-shallow
returns-then-not-shallow c =
    refused _ (λ d. let h = at_n _ _ refl d.sound in c.shallow.ensures.no'
    c.if-not-shallow.true h.shallow)

pub returns : goal.returns
returns c =
    accepted _ (record {
      sound = of_n _ _ refl
          (sound_of _ _ (c.nodes_ok.ensures.yes' c.if-not-nodes_ok.false).nodes (omega (arith, c.if-p-n.false))
          (omega (arith, c.if-n-gt-MAX_NODES.false)) refl
          (λ i r a b. c.blank.ensures.yes' c.if-not-blank.false (8 * i + r) (omega arith))
          (starts_at c.args.p.now _ refl
          (c.starts_ok.ensures.yes' c.if-not-starts_ok.false))
          (c.shallow.ensures.yes' c.if-not-shallow.false));
      plain = plain_of _ _
          (plain_nodes (c.nodes_ok.ensures.yes' c.if-not-nodes_ok.false)) c.if-p-ne0.false
          (c.blank.ensures.yes' c.if-not-blank.false);
      room = omega
          (arith, c.if-p-n.false, c.if-n-gt-MAX_NODES.false);
    })
