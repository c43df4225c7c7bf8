use mathlib.Core.Path.{refl}
use native.Mathlib.Omega.{arith}
use Rattle.trie_half.proofs.Passing.{refused, accepted}
use Rattle.trie_well_formed.proofs.Whole.{at_n, of_n, nodes_of, sound_of, starts_fit, starts_at, starts_from}
use Rattle.trie_half.proofs.half_ok.Goals as goal

pub returns-then-n-eq0 : goal.returns-then-n-eq0
returns-then-n-eq0 c =
    refused _ _ c.requires.2 c.requires.3
    (λ d. omega (arith, d.sound.shaped.some, c.if-n-eq0.true))

pub returns-then-most-n : goal.returns-then-most-n
returns-then-most-n c = refused _ _ c.requires.2 c.requires.3 (λ d. omega (arith, d.room, c.if-most-n.true))

pub unused_ok-requires : goal.unused_ok-requires
unused_ok-requires c = (omega (arith, c.if-most-n.false, c.requires.2), c.requires.1)

pub returns-then-not-unused_ok : goal.returns-then-not-unused_ok
returns-then-not-unused_ok c =
    refused _ _ c.requires.2 c.requires.3
    (λ d. let h = at_n _ _ refl d.sound in c.unused_ok.ensures.no'
    c.if-not-unused_ok.true h.spare.blank)

pub nodes_ok-requires : goal.nodes_ok-requires
nodes_ok-requires c =
    record {
      small = (omega (arith, c.if-n-eq0.false), omega (arith, c.if-most-n.false, c.requires.2));
      room = omega (arith, c.if-most-n.false, c.requires.3);
      both = λ e. absurd (omega arith);
      used = refl;
    }

pub returns-then-not-nodes_ok : goal.returns-then-not-nodes_ok
returns-then-not-nodes_ok c =
    refused _ _ c.requires.2 c.requires.3
    (λ d. c.nodes_ok.ensures.no' c.if-not-nodes_ok.true
    (record { nodes = nodes_of _ _ (at_n _ _ refl d.sound); aside = λ e. absurd (omega arith) }))

pub starts_ok-requires : goal.starts_ok-requires
starts_ok-requires c =
    starts_fit c.args.p.now _ _ (c.nodes_ok.ensures.yes' c.if-not-nodes_ok.false).nodes
    (omega (arith, c.if-most-n.false, c.requires.3)) refl

pub returns-then-not-starts_ok : goal.returns-then-not-starts_ok
returns-then-not-starts_ok c =
    refused _ _ c.requires.2 c.requires.3
    (λ d. c.starts_ok.ensures.no' c.if-not-starts_ok.true
    (starts_from c.args.p.now _ refl d.sound.start))

pub shallow-requires : goal.shallow-requires
shallow-requires c = ((c.nodes_ok.ensures.yes' c.if-not-nodes_ok.false).nodes.shaped, omega (arith, c.if-most-n.false, c.requires.3))

pub returns-then-not-shallow : goal.returns-then-not-shallow
returns-then-not-shallow c =
    refused _ _ c.requires.2 c.requires.3
    (λ d. let h = at_n _ _ refl d.sound in c.shallow.ensures.no'
    c.if-not-shallow.true h.shallow)

pub returns : goal.returns
returns c =
    accepted _ _ (record {
      sound = of_n _ _ refl
          (sound_of _ _ (c.nodes_ok.ensures.yes' c.if-not-nodes_ok.false).nodes
          (omega (arith, c.if-most-n.false, c.requires.3)) (omega (arith, c.if-most-n.false, c.requires.2))
          refl (c.unused_ok.ensures.yes' c.if-not-unused_ok.false)
          (starts_at c.args.p.now _ refl
          (c.starts_ok.ensures.yes' c.if-not-starts_ok.false))
          (c.shallow.ensures.yes' c.if-not-shallow.false));
      room = omega
          (arith, c.if-most-n.false);
    })
