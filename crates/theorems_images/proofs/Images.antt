-- One image for the same words and classes, and the ways back. Assumes nothing.
use Prim.Native.Nat.{ℕ}
use native.Mathlib.Omega.{arith}
use mathlib.Core.Path.{◌≡◌, refl, sym, ap, ◌∙◌}
use mathlib.Core.List.{List}
use mathlib.Core.Option.{some}
use Rattle.trie_pool.specs.Cells.{used}
use Rattle.trie_pool.specs.Words.{term_at}
use Rattle.trie_pool.specs.Rules.{cells_of, is_dictionary}
use Rattle.trie_pool.specs.Meaning.{Terms, terms}
use Rattle.trie_pool.proofs.Rules.{sound}
use Rattle.trie_check.proofs.Parts.{terms_yes, terms_known}
use Rattle.image_rules.specs.Records.{Term, image_of}
use Rattle.image_rules.specs.Lists.{Lists, terms_in}
use Rattle.image_list.specs.Listed.{list_of}
use Rattle.image_list.proofs.Lists.{lists}
use Rattle.image_list.proofs.One.{one_list}
use Rattle.word_list_write.specs.Answers.{image_in}
use Rattle.theorems_images.specs.Images.{SameBytes, ImageBack, Says, WordsBack}
use Rattle.theorems_images.proofs.Reading.{image_says}
use Rattle.theorems_images.proofs.Back.{only_images}

some_inj : {a b : Terms} → some a ≡ some b → a ≡ b
some_inj e = cc

-- the list of a pool that holds these words and classes
listed : (pool : List ℕ) (held : Terms) → terms pool ≡ some held → Lists held (list_of (cells_of pool))
listed pool held e =
    let d = terms_known pool held e in
    let l = lists (cells_of pool) (used (cells_of pool)) (sound (cells_of pool) d) in
    let s : term_at (cells_of pool) ≡ held = some_inj (sym (terms_yes pool d) ∙ e) in
    record { good = l.good; is = λ v. l.is v ∙ ap (λ (t : Terms). t v) s }

pub same_bytes : SameBytes
unfolding image_in
same_bytes p q held e f = ap image_of (one_list held (list_of (cells_of p)) (list_of (cells_of q)) (listed p held e) (listed q held f))

pub image_back : ImageBack
unfolding image_in
image_back image pool ts b r e =
    let o = only_images image ts b r in
    ap image_of (one_list (terms_in ts) (list_of (cells_of pool)) ts (listed pool (terms_in ts) e) (record { good = o.1; is = λ v. refl })) ∙ sym o.0

pub words_back : WordsBack
unfolding image_in
words_back pool held e =
    let l = listed pool held e in
    record { list_is = list_of (cells_of pool); read_is = image_says (list_of (cells_of pool)) l.good; holds = l.is }
