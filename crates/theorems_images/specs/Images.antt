-- WORD LIST IMAGES (02, ticket 7). A comment that starts in capitals names a statement.
use Rattle.std.specs.Prelude.{ℕ, ◌≡◌, List}
use Rattle.std.proofs.Math.Option.{some}
use Rattle.trie_pool.specs.Meaning.{Terms, words_in, terms}
use Rattle.trie_pool.specs.Listing.{Number, Prefix}
use Rattle.image_rules.specs.Records.{Term, Bytes, image_of}
use Rattle.image_rules.specs.Lists.{Good, terms_in, charge}
use Rattle.image_rules.specs.Reading.{list, read_of}
use Rattle.word_list_write.specs.Answers.{image_in}

-- ---- images and lists

-- AN IMAGE SAYS ITS LIST: what is read of the image of rising words, each trimmed, 1 to 255 scalars
-- long and with a class up to 65,535, is those words and classes.
abbrev pub ImageSays : Type 0
ImageSays = (ts : List Term) → Good ts → read_of (image_of ts) ≡ list ts

-- ONLY IMAGES ARE READ: bytes that are read are the image of what is read, and that is such a list.
abbrev pub OnlyImages : Type 0
OnlyImages = (image : List ℕ) (ts : List Term) → Bytes image → read_of image ≡ list ts → (image ≡ image_of ts) × Good ts

-- THE CHARGE: refusal 8 counts the root and 01's nodes, one for each distinct non-empty prefix of
-- the words, also where no pool has so many.
abbrev pub ChargeIs : Type 0
ChargeIs = (ts : List Term) → Good ts → Number (Prefix (words_in (terms_in ts))) (charge ts)

-- ---- images and pools

-- THE SAME BYTES: equal words and classes give equal bytes, whatever the pools' sizes.
abbrev pub SameBytes : Type 0
SameBytes = (p q : List ℕ) (held : Terms) → terms p ≡ some held → terms q ≡ some held → image_in p ≡ image_in q

-- THE IMAGE BACK: reading then writing returns the image. The pool holds what the image says.
abbrev pub ImageBack : Type 0
ImageBack =
    (image pool : List ℕ) (ts : List Term)
    → Bytes image
    → read_of image ≡ list ts
    → terms pool ≡ some (terms_in ts)
    → image_in pool ≡ image

-- what an image says, held as a pool holds it
pub record Says (image : List ℕ) (held : Terms) : Type 0 where
  pub list_is : List Term
  pub read_is : read_of image ≡ list list_is
  pub holds : (v : List ℕ) → terms_in list_is v ≡ held v

-- THE WORDS BACK: writing then reading gives the same words and classes.
abbrev pub WordsBack : Type 0
WordsBack = (pool : List ℕ) (held : Terms) → terms pool ≡ some held → Says (image_in pool) held
