-- What putting the words of an image into a pool asks and leaves.
use Rattle.std.specs.Prelude.{ℕ, suc, ◌+◌, ◌≤◌, ◌<◌, ◌≡◌, List, [], length, get_or}
use Rattle.trie_pool.specs.Words.{term_at}
use Rattle.trie_pool.specs.inner.Sound.{Sound}
use Rattle.image_rules.specs.Records.{Term}
use Rattle.image_rules.specs.Lists.{charge, terms_in}
use Rattle.image_rules.specs.Reading.{list, read_of}
use Rattle.image_rules.specs.inner.News.{news_from}
use Rattle.trie_build_rules.specs.inner.Growing.{Bare, Starts}

-- The root alone, each level empty where it is to start, and room on it for its nodes.
pub record Opens (image p next : List ℕ) : Type 0 where
  pub terms : List Term
  pub reads : read_of image ≡ list terms
  pub s : ℕ → ℕ
  pub bare : Bare p (s 256)
  pub starts : Starts s (λ d. get_or next d 0)
  pub many : length next ≡ 257
  pub room : (d : ℕ) → d < 256 → get_or next d 0 + news_from d [] terms ≡ s (suc d)

-- a dictionary of these words
pub record Holds (p : List ℕ) (n : ℕ) (terms : List Term) : Type 0 where
  pub sound : Sound p n 0
  pub held : (v : List ℕ) → term_at p v ≡ terms_in terms v

pub record Placed (image p : List ℕ) : Type 0 where
  pub is : (terms : List Term) → read_of image ≡ list terms → (n : ℕ) → get_or p 0 0 ≡ n → Holds p n terms
