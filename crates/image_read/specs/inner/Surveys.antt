-- What a survey of an image asks and tells.
use Rattle.std.specs.Prelude.{ℕ, ◌+◌, ◌≤◌, ◌≡◌, List, [], length, get_or, Result, Ok, Err}
use Rattle.image_rules.specs.Records.{Term}
use Rattle.image_rules.specs.Lists.{charge}
use Rattle.image_rules.specs.Reading.{broken, list, read_of}
use Rattle.image_rules.specs.inner.News.{new, news_from}
use Rattle.image_read.specs.declared.Surveyed.{Surveyed}

-- one node more on each level from l, exclusive, to n
pub record Raises (levels levels' : List ℕ) (l n : ℕ) : Type 0 where
  pub is : (d : ℕ) → get_or levels' d 0 ≡ get_or levels d 0 + new l n d
  pub many : length levels' ≡ length levels

-- the image is that of a list: its words, its nodes, and those of each level
pub record Listed (image levels : List ℕ) (words nodes : ℕ) : Type 0 where
  pub terms : List Term
  pub reads : read_of image ≡ list terms
  pub number : words ≡ length terms
  pub charged : nodes ≡ charge terms
  pub few : nodes ≤ length image
  pub news : (d : ℕ) → get_or levels d 0 ≡ news_from d [] terms
  pub many : length levels ≡ 257

abbrev pub Surveys : List ℕ → Result Surveyed ℕ → Type 0
Surveys image (Ok s) = Listed image s.levels s.words s.nodes
Surveys image (Err at) = read_of image ≡ broken at
