-- What a host is told of release figures, and what becomes of the figures and the rows that it
-- lends: the answers and the rows of the library functions, as their contracts give them.
use Rattle.std.specs.Prelude.{ℕ, ◌≡◌, List}
use Rattle.newmm_answers.specs.Calls.{Call, scratch_of}
use Rattle.figures_rules.specs.Figures.{after}
use Rattle.figures.specs.Calls.{text_figures, feed_answer, pairs_fed, join_answer, refused_answer, refused_after}
use Rattle.host_telling.specs.Told.{Told, tells, tells_cut}

-- A TEXT THAT IS FED, IN ANY MODE: what the host is told, and what stands in the figures, in the
-- row of pairs and in scratch.
abbrev pub FeedTold : List ℕ → Call → Told → (figures pairs scratch : List ℕ) → Type 0
FeedTold old c t figures pairs scratch =
    (t ≡ tells_cut (feed_answer old c))
    × ((figures ≡ after old (text_figures c)) × ((pairs ≡ pairs_fed old c) × (scratch ≡ scratch_of c)))

-- A REFUSED TEXT, by its refusal's number; A BATCH that is joined.
abbrev pub RefusedTold : List ℕ → ℕ → Told → (figures : List ℕ) → Type 0
RefusedTold old number t figures = (t ≡ tells (refused_answer old number)) × (figures ≡ refused_after old number)

abbrev pub JoinTold : List ℕ → List ℕ → Told → (figures : List ℕ) → Type 0
JoinTold old more t figures = (t ≡ tells (join_answer old more)) × (figures ≡ after old more)
