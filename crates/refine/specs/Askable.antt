-- Which machines can be asked about, and how many words are lent for one.
use Rattle.std.specs.Prelude.{◌≡◌, ℕ, ◌+◌, ◌*◌, ◌/◌, ◌≤◌, T, List, length}
use Rattle.lts.specs.Question.{within}
use Rattle.lts.specs.Decoding.{transitions_of}

-- words of a machine that can be asked about: 1 to 4,096 states, at most 16,384 transitions between them
pub record Askable (n : ℕ) (ws : List ℕ) : Type 0 where
  pub some : 1 ≤ n
  pub few : n ≤ 4096
  pub whole : length ws ≡ 3 * (length ws / 3)
  pub short : length ws / 3 ≤ 16384
  pub inside : T (within n (transitions_of ws))

-- the lent words are 57,344 and 128 for each word of the question: 8,192 fewer than a question's caller lends
abbrev pub Suffices : List ℕ → List ℕ → Type 0
Suffices ws memory = 57344 + 128 * (4 + length ws) ≤ length memory
