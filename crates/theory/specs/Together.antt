-- Rounds of partition refinement: which states are still in one block after k rounds.
use Rattle.std.specs.Prelude.{◌≡◌, ℕ, zero, suc, ◌<◌, ◌≤◌, Bool, true, false, not, ◌&&◌, ◌||◌, T, List, [], ◌∷◌, ◌==◌}
use Rattle.lts.specs.declared.Transition.{Transition}
use Rattle.lts.specs.Machine.{Machine, Step}
use Rattle.lts.specs.Formula.{Formula, satisfies, depth, any_step}

-- each transition from s passes f, by its label and target
abbrev pub all_steps : List Transition → ℕ → (ℕ → ℕ → Bool) → Bool
all_steps [] s f = true
all_steps (t ∷ ts) s f = (not (t.source == s) || f t.label t.target) && all_steps ts s f

-- t matches each transition of s: it has one by the same label into a related state
abbrev pub matches : Machine → (ℕ → ℕ → Bool) → ℕ → ℕ → Bool
matches m r s t = all_steps m.transitions s (λ a u. any_step m.transitions t a (r u))

-- at first all are together; each round leaves those together that match each other into what was together
unfoldable pub together : Machine → ℕ → ℕ → ℕ → Bool
together m zero s t = true
together m (suc k) s t = matches m (together m k) s t && matches m (together m k) t s

-- one side: each transition of s is matched by t into a related state
abbrev pub Matched : Machine → (ℕ → ℕ → Bool) → ℕ → ℕ → Type 0
Matched m r s t = (a u : ℕ) → Step m s a u → (v : ℕ) × Step m t a v × T (r u v)

-- a transition of s into a state to which nothing that t reaches by its label is related
abbrev pub Unmatched : Machine → (ℕ → ℕ → Bool) → ℕ → ℕ → Type 0
Unmatched m r s t = (a : ℕ) × (u : ℕ) × Step m s a u × ((v : ℕ) → Step m t a v → T (not (r u v)))

-- every transition leads to a state of the machine
abbrev pub Closed : Machine → Type 0
Closed m = (s a u : ℕ) → Step m s a u → u < m.states

-- a formula of depth at most k that holds of s and not of t
abbrev pub Told : Machine → ℕ → ℕ → ℕ → Type 0
Told m k s t = (f : Formula) × (satisfies m f s ≡ true) × (satisfies m f t ≡ false) × (depth f ≤ k)

-- each formula of depth at most k holds of both or of neither
abbrev pub SameTo : Machine → ℕ → ℕ → ℕ → Type 0
SameTo m k s t = (f : Formula) → depth f ≤ k → satisfies m f s ≡ satisfies m f t

-- the round after the first k parts no two states of the machine
abbrev pub PartsNothing : Machine → ℕ → Type 0
PartsNothing m k = (s t : ℕ) → s < m.states → t < m.states → T (together m k s t) → T (together m (suc k) s t)

-- by label a the state s reaches u, and each state that t reaches by it is told from u by depth k
abbrev pub ApartBy : Machine → ℕ → ℕ → ℕ → Type 0
ApartBy m k s t = (a : ℕ) × (u : ℕ) × Step m s a u × ((v : ℕ) → Step m t a v → Told m k u v)
