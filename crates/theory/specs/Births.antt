-- A list of formulas, each of which parts two states that none before it parts. It is kept newest first, each formula as its birth.
use Rattle.std.specs.Prelude.{◌≡◌, ℕ, zero, suc, ◌<◌, ◌≤◌, Bool, true, false, cond, not, ◌&&◌, T, List, [], ◌∷◌, ◌==◌}
use Rattle.std.specs.Bool.{beq}
use Rattle.std.proofs.Math.Option.{Option, some, none}
use Rattle.lts.specs.declared.Transition.{Transition}
use Rattle.lts.specs.Machine.{Machine, Step}
use Rattle.lts.specs.Formula.{Formula, top, neg, and, dia, satisfies, depth, any_step}
use Rattle.lts.specs.Line.{given}
use Rattle.theory.specs.Blocks.{leader}
use Rattle.theory.specs.Together.{together}

-- in round `level`, counted from 1, for a transition by `label` to `reach` that the state `lack` does not match
pub record Birth : Type 0 where
  pub level : ℕ
  pub label : ℕ
  pub reach : ℕ
  pub lack : ℕ

-- s and t give equal answers to all formulas of the list
abbrev pub same : Machine → List Formula → ℕ → ℕ → Bool
same m [] s t = true
same m (f ∷ fs) s t = beq (satisfies m f s) (satisfies m f t) && same m fs s t

-- the formula or its negation, whichever holds of u
abbrev pub term : Machine → Formula → ℕ → Formula
term m f u = cond (satisfies m f u) f (neg f)

-- both of two; `top` adds nothing
abbrev pub both : Formula → Formula → Formula
both top g = g
both (neg f) g = and (neg f) g
both (and f e) g = and (and f e) g
both (dia a f) g = and (dia a f) g

-- some state that y reaches by a is first told from u by f: it gives the same answers to the older ones, fs, and another to f
abbrev pub needed : Machine → Formula → List Formula → ℕ → ℕ → ℕ → Bool
needed m f fs a u y = any_step m.transitions y a (λ v. same m fs u v && not (beq (satisfies m f u) (satisfies m f v)))

-- what u satisfies of the needed formulas or their negations, the oldest first
abbrev pub body : Machine → List Formula → ℕ → ℕ → ℕ → Formula
body m [] a u y = top
body m (f ∷ fs) a u y = let g = body m fs a u y in cond (needed m f fs a u y) (both g (term m f u)) g

-- the formula of a birth, made from those before it
abbrev pub formula : Machine → List Formula → Birth → Formula
formula m fs b = dia b.label (body m fs b.label b.reach b.lack)

-- the formulas of a list of births
abbrev pub formulas : Machine → List Birth → List Formula
formulas m [] = []
formulas m (b ∷ bs) = let fs = formulas m bs in formula m fs b ∷ fs

-- s and t give equal answers to the formulas of all births
abbrev pub alike : Machine → List Birth → ℕ → ℕ → Bool
alike m bs = same m (formulas m bs)

-- the first transition from x that does not pass f
abbrev pub first_failing : List Transition → ℕ → (ℕ → ℕ → Bool) → Option Transition
first_failing [] x f = none
first_failing (t ∷ ts) x f = cond (t.source == x && not (f t.label t.target)) (some t) (first_failing ts x f)

-- the first transition of x that y does not match into a related state
unfoldable pub unmatched : Machine → (ℕ → ℕ → Bool) → ℕ → ℕ → Option Transition
unmatched m r x y = first_failing m.transitions x (λ a u. any_step m.transitions y a (r u))

-- the birth for a transition that y lacks, in round k
abbrev pub birth : ℕ → ℕ → Transition → Birth
birth k y t = record { level = k; label = t.label; reach = t.target; lack = y }

-- what parts p and s: the first unmatched transition of p, or else that of s
unfoldable pub next_birth : Machine → (ℕ → ℕ → Bool) → ℕ → ℕ → ℕ → Option Birth
next_birth m r k p s = given (unmatched m r p s) (given (unmatched m r s p) none (λ t. some (birth k p t))) (λ t. some (birth k s t))

-- while something parts s from its leader it is added, up to n times; r are the blocks that the round began with
unfoldable pub settle : Machine → (ℕ → ℕ → Bool) → ℕ → ℕ → ℕ → List Birth → List Birth
settle m r k s zero bs = bs
settle m r k s (suc n) bs = given (next_birth m r k (leader (alike m bs) s) s) bs (λ b. settle m r k s n (b ∷ bs))

-- the states below n are settled one after the other; s has at most s leaders before it is its own
unfoldable pub sweep : Machine → (ℕ → ℕ → Bool) → ℕ → ℕ → List Birth → List Birth
sweep m r k zero bs = bs
sweep m r k (suc s) bs = settle m r k s s (sweep m r k s bs)

-- a round settles all states, against the blocks with which it began
abbrev pub round : Machine → ℕ → List Birth → List Birth
round m k bs = sweep m (alike m bs) k m.states bs

-- the first k rounds
unfoldable pub rounds : Machine → ℕ → List Birth
rounds m zero = []
rounds m (suc k) = round m (suc k) (rounds m k)

-- all rounds: as many as there are states suffice
abbrev pub births : Machine → List Birth
births m = rounds m m.states

-- a list of births that began as another
pub data Extends : List Birth → List Birth → Type 0 where
  begun : {bs : List Birth} → Extends bs bs
  grown : {b : Birth} {bs old : List Birth} → Extends bs old → Extends (b ∷ bs) old

-- what is true of a birth b after the births bs, and of its formula
pub record Born (m : Machine) (bs : List Birth) (b : Birth) : Type 0 where
  -- it was made for two states that no formula before it parts, of which the one has a transition that the other lacks
  pub holder : ℕ
  pub holder_is_state : holder < m.states
  pub lack_is_state : b.lack < m.states
  pub unparted : T (alike m bs holder b.lack)
  pub has : Step m holder b.label b.reach
  pub lacks : (v : ℕ) → Step m b.lack b.label v → T (not (alike m bs b.reach v))
  -- it holds of the one and not of the other
  pub holds : satisfies m (formula m (formulas m bs) b) holder ≡ true
  pub fails : satisfies m (formula m (formulas m bs) b) b.lack ≡ false
  -- it is no deeper than its round, and what no formula before it parts was together when the round began
  pub before : ℕ
  pub level_is : b.level ≡ suc before
  pub shallow : depth (formula m (formulas m bs) b) ≤ b.level
  pub unparted_before : (s t : ℕ) → s < m.states → t < m.states → T (alike m bs s t) → T (together m before s t)

-- all births of a list, each after those before it, are of the first k rounds and as said
abbrev pub AllBorn : Machine → ℕ → List Birth → Type 0
AllBorn m k [] = Unit {0}
AllBorn m k (b ∷ bs) = (b.level ≤ k) × Born m bs b × AllBorn m k bs
