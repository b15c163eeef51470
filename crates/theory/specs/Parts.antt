-- What is proved of every machine: each theorem as a statement, and all of them as the record `Parts`.
use Rattle.std.specs.Prelude.{◌≡◌, ℕ, suc, ◌+◌, ◌-◌, ◌*◌, ◌<◌, ◌≤◌, true, false, not, T, ◌⊎◌, ◌↔◌, List, [], ◌∷◌, length}
use Rattle.std.proofs.Math.Option.{some}
use Rattle.lts.specs.Machine.{Machine, Step}
use Rattle.lts.specs.Question.{Question, Encodes}
use Rattle.lts.specs.Bisimulation.{Bisimilar}
use Rattle.lts.specs.Formula.{Formula, top, neg, satisfies}
use Rattle.lts.specs.Line.{Line, nth, said}
use Rattle.theory.specs.Together.{together, Matched, Closed, Told, SameTo, PartsNothing, ApartBy}
use Rattle.theory.specs.Blocks.{Equivalence}
use Rattle.theory.specs.Births.{Birth, same, formula, formulas, alike, rounds, births, Extends, AllBorn}
use Rattle.theory.specs.Rows.{from_oldest, answer, first, first_formula, TellsLeast}
use Rattle.theory.specs.Told.{Demands, is_term, asked, told_of, sayings, all_said, UsesEarlier}

-- Bisimilar states

-- bisimilar goes both ways
abbrev pub BisimilarIsSymmetric : Type 0
BisimilarIsSymmetric = (m : Machine) (s t : ℕ) → Bisimilar m s t → Bisimilar m t s

-- and over a third
abbrev pub BisimilarIsTransitive : Type 0
BisimilarIsTransitive = (m : Machine) (s t u : ℕ) → Bisimilar m s t → Bisimilar m t u → Bisimilar m s u

-- and each state of a closed machine is bisimilar to itself
abbrev pub BisimilarIsReflexive : Type 0
BisimilarIsReflexive = (m : Machine) → Closed m → (s : ℕ) → s < m.states → Bisimilar m s s

-- of bisimilar states the same formulas hold
abbrev pub BisimilarSatisfyTheSame : Type 0
BisimilarSatisfyTheSame = (m : Machine) (s t : ℕ) (f : Formula) → Bisimilar m s t → satisfies m f s ≡ satisfies m f t

-- Rounds

-- before any round all are together
abbrev pub AllTogetherAtFirst : Type 0
AllTogetherAtFirst = (m : Machine) (s t : ℕ) → T (together m 0 s t)

-- a round leaves those together whose transitions lead, label by label, to what was together
abbrev pub TogetherAfterARound : Type 0
TogetherAfterARound = (m : Machine) (k s t : ℕ) → T (together m (suc k) s t) ↔ (Matched m (together m k) s t × Matched m (together m k) t s)

-- after each number of rounds
abbrev pub TogetherIsAnEquivalence : Type 0
TogetherIsAnEquivalence = (m : Machine) (k : ℕ) → Equivalence (together m k)

-- a round leaves no more together
abbrev pub TogetherShrinks : Type 0
TogetherShrinks = (m : Machine) (k s t : ℕ) → T (together m (suc k) s t) → T (together m k s t)

-- what k rounds leave together, no formula of depth k tells apart
abbrev pub TogetherIsUntold : Type 0
TogetherIsUntold = (m : Machine) (k s t : ℕ) → T (together m k s t) ↔ SameTo m k s t

-- and what they part, one does
abbrev pub PartedIsTold : Type 0
PartedIsTold = (m : Machine) (k s t : ℕ) → T (not (together m k s t)) → Told m k s t

-- by a transition of the one or of the other
abbrev pub PartedByATransition : Type 0
PartedByATransition = (m : Machine) (k s t : ℕ) → T (not (together m (suc k) s t)) → ApartBy m k s t ⊎ ApartBy m k t s

-- when a round parts nothing no later one does
abbrev pub NoLaterRoundParts : Type 0
NoLaterRoundParts = (m : Machine) → Closed m → (k j : ℕ) → PartsNothing m k → PartsNothing m (k + j)

-- and what is then together is bisimilar
abbrev pub TogetherIsBisimilar : Type 0
TogetherIsBisimilar = (m : Machine) → Closed m → (k : ℕ) → PartsNothing m k → (s t : ℕ) → s < m.states → t < m.states → T (together m k s t) → Bisimilar m s t

-- at most one round fewer than there are states part anything: not the one after `states - 1` rounds, nor a later one
abbrev pub FewRoundsPart : Type 0
FewRoundsPart = (m : Machine) → Closed m → (k : ℕ) → m.states ≤ suc k → PartsNothing m k

-- two states are bisimilar, or told apart by a formula no deeper than there are states
abbrev pub BisimilarOrTold : Type 0
BisimilarOrTold = (m : Machine) → Closed m → (s t : ℕ) → s < m.states → t < m.states → Bisimilar m s t ⊎ Told m m.states s t

-- if one step more tells no more states apart, no more steps do
abbrev pub NoDeeperTells : Type 0
NoDeeperTells = (m : Machine) → Closed m → (n k : ℕ) → ((s t : ℕ) → s < m.states → t < m.states → SameTo m n s t → SameTo m (suc n) s t)
    → (s t : ℕ) → s < m.states → t < m.states → SameTo m n s t → SameTo m (n + k) s t

-- a question's machine is closed, and the two are states of it
abbrev pub QuestionsAreClosed : Type 0
QuestionsAreClosed = (words : List ℕ) (q : Question) → Encodes words q → Closed q.machine × (q.first < q.machine.states) × (q.second < q.machine.states)

-- so for every question: the two are bisimilar, or told apart by a formula no deeper than there are states
abbrev pub QuestionsAreAnswered : Type 0
QuestionsAreAnswered = (words : List ℕ) (q : Question) → Encodes words q → Bisimilar q.machine q.first q.second ⊎ Told q.machine q.machine.states q.first q.second

-- The list of formulas

-- a formula made for a transition of x that another state lacks holds of x and not of the other
abbrev pub NewFormulaParts : Type 0
NewFormulaParts = (m : Machine) (fs : List Formula) (b : Birth) (x : ℕ) → Step m x b.label b.reach
    → ((v : ℕ) → Step m b.lack b.label v → T (not (same m fs b.reach v)))
    → (satisfies m (formula m fs b) x ≡ true) × (satisfies m (formula m fs b) b.lack ≡ false)

-- each formula of the first k rounds was so made, parts two states that none before it parts, and is no deeper than its round
abbrev pub FormulasOfRounds : Type 0
FormulasOfRounds = (m : Machine) → Closed m → (k : ℕ) → AllBorn m k (rounds m k) × Extends (rounds m (suc k)) (rounds m k)

-- after k rounds equal answers mean together
abbrev pub EqualAnswersAreTogether : Type 0
EqualAnswersAreTogether = (m : Machine) → Closed m → (k s t : ℕ) → s < m.states → t < m.states → T (alike m (rounds m k) s t) ↔ T (together m k s t)

-- never more formulas than states less one, nor than transitions
abbrev pub FewFormulas : Type 0
FewFormulas = (m : Machine) → Closed m → (k : ℕ) → (length (rounds m k) ≤ m.states - 1) × (length (rounds m k) ≤ length m.transitions)

-- a round that adds nothing leaves the list for good, and one comes in time
abbrev pub RoundsEnd : Type 0
RoundsEnd = (m : Machine) → Closed m → (k : ℕ) → (length (rounds m (suc k)) ≡ length (rounds m k)) ⊎ (m.states ≤ suc k) → births m ≡ rounds m k

-- equal answers to the whole list mean bisimilar
abbrev pub EqualAnswersAreBisimilar : Type 0
EqualAnswersAreBisimilar = (m : Machine) → Closed m → (s t : ℕ) → s < m.states → t < m.states → T (alike m (births m) s t) ↔ Bisimilar m s t

-- the first formula with different answers, or its negation, tells two states apart, as deep as its round; nothing less deep does
abbrev pub FirstDifferenceIsLeast : Type 0
FirstDifferenceIsLeast = (m : Machine) → Closed m → (d : Birth) (s t : ℕ) → s < m.states → t < m.states → T (not (alike m (births m) s t))
    → TellsLeast m s t (first_formula m (births m) s t) (from_oldest d (births m) (first m (formulas m (births m)) s t)).level

-- The told lines

-- the last line says the first formula with different answers, or its negation: whichever holds of s
abbrev pub ToldLinesSay : Type 0
ToldLinesSay = (m : Machine) (s t : ℕ) → T (not (alike m (births m) s t)) → said (told_of m s t).lines ≡ some (first_formula m (births m) s t)

-- all lines say just the formulas that are needed, with what joins their terms
abbrev pub LinesSayWhatIsNeeded : Type 0
LinesSayWhatIsNeeded = (m : Machine) (s t : ℕ) → sayings [] (told_of m s t).lines ≡ some (all_said m (asked m s t) (births m))

-- the terms of the formula of b are needed, negated if they do not hold of the state that b reaches
pub record NeedsTerms (m : Machine) (d : Demands) (bs : List Birth) (b : Birth) : Type 0 where
  pub terms : (i : ℕ) → T (is_term m (formulas m bs) b i) → T (d.need i)
  pub negations : (i : ℕ) → T (is_term m (formulas m bs) b i) → T (not (answer m (formulas m bs) i b.reach)) → T (d.negated i)

-- so it is for each needed formula
abbrev pub NeededNeedTheirTerms : Type 0
NeededNeedTheirTerms = (m : Machine) (s t : ℕ) (b : Birth) (bs : List Birth) → Extends (births m) (b ∷ bs) → T ((asked m s t).need (length bs)) → NeedsTerms m (asked m s t) bs b

-- a needed formula is found again from any two states that it is the first to part: by its number alone
abbrev pub NeededIsFoundAgain : Type 0
NeededIsFoundAgain = (m : Machine) (s t u v : ℕ) → T (not (alike m (births m) u v)) → T ((asked m s t).need (first m (formulas m (births m)) u v))
    → nth (all_said m (asked m s t) (births m)) ((told_of m s t).place (first m (formulas m (births m)) u v)) ≡ some (from_oldest (neg top) (formulas m (births m)) (first m (formulas m (births m)) u v))

-- and has its line once: a newer one has a later line
abbrev pub NeededHasOneLine : Type 0
NeededHasOneLine = (m : Machine) (s t i k : ℕ) → i < k → k < length (births m) → T ((asked m s t).need i) → T ((asked m s t).need k) → (told_of m s t).place i < (told_of m s t).place k

-- lines that say a formula use only lines before them
abbrev pub LinesUseEarlier : Type 0
LinesUseEarlier = (ls : List Line) (f : Formula) → said ls ≡ some f → UsesEarlier 0 ls

-- how many lines are told at most
abbrev pub FewLines : Type 0
FewLines = (m : Machine) → Closed m → (s t : ℕ) → length (told_of m s t).lines ≤ 1 + m.states * (length m.transitions + 2 * m.states)

-- all of these
pub record Parts : Type 0 where
  pub bisimilar_is_symmetric : BisimilarIsSymmetric
  pub bisimilar_is_transitive : BisimilarIsTransitive
  pub bisimilar_is_reflexive : BisimilarIsReflexive
  pub bisimilar_satisfy_the_same : BisimilarSatisfyTheSame
  pub all_together_at_first : AllTogetherAtFirst
  pub together_after_a_round : TogetherAfterARound
  pub together_is_an_equivalence : TogetherIsAnEquivalence
  pub together_shrinks : TogetherShrinks
  pub together_is_untold : TogetherIsUntold
  pub parted_is_told : PartedIsTold
  pub parted_by_a_transition : PartedByATransition
  pub no_later_round_parts : NoLaterRoundParts
  pub together_is_bisimilar : TogetherIsBisimilar
  pub few_rounds_part : FewRoundsPart
  pub bisimilar_or_told : BisimilarOrTold
  pub no_deeper_tells : NoDeeperTells
  pub questions_are_closed : QuestionsAreClosed
  pub questions_are_answered : QuestionsAreAnswered
  pub new_formula_parts : NewFormulaParts
  pub formulas_of_rounds : FormulasOfRounds
  pub equal_answers_are_together : EqualAnswersAreTogether
  pub few_formulas : FewFormulas
  pub rounds_end : RoundsEnd
  pub equal_answers_are_bisimilar : EqualAnswersAreBisimilar
  pub first_difference_is_least : FirstDifferenceIsLeast
  pub told_lines_say : ToldLinesSay
  pub lines_say_what_is_needed : LinesSayWhatIsNeeded
  pub needed_need_their_terms : NeededNeedTheirTerms
  pub needed_is_found_again : NeededIsFoundAgain
  pub needed_has_one_line : NeededHasOneLine
  pub lines_use_earlier : LinesUseEarlier
  pub few_lines : FewLines
