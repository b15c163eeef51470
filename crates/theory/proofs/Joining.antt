-- The terms of a formula, joined line by line: what the lines say is its body.
use Rattle.std.proofs.Common.{◌≡◌, ℕ, ◌+◌, ◌<◌, ◌≤◌, Bool, true, false, cond, T, ◌⊎◌, List, [], ◌∷◌, ◌++◌, length, sym, refl, ap, ◌∙◌, subst, inl, inr, true≢false, append_assoc, append-nil, arith, length-append}
use mathlib.Core.Option.{some}
use Rattle.lts.specs.Machine.{Machine}
use Rattle.lts.specs.Formula.{Formula, top, neg, and, dia, satisfies}
use Rattle.lts.specs.Line.{and_line, nth}
use Rattle.theory.specs.Births.{Birth, term, both, needed, body, formula, formulas, Extends, begun, grown}
use Rattle.theory.specs.Rows.{from_oldest, wanted}
use Rattle.theory.specs.Told.{is_term, Joined, join, joined, conjoined, conjunctions}
use Rattle.theory.proofs.Answers.{from_oldest_new, from_oldest_old, wanted_new, wanted_old}
use Rattle.theory.proofs.Ending.{extends_length}
use Rattle.theory.proofs.Least.{formulas_length}
use Rattle.theory.proofs.Saying.{Run, run_on, nth_below, nth_stays, nth_next, and_says}
use Rattle.std.proofs.lemmas.Bool.{eq-eqb, ne_eqb}

-- an older list has its formulas where they were
pub from_oldest_extends : (m : Machine) (d : Formula) (j : ℕ) {bs old : List Birth} → Extends bs old → j < length old → from_oldest d (formulas m bs) j ≡ from_oldest d (formulas m old) j
from_oldest_extends m d j begun h = refl
from_oldest_extends m d j (grown {b} {bs} g) h =
    from_oldest_old d (formula m (formulas m bs) b) (formulas m bs) j (omega (arith, extends_length g, formulas_length m bs)) ∙ from_oldest_extends m d j g h

-- and its terms
pub wanted_extends : (m : Machine) (a u y j : ℕ) {bs old : List Birth} → Extends bs old → j < length old → wanted m (formulas m bs) a u y j ≡ wanted m (formulas m old) a u y j
wanted_extends m a u y j begun h = refl
wanted_extends m a u y j (grown {b} {bs} g) h =
    wanted_old m (formula m (formulas m bs) b) (formulas m bs) a u y j (omega (arith, extends_length g, formulas_length m bs)) ∙ wanted_extends m a u y j g h

-- a list that began as a longer one began as its rest
pub extends_rest : {bs cs : List Birth} {c : Birth} → Extends bs (c ∷ cs) → Extends bs cs
extends_rest begun = grown begun
extends_rest (grown g) = grown (extends_rest g)

-- the newest of the older list: its number is the length of the rest
at_oldest : (m : Machine) (d : Formula) (c : Birth) (cs : List Birth) {bs : List Birth} → Extends bs (c ∷ cs) → from_oldest d (formulas m bs) (length cs) ≡ formula m (formulas m cs) c
at_oldest m d c cs g =
    let f = formula m (formulas m cs) c in
    from_oldest_extends m d (length cs) g (omega arith) ∙ sym (ap (from_oldest d (f ∷ formulas m cs)) (formulas_length m cs)) ∙ from_oldest_new d f (formulas m cs)

at_wanted : (m : Machine) (a u y : ℕ) (c : Birth) (cs : List Birth) {bs : List Birth} → Extends bs (c ∷ cs) → wanted m (formulas m bs) a u y (length cs) ≡ needed m (formula m (formulas m cs) c) (formulas m cs) a u y
at_wanted m a u y c cs g =
    let f = formula m (formulas m cs) c in
    wanted_extends m a u y (length cs) g (omega arith) ∙ sym (ap (wanted m (f ∷ formulas m cs) a u y) (formulas_length m cs)) ∙ wanted_new m f (formulas m cs) a u y

-- a formula that isn't `top`
abbrev Proper : Formula → Type 0
Proper top = ⊥
Proper (neg f) = Unit {0}
Proper (and f g) = Unit {0}
Proper (dia a f) = Unit {0}

proper_joins : (g t : Formula) → Proper g → (conjoined g t ≡ and g t ∷ []) × (both g t ≡ and g t)
proper_joins top t h = absurd h
proper_joins (neg f) t h = (refl, refl)
proper_joins (and f g) t h = (refl, refl)
proper_joins (dia a f) t h = (refl, refl)

proper_both : (g t : Formula) → Proper t → Proper (both g t)
proper_both top t h = h
proper_both (neg f) t h = tt
proper_both (and f g) t h = tt
proper_both (dia a f) t h = tt

proper_term : (m : Machine) (a : ℕ) (f : Formula) (u : ℕ) → Proper (term m (dia a f) u)
proper_term m a f u = go (satisfies m (dia a f) u)
  where
    go : (b : Bool) → Proper (cond b (dia a f) (neg (dia a f)))
    go true = tt
    go false = tt

-- behind what was said, fs with the last f, the lines of j say cs, and then line `at` says g
pub record BodyTold (fs : List Formula) (f : Formula) (n : ℕ) (j : Joined) (cs : List Formula) (g : Formula) : Type 0 where
  pub last : Formula
  pub runs : Run fs f j.ands (fs ++ cs) last
  pub says : nth (fs ++ cs) j.at ≡ some g
  pub kind : ((j.at ≡ 0) × (g ≡ top)) ⊎ ((1 ≤ j.at) × Proper g)
  pub many : length j.ands ≡ length cs

module _ (fs : List Formula) (f : Formula) (n : ℕ) (long : length fs ≡ n) (tops : nth fs 0 ≡ some top) where
  -- no term yet
  none_told : BodyTold fs f n (record { ands = []; at = 0 }) [] top
  none_told = record { last = f; runs = (append-nil fs, refl); says = ap (λ (x : List Formula). nth x 0) (append-nil fs) ∙ tops; kind = inl (refl, refl); many = refl }

  -- the first term
  first_told : (j : Joined) (cs : List Formula) (t : ℕ) (x : Formula) → BodyTold fs f n j cs top → j.at ≡ 0 → 1 ≤ t → Proper x → nth fs t ≡ some x
      → BodyTold fs f n (join n t j) (cs ++ conjoined top x) (both top x)
  first_told j cs t x b z l p e = subst (λ (c : List Formula). BodyTold fs f n (join n t j) c x) (sym (append-nil cs))
      (subst (λ k. BodyTold fs f n (cond k (record { ands = j.ands; at = t }) (record { ands = j.ands ++ (and_line j.at t ∷ []); at = n + length j.ands })) cs x) (sym (eq-eqb j.at 0 z))
      (record { last = b.last; runs = b.runs; says = nth_stays fs cs t x e; kind = inr (l, p); many = b.many }))

  -- one more
  more_told : (j : Joined) (cs : List Formula) (g : Formula) (t : ℕ) (x : Formula) → BodyTold fs f n j cs g → 1 ≤ j.at → Proper g → nth fs t ≡ some x
      → BodyTold fs f n (join n t j) (cs ++ (and g x ∷ [])) (and g x)
  more_told j cs g t x b l p e =
      let assoc = append_assoc fs cs (and g x ∷ []) in
      let line = and_says (fs ++ cs) j.at t g x b.says (nth_stays fs cs t x e) in
      let run = run_on fs f j.ands (fs ++ cs) b.last (and_line j.at t ∷ []) ((fs ++ cs) ++ (and g x ∷ [])) (and g x) b.runs (and g x, line, (refl, refl)) in
      let there : length (fs ++ cs) ≡ n + length j.ands = omega (arith, length-append fs cs, b.many, long) in
      let next = subst (λ k. nth ((fs ++ cs) ++ (and g x ∷ [])) k ≡ some (and g x)) there (nth_next (fs ++ cs) (and g x) []) in
      let full : BodyTold fs f n (record { ands = j.ands ++ (and_line j.at t ∷ []); at = n + length j.ands }) (cs ++ (and g x ∷ [])) (and g x) = record {
        last = and g x;
        runs = subst (λ (c : List Formula). Run fs f (j.ands ++ (and_line j.at t ∷ [])) c (and g x)) assoc run;
        says = subst (λ (c : List Formula). nth c (n + length j.ands) ≡ some (and g x)) assoc next;
        kind = inr (above, tt);
        many = omega (arith, length-append j.ands (and_line j.at t ∷ []), length-append cs (and g x ∷ []), b.many);
      } in
      subst (λ k. BodyTold fs f n (cond k (record { ands = j.ands; at = t }) (record { ands = j.ands ++ (and_line j.at t ∷ []); at = n + length j.ands })) (cs ++ (and g x ∷ [])) (and g x)) (sym (ne_eqb j.at 0 (λ z. omega arith))) full
    where
      some_said : 0 < length fs
      some_said = nth_below fs 0 top tops

      above : 1 ≤ n + length j.ands
      above = omega (arith, some_said, long)

  -- a term is joined, the first or one more
  term_told : (j : Joined) (cs : List Formula) (g : Formula) (t : ℕ) (x : Formula) → BodyTold fs f n j cs g → 1 ≤ t → Proper x → nth fs t ≡ some x
      → BodyTold fs f n (join n t j) (cs ++ conjoined g x) (both g x)
  term_told j cs g t x b l p e = elim b.kind [
    | inl (z, q) ↦ subst (λ (y : Formula). BodyTold fs f n (join n t j) (cs ++ conjoined y x) (both y x)) (sym q)
        (first_told j cs t x (subst (λ (y : Formula). BodyTold fs f n j cs y) q b) z l p e)
    | inr (o, q) ↦
        let (c, w) = proper_joins g x q in
        subst (λ (y : List Formula). BodyTold fs f n (join n t j) (cs ++ y) (both g x)) (sym c) (subst (λ (y : Formula). BodyTold fs f n (join n t j) (cs ++ (and g x ∷ [])) y) (sym w) (more_told j cs g t x b o q e))
  ]

  -- the next formula is a term or it isn't
  next_told : (is needs : Bool) → is ≡ needs → (j : Joined) (cs : List Formula) (g : Formula) (t : ℕ) (x : Formula) → BodyTold fs f n j cs g → (T is → (1 ≤ t) × (nth fs t ≡ some x)) → Proper x
      → BodyTold fs f n (cond is (join n t j) j) (cs ++ cond needs (conjoined g x) []) (cond needs (both g x) g)
  next_told true true q j cs g t x b h p = let (l, e) = h tt in term_told j cs g t x b l p e
  next_told false false q j cs g t x b h p = subst (λ (c : List Formula). BodyTold fs f n j c g) (sym (append-nil cs)) b
  next_told true false q j cs g t x b h p = absurd (true≢false q)
  next_told false true q j cs g t x b h p = absurd (true≢false (sym q))

  -- where each term has its line, the body is told
  pub body_told : (m : Machine) (b : Birth) (line : ℕ → ℕ) {bs : List Birth}
      → ((i : ℕ) → T (is_term m (formulas m bs) b i) → (1 ≤ line i) × (nth fs (line i) ≡ some (term m (from_oldest (neg top) (formulas m bs) i) b.reach)))
      → (cs : List Birth) → Extends bs cs
      → BodyTold fs f n (joined (is_term m (formulas m bs) b) line n (length cs)) (conjunctions m (formulas m cs) b.label b.reach b.lack) (body m (formulas m cs) b.label b.reach b.lack)
  body_told m b line h [] e = none_told
  body_told m b line {bs} h (c ∷ cs) e =
      let x = formula m (formulas m cs) c in
      next_told (is_term m (formulas m bs) b (length cs)) (needed m x (formulas m cs) b.label b.reach b.lack) (at_wanted m b.label b.reach b.lack c cs e)
      (joined (is_term m (formulas m bs) b) line n (length cs)) (conjunctions m (formulas m cs) b.label b.reach b.lack) (body m (formulas m cs) b.label b.reach b.lack)
      (line (length cs)) (term m x b.reach) (body_told m b line h cs (extends_rest e))
      (λ t. let (l, o) = h (length cs) t in (l, o ∙ ap (λ (y : Formula). some (term m y b.reach)) (at_oldest m (neg top) c cs e)))
      (proper_term m c.label (body m (formulas m cs) c.label c.reach c.lack) b.reach)
