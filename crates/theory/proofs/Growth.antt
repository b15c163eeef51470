-- How the list grows: each birth parts a state from its leader, and after each round equal answers mean together.
use Rattle.std.proofs.Common.{◌≡◌, ℕ, zero, suc, ◌+◌, ◌<◌, ◌≤◌, not, T, List, [], ◌∷◌, length, sym, ap, ◌∙◌, subst, inl, inr, true≢false, arith}
use mathlib.Core.Option.{Option, some, none}
use Rattle.lts.specs.Machine.{Machine, Step}
use Rattle.lts.specs.Formula.{Formula, satisfies, depth}
use Rattle.lts.specs.Line.{given}
use Rattle.theory.specs.Together.{together, Matched, Closed, SameTo}
use Rattle.theory.specs.Blocks.{Equivalence, leader, blocks}
use Rattle.theory.specs.Births.{Birth, Born, AllBorn, same, alike, formula, formulas, next_birth, settle, sweep, round, rounds, Extends, begun, grown}
use Rattle.theory.proofs.Bools.{T-or_not, T-is, not_is, not_T_of}
use Rattle.theory.proofs.Counting.{below_suc}
use Rattle.theory.proofs.Leaders.{Within, leader_le, leader_in, leader_below, leader_grows, blocks_pos, blocks_more}
use Rattle.theory.proofs.Rounds.{together_start, together_in, together_refl, together_sym, together_trans}
use Rattle.theory.proofs.Agreement.{together_agrees}
use Rattle.theory.proofs.Terms.{same_equivalence, same_head, same_tail, same_cons, formula_holds, formula_fails, Shallow, body_depth, extends_within, body_old}
use Rattle.theory.proofs.Unmatched.{Lacks, Next, next_birth_says}

-- to answer alike is an equivalence
pub alike_equivalence : (m : Machine) (bs : List Birth) → Equivalence (alike m bs)
alike_equivalence m bs = same_equivalence m (formulas m bs)

-- births of k rounds are at most k deep
pub born_shallow : (m : Machine) (k : ℕ) (bs : List Birth) → AllBorn m k bs → Shallow k (formulas m bs)
born_shallow m k [] h = tt
born_shallow m k (b ∷ bs) (l, o, h) = (omega (arith, o.shallow), born_shallow m k bs h)

-- births of k rounds are births of more rounds
pub born_more : (m : Machine) (k j : ℕ) (bs : List Birth) → k ≤ j → AllBorn m k bs → AllBorn m j bs
born_more m k j [] h g = tt
born_more m k j (b ∷ bs) h (l, o, g) = (omega arith, o, born_more m k j bs h g)

shallow_same : (m : Machine) (k : ℕ) (fs : List Formula) (s t : ℕ) → Shallow k fs → SameTo m k s t → T (same m fs s t)
shallow_same m k [] s t h g = tt
shallow_same m k (f ∷ fs) s t h g = same_cons m f fs s t (g f h.0) (shallow_same m k fs s t h.1 g)

-- what k rounds leave together answers alike to the births of k rounds
pub together_alike : (m : Machine) (k : ℕ) (bs : List Birth) → AllBorn m k bs → (s t : ℕ) → T (together m k s t) → T (alike m bs s t)
together_alike m k bs h s t g = shallow_same m k (formulas m bs) s t (born_shallow m k bs h) (together_agrees m k s t g)

-- in round k the states below n are settled: those among them that answer alike are together
pub record Settled (m : Machine) (k n : ℕ) (bs : List Birth) : Type 0 where
  pub born : AllBorn m k bs
  pub settled : (s t : ℕ) → s < n → t < n → T (alike m bs s t) → T (together m k s t)

-- a state that is together with its leader is settled too
settled_one : (m : Machine) (k s : ℕ) (bs : List Birth) → Settled m k s bs → T (together m k (leader (alike m bs) s) s) → Settled m k (suc s) bs
settled_one m k s bs u h = record { born = u.born; settled = all }
  where
    p : ℕ
    p = leader (alike m bs) s

    one : (y : ℕ) → y < s → T (alike m bs y s) → T (together m k y s)
    one y g e =
        let l = leader_below (alike m bs) s y e in
        together_trans m k y p s (u.settled y p g (omega arith) ((alike_equivalence m bs).over y s p e ((alike_equivalence m bs).turned p s (leader_in (alike m bs) (alike_equivalence m bs) s)))) h

    all : (x y : ℕ) → x < suc s → y < suc s → T (alike m bs x y) → T (together m k x y)
    all x y hx hy e = elim (below_suc x s hx) [
      | inl gx ↦ elim (below_suc y s hy) [
        | inl gy ↦ u.settled x y gx gy e
        | inr ey ↦ subst (λ z. T (together m k x z)) (sym ey) (one x gx (subst (λ z. T (alike m bs x z)) ey e))
      ]
      | inr ex ↦ elim (below_suc y s hy) [
        | inl gy ↦ subst (λ z. T (together m k z y)) (sym ex) (together_sym m k y s (one y gy ((alike_equivalence m bs).turned s y (subst (λ z. T (alike m bs z y)) ex e))))
        | inr ey ↦ subst (λ z. T (together m k x z)) (ex ∙ sym ey) (together_refl m k x)
      ]
    ]

-- a birth parts the two that it was made for
pub born_parts : (m : Machine) (bs : List Birth) (b : Birth) (g : Born m bs b) → T (not (alike m (b ∷ bs) g.holder b.lack))
born_parts m bs b g = elim (T-or_not (alike m (b ∷ bs) g.holder b.lack)) [
  | inl h ↦ absurd (true≢false (sym g.holds ∙ same_head m (formula m (formulas m bs) b) (formulas m bs) g.holder b.lack h ∙ g.fails))
  | inr h ↦ h
]

-- one birth more leaves alike only what was alike
pub alike_tail : (m : Machine) (bs : List Birth) (b : Birth) → Within (alike m (b ∷ bs)) (alike m bs)
alike_tail m bs b = same_tail m (formula m (formulas m bs) b) (formulas m bs)

-- it makes a block more
pub born_block : (m : Machine) (bs : List Birth) (b : Birth) → Born m bs b → blocks (alike m bs) m.states < blocks (alike m (b ∷ bs)) m.states
born_block m bs b g = blocks_more (alike m bs) (alike m (b ∷ bs)) (alike_equivalence m bs) (alike_equivalence m (b ∷ bs)) (alike_tail m bs b) m.states g.holder b.lack g.holder_is_state g.lack_is_state g.unparted (born_parts m bs b g)

-- so there are more blocks than births
pub born_long : (m : Machine) (k : ℕ) (bs : List Birth) → AllBorn m k bs → 0 < m.states → length bs < blocks (alike m bs) m.states
born_long m k [] h p = blocks_pos (alike m []) m.states p
born_long m k (b ∷ bs) (l, g, h) p = omega (arith, born_long m k bs h p, born_block m bs b g)

-- and leaves settled what was
pub settled_more : (m : Machine) (k n : ℕ) (bs : List Birth) (b : Birth) → b.level ≤ k → Born m bs b → Settled m k n bs → Settled m k n (b ∷ bs)
settled_more m k n bs b l g u = record {
  born = (l, g, u.born);
  settled = λ s t hs ht h. u.settled s t hs ht (alike_tail m bs b s t h);
}

-- a round that began with old, whose births are those of k rounds
module _ (m : Machine) (closed : Closed m) (k : ℕ) (old : List Birth) (o : Settled m k m.states old) where
  -- a birth of the round, after bs
  born_of : (bs : List Birth) (b : Birth) (x : ℕ) → Extends bs old → x < m.states → b.lack < m.states → b.level ≡ suc k
      → T (alike m bs x b.lack) → Lacks m (alike m old) x b → Born m bs b
  born_of bs b x e hx hy l h g =
      let fails : (v : ℕ) → Step m b.lack b.label v → T (not (alike m bs b.reach v)) = λ v p. not_T_of (alike m bs b.reach v) (alike m old b.reach v) (extends_within m e b.reach v) (g.lacks v p) in
      let d = body_depth m k (formulas m old) b.label b.reach b.lack (born_shallow m k old o.born) in
      let d' = ap depth (body_old m b.label b.reach b.lack e g.lacks) in
      record {
        holder = x;
        holder_is_state = hx;
        lack_is_state = hy;
        unparted = h;
        has = g.has;
        lacks = fails;
        holds = T-is (satisfies m (formula m (formulas m bs) b) x) (formula_holds m (formulas m bs) b x g.has);
        fails = not_is (satisfies m (formula m (formulas m bs) b) b.lack) (formula_fails m (formulas m bs) b fails);
        before = k;
        level_is = l;
        shallow = omega arith;
        unparted_before = λ s t hs ht p. o.settled s t hs ht (extends_within m e s t p);
      }

  -- what parts s from its leader is a birth, and parts the two
  pub next_born : (bs : List Birth) (s : ℕ) (b : Birth) → Extends bs old → s < m.states
      → Next m (alike m old) (suc k) (leader (alike m bs) s) s (some b) → Born m bs b × T (not (alike m (b ∷ bs) (leader (alike m bs) s) s))
  unfolding born_of
  next_born bs s b e hs (l, inl (w, g)) =
      let p = leader (alike m bs) s in
      let i = leader_in (alike m bs) (alike_equivalence m bs) s in
      let r = born_of bs b p e (omega (arith, leader_le (alike m bs) s)) (omega arith) l (subst (λ z. T (alike m bs p z)) (sym w) i) g in
      (r, subst (λ z. T (not (alike m (b ∷ bs) p z))) w (born_parts m bs b r))
  next_born bs s b e hs (l, inr (w, g)) =
      let p = leader (alike m bs) s in
      let i = (alike_equivalence m bs).turned p s (leader_in (alike m bs) (alike_equivalence m bs) s) in
      let r = born_of bs b s e hs (omega (arith, leader_le (alike m bs) s)) l (subst (λ z. T (alike m bs s z)) (sym w) i) g in
      (r, not_T_of (alike m (b ∷ bs) p s) (alike m (b ∷ bs) s p) ((alike_equivalence m (b ∷ bs)).turned p s) (subst (λ z. T (not (alike m (b ∷ bs) s z))) w (born_parts m bs b r)))

  -- where nothing parts them, they are together after the round
  matched_together : (s t : ℕ) → Matched m (alike m old) s t → Matched m (together m k) s t
  matched_together s t h a u g = let (v, p, q) = h a u g in (v, p, o.settled u v (closed s a u g) (closed t a v p) q)

  pub next_none : (s t : ℕ) → Next m (alike m old) (suc k) s t none → T (together m (suc k) s t)
  next_none s t (h, g) = together_in m k s t (matched_together s t h) (matched_together t s g)

  -- settling s, with enough turns for its leader to rise to itself, settles it
  pub settle_settles : (s : ℕ) → s < m.states → (n : ℕ) (bs : List Birth) → s ≤ n + leader (alike m bs) s → Extends bs old → Settled m (suc k) s bs
      → Extends (settle m (alike m old) (suc k) s n bs) old × Settled m (suc k) (suc s) (settle m (alike m old) (suc k) s n bs)
  unfolding settle
  settle_settles s hs zero bs f e u =
      let q : leader (alike m bs) s ≡ s = omega (arith, leader_le (alike m bs) s) in
      (e, settled_one m (suc k) s bs u (subst (λ z. T (together m (suc k) z s)) (sym q) (together_refl m (suc k) s)))
  settle_settles s hs (suc n) bs f e u =
      go (next_birth m (alike m old) (suc k) (leader (alike m bs) s) s) (next_birth_says m (alike m old) (suc k) (leader (alike m bs) s) s) (λ b. settle_settles s hs n (b ∷ bs))
    where
      Ends : List Birth → Type 0
      Ends cs = Extends cs old × Settled m (suc k) (suc s) cs

      go : (x : Option Birth) → Next m (alike m old) (suc k) (leader (alike m bs) s) s x
          → ((b : Birth) → s ≤ n + leader (alike m (b ∷ bs)) s → Extends (b ∷ bs) old → Settled m (suc k) s (b ∷ bs) → Ends (settle m (alike m old) (suc k) s n (b ∷ bs)))
          → Ends (given x bs (λ b. settle m (alike m old) (suc k) s n (b ∷ bs)))
      go none h rest = (e, settled_one m (suc k) s bs u (next_none (leader (alike m bs) s) s h))
      go (some b) h rest =
          let (r, w) = next_born bs s b e hs h in
          rest b (omega (arith, leader_grows (alike m bs) (alike m (b ∷ bs)) (alike_equivalence m (b ∷ bs)) (alike_tail m bs b) s w)) (grown e) (settled_more m (suc k) s bs b (omega (arith, h.0)) r u)

  -- sweeping over the states below n settles them
  pub sweep_settles : (n : ℕ) → n ≤ m.states → Extends (sweep m (alike m old) (suc k) n old) old × Settled m (suc k) n (sweep m (alike m old) (suc k) n old)
  unfolding sweep
  sweep_settles zero h = (begun, record { born = born_more m k (suc k) old (omega arith) o.born; settled = (λ s t hs. absurd (omega arith)) })
  sweep_settles (suc n) h =
      let (e, u) = sweep_settles n (omega arith) in
      settle_settles n h n (sweep m (alike m old) (suc k) n old) (omega arith) e u

  pub round_settles : Extends (round m (suc k) old) old × Settled m (suc k) m.states (round m (suc k) old)
  round_settles = sweep_settles m.states (omega arith)

-- after k rounds the births are those of k rounds, and all states are settled
pub rounds_settled : (m : Machine) → Closed m → (k : ℕ) → Settled m k m.states (rounds m k)
unfolding rounds
rounds_settled m closed zero = record { born = tt; settled = λ s t _ _ _. together_start m s t }
rounds_settled m closed (suc k) = (round_settles m closed k (rounds m k) (rounds_settled m closed k)).1

-- each round only adds
pub rounds_extend : (m : Machine) → Closed m → (k : ℕ) → Extends (rounds m (suc k)) (rounds m k)
unfolding rounds
rounds_extend m closed k = (round_settles m closed k (rounds m k) (rounds_settled m closed k)).0
