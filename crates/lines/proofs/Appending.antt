-- Lines appended one after the other.
use Rattle.std.proofs.Common.{◌≡◌, ℕ, zero, suc, ◌+◌, ◌<◌, ◌≤◌, Bool, true, false, cond, T, eqb, List, [], ◌∷◌, ◌++◌, length, sym, refl, ap, ◌∙◌, subst, append_assoc, append-nil, add-zero, add-suc, arith, length-append}
use Rattle.lts.specs.Line.{Line, and_line}
use Rattle.theory.specs.Told.{Joined, join, joined}
use Rattle.lines.specs.Written.{LineWritten, Written}
use Rattle.lines.specs.Joins.{Appends, BodyIs, Becomes}
use Rattle.lines.specs.declared.joining.Body.{Body}
use Rattle.lines.proofs.Writing.{written_more}
use Rattle.std.proofs.lemmas.Bool.{eq-eqb, ne_eqb}

-- nothing is appended
pub append_none : (lines : List ℕ) (n : ℕ) → Appends lines n [] lines
append_none lines n before xs e w = subst (λ (ys : List Line). Written before ys lines) (sym (append-nil xs)) w

pub append_one : (lines : List ℕ) (n : ℕ) (l : Line) (lines' : List ℕ) → LineWritten lines n l lines' → Appends lines n (l ∷ []) lines'
append_one lines n l lines' h before xs e w = written_more before xs lines l n lines' w (sym e) h

pub append_on : (lines : List ℕ) (n : ℕ) (ls : List Line) (lines' : List ℕ) (k : ℕ) (ks : List Line) (lines'' : List ℕ) → k ≡ n + length ls → Appends lines n ls lines' → Appends lines' k ks lines'' → Appends lines n (ls ++ ks) lines''
append_on lines n ls lines' k ks lines'' o h g before xs e w =
    subst (λ (ys : List Line). Written before ys lines'') (append_assoc xs ls ks) (g before (xs ++ ls) (omega (arith, length-append xs ls)) (h before xs e w))

-- the first term
pub join_first : (t : ℕ) (b : Body) (lines : List ℕ) (b' : Body) → b.at.0 ≡ 0 → b'.at.0 ≡ t → b'.next ≡ b.next → (n : ℕ) (j : Joined) → BodyIs b n j → Becomes n j (join n t j) lines b' lines
join_first t b lines b' z a m n j h =
    subst (λ c. Becomes n j (cond c (record { ands = j.ands; at = t }) (record { ands = j.ands ++ (and_line j.at t ∷ []); at = n + length j.ands })) lines b' lines) (sym (eq-eqb j.at 0 (sym h.at ∙ z)))
    (record { is = record { at = a; next = m ∙ h.next }; wrote = λ start k. k })

-- one more
pub join_more : (t : ℕ) (b : Body) (lines : List ℕ) (b' : Body) (lines' : List ℕ) → (b.at.0 ≡ 0 → ⊥) → LineWritten lines b.next (and_line b.at.0 t) lines' → b'.at.0 ≡ b.next → b'.next ≡ b.next + 1
    → (n : ℕ) (j : Joined) → BodyIs b n j → Becomes n j (join n t j) lines b' lines'
join_more t b lines b' lines' z w a m n j h =
    let line : LineWritten lines (n + length j.ands) (and_line j.at t) lines' = subst (λ k. LineWritten lines k (and_line j.at t) lines') h.next (subst (λ k. LineWritten lines b.next (and_line k t) lines') h.at w) in
    subst (λ c. Becomes n j (cond c (record { ands = j.ands; at = t }) (record { ands = j.ands ++ (and_line j.at t ∷ []); at = n + length j.ands })) lines b' lines') (sym (ne_eqb j.at 0 (λ e. z (h.at ∙ e))))
    (record {
      is = record { at = a ∙ h.next; next = omega (arith, m, h.next, length-append j.ands (and_line j.at t ∷ [])) };
      wrote = λ start k. append_on start n j.ands lines (n + length j.ands) (and_line j.at t ∷ []) lines' refl k (append_one lines (n + length j.ands) (and_line j.at t) lines' line);
    })

-- no term
pub join_not : (c : Bool) (k j : Joined) (b : Body) (lines : List ℕ) (n : ℕ) → c ≡ false → BodyIs b n j → Becomes n j (cond c k j) lines b lines
join_not c k j b lines n e h = subst (λ x. Becomes n j (cond x k j) lines b lines) (sym e) (record { is = h; wrote = λ start k. k })

-- joining more terms takes no fewer lines
pub joined_grows : (is : ℕ → Bool) (line : ℕ → ℕ) (n i k : ℕ) → length (joined is line n i).ands ≤ length (joined is line n (i + k)).ands
joined_grows is line n i zero = omega (arith, ap (λ x. length (joined is line n x).ands) (add-zero i))
joined_grows is line n i (suc k) = omega (arith, ap (λ x. length (joined is line n x).ands) (add-suc i k), joined_grows is line n i k, go (is (i + k)) (joined is line n (i + k)))
  where
    grows : (c : Bool) (j : Joined) (t : ℕ) → length j.ands ≤ length (cond {A = Joined} c (record { ands = j.ands; at = t }) (record { ands = j.ands ++ (and_line j.at t ∷ []); at = n + length j.ands })).ands
    grows true j t = omega arith
    grows false j t = omega (arith, length-append j.ands (and_line j.at t ∷ []))

    go : (c : Bool) (j : Joined) → length j.ands ≤ length (cond {A = Joined} c (join n (line (i + k)) j) j).ands
    go true j = grows (eqb j.at 0) j (line (i + k))
    go false j = omega arith

-- the same terms at the same lines are joined alike
pub joined_same : (is os : ℕ → Bool) (line lane : ℕ → ℕ) (n k : ℕ) → ((i : ℕ) → i < k → is i ≡ os i) → ((i : ℕ) → i < k → T (os i) → line i ≡ lane i) → joined is line n k ≡ joined os lane n k
joined_same is os line lane n zero h g = refl
joined_same is os line lane n (suc k) h g =
    go (is k) (os k) (h k (omega arith)) (g k (omega arith)) (joined is line n k) (joined os lane n k) (joined_same is os line lane n k (λ i l. h i (omega arith)) (λ i l. g i (omega arith)))
  where
    go : (c o : Bool) → c ≡ o → (T o → line k ≡ lane k) → (x y : Joined) → x ≡ y → cond {A = Joined} c (join n (line k) x) x ≡ cond o (join n (lane k) y) y
    go c true e q x y p = subst (λ z. cond {A = Joined} z (join n (line k) x) x ≡ join n (lane k) y) (sym e) (ap (λ t. join n t x) (q tt) ∙ ap (join n (lane k)) p)
    go c false e q x y p = subst (λ z. cond {A = Joined} z (join n (line k) x) x ≡ y) (sym e) p
