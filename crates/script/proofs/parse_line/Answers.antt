use Rattle.std.proofs.Common.{◌≡◌, ℕ, Bool, eqb, List, [], ◌∷◌, None, refl, ap, lit<, rules}
use Rattle.std.proofs.lemmas.Bool.{ne_eqb, cond-false}
use Rattle.std.proofs.lemmas.Str.Pattern.{strip_prefix_char}
use Rattle.script.specs.Grammar.{reading, past_first, keyed}
use Rattle.script.proofs.parse_line.Goals as goal

past_first_none : (q : Bool) (n at : List ℕ) → ((rest : List ℕ) → at ≡ 58 ∷ rest → ⊥) → past_first q n at ≡ keyed q n at
past_first_none q n [] h = refl
past_first_none q n (c ∷ bs) h = cond-false (eqb c 58) _ _ (ne_eqb c 58 (λ e. h bs (ap (λ d. d ∷ bs) e)))

pub returns-in-None : goal.returns-in-None
unfolding reading
returns-in-None c =
    let at = c.skip_gap-at.result.now in
    let no_colon = past_first_none c.in_ok-first.first.quoted c.in_ok-first.first.name.now at (strip_prefix_char 58 at None c.in-None.ensures.cases (lit< tt)) in
    search rules
