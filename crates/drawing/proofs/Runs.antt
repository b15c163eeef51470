-- A text that draws something: each line says something, and the drawing is faithful.
use Rattle.std.proofs.Common.{◌≡◌, ℕ, suc, ◌+◌, List, [], ◌∷◌, ◌++◌, map, length, Some, None, Option, sym, refl, ap, ◌∙◌, subst, append_assoc, append-nil, arith}
use Rattle.std.specs.List.{flat_map}
use Rattle.names.specs.Places.{Name, place}
use Rattle.script.specs.Grammar.{Stated, blank, machine, start, state, arrow, Reading, says, fault, reading}
use Rattle.drawing.specs.Model.{Draft, Plan, Why, Outcome, draws, refuses, Progress, going, stopped, titled, started, say, add, excess, closed, found, begun, finish, run}
use Rattle.drawing.specs.Facts.{said_in}
use Rattle.drawing.proofs.Built.{Built, built_blank, built_machine, built_start, built_state, built_arrow}

-- the draft after a step
pub record Grown (ss : List Stated) (s : Stated) (p : Progress) : Type 0 where
  pub next : Draft
  pub is : p ≡ going next
  pub built : Built (ss ++ (s ∷ [])) next

-- a statement that is not refused
pub say_built : (at : ℕ) (k : Draft) (ss : List Stated) (s : Stated) → Built ss k → ((n : ℕ) (w : Why) → say at k s ≡ stopped n w → ⊥) → Grown ss s (say at k s)
say_built at k ss blank old go = record { next = k; is = refl; built = built_blank old }
say_built at k ss (machine n) old go = by k.title refl
  where
    by : (o : Option Name) → k.title ≡ o → Grown ss (machine n) (titled at k n k.title)
    by None e = record { next = _; is = ap (titled at k n) e; built = built_machine old n e }
    by (Some m) e = absurd (go _ _ (ap (titled at k n) e))
say_built at k ss (start n) old go = by k.start refl
  where
    by : (o : Option (ℕ × Name)) → k.start ≡ o → Grown ss (start n) (started at k n k.start)
    by None e = record { next = _; is = ap (started at k n) e; built = built_start old at n e }
    by (Some m) e = absurd (go _ _ (ap (started at k n) e))
say_built at k ss (state n) old go = record { next = _; is = refl; built = built_state old n }
say_built at k ss (arrow s b t) old go = record { next = _; is = refl; built = built_arrow old s b t }

-- the draft at the end of a run that draws p
pub record Ran (at : ℕ) (ss : List Stated) (ls : List (List ℕ)) (p : Plan) : Type 0 where
  pub last : Draft
  pub built : Built (ss ++ flat_map (λ l. said_in (reading l)) ls) last
  pub lines : map reading ls ≡ map says (flat_map (λ l. said_in (reading l)) ls)
  pub ends : finish (at + length ls) last ≡ draws p

never : {A : Type 0} (o : Outcome) (n : ℕ) (w : Why) (p : Plan) → o ≡ refuses n w → o ≡ draws p → A
never o n w p e f = absurd (cc)

pub run_stop : (at n : ℕ) (w : Why) (ls : List (List ℕ)) → run at (stopped n w) ls ≡ refuses n w
unfolding run
run_stop at n w [] = refl
run_stop at n w (l ∷ ls) = refl

pub run_end : (at : ℕ) (k : Draft) → run at (going k) [] ≡ finish at k
unfolding run
run_end at k = refl

pub run_next : (at : ℕ) (k : Draft) (l : List ℕ) (ls : List (List ℕ)) → run at (going k) (l ∷ ls) ≡ run (suc at) (add (suc at) k (reading l)) ls
unfolding run
run_next at k l ls = refl

-- one line more in front
ran_more : (at : ℕ) (ss : List Stated) (s : Stated) (l : List ℕ) (ls : List (List ℕ)) (p : Plan) → reading l ≡ says s → Ran (suc at) (ss ++ (s ∷ [])) ls p → Ran at ss (l ∷ ls) p
ran_more at ss s l ls p e r =
    let one : said_in (reading l) ≡ s ∷ [] = ap said_in e in
    record {
      last = r.last;
      built = subst (λ u. Built u r.last) (append_assoc ss (s ∷ []) (flat_map (λ m. said_in (reading m)) ls) ∙ ap (λ u. ss ++ (u ++ flat_map (λ m. said_in (reading m)) ls)) (sym one)) r.built;
      lines = ap (λ u. reading l ∷ u) r.lines ∙ ap (λ u. u ∷ map says (flat_map (λ m. said_in (reading m)) ls)) e
          ∙ ap (λ u. map says (u ++ flat_map (λ m. said_in (reading m)) ls)) (sym one);
      ends = ap (λ n. finish n r.last) (omega arith) ∙ r.ends;
    }

pub run_built : (at : ℕ) (k : Draft) (ss : List Stated) (ls : List (List ℕ)) (p : Plan) → Built ss k → run at (going k) ls ≡ draws p → Ran at ss ls p
run_built at k ss [] p old e = record {
  last = k;
  built = subst (λ u. Built u k) (sym (append-nil ss)) old;
  lines = refl;
  ends = ap (λ n. finish n k) (omega arith) ∙ sym (run_end at k) ∙ e;
}
run_built at k ss (l ∷ ls) p old e = by (reading l) refl (λ k' s b h. run_built (suc at) k' (ss ++ (s ∷ [])) ls p b h)
  where
    by : (r : Reading) → reading l ≡ r → ((k' : Draft) (s : Stated) → Built (ss ++ (s ∷ [])) k' → run (suc at) (going k') ls ≡ draws p → Ran (suc at) (ss ++ (s ∷ [])) ls p) → Ran at ss (l ∷ ls) p
    by (fault x found) h f = never (run at (going k) (l ∷ ls)) _ _ p (run_next at k l ls ∙ ap (λ r. run (suc at) (add (suc at) k r) ls) h ∙ run_stop (suc at) _ _ ls) e
    by (says s) h f =
        let run_on : run at (going k) (l ∷ ls) ≡ run (suc at) (say (suc at) k s) ls = run_next at k l ls ∙ ap (λ r. run (suc at) (add (suc at) k r) ls) h in
        let g = say_built (suc at) k ss s old (λ n w q. never (run at (going k) (l ∷ ls)) n w p (run_on ∙ ap (λ r. run (suc at) r ls) q ∙ run_stop (suc at) n w ls) e) in
        ran_more at ss s l ls p h (f g.next s g.built (ap (λ r. run (suc at) r ls) (sym g.is) ∙ sym run_on ∙ e))

-- what a finish that draws p says of the draft
pub record Closed (k : Draft) (p : Plan) : Type 0 where
  pub title : p.title ≡ k.title
  pub states : p.states ≡ k.states
  pub buttons : p.buttons ≡ k.buttons
  pub arrows : p.arrows ≡ k.arrows
  pub start_name : Name
  pub start_line : ℕ
  pub start : k.start ≡ Some (start_line, start_name)
  pub start_place : place k.states start_name ≡ Some p.start
  pub fits : excess k ≡ None

pub finish_closed : (at : ℕ) (k : Draft) (p : Plan) → finish at k ≡ draws p → Closed k p
unfolding finish
finish_closed at k p e = by k.start refl e
  where
    sizes : (l : ℕ) (n : Name) (i : ℕ) (o : Option Why) → k.start ≡ Some (l, n) → place k.states n ≡ Some i → excess k ≡ o → closed at k i o ≡ draws p → Closed k p
    sizes l n i None a b x h =
        let q : record { title = k.title; states = k.states; buttons = k.buttons; arrows = k.arrows; start = i } ≡ p = cc in
        record {
          title = ap (λ r. r.title) (sym q);
          states = ap (λ r. r.states) (sym q);
          buttons = ap (λ r. r.buttons) (sym q);
          arrows = ap (λ r. r.arrows) (sym q);
          start_name = n;
          start_line = l;
          start = a;
          start_place = b ∙ ap (λ r. Some r.start) q;
          fits = x;
        }
    sizes l n i (Some w) a b x h = absurd (cc)

    placed : (l : ℕ) (n : Name) (o : Option ℕ) → k.start ≡ Some (l, n) → place k.states n ≡ o → found at k (l, n) o ≡ draws p → Closed k p
    placed l n None a b h = absurd (cc)
    placed l n (Some i) a b h = sizes l n i (excess k) a b refl h

    by : (o : Option (ℕ × Name)) → k.start ≡ o → begun at k o ≡ draws p → Closed k p
    by None a h = absurd (cc)
    by (Some q) a h = placed q.0 q.1 (place k.states q.1) a refl h
