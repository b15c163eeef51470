-- Every number in a draft stays that of a name.
use Rattle.std.proofs.Common.{◌≡◌, ℕ, ◌≤◌, length, Some, None, Option, subst, arith}
use Rattle.names.specs.Places.{Name, noted}
use Rattle.names.proofs.Placed.{place_noted}
use Rattle.names.proofs.Turns.{extends_noted, noted_place, known}
use Rattle.script.specs.Grammar.{blank, machine, start, state, arrow, Reading, says, fault}
use Rattle.drawing.specs.Code.{Numbered}
use Rattle.drawing.specs.Model.{Draft, Progress, going, stopped, titled, started, with_state, with_arrow, numbered, add}
use Rattle.drawing.proofs.Fits.{fits_from, within_grown, within_push}

abbrev Kept : Progress → Type 0
Kept (going k) = Numbered k
Kept (stopped n w) = Unit {0}

kept_title : (at : ℕ) (k : Draft) (n : Name) (o : Option Name) → Numbered k → Kept (titled at k n o)
kept_title at k n None h = h
kept_title at k n (Some m) h = tt

kept_start : (at : ℕ) (k : Draft) (n : Name) (o : Option (ℕ × Name)) → Numbered k → Kept (started at k n o)
kept_start at k n None h = h
kept_start at k n (Some m) h = tt

kept_state : (k : Draft) (n : Name) → Numbered k → Numbered (with_state k n)
kept_state k n h = within_grown _ _ _ _ k.arrows (extends_noted k.states n).longer (omega arith) h

kept_arrow : (k : Draft) (s b t : Name) → Numbered k → Numbered (with_arrow k s b t)
kept_arrow k s b t h =
    let mid = noted k.states s in
    let ss = noted mid t in
    let bs = noted k.buttons b in
    let one = noted_place k.states s in
    let source = known ss s one.0 (place_noted mid t s one.0 one.1) in
    let two = noted_place mid t in
    let target = known ss t two.0 two.1 in
    let three = noted_place k.buttons b in
    let button = known bs b three.0 three.1 in
    let longer : length k.states ≤ length ss = omega (arith, (extends_noted k.states s).longer, (extends_noted mid t).longer) in
    within_push (length ss) (length bs) k.arrows (numbered ss bs s b t)
    (within_grown (length k.states) (length ss) (length k.buttons) (length bs) k.arrows longer (extends_noted k.buttons b).longer h)
    (fits_from (length ss) (length bs) (numbered ss bs s b t) source.0 button.0 target.0)

kept : (at : ℕ) (k : Draft) (r : Reading) → Numbered k → Kept (add at k r)
kept at k (fault e found) h = tt
kept at k (says blank) h = h
kept at k (says (machine n)) h = kept_title at k n k.title h
kept at k (says (start n)) h = kept_start at k n k.start h
kept at k (says (state n)) h = kept_state k n h
kept at k (says (arrow s b t)) h = kept_arrow k s b t h

-- what a line adds to a draft has numbers of names again
pub numbered_add : (at : ℕ) (k m : Draft) (r : Reading) → add at k r ≡ going m → Numbered k → Numbered m
numbered_add at k m r e h = subst Kept e (kept at k r h)
