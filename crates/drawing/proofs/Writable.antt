-- What a text says can be written.
use Rattle.std.proofs.Common.{◌≡◌, ℕ, Bool, true, false, cond, not, T, eqb, List, [], ◌∷◌, ◌++◌, map, sym, refl, ap, ◌∙◌, subst, append_assoc, arith}
use Rattle.std.specs.List.{flat_map, All as EachAt, AllByRecursion as All}
use Rattle.std.specs.Option.{option_to_list}
use Rattle.std.proofs.lemmas.Bool.Decides.{nat_tests}
use Rattle.std.proofs.lemmas.List.Elements.{All-nil, All-cons}
use Rattle.std.proofs.ByRecursion.{All-append, All-push, All-map}
use Rattle.names.specs.Places.{Name, noted, noted_all}
use Rattle.names.proofs.Turns.{noted_either}
use Rattle.script.specs.Grammar.{Stated, blank, machine, start, state, arrow, says, reading}
use Rattle.script.specs.Printed.{lacks, writable, writable_all, printed}
use Rattle.script.proofs.Oneline.{printed_one_line}
use Rattle.script.proofs.Readable.{reading_writable}
use Rattle.script.proofs.Roundtrip.{reading_printed}
use Rattle.drawing.specs.Lines.{lines_of, before}
use Rattle.drawing.specs.Facts.{said, title_in, start_in, states_in, arrows_in, spelled, Faithful}
use Rattle.drawing.specs.Model.{Plan}
use Rattle.drawing.specs.Written.{line_of, statements_of}
use Rattle.drawing.proofs.Lined.{is_newline, lines_cut}

-- there is no newline in it
abbrev Lone : List ℕ → Type 0
Lone l = T (lacks 10 l)

lone_before : (c : ℕ) (ls : List (List ℕ)) → T (not (eqb c 10)) → All Lone ls → All Lone (before c ls)
lone_before c [] h a = (grind (arith, nat_tests), tt)
lone_before c (l ∷ ls) h a = (grind (arith, nat_tests, a.0), a.1)

lone_either : (b : Bool) (c : ℕ) (ls : List (List ℕ)) → eqb c 10 ≡ b → All Lone ls → All Lone (cond b ([] ∷ ls) (before c ls))
lone_either true c ls e a = (tt, a)
lone_either false c ls e a = lone_before c ls (subst (λ b. T (not b)) (sym e) tt) a

-- no line of a text has a newline
lines_lone : (bs : List ℕ) → All Lone (lines_of bs)
unfolding lines_of
lines_lone [] = (tt, tt)
lines_lone (c ∷ bs) = lone_either (eqb c 10) c (lines_of bs) refl (lines_lone bs)

lone_parts : (b : ℕ) (bs : List ℕ) → Lone (b ∷ bs) → (is_newline b ≡ false) × Lone bs
lone_parts b bs h = grind (arith, nat_tests)

lone_each : (bs : List ℕ) → Lone bs → EachAt (λ b. is_newline b ≡ false) bs
lone_each [] h = All-nil (λ b. is_newline b ≡ false)
lone_each (b ∷ bs) h = All-cons (λ c. is_newline c ≡ false) b bs (lone_parts b bs h).0 (lone_each bs (lone_parts b bs h).1)

-- a statement, and a name, that can be written
abbrev CanSay : Stated → Type 0
CanSay s = T (writable_all s)

abbrev CanName : Name → Type 0
CanName n = T (writable n)

-- what lines say can be written
said_writable : (ls : List (List ℕ)) (ss : List Stated) → All Lone ls → map reading ls ≡ map says ss → All CanSay ss
said_writable [] [] a e = tt
said_writable [] (s ∷ ss) a e = absurd (cc)
said_writable (l ∷ ls) [] a e = absurd (cc)
said_writable (l ∷ ls) (s ∷ ss) a e =
    let h : reading l ≡ says s = cc in
    let t : map reading ls ≡ map says ss = cc in
    (reading_writable l s a.0 h, said_writable ls ss a.1 t)

all_joined : {X Y : Type 0} (P : X → Type 0) (Q : Y → Type 0) (f : X → List Y) → ((x : X) → P x → All Q (f x)) → (xs : List X) → All P xs → All Q (flat_map f xs)
all_joined P Q f h [] a = tt
all_joined P Q f h (x ∷ xs) a = All-append Q (f x) (flat_map f xs) (h x a.0) (all_joined P Q f h xs a.1)

all_noted : (P : Name → Type 0) (xs ns : List Name) → All P xs → All P ns → All P (noted_all xs ns)
all_noted P xs [] a b = a
all_noted P xs (n ∷ ns) a b = all_noted P (noted xs n) ns (noted_either (All P) xs n (λ i e. a) (λ e. All-push P xs n a b.0)) b.1

title_writable : (s : Stated) → CanSay s → All CanName (title_in s)
title_writable blank h = tt
title_writable (machine n) h = (h, tt)
title_writable (start n) h = tt
title_writable (state n) h = tt
title_writable (arrow s b t) h = tt

start_writable : (s : Stated) → CanSay s → All CanName (start_in s)
start_writable blank h = tt
start_writable (machine n) h = tt
start_writable (start n) h = (h, tt)
start_writable (state n) h = tt
start_writable (arrow s b t) h = tt

states_writable : (s : Stated) → CanSay s → All CanName (states_in s)
states_writable blank h = tt
states_writable (machine n) h = tt
states_writable (start n) h = tt
states_writable (state n) h = (h, tt)
states_writable (arrow s b t) h = (grind (arith, nat_tests), (grind (arith, nat_tests), tt))

arrows_writable : (s : Stated) → CanSay s → All CanSay (arrows_in s)
arrows_writable blank h = tt
arrows_writable (machine n) h = tt
arrows_writable (start n) h = tt
arrows_writable (state n) h = tt
arrows_writable (arrow s b t) h = (h, tt)

-- the statements of a drawing that a text draws
pub statements_writable : (text : List ℕ) (p : Plan) → Faithful text p → All CanSay (statements_of p)
statements_writable text p f =
    let w = said_writable (lines_of text) (said text) (lines_lone text) f.lines in
    let ts = subst (All CanName) f.title (all_joined CanSay CanName title_in title_writable (said text) w) in
    let st = subst (All CanName) f.start (all_joined CanSay CanName start_in start_writable (said text) w) in
    let ss = subst (All CanName) (sym f.states) (all_noted CanName [] (flat_map states_in (said text)) tt (all_joined CanSay CanName states_in states_writable (said text) w)) in
    let rs = subst (All CanSay) (sym f.arrows) (all_joined CanSay CanSay arrows_in arrows_writable (said text) w) in
    All-append CanSay (map machine (option_to_list p.title)) _ (All-map CanSay machine (option_to_list p.title) ts)
    (st.0, All-append CanSay (map state p.states) (map (spelled p.states p.buttons) p.arrows) (All-map CanSay state p.states ss) rs)

-- the lines of statements that are written
pub lines_written : (ss : List Stated) → All CanSay ss → lines_of (flat_map line_of ss) ≡ map printed ss ++ ([] ∷ [])
unfolding lines_of
lines_written [] a = refl
lines_written (s ∷ ss) a =
    ap lines_of (append_assoc (printed s) (10 ∷ []) (flat_map line_of ss)) ∙ lines_cut (printed s) (flat_map line_of ss) (lone_each (printed s) (printed_one_line s a.0))
    ∙ ap (λ l. printed s ∷ l) (lines_written ss a.1)

reading_none : reading [] ≡ says blank
unfolding reading
reading_none = refl

-- they are read again
pub reads_written : (ss : List Stated) → All CanSay ss → map reading (map printed ss ++ ([] ∷ [])) ≡ map says (ss ++ (blank ∷ []))
reads_written [] a = ap (λ r. r ∷ []) reading_none
reads_written (s ∷ ss) a = ap (λ r. r ∷ map reading (map printed ss ++ ([] ∷ []))) (reading_printed s a.0) ∙ ap (λ l. says s ∷ l) (reads_written ss a.1)
