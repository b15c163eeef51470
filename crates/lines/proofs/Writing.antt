-- One line more.
use Rattle.std.proofs.Common.{◌≡◌, ℕ, ◌+◌, ◌*◌, ◌≤◌, List, [], ◌∷◌, ◌++◌, length, take, drop, sym, refl, ap, ◌∙◌, ap₂, append_assoc, append-nil, arith, length-append}
use Rattle.lts.specs.Line.{Line, top_line, neg_line, and_line, dia_line, line_words, lines_words}
use Rattle.lines.specs.Written.{LineWritten, Written}
use borrow.Rule.Slice.PartMut.{put_mid}
use Rattle.std.proofs.lemmas.List.{drop-drop}
use Rattle.std.proofs.lemmas.Slice.{take-put_mid, drop-put_mid}

pub words_append : (ls ks : List Line) → lines_words (ls ++ ks) ≡ lines_words ls ++ lines_words ks
words_append [] ks = refl
words_append (l ∷ ls) ks = ap (λ (ws : List ℕ). line_words l ++ ws) (words_append ls ks) ∙ sym (append_assoc (line_words l) (lines_words ls) (lines_words ks))

-- a line written behind those that stand there
pub written_more : (before : List ℕ) (ls : List Line) (lines : List ℕ) (l : Line) (at : ℕ) (after : List ℕ) → Written before ls lines → at ≡ length ls → LineWritten lines at l after → Written before (ls ++ (l ∷ [])) after
written_more before ls lines l at after h e w =
    let n : 3 * length (ls ++ (l ∷ [])) ≡ 3 * at + 3 = omega (arith, length-append ls (l ∷ []), e) in
    let next : 3 * at + 3 ≡ 3 * length ls + 3 = omega arith in
    let o : 3 * at ≡ 3 * length ls = omega arith in
    let skip : (ws : List ℕ) → drop (3 * at + 3) ws ≡ drop 3 (drop (3 * length ls) ws) = λ ws. ap (λ k. drop k ws) next ∙ sym (drop-drop 3 (3 * length ls) ws) in
    record {
      words = ap (λ k. take k after) n ∙ w.front ∙ ap₂ ◌++◌ (ap (λ k. take k lines) o ∙ h.words) (sym (append-nil (line_words l))) ∙ sym (words_append ls (l ∷ []));
      rest = ap (λ k. drop k after) n ∙ w.rest ∙ skip lines ∙ ap (drop 3) h.rest ∙ sym (skip before) ∙ sym (ap (λ k. drop k before) n);
    }

-- a line has three words
pub three_words : (l : Line) → length (line_words l) ≡ 3
three_words top_line = refl
three_words (neg_line i) = refl
three_words (and_line i j) = refl
three_words (dia_line a i) = refl

-- three words put in their place are a line
pub put_written : (lines : List ℕ) (at k : ℕ) (l : Line) (ys : List ℕ) → 3 * at + 3 ≤ length lines → k ≡ 3 → ys ≡ line_words l → LineWritten lines at l (put_mid (3 * at) k lines ys)
put_written lines at k l ys h z e =
    let n : length ys ≡ 3 = ap length e ∙ three_words l in
    record {
      front = take-put_mid (3 * at) k lines ys (3 * at + 3) (omega arith) (omega arith) ∙ ap (λ (ws : List ℕ). take (3 * at) lines ++ ws) e;
      rest = drop-put_mid (3 * at) k lines ys (3 * at + 3) (omega arith) (omega arith) (omega arith);
    }
