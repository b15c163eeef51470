-- A question that was read can be refined.
use Rattle.std.proofs.Common.{◌≡◌, ℕ, ◌+◌, ◌*◌, ◌&&◌, ltb, leb, List, [], ◌∷◌, length, sym, ap, ◌∙◌, arith, leb→le, length-append}
use Rattle.lts.specs.Question.{Question, within, transition_words}
use Rattle.lts.proofs.Encoding.{length_words}
use Rattle.theory.proofs.Bools.{and_0, and_1}
use Rattle.refine.specs.Askable.{Askable}
use Rattle.observer.specs.declared.asked.Asked.{Asked}
use Rattle.observer.specs.Read.{question, Reads}

module _ (words : List ℕ) (a : Asked) (h : Reads words a) where
  abbrev q : Question
  q = question a

  abbrev ws : List ℕ
  ws = a.transitions.now

  long : length ws ≡ 3 * length q.machine.transitions
  long = sym (ap length h.borrowed) ∙ length_words q.machine.transitions

  -- the question's words are four and three for each transition
  pub all_words : length words ≡ 4 + length ws
  all_words = omega (arith, ap length h.encoded.is, length-append (transition_words q.machine.transitions) (q.first ∷ q.second ∷ []), ap length h.borrowed)

  pub askable_of : Askable a.states ws
  askable_of =
      let n = q.machine.states in
      let ts = q.machine.transitions in
      let sizes = leb 1 n && leb n 4096 in
      let rest = (leb (length ts) 16384 && within n ts) && (ltb q.first n && ltb q.second n) in
      let one = and_0 sizes rest h.encoded.fine in
      let two = and_0 (leb (length ts) 16384 && within n ts) (ltb q.first n && ltb q.second n) (and_1 sizes rest h.encoded.fine) in
      let few = leb→le (length ts) 16384 (and_0 (leb (length ts) 16384) (within n ts) two) in
      record {
        some = leb→le 1 n (and_0 (leb 1 n) (leb n 4096) one);
        few = leb→le n 4096 (and_1 (leb 1 n) (leb n 4096) one);
        whole = omega (arith, long);
        short = omega (arith, long, few);
        inside = and_1 (leb (length ts) 16384) (within n ts) two;
      }
