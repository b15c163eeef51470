use Rattle.std.proofs.Common.{◌≡◌, [], ◌∷◌, ◌++◌, map, length, Some, None, vec_items, string_bytes, sym, ap, ◌∙◌, subst}
use Rattle.std.specs.BTreeMap.{Updates}
use Rattle.std.proofs.lemmas.List.{map_push}
use Rattle.std.proofs.lemmas.Result.{IfOk-at_ok}
use Rattle.names.specs.Places.{place}
use Rattle.names.specs.Table.{texts}
use Rattle.names.proofs.Placed.{noted_there, noted_new, place_new}
use Rattle.names.proofs.Steps.{grown}
use Rattle.names.proofs.table.Names.note.Goals as goal
use Rattle.names.proofs.table.Names.note.Goals.{After-push_reserved}
use Rattle.std.specs.String.{string_cmp}

pub returns-in-Some : goal.returns-in-Some
returns-in-Some c =
    let found = sym c.in-Some.ensures in
    record { now_names = sym (noted_there _ _ c.in-Some.i found); number = found }

-- the name had no place, and i is how many there were
absent : (c : After-push_reserved) → place (texts c.args.self.now.list) c.args.name.now ≡ None
absent c = sym c.in_default.ensures

count : (c : After-push_reserved) → c.len-i.result ≡ length (texts c.args.self.now.list)
count c = c.len-i.ensures.value

-- the list got the name
longer : (c : After-push_reserved) → texts c.push_reserved.new.self ≡ texts c.args.self.now.list ++ (c.args.name.now ∷ [])
longer c =
    let v = c.args.self.now.list in
    let copy = IfOk-at_ok (λ s. string_bytes s ≡ c.args.name.now) c.in_ok-copy.was c.from_str-2.ensures.ok in
    ap (map string_bytes) (c.push_reserved.ensures.items ∙ ap (λ l. l ++ (c.in_ok-copy.copy ∷ [])) c.reserve.ensures.items)
    ∙ map_push string_bytes (vec_items v) c.in_ok-copy.copy ∙ ap (λ s. texts v ++ (s ∷ [])) copy

pub invariant_of-self-2 : goal.invariant_of-self-2
invariant_of-self-2 c =
    let v = c.args.self.now in
    let key = IfOk-at_ok (λ s. string_bytes s ≡ c.args.name.now) c.in_ok-key.was c.from_str.ensures.ok in
    let put = subst (λ i. Updates string_cmp v.numbers c.insert.new.self c.in_ok-key.key (Some i)) (count c) c.in_ok-insert.ensures.updates in
    let k = grown v.list c.push_reserved.new.self v.numbers c.insert.new.self c.in_ok-key.key v.apart v.agrees (ap (place (texts v.list)) key ∙ absent c) (longer c ∙ ap (λ n. texts v.list ++ (n ∷ [])) (sym key)) put in
    record { apart = k.apart; agrees = k.agrees }

pub returns : goal.returns
returns c =
    let at = (goal.at.returns c).After-push_reserved in
    let v = texts c.args.self.now.list in
    let n = c.args.name.now in
    record {
      now_names = longer at ∙ sym (noted_new v n (absent at));
      number = ap (λ l. place l n) (longer at) ∙ place_new v n (absent at) ∙ ap Some (sym (count at));
    }
