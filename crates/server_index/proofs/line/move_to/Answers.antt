use Rattle.std.proofs.Common.{◌≡◌, ◌+◌, ◌<◌, ◌≤◌, ◌++◌, [], get_or, set, drop, length, refl, sym, ap, ◌∙◌, arith}
use Rattle.std.proofs.lemmas.List.{append-nil, length-set, length-append, drop_all}
use Rattle.rank_map.specs.Places.{count_of}
use Rattle.server_index.specs.Lines.{item_first, values}
use Rattle.server_index.proofs.LineLemmas.{moving}
use Rattle.server_index.proofs.line.move_to.Goals as goal
use Rattle.server_index.proofs.line.move_to.Goals.{in-Some, in_default}

pub slots-init : goal.slots-init
slots-init g c = (record { items = refl; room = refl; enough = c.requires.room }, refl)

pub slots-preserved : goal.slots-preserved
slots-preserved g c =
    let slots = c.slots.slots.items in
    let within : c.slots.at < length slots = omega (arith, c.slots-test.true, c.len-at-end.ensures, c.slots.invariant.1) in
    let read = c.take.ensures.value ∙ c.index_mut.ensures.value ∙ ap (get_or slots c.slots.at) (sym c.take.ensures.value) in
    let put : c.match-take.line.items ≡ c.slots.line.items ++ item_first c.take.result [] = elim c.match-take.branch [
      | in-Some w ↦ ap (λ l. l.items) w.line-is ∙ w.push.ensures.items ∙ ap (λ o. c.slots.line.items ++ item_first o []) (sym w.in-Some.is)
      | in_default w ↦ ap (λ l. l.items) w.line-is ∙ sym (append-nil c.slots.line.items) ∙ ap (λ o. c.slots.line.items ++ item_first o []) (sym w.in_default.is)
    ] in
    let less : c.match-take.line.room + count_of c.take.result ≡ c.slots.line.room = elim c.match-take.branch [
      | in-Some w ↦ let one = ap count_of w.in-Some.is in let same = ap (λ l. l.room) w.line-is in omega (arith, one, same, w.push.ensures.room)
      | in_default w ↦ let none = ap count_of w.in_default.is in let same = ap (λ l. l.room) w.line-is in omega (arith, none, same)
    ] in (
      moving slots (set slots c.slots.at c.take.new.self) c.slots.at c.take.result c.slots.line c.match-take.line c.slots.invariant.0 within read (ap (set slots c.slots.at) c.take.ensures.after) put less,
      length-set slots c.slots.at c.take.new.self ∙ c.slots.invariant.1,
    )

pub returns-clause-room : goal.returns-clause-room
returns-clause-room g c =
    let past : length c.slots.slots.items ≤ c.slots.at = omega (arith, c.slots-test.false, c.len-at-end.ensures, c.slots.invariant.1) in
    let none = ap (λ ss. length (values ss)) (drop_all c.slots.at c.slots.slots.items past) in
    let all = ap length {y = c.args.line.now.items ++ values c.args.slots.items} c.slots.invariant.0.items in
    let have = length-append c.slots.line.items (values (drop c.slots.at c.slots.slots.items)) in
    let had = length-append c.args.line.now.items (values c.args.slots.items) in
    omega (arith, none, all, have, had, c.slots.invariant.0.room)
