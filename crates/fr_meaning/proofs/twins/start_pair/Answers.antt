use Rattle.std.proofs.Common.{◌≡◌, ◌≢◌, ◌<◌, List, [], ◌∷◌, ◌++◌, length, refl, sym, ap, ◌∙◌, subst, arith}
use Rattle.std.specs.Prelude.{IsSome, Option, slice_set}
use Rattle.fr_base.specs.declared.label.Label.TheVariants as label
use Rattle.fr_plain.specs.MachineThreads.{Pair}
use Rattle.fr_plain.specs.Run.{settle}
use Rattle.fr_plain.specs.Threads.{Passed}
use Rattle.fr_forms.specs.Depths.{depth}
use Rattle.fr_forms.specs.FormTerms.{captures_of, term_of, body_run}
use Rattle.fr_forms.specs.declared.forms.Form.TheVariants as form
use Rattle.fr_forms.proofs.FormLemmas.{behind, pair_seen, form_term, form_below}
use Rattle.fr_acts.specs.SlotOrder.{newest_first}
use Rattle.fr_meaning.specs.declared.thread.Thread.{Thread}
use Rattle.fr_meaning.specs.Beside.{beside_of}
use Rattle.fr_meaning.specs.FrameTerms.{wrapped}
use Rattle.fr_meaning.specs.Running.{AreParents}
use Rattle.fr_meaning.specs.Threads.{whole, AreWell, numbers_of}
use Rattle.fr_meaning.specs.Twins.{ours_at}
use Rattle.fr_meaning.proofs.StartLemmas.{same_passes, same_passed, started_same}
use Rattle.fr_meaning.specs.declared.frame.Focus.TheVariants as focus
use Rattle.fr_shared.specs.Places.{place_of}
use Rattle.fr_meaning.proofs.PairSteps.{whole_par}
use Rattle.fr_meaning.proofs.ThreadLists.{numbers_set, well_set, well_push}
use Rattle.fr_meaning.proofs.WholeSteps.{stepped_to}
use Rattle.fr_meaning.proofs.ParentLemmas.{no_pair, parents_step, parents_push, parents_more}
use Rattle.fr_meaning.proofs.TwinFacts.{ours_here, pair_facts, none_push, waits_well, set_here, two_numbers, differ}
use Rattle.fr_meaning.proofs.twins.start_pair.Goals as goal

pub pass_captures-requires-clause-goes : goal.pass_captures-requires-clause-goes
pass_captures-requires-clause-goes c =
    let seen = pair_seen c.index-forms-node.result c.in-Par.our_box c.in-Par.their_box c.deref-our_body.result.now c.deref-their_body.result.now c.in-Par.is c.deref-our_body.ensures c.deref-their_body.ensures in
    let fs = c.args.forms.now in
    let x = c.index_mut-starting.result.now in
    let s = c.requires.starts x c.index_mut-starting.ensures.value in
    let m = form.Par (behind c.in-Par.our_box c.deref-our_body.result.now) (behind c.in-Par.their_box c.deref-their_body.result.now) in
    let ours = ours_here fs c.args.node c.index-forms-node.result m c.requires.node c.index-forms-node.is seen in
    same_passes (ours_at fs c.args.node) c.deref.result.now x.slots.items c.args.twins.ours.slots.items [] (ours ∙ sym c.deref.ensures.value) c.requires.our_slots (subst (λ (o : Option Passed). IsSome o) (sym s.passes) refl)

pub pass_captures-requires-clause-room : goal.pass_captures-requires-clause-room
pass_captures-requires-clause-room c =
    let seen = pair_seen c.index-forms-node.result c.in-Par.our_box c.in-Par.their_box c.deref-our_body.result.now c.deref-their_body.result.now c.in-Par.is c.deref-our_body.ensures c.deref-their_body.ensures in
    let fs = c.args.forms.now in
    let m = form.Par (behind c.in-Par.our_box c.deref-our_body.result.now) (behind c.in-Par.their_box c.deref-their_body.result.now) in
    let ours = ours_here fs c.args.node c.index-forms-node.result m c.requires.node c.index-forms-node.is seen in
    omega (arith, ap length (ours ∙ sym c.deref.ensures.value), ap length c.requires.our_slots, c.requires.our_slot_room, c.args.twins.ours.slots.ok)

pub start_body-one-requires-clause-part : goal.start_body-one-requires-clause-part
start_body-one-requires-clause-part c =
    let seen = pair_seen c.index-forms-node.result c.in-Par.our_box c.in-Par.their_box c.deref-our_body.result.now c.deref-their_body.result.now c.in-Par.is c.deref-our_body.ensures c.deref-their_body.ensures in
    let below : (c.deref-our_body.result.now.term < c.args.node) × (c.deref-their_body.result.now.term < c.args.node) = form_below c.args.forms.now c.args.node c.index-forms-node.result (form.Par (behind c.in-Par.our_box c.deref-our_body.result.now) (behind c.in-Par.their_box c.deref-their_body.result.now)) c.requires.order c.requires.node c.index-forms-node.is seen in
    omega (arith, below.0, c.requires.node)

pub start_body-other-requires-clause-part : goal.start_body-other-requires-clause-part
start_body-other-requires-clause-part c =
    let seen = pair_seen c.index-forms-node.result c.in-Par.our_box c.in-Par.their_box c.deref-our_body.result.now c.deref-their_body.result.now c.in-Par.is c.deref-our_body.ensures c.deref-their_body.ensures in
    let below : (c.deref-our_body.result.now.term < c.args.node) × (c.deref-their_body.result.now.term < c.args.node) = form_below c.args.forms.now c.args.node c.index-forms-node.result (form.Par (behind c.in-Par.our_box c.deref-our_body.result.now) (behind c.in-Par.their_box c.deref-their_body.result.now)) c.requires.order c.requires.node c.index-forms-node.is seen in
    omega (arith, below.1, c.requires.node)

pub start_body-one-requires-clause-depth : goal.start_body-one-requires-clause-depth
start_body-one-requires-clause-depth c =
    let seen = pair_seen c.index-forms-node.result c.in-Par.our_box c.in-Par.their_box c.deref-our_body.result.now c.deref-their_body.result.now c.in-Par.is c.deref-our_body.ensures c.deref-their_body.ensures in
    let fs = c.args.forms.now in
    let xs = c.args.running.now.threads.items in
    let x = c.index_mut-starting.result.now in
    let is = c.index_mut-starting.ensures.value in
    let k = pair_facts fs xs c.args.turn.now.at x c.args.node c.requires.inside is c.requires.stands.well (c.requires.starts x is).at_start in
    let term = form_term fs c.args.node c.index-forms-node.result (form.Par (behind c.in-Par.our_box c.deref-our_body.result.now) (behind c.in-Par.their_box c.deref-their_body.result.now)) c.requires.order c.requires.node c.index-forms-node.is seen in
    omega (arith, ap depth term, k.depth)

pub start_body-other-requires-clause-depth : goal.start_body-other-requires-clause-depth
start_body-other-requires-clause-depth c =
    let seen = pair_seen c.index-forms-node.result c.in-Par.our_box c.in-Par.their_box c.deref-our_body.result.now c.deref-their_body.result.now c.in-Par.is c.deref-our_body.ensures c.deref-their_body.ensures in
    let fs = c.args.forms.now in
    let xs = c.args.running.now.threads.items in
    let x = c.index_mut-starting.result.now in
    let is = c.index_mut-starting.ensures.value in
    let k = pair_facts fs xs c.args.turn.now.at x c.args.node c.requires.inside is c.requires.stands.well (c.requires.starts x is).at_start in
    let term = form_term fs c.args.node c.index-forms-node.result (form.Par (behind c.in-Par.our_box c.deref-our_body.result.now) (behind c.in-Par.their_box c.deref-their_body.result.now)) c.requires.order c.requires.node c.index-forms-node.is seen in
    omega (arith, ap depth term, k.depth)

pub add-requires-2-clause-new : goal.add-requires-2-clause-new
add-requires-2-clause-new c =
    ap (λ ns. place_of ns c.args.twins.theirs.number) c.add.ensures.numbers ∙ none_push c.args.running.now.places.numbers c.args.twins.ours.number c.args.twins.theirs.number c.requires.new_theirs c.requires.apart

pub add-requires-3-clause-new : goal.add-requires-3-clause-new
add-requires-3-clause-new c =
    let xs = c.args.running.now.threads.items in
    let x = c.index_mut-starting.result.now in
    let is = c.index_mut-starting.ensures.value in
    no_pair c.args.running.now.common.pairs.pairs xs c.args.turn.now.thread c.args.turn.now.at x (ap (λ ns. place_of ns c.args.turn.now.thread) (sym c.requires.stands.numbers) ∙ c.requires.place) is
    (λ e. (let f : focus.Par c.args.node ≡ focus.ParEnd = sym (c.requires.starts x is).at_start ∙ e in cc)) c.requires.stands.parents

pub returns-clause-step : goal.returns-clause-step
returns-clause-step c =
    let seen = pair_seen c.index-forms-node.result c.in-Par.our_box c.in-Par.their_box c.deref-our_body.result.now c.deref-their_body.result.now c.in-Par.is c.deref-our_body.ensures c.deref-their_body.ensures in
    let fs = c.args.forms.now in
    let r = c.args.running.now in
    let xs = r.threads.items in
    let b = beside_of r.common in
    let t = c.args.turn.now.thread in
    let i = c.args.turn.now.at in
    let u = c.args.twins.ours.number in
    let v = c.args.twins.theirs.number in
    let x = c.index_mut-starting.result.now in
    let is = c.index_mut-starting.ensures.value in
    let s = c.requires.starts x is in
    let k = pair_facts fs xs i x c.args.node c.requires.inside is c.requires.stands.well s.at_start in
    let y : Thread = record x { focus = focus.ParEnd; slots = c.pass_captures-2.new.slots } in
    let n = c.start_body-one in
    let o = c.start_body-other in
    let waits = waits_well fs x y c.args.node k refl refl refl in
    let items = c.push_reserved-2.ensures.items ∙ ap (λ (ts : List Thread). ts ++ o.result ∷ []) c.push_reserved.ensures.items in
    let place = ap (λ ns. place_of ns t) (sym c.requires.stands.numbers) ∙ c.requires.place in
    let our = c.deref-our_body.result.now in
    let their = c.deref-their_body.result.now in
    let term = form_term fs c.args.node c.index-forms-node.result (form.Par (behind c.in-Par.our_box our) (behind c.in-Par.their_box their)) c.requires.order c.requires.node c.index-forms-node.is seen in
    let one : Passed = record { left = newest_first c.pass_captures.new.slots.items; new = newest_first c.pass_captures.new.new.items } in
    let two : Passed = record { left = newest_first c.pass_captures-2.new.slots.items; new = newest_first c.pass_captures-2.new.new.items } in
    let passes = same_passed c.deref.result.now our.captures.items x.slots.items c.args.twins.ours.slots.items one c.deref.ensures.value c.requires.our_slots c.pass_captures.ensures in
    let then_passes = same_passed c.deref-2.result.now their.captures.items c.pass_captures.new.slots.items c.args.twins.theirs.slots.items two c.deref-2.ensures.value c.requires.their_slots c.pass_captures-2.ensures in
    let none_u = ap (λ ns. place_of ns u) (sym c.requires.stands.numbers) ∙ c.requires.new_ours in
    let none_v = ap (λ ns. place_of ns v) (sym c.requires.stands.numbers) ∙ c.requires.new_theirs in
    let new_n = started_same fs n.result u (settle (body_run (term_of fs) our)) c.pass_captures.new.new.items n.ensures.number n.ensures.stage n.ensures.run n.ensures.slots in
    let new_o = started_same fs o.result v (settle (body_run (term_of fs) their)) c.pass_captures-2.new.new.items o.ensures.number o.ensures.stage o.ensures.run o.ensures.slots in
    let pair : Pair = record { parent = t; first = u; second = v } in
    let starts = label.Start u ∷ label.Start v ∷ [] in
    whole_par fs xs b r.output.items t i u v x y n.result o.result x.frames.items (captures_of our.captures.items) (captures_of their.captures.items) (body_run (term_of fs) our) (body_run (term_of fs) their) one two place is s.on
    (k.run ∙ ap (wrapped fs x.frames.items) term) (differ u v c.requires.apart) none_u none_v passes then_passes waits.1 refl refl refl new_n new_o
    ∙ ap (λ ts. stepped_to (whole fs ts (record b { pairs = pair ∷ b.pairs }) r.output.items) starts) (sym items)
    ∙ ap (λ ps. stepped_to (whole fs c.push_reserved-2.new.self.items (record b { pairs = ps }) r.output.items) starts) (sym c.add-3.ensures.pairs)
    ∙ ap (stepped_to (whole fs c.push_reserved-2.new.self.items (record b { pairs = c.add-3.new.self.pairs }) r.output.items)) (sym (c.note-2.ensures.label ∙ ap (λ ls. ls ++ label.Start v ∷ []) (c.note.ensures.label ∙ ap (λ ls. ls ++ label.Start u ∷ []) c.requires.labels)))

pub returns-clause-stands : goal.returns-clause-stands
returns-clause-stands c =
    let fs = c.args.forms.now in
    let r = c.args.running.now in
    let xs = r.threads.items in
    let b = beside_of r.common in
    let t = c.args.turn.now.thread in
    let i = c.args.turn.now.at in
    let u = c.args.twins.ours.number in
    let v = c.args.twins.theirs.number in
    let x = c.index_mut-starting.result.now in
    let is = c.index_mut-starting.ensures.value in
    let s = c.requires.starts x is in
    let k = pair_facts fs xs i x c.args.node c.requires.inside is c.requires.stands.well s.at_start in
    let y : Thread = record x { focus = focus.ParEnd; slots = c.pass_captures-2.new.slots } in
    let n = c.start_body-one in
    let o = c.start_body-other in
    let waits = waits_well fs x y c.args.node k refl refl refl in
    let items = c.push_reserved-2.ensures.items ∙ ap (λ (ts : List Thread). ts ++ o.result ∷ []) c.push_reserved.ensures.items in
    let place = ap (λ ns. place_of ns t) (sym c.requires.stands.numbers) ∙ c.requires.place in
    let zs = slice_set xs i y in
    let ps = r.common.pairs.pairs in
    let pair : Pair = record { parent = t; first = u; second = v } in
    let numbers = numbers_set xs i x y is refl in
    let no_end : x.focus ≢ focus.ParEnd = λ e. (let f : focus.Par c.args.node ≡ focus.ParEnd = sym s.at_start ∙ e in cc) in
    let parents = parents_push (pair ∷ ps) (zs ++ n.result ∷ []) o.result (parents_push (pair ∷ ps) zs n.result
    (parents_more pair ps zs i y (ap (λ ns. place_of ns t) numbers ∙ place) (set_here xs i y) refl (parents_step ps xs t i x y place is refl no_end c.requires.stands.parents))) in
    record {
      numbers = c.add-2.ensures.numbers ∙ ap (λ ns. ns ++ v ∷ []) (c.add.ensures.numbers ∙ ap (λ ns. ns ++ u ∷ []) (c.requires.stands.numbers ∙ sym numbers))
          ∙ sym (two_numbers zs n.result o.result u v n.ensures.number o.ensures.number) ∙ ap numbers_of (sym items);
      well = subst (AreWell fs) (sym items) (well_push fs (zs ++ n.result ∷ []) o.result (well_push fs zs n.result (well_set fs xs i y waits.0 c.requires.stands.well) n.ensures.well) o.ensures.well);
      parents = subst (λ (us : List Pair). AreParents us c.push_reserved-2.new.self.items) (sym c.add-3.ensures.pairs) (subst (AreParents (pair ∷ ps)) (sym items) parents);
    }
