use Rattle.std.proofs.Common.{◌≡◌, ◌++◌, ◌∷◌, [], length, sym, ap, ◌∙◌, subst, arith, vec_capacity}
use Rattle.std.specs.Prelude.{slice_set}
use Rattle.fr_base.specs.declared.label.Label.TheVariants as label
use Rattle.fr_base.specs.declared.label.Plain.TheVariants.{Task}
use Rattle.fr_plain.specs.declared.value.Value.TheVariants.{Own}
use Rattle.fr_plain.specs.Run.{temp, block, last, settle}
use Rattle.fr_plain.specs.Threads.{Passed}
use Rattle.fr_forms.specs.declared.forms.Form.TheVariants as form
use Rattle.fr_forms.specs.Depths.{depth}
use Rattle.fr_forms.specs.FormTerms.{captures_of, term_of, parts_of}
use Rattle.fr_meaning.specs.Beside.{beside_of}
use Rattle.fr_meaning.specs.FrameTerms.{wrapped, all_around}
use Rattle.fr_acts.specs.SlotOrder.{newest_first}
use Rattle.fr_shared.specs.Places.{place_of}
use Rattle.fr_meaning.specs.Threads.{whole, AreWell, numbers_of}
use Rattle.fr_forms.proofs.FormLemmas.{form_term, items_here}
use Rattle.fr_meaning.proofs.ContextLemmas.{depth_wrap}
use Rattle.fr_meaning.specs.Running.{AreParents}
use Rattle.fr_meaning.specs.declared.frame.Focus.TheVariants as focus
use Rattle.fr_meaning.proofs.ParentLemmas.{parents_push, parents_step}
use Rattle.fr_meaning.proofs.ThreadLists.{numbers_set, numbers_push, room_on, well_set, well_push}
use Rattle.fr_meaning.proofs.WholeSteps.{whole_start, stepped_to}
use Rattle.fr_meaning.proofs.StartLemmas.{start_facts, captures_here, same_passes, same_passed, started_same, not_other}
use Rattle.fr_meaning.proofs.threads.go_start.Goals as goal

pub unreachable-requires : goal.unreachable-requires
unreachable-requires c =
    let fs = c.args.forms.now in
    let xs = c.args.running.now.threads.items in
    let x = c.index_mut-starting.result.now in
    let is = c.index_mut-starting.ensures.value in
    let s = c.requires.starts x is in
    let k = start_facts fs xs c.args.turn.now.at x c.args.node c.requires.inside is c.requires.stands.well s in
    not_other fs c.args.node c.index-forms-node.result k.inside k.spawn c.index-forms-node.is c.in_default.not-Spawn

pub pass_captures-requires-clause-goes : goal.pass_captures-requires-clause-goes
pass_captures-requires-clause-goes c =
    let fs = c.args.forms.now in
    let xs = c.args.running.now.threads.items in
    let x = c.index_mut-starting.result.now in
    let is = c.index_mut-starting.ensures.value in
    let s = c.requires.starts x is in
    let k = start_facts fs xs c.args.turn.now.at x c.args.node c.requires.inside is c.requires.stands.well s in
    let m = form.Spawn c.in-Spawn.captures c.in-Spawn.field-1 c.in-Spawn.drops in
    let captures = captures_here fs c.args.node c.index-forms-node.result m k.inside c.index-forms-node.is c.in-Spawn.is in
    let term = form_term fs c.args.node c.index-forms-node.result m c.requires.order k.inside c.index-forms-node.is c.in-Spawn.is in
    let items = items_here fs c.args.node c.index-forms-node.result m k.inside c.index-forms-node.is c.in-Spawn.is in
    same_passes _ c.deref.result.now x.slots.items c.args.made.slots.items [] (captures ∙ sym c.deref.ensures.value) c.requires.slots s.passes

pub pass_captures-requires-clause-room : goal.pass_captures-requires-clause-room
pass_captures-requires-clause-room c =
    let fs = c.args.forms.now in
    let xs = c.args.running.now.threads.items in
    let x = c.index_mut-starting.result.now in
    let is = c.index_mut-starting.ensures.value in
    let s = c.requires.starts x is in
    let k = start_facts fs xs c.args.turn.now.at x c.args.node c.requires.inside is c.requires.stands.well s in
    let m = form.Spawn c.in-Spawn.captures c.in-Spawn.field-1 c.in-Spawn.drops in
    let captures = captures_here fs c.args.node c.index-forms-node.result m k.inside c.index-forms-node.is c.in-Spawn.is in
    let term = form_term fs c.args.node c.index-forms-node.result m c.requires.order k.inside c.index-forms-node.is c.in-Spawn.is in
    let items = items_here fs c.args.node c.index-forms-node.result m k.inside c.index-forms-node.is c.in-Spawn.is in
    let same = ap length (captures ∙ sym c.deref.ensures.value) in
    let none = ap length c.requires.slots in
    omega (arith, same, none, c.requires.slot_room, c.args.made.slots.ok)

pub resume-requires-clause-inside : goal.resume-requires-clause-inside
resume-requires-clause-inside c =
    let fs = c.args.forms.now in
    let xs = c.args.running.now.threads.items in
    let x = c.index_mut-starting.result.now in
    let is = c.index_mut-starting.ensures.value in
    let s = c.requires.starts x is in
    let k = start_facts fs xs c.args.turn.now.at x c.args.node c.requires.inside is c.requires.stands.well s in
    k.well.frames

pub resume-requires-clause-room : goal.resume-requires-clause-room
resume-requires-clause-room c =
    let fs = c.args.forms.now in
    let xs = c.args.running.now.threads.items in
    let x = c.index_mut-starting.result.now in
    let is = c.index_mut-starting.ensures.value in
    let s = c.requires.starts x is in
    let k = start_facts fs xs c.args.turn.now.at x c.args.node c.requires.inside is c.requires.stands.well s in
    let less = depth_wrap (all_around fs x.frames.items) (temp (Own (Task c.args.made.number))) (term_of fs c.args.node) (omega arith) in
    omega (arith, less, ap depth k.run, k.well.depth)

pub resume-requires-clause-capacity : goal.resume-requires-clause-capacity
resume-requires-clause-capacity c =
    let fs = c.args.forms.now in
    let xs = c.args.running.now.threads.items in
    let x = c.index_mut-starting.result.now in
    let is = c.index_mut-starting.ensures.value in
    let s = c.requires.starts x is in
    let k = start_facts fs xs c.args.turn.now.at x c.args.node c.requires.inside is c.requires.stands.well s in
    room_on x.stage (vec_capacity x.frames) s.on k.well.room

pub resume-requires-clause-on : goal.resume-requires-clause-on
resume-requires-clause-on c = (c.requires.starts c.index_mut-starting.result.now c.index_mut-starting.ensures.value).on

pub start-started-requires-clause-depth : goal.start-started-requires-clause-depth
start-started-requires-clause-depth c =
    let fs = c.args.forms.now in
    let xs = c.args.running.now.threads.items in
    let x = c.index_mut-starting.result.now in
    let is = c.index_mut-starting.ensures.value in
    let s = c.requires.starts x is in
    let k = start_facts fs xs c.args.turn.now.at x c.args.node c.requires.inside is c.requires.stands.well s in
    let m = form.Spawn c.in-Spawn.captures c.in-Spawn.field-1 c.in-Spawn.drops in
    let captures = captures_here fs c.args.node c.index-forms-node.result m k.inside c.index-forms-node.is c.in-Spawn.is in
    let term = form_term fs c.args.node c.index-forms-node.result m c.requires.order k.inside c.index-forms-node.is c.in-Spawn.is in
    let items = items_here fs c.args.node c.index-forms-node.result m k.inside c.index-forms-node.is c.in-Spawn.is in
    let same = ap (λ is. depth (block c.in-Spawn.drops (parts_of (term_of fs) is))) items in
    omega (arith, same, ap depth term, k.depth)

pub returns-clause-step : goal.returns-clause-step
returns-clause-step c =
    let beside = beside_of c.args.running.now.common in
    let output = c.args.running.now.output.items in
    let fs = c.args.forms.now in
    let xs = c.args.running.now.threads.items in
    let x = c.index_mut-starting.result.now in
    let is = c.index_mut-starting.ensures.value in
    let s = c.requires.starts x is in
    let k = start_facts fs xs c.args.turn.now.at x c.args.node c.requires.inside is c.requires.stands.well s in
    let m = form.Spawn c.in-Spawn.captures c.in-Spawn.field-1 c.in-Spawn.drops in
    let captures = captures_here fs c.args.node c.index-forms-node.result m k.inside c.index-forms-node.is c.in-Spawn.is in
    let term = form_term fs c.args.node c.index-forms-node.result m c.requires.order k.inside c.index-forms-node.is c.in-Spawn.is in
    let items = items_here fs c.args.node c.index-forms-node.result m k.inside c.index-forms-node.is c.in-Spawn.is in
    let y = c.resume.new.thread in
    let n = c.start-started.result in
    let p : Passed = record { left = newest_first c.pass_captures.new.slots.items; new = newest_first c.pass_captures.new.new.items } in
    let place = ap (λ ns. place_of ns c.args.turn.now.thread) (sym c.requires.stands.numbers) ∙ c.requires.place in
    let none = ap (λ ns. place_of ns c.args.made.number) (sym c.requires.stands.numbers) ∙ c.requires.new in
    let passes = same_passed c.deref.result.now c.in-Spawn.captures.items x.slots.items c.args.made.slots.items p c.deref.ensures.value c.requires.slots c.pass_captures.ensures in
    let begins = c.start-started.ensures.run ∙ ap (λ is. settle (block c.in-Spawn.drops (parts_of (term_of fs) is))) items in
    let new = started_same fs n c.args.made.number (settle (block c.in-Spawn.drops (last (term_of fs c.in-Spawn.field-1)))) c.pass_captures.new.new.items c.start-started.ensures.number c.start-started.ensures.stage begins c.start-started.ensures.slots in
    whole_start fs xs beside output c.args.turn.now.thread c.args.turn.now.at c.args.made.number x y n x.frames.items (captures_of c.in-Spawn.captures.items) (block c.in-Spawn.drops (last (term_of fs c.in-Spawn.field-1))) p place is s.on
    (k.run ∙ ap (wrapped fs x.frames.items) term) none passes c.resume.ensures.run c.resume.ensures.number c.resume.ensures.stage (ap (λ vs. newest_first vs.items) c.resume.ensures.slots) new
    ∙ ap (λ ts. stepped_to (whole fs ts beside output) (label.Start c.args.made.number ∷ [])) (sym c.push_reserved.ensures.items)
    ∙ ap (stepped_to (whole fs c.push_reserved.new.self.items beside output)) (sym (c.note.ensures.label ∙ ap (λ ls. ls ++ label.Start c.args.made.number ∷ []) c.requires.labels))

pub returns-clause-stands : goal.returns-clause-stands
returns-clause-stands c =
    let fs = c.args.forms.now in
    let xs = c.args.running.now.threads.items in
    let x = c.index_mut-starting.result.now in
    let is = c.index_mut-starting.ensures.value in
    let s = c.requires.starts x is in
    let k = start_facts fs xs c.args.turn.now.at x c.args.node c.requires.inside is c.requires.stands.well s in
    let y = c.resume.new.thread in
    let n = c.start-started.result in
    record {
      numbers = c.add.ensures.numbers ∙ ap (λ ns. ns ++ c.args.made.number ∷ []) (c.requires.stands.numbers ∙ sym (numbers_set xs c.args.turn.now.at x y is c.resume.ensures.number))
          ∙ ap (λ u. numbers_of (slice_set xs c.args.turn.now.at y) ++ u ∷ []) (sym c.start-started.ensures.number)
          ∙ sym (numbers_push (slice_set xs c.args.turn.now.at y) n) ∙ ap numbers_of (sym c.push_reserved.ensures.items);
      well = subst (AreWell fs) (sym c.push_reserved.ensures.items) (well_push fs (slice_set xs c.args.turn.now.at y) c.start-started.result (well_set fs xs c.args.turn.now.at y c.resume.ensures.well c.requires.stands.well) c.start-started.ensures.well);
      parents = subst (AreParents c.args.running.now.common.pairs.pairs) (sym c.push_reserved.ensures.items) (parents_push c.args.running.now.common.pairs.pairs (slice_set xs c.args.turn.now.at y) n
          (parents_step c.args.running.now.common.pairs.pairs xs c.args.turn.now.thread c.args.turn.now.at x y (ap (λ ns. place_of ns c.args.turn.now.thread) (sym c.requires.stands.numbers) ∙ c.requires.place) is c.resume.ensures.number
          (λ e. (let f : focus.Spawn c.args.node ≡ focus.ParEnd = sym s.at_start ∙ e in cc)) c.requires.stands.parents));
    }
