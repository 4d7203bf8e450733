use Rattle.std.proofs.Common.{length, sym, ap, ◌∙◌, subst, arith, vec_capacity}
use Rattle.std.specs.Prelude.{slice_set}
use Rattle.fr_plain.specs.Run.{temp, join_r, settle}
use Rattle.fr_meaning.specs.Beside.{beside_of}
use Rattle.fr_meaning.specs.declared.frame.Frame.TheVariants as frame
use Rattle.fr_meaning.specs.declared.frame.Focus.{Focus}
use Rattle.fr_meaning.specs.declared.thread.Stage.TheVariants as stage
use Rattle.fr_forms.specs.Depths.{depth}
use Rattle.fr_meaning.specs.DoneTerms.{over}
use Rattle.fr_meaning.specs.FrameTerms.{wrapped, all_around, focus_run, AreInside}
use Rattle.fr_shared.specs.Places.{place_of}
use Rattle.fr_meaning.proofs.ContextLemmas.{depth_wrap}
use Rattle.fr_meaning.proofs.FrameLemmas.{wrap_push, inside_front}
use Rattle.fr_meaning.proofs.ParentLemmas.{parents_same, parents_step, over_waits_not}
use Rattle.fr_meaning.proofs.ThreadLists.{numbers_set, ended_done, room_on, well_at, well_set, well_over, thread_same, places_differ, other_at}
use Rattle.fr_meaning.proofs.WholeSteps.{whole_join}
use Rattle.fr_meaning.proofs.threads.go_join.Goals as goal

pub resume-requires-clause-inside : goal.resume-requires-clause-inside
resume-requires-clause-inside c =
    let fs = c.args.forms.now in
    let xs = c.args.running.now.threads.items in
    let z = c.index_mut.result.now in
    let x = c.index_mut-joining.result.now in
    let ne = places_differ xs c.args.turn.now.at c.args.joined.now.at z (λ q is. (c.requires.joins q is).on) c.index_mut.ensures.value (c.requires.ended z c.index_mut.ensures.value) in
    let is = other_at xs c.args.turn.now.at c.args.joined.now.at c.take_result-value.new.thread x ne c.index_mut-joining.ensures.value in
    let j = c.requires.joins x is in
    let well = well_at fs xs c.args.turn.now.at x c.requires.inside is c.requires.stands.well in
    subst (AreInside (length fs)) (sym (c.leave_top.ensures.frames j.around frame.Join j.top)) (inside_front (length fs) j.around frame.Join (subst (AreInside (length fs)) j.top well.frames)).0

pub resume-requires-clause-room : goal.resume-requires-clause-room
resume-requires-clause-room c =
    let fs = c.args.forms.now in
    let xs = c.args.running.now.threads.items in
    let z = c.index_mut.result.now in
    let x = c.index_mut-joining.result.now in
    let v = c.take_result-value.result in
    let ne = places_differ xs c.args.turn.now.at c.args.joined.now.at z (λ q is. (c.requires.joins q is).on) c.index_mut.ensures.value (c.requires.ended z c.index_mut.ensures.value) in
    let is = other_at xs c.args.turn.now.at c.args.joined.now.at c.take_result-value.new.thread x ne c.index_mut-joining.ensures.value in
    let j = c.requires.joins x is in
    let well = well_at fs xs c.args.turn.now.at x c.requires.inside is c.requires.stands.well in
    let top = ap (λ (f : Focus). wrapped fs x.frames.items (focus_run fs f)) j.at_end ∙ ap (λ ks. wrapped fs ks (over j.done)) j.top ∙ wrap_push fs j.around frame.Join (over j.done) in
    let less = depth_wrap (all_around fs j.around) (temp v) (join_r (over j.done)) (omega arith) in
    let e = ap (λ ks. depth (wrapped fs ks (temp v))) (c.leave_top.ensures.frames j.around frame.Join j.top) in
    omega (arith, e, less, ap depth top, well.depth)

pub resume-requires-clause-capacity : goal.resume-requires-clause-capacity
resume-requires-clause-capacity c =
    let fs = c.args.forms.now in
    let xs = c.args.running.now.threads.items in
    let z = c.index_mut.result.now in
    let x = c.index_mut-joining.result.now in
    let ne = places_differ xs c.args.turn.now.at c.args.joined.now.at z (λ q is. (c.requires.joins q is).on) c.index_mut.ensures.value (c.requires.ended z c.index_mut.ensures.value) in
    let is = other_at xs c.args.turn.now.at c.args.joined.now.at c.take_result-value.new.thread x ne c.index_mut-joining.ensures.value in
    let well = well_at fs xs c.args.turn.now.at x c.requires.inside is c.requires.stands.well in
    omega (arith, c.leave_top.ensures.capacity, room_on x.stage (vec_capacity x.frames) (c.requires.joins x is).on well.room)

pub resume-requires-clause-on : goal.resume-requires-clause-on
resume-requires-clause-on c =
    let xs = c.args.running.now.threads.items in
    let z = c.index_mut.result.now in
    let x = c.index_mut-joining.result.now in
    let ne = places_differ xs c.args.turn.now.at c.args.joined.now.at z (λ q is. (c.requires.joins q is).on) c.index_mut.ensures.value (c.requires.ended z c.index_mut.ensures.value) in
    (c.requires.joins x (other_at xs c.args.turn.now.at c.args.joined.now.at c.take_result-value.new.thread x ne c.index_mut-joining.ensures.value)).on

pub returns-clause-step : goal.returns-clause-step
returns-clause-step c =
    let beside = beside_of c.args.running.now.common in
    let output = c.args.running.now.output.items in
    let fs = c.args.forms.now in
    let xs = c.args.running.now.threads.items in
    let z = c.index_mut.result.now in
    let a = c.take_result-value in
    let x = c.index_mut-joining.result.now in
    let y = c.resume.new.thread in
    let ne = places_differ xs c.args.turn.now.at c.args.joined.now.at z (λ q is. (c.requires.joins q is).on) c.index_mut.ensures.value (c.requires.ended z c.index_mut.ensures.value) in
    let is = other_at xs c.args.turn.now.at c.args.joined.now.at a.new.thread x ne c.index_mut-joining.ensures.value in
    let j = c.requires.joins x is in
    let top = ap (λ (f : Focus). wrapped fs x.frames.items (focus_run fs f)) j.at_end ∙ ap (λ ks. wrapped fs ks (over j.done)) j.top ∙ wrap_push fs j.around frame.Join (over j.done) in
    let place = ap (λ ns. place_of ns c.args.turn.now.thread) (sym c.requires.stands.numbers) ∙ c.requires.place in
    let other = ap (λ ns. place_of ns c.args.joined.now.thread) (sym c.requires.stands.numbers) ∙ c.requires.other_place in
    let over_w = thread_same fs z a.new.thread stage.Over a.ensures.number a.ensures.stage a.ensures.frames a.ensures.focus a.ensures.slots in
    let goes = c.resume.ensures.run ∙ ap (λ ks. settle (wrapped fs ks (temp a.result))) (c.leave_top.ensures.frames j.around frame.Join j.top) in
    whole_join fs xs beside output c.args.turn.now.thread c.args.turn.now.at c.args.joined.now.thread c.args.joined.now.at x y z a.new.thread j.around j.done a.result place is j.on top j.task other c.index_mut.ensures.value (sym a.ensures.result) over_w a.ensures.number
    goes c.resume.ensures.number c.resume.ensures.stage (ap (λ vs. vs.items) c.resume.ensures.slots)

pub returns-clause-stands : goal.returns-clause-stands
returns-clause-stands c =
    let xs = c.args.running.now.threads.items in
    let w = c.take_result-value.new.thread in
    let fs = c.args.forms.now in
    let z = c.index_mut.result.now in
    let a = c.take_result-value in
    let well = well_at fs xs c.args.joined.now.at z c.requires.other_inside c.index_mut.ensures.value c.requires.stands.well in
    let ne = places_differ xs c.args.turn.now.at c.args.joined.now.at z (λ q is. (c.requires.joins q is).on) c.index_mut.ensures.value (c.requires.ended z c.index_mut.ensures.value) in
    let j = c.requires.joins c.index_mut-joining.result.now (other_at xs c.args.turn.now.at c.args.joined.now.at w c.index_mut-joining.result.now ne c.index_mut-joining.ensures.value) in
    record {
      numbers = c.requires.stands.numbers ∙ sym (numbers_set (slice_set xs c.args.joined.now.at w) c.args.turn.now.at c.index_mut-joining.result.now c.resume.new.thread c.index_mut-joining.ensures.value c.resume.ensures.number
          ∙ numbers_set xs c.args.joined.now.at c.index_mut.result.now w c.index_mut.ensures.value c.take_result-value.ensures.number);
      well = well_set fs (slice_set xs c.args.joined.now.at a.new.thread) c.args.turn.now.at c.resume.new.thread c.resume.ensures.well (well_set fs xs c.args.joined.now.at a.new.thread (well_over fs z a.new.thread a.ensures.frames a.ensures.focus a.ensures.stage (ended_done z.stage (c.requires.ended z c.index_mut.ensures.value)) well) c.requires.stands.well);
      parents = parents_step c.args.running.now.common.pairs.pairs (slice_set xs c.args.joined.now.at w) c.args.turn.now.thread c.args.turn.now.at c.index_mut-joining.result.now c.resume.new.thread
          (ap (λ ns. place_of ns c.args.turn.now.thread) (numbers_set xs c.args.joined.now.at z w c.index_mut.ensures.value a.ensures.number ∙ sym c.requires.stands.numbers) ∙ c.requires.place)
          c.index_mut-joining.ensures.value c.resume.ensures.number (over_waits_not c.index_mut-joining.result.now.focus j.done j.at_end)
          (parents_same c.args.running.now.common.pairs.pairs xs c.args.joined.now.at z w c.index_mut.ensures.value a.ensures.number a.ensures.focus c.requires.stands.parents);
    }
