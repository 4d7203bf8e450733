-- The mark of a write on a mutable reference in a slot: the clusters with the thread put back are the same but for it.
use Rattle.std.proofs.Common.{◌≡◌, true, false, Some, refl, ap, subst}
use Rattle.std.specs.Prelude.{slice_set}
use Rattle.law_words_paths.specs.Below.mut_borrow.declared.mutable.MutRef.{MutRef}
use Rattle.law_words_paths.specs.Below.mut_borrow.Refs.{changed}
use Rattle.law_words_paths.specs.Below.thread_state.declared.value.Value.TheVariants as value
use Rattle.law_words_paths.specs.Below.server_model.Places.{note_slot, note_write}
use Rattle.law_words_paths.specs.Below.coherent_memory.Things.{thread_things, things_of}
use Rattle.law_words_paths.specs.words.Reworded.{a_reference}
use Rattle.law_words_paths.specs.words.PutBack.{put_in, MarkRewords}
use Rattle.law_words_paths.proofs.words.Put.{Split, put_split}
use Rattle.law_words_paths.proofs.words.Tints.{slot_reworded}

abbrev marked : MutRef → MutRef
marked r = record r { dirty = true }

marked_changed : (r q : MutRef) → value.Mut (marked r) ≡ value.Mut q → changed q ≡ true
marked_changed r q e = let s : marked r ≡ q = cc in subst (λ m. changed m ≡ true) s refl

pub mark_rewords : MarkRewords
mark_rewords k n ts e h i r here at c d home =
    let slots : (note_write (Some i) h).thread.slots ≡ slice_set h.thread.slots i (value.Mut (marked r)) = ap (note_slot h.thread.slots i) at in
    let there : Split (things_of (put_in k n ts e h)) (things_of (put_in k n ts e (note_write (Some i) h))) (thread_things n false h.thread) (thread_things n false (record h.thread { slots = slice_set h.thread.slots i (value.Mut (marked r)) })) =
    subst (λ vs. Split (things_of (put_in k n ts e h)) (things_of (put_in k n ts e (note_write (Some i) h))) (thread_things n false h.thread) (thread_things n false (record h.thread { slots = vs }))) slots
    (put_split k n ts e h (note_write (Some i) h) here refl refl) in
    slot_reworded (put_in k n ts e h) (put_in k n ts e (note_write (Some i) h)) n i r.word h.thread (value.Mut r) (value.Mut (marked r)) at (a_reference r (marked r) refl refl refl refl refl refl) there refl c d r.object (λ q f. marked_changed r q f)
    home.server home.address home.lying home.leads
