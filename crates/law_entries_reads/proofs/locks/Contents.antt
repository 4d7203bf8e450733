-- The content that a lock takes, as words see it: a place was followed, which they don't see, and what was the thread's gift stands in a new slot.
use Rattle.std.proofs.Common.{◌≡◌, ℕ, false, List, [], ◌∷◌, ◌++◌, map, Some, None, sym, ap, subst, ◌∙◌}
use Rattle.std.proofs.lemmas.List.{map-append}
use Rattle.law_entries_reads.specs.Below.law_words_borrows.Below.fr_base.declared.name.MutexNo.{MutexNo}
use Rattle.law_entries_reads.specs.Below.law_words_borrows.Below.fr_base.declared.place.Lval.{Lval}
use Rattle.law_entries_reads.specs.Below.law_words_borrows.Below.fr_base.declared.settings.Options.{Options}
use Rattle.law_entries_reads.specs.Below.law_words_borrows.Below.fr_base.declared.instruction.Instr.{Instr}
use Rattle.law_entries_reads.specs.Below.law_words_borrows.Below.heap_partition.declared.value.Owned.{Owned}
use Rattle.law_entries_reads.specs.Below.law_entries_variables.Below.migration.Packing.{unpinned}
use Rattle.law_entries_reads.specs.Below.law_words_borrows.Below.thread_state.View.{ThreadState}
use Rattle.law_entries_reads.specs.Below.law_words_borrows.Below.thread_state.declared.value.Value.{Value}
use Rattle.law_entries_reads.specs.Below.law_words_borrows.Below.thread_state.declared.value.Value.TheVariants as value
use Rattle.law_entries_reads.specs.Below.law_words_borrows.Below.server_model.Servers.{Server}
use Rattle.law_entries_reads.specs.Below.law_words_borrows.Below.server_model.Work.{Hand}
use Rattle.law_entries_reads.specs.Below.law_words_borrows.Below.server_model.Places.{Spot, in_slot, load_at}
use Rattle.law_entries_reads.specs.Below.law_words_borrows.Below.server_model.Commit.{take_gift, push_content}
use Rattle.law_entries_reads.specs.Below.law_words_borrows.Below.server_model.Events.{begin_work}
use Rattle.law_entries_reads.specs.Below.law_entries_variables.Below.coloured_heap.Heap.{Coloured}
use Rattle.law_entries_reads.specs.Below.law_words_borrows.Below.coherent_memory.Things.{thread_things}
use Rattle.law_entries_reads.proofs.Below.law_words_borrows.Below.law_words_kept.stays.Alike.{Alike}
use Rattle.law_entries_reads.proofs.Below.law_words_borrows.Below.law_words_kept.stays.Sites.{HandAlike}
use Rattle.law_entries_reads.proofs.Below.law_words_borrows.Below.law_words_kept.stays.Steps.{TakesNoneHere}
use Rattle.law_entries_reads.proofs.Below.law_words_values.carried.Hands.{each_together, moved_on}
use Rattle.law_entries_reads.proofs.Below.law_words_values.carried.Steps.{Does}
use Rattle.law_entries_reads.proofs.Below.law_words_values.carried.Locks.{content_taken}
use Rattle.law_entries_reads.proofs.places.Still.{Still}
use Rattle.law_entries_reads.proofs.places.Words.{thread_unpinned, walk_unseen, still_untaken}

-- the slots of a lock that has its content: above its mark
abbrev pub with_content : List Value → MutexNo → Owned → List Value
with_content vs m v = (vs ++ value.Held m ∷ []) ++ value.Own v ∷ []

-- they are the same but for pins where those below are
pub content_unpinned : (vs ws : List Value) (m : MutexNo) (v : Owned) → map unpinned vs ≡ map unpinned ws → map unpinned (with_content vs m v) ≡ map unpinned (with_content ws m v)
content_unpinned vs ws m v e = each vs ∙ ap (λ l. (l ++ value.Held m ∷ []) ++ value.Own v ∷ []) e ∙ sym (each ws)
  where
    each : (us : List Value) → map unpinned (with_content us m v) ≡ with_content (map unpinned us) m v
    each us = map-append unpinned (us ++ value.Held m ∷ []) (value.Own v ∷ []) ∙ ap (λ l. l ++ value.Own v ∷ []) (map-append unpinned us (value.Held m ∷ []))

-- that thread has taken the content
abbrev pub contented : ThreadState → MutexNo → Owned → ThreadState
contented y m v = record y { gift = None; slots = with_content y.slots m v }

module _ (code : List Instr) (o : Options) (c0 : Coloured) (s : Server) (y : ThreadState) (v : Owned) (given : y.gift ≡ Some v) (none : TakesNoneHere code y) (w : Lval) where
  abbrev n : ℕ
  n = s.rest.number

  abbrev h0 : Hand
  h0 = record { work = begin_work s.rest; thread = y }

  -- the content is taken once the place was followed, or before
  follows_unseen : (h : Hand) (p : Spot) (m : MutexNo) → Still o c0 s y h → HandAlike code n [] (push_content v (load_at (in_slot w.slot) (take_gift h0)) m) (push_content v (load_at p (take_gift h)) m)
  follows_unseen h p m q =
      let a = walk_unseen code o c0 s y h q in record {
        number = a.number;
        named = a.named;
        thread = subst (λ (z : ThreadState). Alike code (thread_things n false (contented y m v)) (thread_things n false (record z { gift = None; slots = with_content z.slots m v }))) (sym q.thread)
            (thread_unpinned code n (contented y m v) (with_content h.thread.slots m v) h.thread.walk (content_unpinned h.thread.slots y.slots m v q.slots));
        rest = a.rest;
      }

  -- so the value that moves is the content
  pub takes_content : (h : Hand) (p : Spot) (m : MutexNo) → Still o c0 s y h → Does code n h0 (push_content v (load_at p (take_gift h)) m)
  takes_content h p m q = record {
    moved = moved_on (content_taken code n h0 none m v given (in_slot w.slot)).moved (each_together (follows_unseen h p m q));
    untaken = still_untaken code o c0 s y h q none;
  }
