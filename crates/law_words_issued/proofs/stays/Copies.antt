-- No word of a copy is new, and none in what a copy holds, cached or on its way: after each event.
use Rattle.std.proofs.Common.{◌≡◌, ◌≤◌, ℕ, ◌+◌, refl, arith}
use Rattle.law_words_issued.specs.Below.global_addr.Words.{address_of}
use Rattle.law_words_issued.specs.Below.heap_partition.declared.value.Cell.{Cell}
use Rattle.law_words_issued.specs.Below.journal.View.{EntryView}
use Rattle.law_words_issued.specs.Below.server_msgs.declared.message.Message.{Message}
use Rattle.law_words_issued.specs.Below.server_msgs.declared.message.Message.TheVariants as message
use Rattle.law_words_issued.specs.Below.server_model.declared.event.Event.{Event}
use Rattle.law_words_issued.specs.Below.server_model.Servers.{Cluster}
use Rattle.law_words_issued.specs.Below.server_model.Clusters.{apply}
use Rattle.law_words_issued.specs.Below.coherent_memory.Names.{tot}
use Rattle.law_words_issued.specs.Below.coherent_memory.Things.{Thing, copied, sent, things_of}
use Rattle.law_words_issued.specs.Below.coherent_memory.Placing.{owned_word, message_word, words}
use Rattle.law_words_issued.specs.Below.coherent_memory.Coherent.{IsSound}
use Rattle.law_words_issued.specs.Below.law_counts_sums.Laws.{Gives, FewEvents}
use Rattle.law_words_issued.proofs.Below.coherent_memory.Sums.{server_parts}
use Rattle.law_words_issued.proofs.Below.law_counts_sums.Boxes.{tot_le}
use Rattle.law_words_issued.proofs.Below.law_counts_sums.Cells.{looked, frees}
use Rattle.law_words_issued.proofs.Below.law_counts_sums.Events.{tot-server}
use Rattle.law_words_issued.proofs.Below.law_counts_sums.MutexResults.{has}
use Rattle.law_words_issued.proofs.Below.law_counts_sums.ObjectMessages.{looked_object}
use Rattle.law_words_issued.proofs.Below.law_heap_still.events.Addresses.{lies_alone, in_place}
use Rattle.law_words_issued.proofs.Below.law_heap_still.events.Leaving.{others, placed_here}
use Rattle.law_words_issued.proofs.Below.law_counts_sums.Results.{weaker}
use Rattle.law_walks_own.proofs.Below.law_counts_things.names.Sums.{copy_of}
use Rattle.law_walks_own.proofs.Below.law_copies_kept.copies.Comes.{ServedWeighNothing, copies_come}
use Rattle.law_words_issued.specs.old.Old.{unissued}
use Rattle.law_words_issued.specs.stays.Issued.{copied_words, CopiesHaveOldWords}

-- the words of a copy, that of its object and the one that it holds
abbrev in_copy : (ℕ → ℕ) → ℕ → Cell → ℕ
in_copy f v c = f v + owned_word f c.value

abbrev in_copies : (ℕ → ℕ) → Thing → ℕ
in_copies f = copy_of (in_copy f) (λ v. 0)

in_message : (f : ℕ → ℕ) (n : ℕ) (m : Message) → in_copies f (sent n m) ≤ message_word f m
in_message f n (message.Fetched v c t) = omega arith
in_message f n m = omega arith

copies_less : (f : ℕ → ℕ) (x : Thing) → in_copies f x ≤ words f x
copies_less f (copied s c) = omega arith
copies_less f (sent n m) = in_message f n m
copies_less f x = omega arith

-- where every word that stands weighs nothing, those of copies do after an event
module _ (k : Cluster) (e : Event) (f : ℕ → ℕ) (sound : IsSound k) (few : FewEvents k) (none : tot (words f) (things_of k) ≡ 0) where
  served : ServedWeighNothing k (in_copy f)
  served n s here i v o r t c q there =
      let asked = has k sound n s here i (message.Fetch v o r t) q (words f) in
      let p = s.rest.partition in
      let m = s.rest.number in
      let at = looked p v c (looked_object p v o c there).0 in
      let placed = in_place m s.events s.rest (others k sound n s here) (placed_here k sound n s here) in
      let t = frees m p v c at (lies_alone m p placed (address_of v) c at) in
      omega (arith, none, asked, t.before (words f), server_parts (words f) s, (tot-server (words f) k.servers n s s here).0)

  copies_known : Gives (λ (d : Cluster × EntryView). tot (in_copies f) (things_of d.0) ≡ 0) (apply k e)
  copies_known = copies_come k e (in_copy f) (λ v. 0) sound few (omega (arith, none, tot_le (in_copies f) (words f) (copies_less f) (things_of k))) served (λ s here t y i q there at g p. refl)

-- the same weight
sent_so : (f : ℕ → ℕ) (n : ℕ) (m : Message) → copied_words f (sent n m) ≤ in_copies f (sent n m)
sent_so f n (message.Fetched v c t) = omega arith
sent_so f n m = omega arith

copies_so : (f : ℕ → ℕ) (x : Thing) → copied_words f x ≤ in_copies f x
copies_so f (copied s c) = omega arith
copies_so f (sent n m) = sent_so f n m
copies_so f x = omega arith

pub copies_have_old_words : CopiesHaveOldWords
copies_have_old_words k e sound few =
    let f = unissued k in
    weaker (λ (d : Cluster × EntryView). tot (in_copies f) (things_of d.0) ≡ 0) (λ (d : Cluster × EntryView). tot (copied_words f) (things_of d.0) ≡ 0) (apply k e) (copies_known k e f sound few sound.words.are_issued)
    (λ d z. omega (arith, z, tot_le (copied_words f) (in_copies f) (copies_so f) (things_of d.0)))
