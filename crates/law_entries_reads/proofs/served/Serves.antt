-- A copy is served: its wish goes, and it is on its way with the object's present value.
use Rattle.std.proofs.Common.{◌≡◌, ℕ, ◌+◌, ◌==◌, true, false, List, [], ◌∷◌, Some, None, refl, sym, ap, subst, ◌∙◌, arith}
use Rattle.std.specs.Prelude.{slice_get}
use Rattle.law_entries_variables.specs.Below.fr_base.declared.name.ObjNo.{ObjNo}
use Rattle.law_entries_variables.specs.Below.heap_partition.Plain.{plain_of}
use Rattle.law_entries_variables.specs.Below.heap_partition.declared.value.Cell.{Cell}
use Rattle.law_entries_variables.specs.Below.server_msgs.declared.message.Message.TheVariants as message
use Rattle.law_entries_variables.specs.Below.journal.declared.act.Act.TheVariants as act
use Rattle.law_entries_variables.specs.Below.server_model.Servers.{Server, Cluster, server_at}
use Rattle.law_entries_variables.specs.Below.server_model.Work.{Work, Site, note, send, look_object}
use Rattle.law_entries_variables.specs.Below.server_model.Events.{received, deliver_message}
use Rattle.law_entries_variables.specs.Below.server_model.Objects.{deliver_fetch}
use Rattle.law_entries_variables.specs.Below.coloured_heap.Heap.{Lies, Living, Copied, Wish, ForCopy, Coloured, same_wish}
use Rattle.law_entries_variables.specs.Below.coherent_memory.Names.{tot, one, some}
use Rattle.law_entries_variables.specs.Below.coherent_memory.Things.{Thing, sent, message_things, things_of}
use Rattle.law_entries_variables.specs.Below.coherent_memory.Sight.{is_word, sight, word}
use Rattle.law_entries_variables.specs.Below.coherent_memory.Weights.{lies_under}
use Rattle.law_entries_variables.specs.Below.coherent_memory.Placing.{sum_over}
use Rattle.law_entries_variables.specs.Below.coherent_memory.Requests.{not_under, not_there}
use Rattle.law_entries_variables.specs.Below.coherent_memory.Words.{HasWords}
use Rattle.law_entries_variables.specs.Below.coherent_memory.Colours.{StandsColoured, same_copied, served_of}
use Rattle.law_entries_variables.specs.Below.coherent_memory.Coherent.{IsSound}
use Rattle.law_entries_variables.proofs.Below.coherent_memory.Names.{and_left}
use Rattle.law_entries_variables.proofs.Below.coherent_memory.Words.{named as object_named}
use Rattle.law_copies_kept.specs.Below.coherent_types.ClusterTypes.{IsCoherent}
use Rattle.law_entries_variables.specs.Below.law_counts_sums.Laws.{Gives}
use Rattle.law_entries_variables.proofs.Below.law_counts_sums.Askers.{other_none}
use Rattle.law_entries_variables.proofs.Below.law_counts_sums.Results.{over_gives, map_gives}
use Rattle.law_entries_variables.proofs.Below.law_heap_still.events.Tests.{numbers}
use Rattle.law_copies_kept.proofs.Below.law_counts_things.things.Messages.{on_sent}
use Rattle.law_copies_kept.proofs.copies.Clean.{told as word_of}
use Rattle.law_copies_kept.proofs.references.Asked.{asking}
use Rattle.law_entries_variables.proofs.deliveries.Answers.{answers_of, fits}
use Rattle.law_entries_variables.proofs.deliveries.Weighed.{beside, sends}
use Rattle.law_entries_variables.proofs.deliveries.Shown.{dropped_by, wished_in}
use Rattle.law_entries_variables.proofs.deliveries.After.{Follows, living_still, copy_still, served_after, issued_still}
use Rattle.law_entries_variables.proofs.deliveries.Runs.{silent, runs_one, leads_on}
use Rattle.law_entries_variables.proofs.deliveries.Applied.{Legal, server_there}
use Rattle.law_entries_variables.proofs.deliveries.Changed.{turns_none, notes, message_there}
use Rattle.law_entries_variables.proofs.deliveries.Partly.{wish_answered, wished_once}
use Rattle.law_entries_reads.proofs.served.Acts.{serving, copied_so, serve_allowed}
use Rattle.law_entries_reads.proofs.served.Kept.{own_cell, asked_kept}
use Rattle.law_entries_reads.proofs.served.Beside.{ObjectsOnly, objects_agree}
use Rattle.law_entries_reads.proofs.served.Lying.{word_told, has_cell, living, its_object}

module _ (k : Cluster) (coherent : IsCoherent k) (number : ℕ) (s : Server) (here : server_at k.servers number ≡ Some s) (c0 : Coloured) (is_coloured : StandsColoured k c0) (i w : ℕ) (o : ObjNo) (a t : ℕ) (at : slice_get s.rest.inbox i ≡ Some (message.Fetch w o a t)) where
  abbrev sound : IsSound k
  sound = coherent.sound

  abbrev n : ℕ
  n = s.rest.number

  abbrev x : Site
  x = received i s

  abbrev wish : Wish
  wish = ForCopy o w a

  named : is_word (word (sight k) o) w ≡ true
  named =
      let z : tot (not_there (sight k)) (things_of k) ≡ 0 = sound.requests.objects_there in
      let mine : not_under (sight k) w o ≡ 0 = omega (arith, z, message_there k number s here i (message.Fetch w o a t) at (not_there (sight k))) in
      and_left (is_word (word (sight k) o) w) (some (sum_over (sight k) (lies_under w o))) (other_none _ mine)

  module _ (c : Cell) (q : look_object s.rest.partition w o ≡ Some c) where
    abbrev olds : List Thing
    olds = sent n (message.Fetch w o a t) ∷ []

    abbrev news : List Thing
    news = sent a (message.Fetched w c t) ∷ []

    abbrev living_one : Living
    living_one = record { object = o; place = Lies n; word = w; value = plain_of c.value; is_condemned = false }

    kept : tot (dropped_by o) (things_of k) ≡ 0
    kept =
        let own = own_cell k o (has_cell k sound number s here w o c q) in
        let words : HasWords (sight k) = sound.words.have_words in
        let its : word (sight k) o ≡ Some (words.word o) = subst (λ p. word (sight k) p ≡ Some (words.word p)) own.object (word_of k words own.cell own.among) in
        let same : w == words.word o ≡ true = ap (λ y. is_word y (words.word o)) (sym (word_told (word (sight k) o) w named) ∙ its) ∙ numbers.itself (words.word o) in
        let one_is : one (w == words.word o) ≡ 1 = ap one same in
        asked_kept k coherent o own (omega (arith, one_is, message_there k number s here i (message.Fetch w o a t) at (on_sent (asking (λ u. one (u == words.word o))))))

    only : ObjectsOnly k olds news
    only = record {
      started = λ r j. refl;
      made = λ r j. refl;
      threads = λ u. refl;
      running = λ u g. refl;
      there = λ m. refl;
      holders = λ m g. refl;
    }

    less : (b : Wish) → tot (wished_in b) olds ≡ tot (wished_in b) news + one (same_wish b wish)
    less b = omega arith

    abbrev new_copy : Copied
    new_copy = copied_so a w o (plain_of c.value)

    on_way : (d : Cluster) → Follows k d olds news → (b : Copied) → served_of (sight k) b + one (same_copied b new_copy) ≡ served_of (sight d) b
    on_way d f b =
        let same : one (same_copied b (copied_so a w c.object (plain_of c.value))) ≡ one (same_copied b new_copy) = ap (λ p. one (same_copied b (copied_so a w p (plain_of c.value)))) (object_named c.object o (its_object k sound number s here w o c q)) in
        omega (arith, served_after k d olds news sound f b, same)

    serves : Legal k s None (message_things n (message.Fetch w o a t)) x c0 (record x { work = send a (message.Fetched w c t) (note (act.Serve o w a) x.work) })
    serves = record {
      olds = [];
      news = news;
      acts = act.Serve o w a ∷ [];
      turns = beside x [] news (act.Serve o w a ∷ []) (send a (message.Fetched w c t) (note (act.Serve o w a) x.work))
          (sends x.work [] [] (act.Serve o w a ∷ []) (note (act.Serve o w a) x.work) a (message.Fetched w c t) (notes x.work [] [] [] x.work (act.Serve o w a) (turns_none x.work)));
      leads = λ d f keeps.
          let q0 = answers_of (sight k) in
          let h = fits (sight k) c0 is_coloured in
          let e = silent n None (act.Serve o w a ∷ []) in
          let q1 = serving wish new_copy q0 in
          leads_on k.options n None (act.Serve o w a ∷ []) c0 q0 q1 d h (server_there k sound number s here).0 tt
          (runs_one k.options e (act.Serve o w a) c0 q1
          (serve_allowed k.options e c0 q0 o w a living_one h (living k sound number s here w o c q named kept) (numbers.itself w) refl (numbers.itself n) (wished_once k d olds news sound f wish less)))
          (objects_agree k d olds news sound f keeps only q1.object q1.copy q1.served q1.wishes (λ p. living_still k d olds news sound f keeps p (λ g. refl) refl) (λ r v. copy_still k d olds news sound f r v (λ g. refl)) (on_way d f)
          (λ v. issued_still k d olds news sound f keeps (λ g r j. refl) v) (wish_answered k d olds news sound f wish less));
    }

  pub fetch_legal : Gives (Legal k s None (message_things n (message.Fetch w o a t)) x c0) (deliver_message k.code (message.Fetch w o a t) x)
  fetch_legal =
      over_gives P (Legal k s None (message_things n (message.Fetch w o a t)) x c0) (deliver_fetch w o a t x.work) (λ y. record x { work = y })
      (map_gives P (look_object s.rest.partition w o) (λ c. send a (message.Fetched w c t) (note (act.Serve o w a) x.work)) (λ c q. serves c q)) (λ y l. l)
    where
      P : Work → Type 0
      P y = Legal k s None (message_things n (message.Fetch w o a t)) x c0 (record x { work = y })
