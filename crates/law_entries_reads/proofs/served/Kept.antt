-- An object of which a copy was asked for isn't given up: no `drop` message names it, as no place leads to such an object.
use Rattle.std.proofs.Common.{◌≡◌, ℕ, zero, suc, ◌≤◌, ◌==◌, Some, refl, subst, arith}
use Rattle.law_entries_variables.specs.Below.fr_base.declared.name.ObjNo.{ObjNo}
use Rattle.law_entries_variables.specs.Below.heap_partition.declared.value.Cell.{Cell}
use Rattle.law_entries_variables.specs.Below.server_msgs.declared.message.Message.{Message}
use Rattle.law_entries_variables.specs.Below.server_msgs.declared.message.Message.TheVariants as message
use Rattle.law_entries_variables.specs.Below.server_model.Servers.{Cluster}
use Rattle.law_entries_variables.specs.Below.coherent_memory.Names.{tot, one, same_object, Among}
use Rattle.law_entries_variables.specs.Below.coherent_memory.Things.{in_cell, Thing, lies, flies, sent, things_of}
use Rattle.law_entries_variables.specs.Below.coherent_memory.Follow.{cells_in, value_in, leads}
use Rattle.law_entries_variables.specs.Below.coherent_memory.Sight.{sight}
use Rattle.law_entries_variables.specs.Below.coherent_memory.Weights.{cells, drops}
use Rattle.law_entries_variables.specs.Below.coherent_memory.Words.{HasWords}
use Rattle.law_entries_variables.proofs.Below.coherent_memory.Words.{named}
use Rattle.law_copies_kept.specs.Below.coherent_types.ClusterTypes.{IsCoherent}
use Rattle.law_copies_kept.specs.Below.law_words_paths.paths.HeapStore.{HasPaths}
use Rattle.law_copies_kept.proofs.Below.law_words_paths.paths.Alike.{coherent_has_paths}
use Rattle.law_entries_variables.proofs.Below.law_words_kept.reads.Flights.{truly}
use Rattle.law_entries_variables.proofs.Below.law_words_paths.words.Standing.{lying, flying}
use Rattle.law_copies_kept.proofs.Below.law_results_reads.Flights.{weighs}
use Rattle.law_copies_kept.proofs.Below.law_counts_things.things.Messages.{on_sent}
use Rattle.law_copies_kept.proofs.copies.Clean.{thing_cell}
use Rattle.law_copies_kept.proofs.references.Asked.{asking}
use Rattle.law_copies_kept.proofs.Below.law_words_values.freed.Lists.{NoneLeads}
use Rattle.law_copies_kept.proofs.Below.law_words_values.freed.Unled.{none_leads}
use Rattle.law_copies_kept.proofs.objects.Turned.{Unasked}
use Rattle.law_copies_kept.proofs.objects.Askers.{ReadsUnder, unasked_by, reads_to}
use Rattle.law_entries_variables.proofs.deliveries.Shown.{dropped_by}

-- a live object's cell
pub record OwnCell (k : Cluster) (o : ObjNo) : Type 0 where
  pub cell : Cell
  pub among : Among cell (cells_in (things_of k))
  pub object : cell.object ≡ o

pub own_cell : (k : Cluster) (o : ObjNo) → 1 ≤ tot (cells o) (things_of k) → OwnCell k o
own_cell k o l = let f = weighs (cells o) (things_of k) l in by f.0 f.1 f.2
  where
    by : (y : Thing) → Among y (things_of k) → 1 ≤ cells o y → OwnCell k o
    by (lies r a c) h m = record { cell = c; among = thing_cell (things_of k) c (lies r a c) (lying r a) h; object = named c.object o (truly (same_object c.object o) m) }
    by (flies w c) h m = record { cell = c; among = thing_cell (things_of k) c (flies w c) (flying w) h; object = named c.object o (truly (same_object c.object o) m) }
    by _ h m = absurd (omega (arith, m))

module _ (k : Cluster) (coherent : IsCoherent k) where
  -- an object that some place leads to isn't given up
  pub led_kept : (o : ObjNo) → (NoneLeads k o → ⊥) → tot (dropped_by o) (things_of k) ≡ 0
  led_kept o led = by (tot (dropped_by o) (things_of k)) refl
    where
      message_is : (r : ℕ) (m : Message) → Among (sent r m) (things_of k) → 1 ≤ drops o m → ⊥
      message_is r (message.Drop w p) h l = led (none_leads k coherent o r w (subst (λ q. Among (sent r (message.Drop w q)) (things_of k)) (named p o (truly (same_object p o) l)) h))
      message_is r _ h l = omega (arith, l)

      is : (y : Thing) → Among y (things_of k) → 1 ≤ dropped_by o y → ⊥
      is (sent r m) h l = message_is r m h l
      is _ h l = omega (arith, l)

      by : (n : ℕ) → tot (dropped_by o) (things_of k) ≡ n → n ≡ 0
      by zero e = refl
      by (suc n) e = let f = weighs (dropped_by o) (things_of k) (omega (arith, e)) in absurd (is f.0 f.1 f.2)

  -- nor one of which a copy was asked for
  pub asked_kept : (o : ObjNo) (c : OwnCell k o) → 1 ≤ tot (on_sent (asking (λ u. one (u == coherent.sound.words.have_words.word o)))) (things_of k) → tot (dropped_by o) (things_of k) ≡ 0
  asked_kept o c l = led_kept o led
    where
      paths : HasPaths k
      paths = coherent_has_paths k coherent

      words : HasWords (sight k)
      words = coherent.sound.words.have_words

      led : NoneLeads k o → ⊥
      led none =
          let u : Unasked k (words.word c.cell.object) = unasked_by k paths coherent.sound c.cell c.among (λ (r : ReadsUnder k paths coherent.sound (words.word c.cell.object) c.cell.object).
          none r.thread.thread.number r.location (subst (λ p. leads r.thread.thread.number (value_in (sight k).ground r.location) ≡ Some (in_cell p)) c.object (reads_to k paths coherent.sound (words.word c.cell.object) c.cell.object r))) in
          let same : Unasked k (words.word o) = subst (λ p. Unasked k (words.word p)) c.object u in
          omega (arith, l, same)
