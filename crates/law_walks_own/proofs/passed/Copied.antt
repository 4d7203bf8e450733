-- No copy comes under a word under which there was none and none is asked for, nor under one that wasn't issued.
use Rattle.std.proofs.Common.{◌≡◌, ℕ, ◌+◌, ◌*◌, ◌≤◌, ◌==◌, Bool, true, false, List, [], ◌∷◌, Some, refl, sym, ap, ◌∙◌, arith}
use Rattle.std.proofs.lemmas.Bool.{eqb-true}
use Rattle.std.specs.Prelude.{slice_get}
use Rattle.law_copies_kept.specs.Below.fr_base.declared.name.ObjNo.{ObjNo}
use Rattle.law_copies_kept.specs.Below.heap_partition.declared.value.Cell.{Cell}
use Rattle.law_copies_kept.specs.Below.journal.View.{EntryView}
use Rattle.law_copies_kept.specs.Below.server_msgs.declared.message.Message.{Message}
use Rattle.law_copies_kept.specs.Below.server_msgs.declared.message.Message.TheVariants as message
use Rattle.law_copies_kept.specs.Below.server_model.declared.event.Event.{Event}
use Rattle.law_copies_kept.specs.Below.server_model.Servers.{Server, Cluster, server_at}
use Rattle.law_copies_kept.specs.Below.server_model.Clusters.{apply}
use Rattle.law_copies_kept.specs.Below.coherent_memory.Names.{tot, one, other}
use Rattle.law_copies_kept.specs.Below.coherent_memory.Things.{Thing, copied, sent, things_of}
use Rattle.law_copies_kept.specs.Below.coherent_memory.Placing.{words}
use Rattle.law_copies_kept.specs.Below.coherent_memory.Sight.{sight, issued}
use Rattle.law_copies_kept.specs.Below.coherent_memory.Weights.{copies}
use Rattle.law_copies_kept.specs.Below.coherent_memory.Coherent.{IsSound}
use Rattle.law_copies_kept.specs.Below.law_counts_sums.Laws.{Gives, FewEvents}
use Rattle.law_copies_kept.proofs.Below.law_counts_sums.MutexResults.{has}
use Rattle.law_copies_kept.proofs.Below.law_counts_sums.Results.{weaker}
use Rattle.law_walks_own.proofs.Below.law_counts_things.things.Messages.{on_sent}
use Rattle.law_walks_own.proofs.Below.law_counts_things.names.Sums.{copy_of}
use Rattle.law_copies_kept.proofs.copies.Comes.{copies_come}
use Rattle.law_copies_kept.proofs.references.Asked.{asking}
use Rattle.law_copies_kept.proofs.objects.Turned.{Unasked}
use Rattle.law_walks_own.specs.passed.Passed.{NewStayUncopied}

abbrev under : ℕ → ℕ → Cell → ℕ
under w v c = one (v == w)

abbrev nothing : ℕ → ℕ
nothing v = 0

sent_same : (w : ℕ) (n : ℕ) (m : Message) → copy_of (under w) nothing (sent n m) ≡ copies w (sent n m)
sent_same w n (message.Fetched v c t) = omega arith
sent_same w n (message.Fetch v o s t) = refl
sent_same w n m = refl

same : (w : ℕ) (x : Thing) → copy_of (under w) nothing x ≡ copies w x
same w (copied s c) = refl
same w (sent n m) = sent_same w n m
same w x = refl

all_same : (w : ℕ) (b : List Thing) → tot (copy_of (under w) nothing) b ≡ tot (copies w) b
all_same w [] = refl
all_same w (x ∷ b) = omega (arith, same w x, all_same w b)

-- where there is none, and none is asked for
pub none_comes : (k : Cluster) (e : Event) → IsSound k → FewEvents k → (w : ℕ) → tot (copies w) (things_of k) ≡ 0 → Unasked k w → Gives (λ (d : Cluster × EntryView). tot (copies w) (things_of d.0) ≡ 0) (apply k e)
none_comes k e sound few w none unasked =
    weaker (λ (d : Cluster × EntryView). tot (copy_of (under w) nothing) (things_of d.0) ≡ 0) (λ (d : Cluster × EntryView). tot (copies w) (things_of d.0) ≡ 0) (apply k e)
    (copies_come k e (under w) nothing sound few (all_same w (things_of k) ∙ none) served (λ s here t y i what at code follows p. refl)) (λ d z. sym (all_same w (things_of d.0)) ∙ z)
  where
    served : (number : ℕ) (s : Server) → server_at k.servers number ≡ Some s → (i v : ℕ) (o : ObjNo) (r t : ℕ) (c : Cell) → slice_get s.rest.inbox i ≡ Some (message.Fetch v o r t) → Rattle.law_copies_kept.specs.Below.server_model.Work.look_object s.rest.partition v o ≡ Some c → under w v c ≡ 0
    served number s here i v o r t c q l =
        let more = has k sound number s here i (message.Fetch v o r t) q (on_sent (asking (λ u. one (u == w)))) in
        omega (arith, more, unasked)

-- a word that wasn't issued
module _ (k : Cluster) (w : ℕ) (new : issued (sight k) w ≡ false) where
  abbrev strange : ℕ → ℕ
  strange v = other (issued (sight k) v)

  is_new : (v : ℕ) → one (v == w) ≤ strange v
  is_new v = by (v == w) refl
    where
      by : (b : Bool) → (v == w) ≡ b → one b ≤ strange v
      by false e = omega arith
      by true e = let none : strange v ≡ 1 = ap (λ u. other (issued (sight k) u)) (eqb-true v w e) ∙ ap other new in omega (arith, none)

  copy_less : (x : Thing) → copies w x + on_sent (asking (λ u. one (u == w))) x ≤ 2 * words strange x
  copy_less (copied s c) = omega (arith, is_new c.word)
  copy_less (sent n m) = by m
    where
      by : (m : Message) → copies w (sent n m) + asking (λ u. one (u == w)) n m ≤ 2 * words strange (sent n m)
      by (message.Fetched v c t) = omega (arith, is_new v)
      by (message.Fetch v o s t) = omega (arith, is_new v)
      by m = omega arith
  copy_less x = omega arith

  all_less : (b : List Thing) → tot (copies w) b + tot (on_sent (asking (λ u. one (u == w)))) b ≤ 2 * tot (words strange) b
  all_less [] = omega arith
  all_less (x ∷ b) = omega (arith, copy_less x, all_less b)

pub new_uncopied : NewStayUncopied
new_uncopied k e sound few w new =
    let less = all_less k w new (things_of k) in
    let all : tot (words (λ v. other (issued (sight k) v))) (things_of k) ≡ 0 = sound.words.are_issued in
    none_comes k e sound few w (omega (arith, less, all)) (omega (arith, less, all))
