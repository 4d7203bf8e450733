-- A delivery asks for no copy: each that is asked for afterwards was asked for before.
use Rattle.std.proofs.Common.{◌≡◌, ℕ, List, [], ◌∷◌, refl, sym, ◌∙◌, arith}
use Rattle.law_copies_kept.specs.Below.journal.View.{EntryView}
use Rattle.law_copies_kept.specs.Below.heap_partition.declared.value.Cell.{Cell}
use Rattle.law_copies_kept.specs.Below.server_msgs.declared.message.Message.{Message}
use Rattle.law_copies_kept.specs.Below.server_msgs.declared.message.Message.TheVariants as message
use Rattle.law_copies_kept.specs.Below.server_model.declared.event.Event.{Event}
use Rattle.law_copies_kept.specs.Below.server_model.declared.event.What.TheVariants.{Step, Deliver}
use Rattle.law_copies_kept.specs.Below.server_model.Servers.{Cluster}
use Rattle.law_copies_kept.specs.Below.server_model.Clusters.{apply}
use Rattle.law_copies_kept.specs.Below.coherent_memory.Names.{tot}
use Rattle.law_copies_kept.specs.Below.coherent_memory.Things.{Thing, sent, things_of}
use Rattle.law_copies_kept.specs.Below.coherent_memory.Coherent.{IsSound}
use Rattle.law_copies_kept.specs.Below.law_counts_sums.Laws.{Gives, FewEvents}
use Rattle.law_copies_kept.proofs.Below.law_counts_sums.Results.{weaker}
use Rattle.law_words_borrows.proofs.Below.law_counts_things.things.Messages.{on_sent}
use Rattle.law_words_borrows.proofs.Below.law_counts_things.names.Sums.{copy_of}
use Rattle.law_copies_kept.proofs.copies.Comes.{copies_come}
use Rattle.law_copies_kept.proofs.references.Asked.{asking}

abbrev no_copy : ℕ → Cell → ℕ
no_copy v c = 0

-- a copy weighs nothing here, and a request what its word weighs
sent_weighs : (g : ℕ → ℕ) (n : ℕ) (m : Message) → on_sent (asking g) (sent n m) ≡ copy_of no_copy g (sent n m)
sent_weighs g n (message.Fetch v o r t) = refl
sent_weighs g n (message.Fetched v c t) = omega arith
sent_weighs g n m = refl

weighs_so : (g : ℕ → ℕ) (x : Thing) → on_sent (asking g) x ≡ copy_of no_copy g x
weighs_so g (sent n m) = sent_weighs g n m
weighs_so g x = refl

all_weigh : (g : ℕ → ℕ) (b : List Thing) → tot (on_sent (asking g)) b ≡ tot (copy_of no_copy g) b
all_weigh g [] = refl
all_weigh g (x ∷ b) = omega (arith, weighs_so g x, all_weigh g b)

-- no word comes that is asked for
pub delivery_asks : (g : ℕ → ℕ) (k : Cluster) (e : Event) (i : ℕ) → e.what ≡ Deliver i → IsSound k → FewEvents k → tot (on_sent (asking g)) (things_of k) ≡ 0
    → Gives (λ (d : Cluster × EntryView). tot (on_sent (asking g)) (things_of d.0) ≡ 0) (apply k e)
delivery_asks g k e i is sound few none =
    weaker (λ (d : Cluster × EntryView). tot (copy_of no_copy g) (things_of d.0) ≡ 0) (λ (d : Cluster × EntryView). tot (on_sent (asking g)) (things_of d.0) ≡ 0) (apply k e)
    (copies_come k e no_copy g sound few (omega (arith, none, all_weigh g (things_of k))) (λ n s h j v o r t c q f. refl) (λ s here t y j q there at f p. absurd (no_step q)))
    (λ d a. omega (arith, a, all_weigh g (things_of d.0)))
  where
    no_step : {t : ℕ} → e.what ≡ Step t → ⊥
    no_step {t = t} q = let no : Deliver i ≡ Step t = sym is ∙ q in absurd cc
