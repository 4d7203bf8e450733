-- In each event that is a step of the thread, not done.
use Rattle.std.proofs.Common.{◌≡◌, ◌≤◌, ℕ, ◌+◌, Option, Some, None}
use Rattle.law_length_asks.specs.Below.law_walks_others.Below.fr_base.declared.place.Lval.{Lval}
use Rattle.law_length_asks.specs.Below.law_walks_others.Below.journal.View.{EntryView}
use Rattle.law_length_asks.specs.Below.law_walks_others.Below.server_model.declared.event.Event.{Event}
use Rattle.law_length_asks.specs.Below.law_walks_others.Below.server_model.declared.event.What.TheVariants.{Step}
use Rattle.law_length_asks.specs.Below.law_walks_others.Below.server_model.Servers.{Cluster}
use Rattle.law_length_asks.specs.Below.law_walks_others.Below.server_model.Clusters.{apply}
use Rattle.law_length_asks.specs.Below.law_walks_others.Below.coherent_memory.Follow.{Standing}
use Rattle.law_length_asks.specs.Below.law_walks_others.Below.coherent_memory.Coherent.{Sentence, Holds, passed_in_a_walk, gifts_got}
use Rattle.law_length_asks.specs.Below.law_walks_others.Below.coherent_types.ClusterTypes.{IsCoherent}
use Rattle.law_length_asks.specs.Below.law_walks_others.Below.law_words_paths.paths.HeapStore.{GoesOn}
use Rattle.law_walks_own.specs.Below.law_words_paths.words.Reworded.{HasPlaces}
use Rattle.law_length_asks.specs.Below.law_walks_others.Below.law_counts_sums.Laws.{Gives, FewEvents}
use Rattle.law_length_asks.proofs.Below.law_walks_others.Below.law_counts_sums.Results.{both_give, weaker}
use Rattle.law_length_asks.proofs.Below.law_walks_others.Below.law_counts_sums.Sending.{applied_part}
use Rattle.law_walks_own.proofs.Below.law_counts_things.things.Sentences.{passed_kept}
use Rattle.law_walks_own.proofs.Below.law_copies_kept.Below.law_words_borrows.Below.law_counts_asking.GiftsGot.{gifts_got_kept}
use Rattle.law_length_asks.specs.Below.law_walks_others.Below.law_counts_waiting.waits.Places.{LeadsAsItDid}
use Rattle.law_length_asks.proofs.Below.law_walks_others.Below.law_counts_waiting.waits.Stay.{undone_leave}
use Rattle.law_length_asks.proofs.Below.law_walks_others.pointers.Followed.{same_settings}
use Rattle.law_length_asks.proofs.Below.law_walks_own.steps.Own.{OwnIn, own_step}
use Rattle.law_length_asks.proofs.Below.law_walks_own.steps.OwnSteps.{Facts}
use Rattle.law_length_asks.specs.left.Left.{left}
use Rattle.law_length_asks.specs.left.Steps.{AsksTakeOne}
use Rattle.law_length_asks.proofs.left.OwnAsks.{own_takes}

all_give : {B X : Type 0} (P : B → X → Type 0) (o : Option X) → ((a : B) → Gives (P a) o) → Gives (λ x. (a : B) → P a x) o
all_give P None g = tt
all_give P (Some x) g = λ a. g a

-- a place of a thread that goes on
record Placed (k : Cluster) : Type 0 where
  standing_it : Standing
  place : Lval
  on : GoesOn k standing_it

module _ (k : Cluster) (e : Event) (t : ℕ) (is : e.what ≡ Step t) (coherent : IsCoherent k) (few : FewEvents k) where
  abbrev D : Type 0
  D = Cluster × EntryView

  with_it : (P Q : D → Type 0) → Gives P (apply k e) → Gives Q (apply k e) → Gives (λ d. P d × Q d) (apply k e)
  with_it P Q p q = both_give P Q (λ d. P d × Q d) (apply k e) p q (λ d a b. (a, b))

  abbrev Settings : D → Type 0
  Settings d = (d.0.code ≡ k.code) × (d.0.options ≡ k.options)

  abbrev Leads : D → Type 0
  Leads d = (a : Placed k) → d.1.done ≡ None → LeadsAsItDid k d.0 a.standing_it.thread.number a.place

  abbrev Is : Sentence → D → Type 0
  Is n d = Holds d.0 n

  abbrev Places : D → Type 0
  Places d = HasPlaces d.0

  facts : Gives (λ (d : D). Facts k d.0 d.1 t) (apply k e)
  facts =
      weaker (λ d. (OwnIn k e coherent few d × Places d) × ((Settings d × Leads d) × (Is passed_in_a_walk d × Is gifts_got d))) (λ (d : D). Facts k d.0 d.1 t) (apply k e)
      (with_it (λ d. OwnIn k e coherent few d × Places d) (λ d. (Settings d × Leads d) × (Is passed_in_a_walk d × Is gifts_got d))
      (with_it (OwnIn k e coherent few) Places (own_step k e coherent few) (applied_part HasPlaces (λ c g. record { numbers_differ = g.numbers_differ; home_of_each = g.home_of_each; owner_of_each = g.owner_of_each }) k e coherent.sound few))
      (with_it (λ d. Settings d × Leads d) (λ d. Is passed_in_a_walk d × Is gifts_got d)
      (with_it Settings Leads (same_settings k e) (all_give (λ (a : Placed k) (d : D). d.1.done ≡ None → LeadsAsItDid k d.0 a.standing_it.thread.number a.place) (apply k e) (λ a. undone_leave k e coherent few a.standing_it a.place a.on)))
      (with_it (Is passed_in_a_walk) (Is gifts_got) (passed_kept k e coherent.sound few) (gifts_got_kept k e coherent few))))
      (λ d u. record { own = u.0.0 t is; places = u.0.1; code = u.1.0.0.0; options = u.1.0.0.1; walks = u.1.1.0; gifts = u.1.1.1; leads = λ done y w g. u.1.0.1 (record { standing_it = y; place = w; on = g }) done })

pub own_steps : AsksTakeOne
own_steps k e t is coherent few = weaker (λ (d : Cluster × EntryView). Facts k d.0 d.1 t) (λ (d : Cluster × EntryView). IsCoherent d.0 → d.1.done ≡ None → left d.0 t + 1 ≤ left k t) (apply k e) (facts k e t is coherent few) (λ d f after none. own_takes k d.0 d.1 t f none)
