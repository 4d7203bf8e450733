-- Copies are right where clean cells stay and no copy is asked for.
use Rattle.std.proofs.Common.{◌≡◌, inl, ℕ, true, List, [], ◌∷◌, Some, is_some, refl, sym, ap, subst, ◌∙◌, arith}
use Rattle.std.specs.Bool.{⊤}
use Rattle.std.specs.Prelude.{slice_get, option_map}
use Rattle.law_words_borrows.specs.Below.fr_base.declared.instruction.Instr.{Instr}
use Rattle.law_words_borrows.specs.Below.journal.View.{EntryView}
use Rattle.law_words_borrows.specs.Below.thread_state.View.{ThreadState}
use Rattle.law_words_borrows.specs.Below.server_msgs.declared.message.Message.{Message}
use Rattle.law_words_borrows.specs.Below.server_msgs.declared.message.Message.TheVariants as message
use Rattle.law_words_borrows.specs.Below.server_model.declared.event.Event.{Event}
use Rattle.law_words_borrows.specs.Below.server_model.declared.event.What.TheVariants.{Step}
use Rattle.law_words_borrows.specs.Below.server_model.Servers.{Server, Cluster, server_at}
use Rattle.law_words_borrows.specs.Below.server_model.Work.{Hand, thread_in, then_some}
use Rattle.law_words_borrows.specs.Below.server_model.Places.{Spot}
use Rattle.law_words_borrows.specs.Below.server_model.Prepare.{ready, access_of, prepare}
use Rattle.law_words_borrows.specs.Below.server_model.Events.{enabled, begin_work, Stepped, prepared, step, step_in, stepped}
use Rattle.law_words_borrows.specs.Below.server_model.Clusters.{apply}
use Rattle.law_words_borrows.specs.Below.coherent_memory.Names.{tot, other}
use Rattle.law_words_borrows.specs.Below.coherent_memory.Things.{Thing, sent, things_of}
use Rattle.law_words_borrows.specs.Below.coherent_memory.Sight.{sight}
use Rattle.law_words_borrows.specs.Below.coherent_memory.Placing.{clean_cell, unclean, unclean_request}
use Rattle.law_words_borrows.specs.Below.coherent_memory.Coherent.{IsSound, Holds, copies_agree}
use Rattle.law_copies_kept.specs.Below.law_words_paths.words.Reworded.{HasPlaces}
use Rattle.law_words_borrows.specs.Below.law_counts_sums.Laws.{Gives, FewEvents}
use Rattle.law_words_borrows.proofs.Below.law_counts_sums.Results.{over_gives, both_give, weaker}
use Rattle.law_words_borrows.proofs.Below.law_counts_sums.Sending.{applied_part}
use Rattle.law_copies_kept.proofs.Below.law_counts_things.things.Mail.{Mailed}
use Rattle.law_copies_kept.proofs.Below.law_counts_things.things.Messages.{on_sent, Light}
use Rattle.law_copies_kept.proofs.Below.law_words_kept.prepared.Asking.{found_number}
use Rattle.law_copies_kept.specs.copies.Copies.{CellsGoOn, CopiesAreRight}
use Rattle.law_copies_kept.proofs.copies.Clean.{CellsStay, Leaves, cells_stay}
use Rattle.law_copies_kept.proofs.copies.KeptCopies.{come_from_copies}
use Rattle.law_copies_kept.proofs.references.Asked.{asking, ready_asks, none_asked}

-- REQUESTS

-- a word without a clean cell
abbrev pub has_none : Cluster → ℕ → ℕ
has_none k v = other (is_some (clean_cell (sight k) v))

-- where clean cells are those of the first cluster, requests are for clean ones
asks_same : (k z : Cluster) → CellsStay k z → (x : Thing) → unclean (sight z) x ≡ on_sent (asking (has_none k)) x
asks_same k z s (sent n m) = by m
  where
    same : (v : ℕ) → other (is_some (clean_cell (sight z) v)) ≡ has_none k v
    same v = ap (λ c. other (is_some c)) (s v)

    by : (m : Message) → unclean_request (sight z) m ≡ asking (has_none k) n m
    by (message.Fetched v c t) = same v
    by (message.Fetch v o r t) = same v
    by m = refl
asks_same k z s x = refl

all_same : (k z : Cluster) → CellsStay k z → (b : List Thing) → tot (unclean (sight z)) b ≡ tot (on_sent (asking (has_none k))) b
all_same k z s [] = refl
all_same k z s (x ∷ b) = omega (arith, asks_same k z s x, all_same k z s b)

pub none_before : (k : Cluster) → IsSound k → tot (on_sent (asking (has_none k))) (things_of k) ≡ 0
none_before k sound =
    let clean : tot (unclean (sight k)) (things_of k) ≡ 0 = sound.copies.served_are_clean in
    omega (arith, clean, all_same k k (λ w. refl) (things_of k))

-- IN A CLUSTER

pub places_before : (k : Cluster) → IsSound k → HasPlaces k
places_before k sound = record { numbers_differ = sound.names.numbers_differ; home_of_each = sound.one_home.home_of_each; owner_of_each = sound.one_owner.owner_of_each }

pub places_after : (k : Cluster) (e : Event) → IsSound k → FewEvents k → Gives (λ (d : Cluster × EntryView). HasPlaces d.0) (apply k e)
places_after k e sound few = applied_part HasPlaces (λ c g. record { numbers_differ = g.numbers_differ; home_of_each = g.home_of_each; owner_of_each = g.owner_of_each }) k e sound few

-- copies are right where words, cells and changed references stay, and no copy is asked for
pub kept_where : (k : Cluster) (e : Event) → IsSound k → FewEvents k → Gives (λ (d : Cluster × EntryView). Leaves k d.0) (apply k e) → Gives (λ (d : Cluster × EntryView). tot (on_sent (asking (has_none k))) (things_of d.0) ≡ 0) (apply k e)
    → Gives (λ (d : Cluster × EntryView). CopiesAreRight d.0) (apply k e)
kept_where k e sound few leaves asked =
    both_give (λ (d : Cluster × EntryView). CellsStay k d.0) Both (λ (d : Cluster × EntryView). CopiesAreRight d.0) (apply k e)
    (both_give (λ (d : Cluster × EntryView). Leaves k d.0) (λ (d : Cluster × EntryView). HasPlaces d.0) (λ (d : Cluster × EntryView). CellsStay k d.0) (apply k e) leaves (places_after k e sound few)
    (λ d a places. cells_stay k d.0 sound (places_before k sound) places a.0 a.1))
    (both_give (λ (d : Cluster × EntryView). CellsGoOn k d.0 → Holds d.0 copies_agree) (λ (d : Cluster × EntryView). tot (on_sent (asking (has_none k))) (things_of d.0) ≡ 0) Both (apply k e) (come_from_copies k e sound few) asked (λ d a b. (a, b)))
    (λ d stay both. record { agree = both.0 (λ w. inl (stay w)); clean = all_same k d.0 stay (things_of d.0) ∙ both.1 })
  where
    Both : Cluster × EntryView → Type 0
    Both d = (CellsGoOn k d.0 → Holds d.0 copies_agree) × (tot (on_sent (asking (has_none k))) (things_of d.0) ≡ 0)

-- A STEP OF WHICH THE PLACE IS READY AT ONCE

abbrev pub start_of : Server → ThreadState → Hand
start_of s y = record { work = begin_work s.rest; thread = y }

module _ (k : Cluster) (number t : ℕ) (s : Server) (y : ThreadState) (i : Instr) (sound : IsSound k) (few : FewEvents k) (here : server_at k.servers number ≡ Some s) (at : thread_in s.threads t ≡ Some y) (code : slice_get k.code y.pc ≡ Some i) where
  -- what a step asks for, by its hand
  pub step_asks : (f : ℕ → ℕ) → tot (on_sent (asking f)) (things_of k) ≡ 0 → (enabled k.options s (Step t) ≡ true → (mail : Mailed (Light (asking f)) s.rest.number s.rest.outbox s.rest) → Gives (λ (d : Stepped). Mailed (Light (asking f)) s.rest.number s.rest.outbox d.hand.work.rest) (step k.options.servers i (start_of s y)))
      → Gives (λ (d : Cluster × EntryView). tot (on_sent (asking f)) (things_of d.0) ≡ 0) (apply k (record { server = number; what = Step t }))
  step_asks f none go =
      subst (λ n. server_at k.servers n ≡ Some s → Gives (λ (d : Cluster × EntryView). tot (on_sent (asking f)) (things_of d.0) ≡ 0) (apply k (record { server = n; what = Step t }))) (found_number number k.servers s here)
      (λ h.
      weaker (λ (d : Cluster × EntryView). ⊤ → tot (on_sent (asking f)) (things_of d.0) ≡ 0) (λ (d : Cluster × EntryView). tot (on_sent (asking f)) (things_of d.0) ≡ 0) (apply k (record { server = s.rest.number; what = Step t }))
      (none_asked f (λ v. ⊤) k s t sound few h none (λ on mail.
      subst (λ o. Gives Said (option_map (stepped s) (then_some (option_map (λ v. record { work = begin_work s.rest; thread = v }) o) (step_in k.code k.options.servers)))) (sym at)
      (subst (λ o. Gives Said (option_map (stepped s) (then_some o (λ j. step k.options.servers j (start_of s y))))) (sym code)
      (over_gives (λ (d : Stepped). Mailed (Light (asking f)) s.rest.number s.rest.outbox d.hand.work.rest) Said (step k.options.servers i (start_of s y)) (stepped s) (go on mail) (λ d a q. a))))) (λ d a. a tt)) here
    where
      Said : Server × EntryView → Type 0
      Said r = ⊤ → Mailed (Light (asking f)) s.rest.number s.rest.outbox r.0.rest

  -- so copies are right after one that leaves words, cells and changed references
  pub ready_kept : (sp : Spot) → prepare (access_of i y) (start_of s y) ≡ ready (start_of s y) sp → Gives (λ (d : Cluster × EntryView). Leaves k d.0) (apply k (record { server = number; what = Step t }))
      → Gives (λ (d : Cluster × EntryView). CopiesAreRight d.0) (apply k (record { server = number; what = Step t }))
  ready_kept sp at_once leaves =
      kept_where k (record { server = number; what = Step t }) sound few leaves
      (step_asks (has_none k) (none_before k sound) (λ on mail.
      subst (λ p. Gives (λ (d : Stepped). Mailed (Light (asking (has_none k))) s.rest.number s.rest.outbox d.hand.work.rest) (prepared k.options.servers i p)) (sym at_once) (ready_asks (has_none k) k.options.servers s.rest.number s.rest.outbox i sp (start_of s y) mail)))
