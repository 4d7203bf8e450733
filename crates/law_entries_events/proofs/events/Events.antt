-- Each event, by what it does.
use Rattle.std.proofs.Common.{◌≡◌, ℕ, Option, Some, None, option_map, refl, sym, ap, subst, ◌∙◌}
use Rattle.std.specs.Prelude.{slice_get}
use Rattle.law_entries_events.specs.Below.law_words_borrows.Below.fr_base.declared.instruction.Instr.{Instr}
use Rattle.law_entries_events.specs.Below.law_words_borrows.Below.thread_state.View.{ThreadState}
use Rattle.law_entries_events.specs.Below.law_words_borrows.Below.journal.View.{EntryView}
use Rattle.law_entries_events.specs.Below.law_words_borrows.Below.server_msgs.declared.message.Message.{Message}
use Rattle.law_entries_events.specs.Below.law_words_borrows.Below.server_msgs.declared.message.Message.TheVariants as message
use Rattle.law_entries_events.specs.Below.law_words_borrows.Below.server_model.declared.event.Event.{Event}
use Rattle.law_entries_events.specs.Below.law_words_borrows.Below.server_model.declared.event.What.{What}
use Rattle.law_entries_events.specs.Below.law_words_borrows.Below.server_model.declared.event.What.TheVariants.{Step, Deliver, Evict, Migrate}
use Rattle.law_entries_events.specs.Below.law_words_borrows.Below.server_model.Servers.{Server, Cluster, server_at}
use Rattle.law_entries_events.specs.Below.law_words_borrows.Below.server_model.Work.{then_some, thread_in}
use Rattle.law_entries_events.specs.Below.law_words_borrows.Below.server_model.Events.{enabled, begin_work, left_by, received, deliver_message, step, step_in, stepped, does}
use Rattle.law_entries_events.specs.Below.law_words_borrows.Below.server_model.Clusters.{done_at, apply}
use Rattle.law_entries_events.specs.Below.law_words_borrows.Below.coherent_types.ClusterTypes.{IsCoherent}
use Rattle.law_entries_events.specs.Below.law_words_borrows.Below.law_counts_sums.Kinds.{Kind, fetch, fetched, moving, moved, drop, asks_lock, granted, unlocked, asks_dup, dupped, released, starts, asks_join, joined, finished, arrives, evicts, migrates, message_kind, kind_at, kind_of}
use Rattle.law_entries_events.specs.Below.law_words_borrows.Below.law_counts_sums.Laws.{Gives, FewEvents}
use Rattle.law_entries_events.proofs.Below.law_words_borrows.Below.law_counts_sums.Results.{then_gives, over_gives, test_gives, weaker}
use Rattle.law_entries_events.specs.Below.law_entries_variables.deliveries.Entries.{LeadsOn, EntryLegal, EntriesLegal}
use Rattle.law_entries_events.proofs.Below.law_entries_variables.deliveries.LegalKinds.{kind_legal}
use Rattle.law_entries_events.specs.Below.law_entries_reads.served.Served.{CoherentEntriesLegal}
use Rattle.law_entries_events.proofs.Below.law_entries_reads.served.ServedKinds.{fetches_legal, copies_come_legal, moves_legal}
use Rattle.law_entries_events.proofs.objects.Goes.{drops_legal}
use Rattle.law_entries_events.specs.Below.law_runs_whole.runs.Runs as runs
use Rattle.law_entries_events.specs.Below.law_runs_whole.programs.Programs.{EntriesLead}
use Rattle.law_entries_events.proofs.events.Steps.{instr_legal}

server_is : {a b : Server} → Some a ≡ Some b → a ≡ b
server_is h = cc

module _ (comes : CoherentEntriesLegal moved) (k : Cluster) (number : ℕ) (co : IsCoherent k) (few : FewEvents k) where
  abbrev Of : What → Event
  Of w = record { server = number; what = w }

  module _ (s : Server) (here : server_at k.servers number ≡ Some s) where
    -- an event that does nothing has a legal entry
    none_done : (w : What) → Gives (λ (r : Server × EntryView). ⊥) (does k.code k.options s w) → EntryLegal k (Of w)
    none_done w none c0 is_coloured =
        then_gives (λ (d : Cluster × EntryView). LeadsOn k.options d.1 c0 d.0) (server_at k.servers number) _ (λ u at.
        over_gives (λ (r : Server × EntryView). ⊥) (λ (d : Cluster × EntryView). LeadsOn k.options d.1 c0 d.0) (done_at k w u) _
        (test_gives (λ (r : Server × EntryView). ⊥) (enabled k.options u w) (does k.code k.options u w) (λ able. subst (λ v. Gives (λ (r : Server × EntryView). ⊥) (does k.code k.options v w)) (server_is (sym here ∙ at)) none)) (λ r g. absurd g))

    kind_is : (w : What) (kind : Kind) → kind_at k w s ≡ Some kind → kind_of k (Of w) ≡ Some kind
    kind_is w kind is = ap (λ o. then_some o (kind_at k w)) here ∙ is

    -- from a sound cluster, or from a coherent one
    plainly : (kind : Kind) → EntriesLegal kind → (w : What) → kind_at k w s ≡ Some kind → EntryLegal k (Of w)
    plainly kind legal w is = legal k (Of w) (kind_is w kind is) co.sound few

    coherently : (kind : Kind) → CoherentEntriesLegal kind → (w : What) → kind_at k w s ≡ Some kind → EntryLegal k (Of w)
    coherently kind legal w is = legal k (Of w) (kind_is w kind is) co few

    -- A STEP

    at_instr : (t : ℕ) (y : ThreadState) → thread_in s.threads t ≡ Some y → (o : Option Instr) → slice_get k.code y.pc ≡ o → EntryLegal k (Of (Step t))
    at_instr t y at None code =
        none_done (Step t)
        (subst (λ x. Gives (λ (r : Server × EntryView). ⊥) (option_map (stepped s) (then_some (option_map (λ v. record { work = begin_work s.rest; thread = v }) x) (step_in k.code k.options.servers)))) (sym at)
        (subst (λ x. Gives (λ (r : Server × EntryView). ⊥) (option_map (stepped s) (then_some x (λ j. step k.options.servers j (record { work = begin_work s.rest; thread = y }))))) (sym code) tt))
    at_instr t y at (Some i) code = instr_legal k number t s y co few here at i code

    at_thread : (t : ℕ) (o : Option ThreadState) → thread_in s.threads t ≡ o → EntryLegal k (Of (Step t))
    at_thread t None at =
        none_done (Step t) (subst (λ x. Gives (λ (r : Server × EntryView). ⊥) (option_map (stepped s) (then_some (option_map (λ v. record { work = begin_work s.rest; thread = v }) x) (step_in k.code k.options.servers)))) (sym at) tt)
    at_thread t (Some y) at = at_instr t y at (slice_get k.code y.pc) refl

    -- A DELIVERY

    of_message : (i : ℕ) (m : Message) → slice_get s.rest.inbox i ≡ Some m → EntryLegal k (Of (Deliver i))
    of_message i (message.Fetch w o a t) f = coherently fetch fetches_legal (Deliver i) (ap (option_map message_kind) f)
    of_message i (message.Fetched w c t) f = coherently fetched copies_come_legal (Deliver i) (ap (option_map message_kind) f)
    of_message i (message.Move w o a t) f = coherently moving moves_legal (Deliver i) (ap (option_map message_kind) f)
    of_message i (message.Moved w c t) f = coherently moved comes (Deliver i) (ap (option_map message_kind) f)
    of_message i (message.Drop w o) f = coherently drop drops_legal (Deliver i) (ap (option_map message_kind) f)
    of_message i (message.Lock m a t) f = plainly asks_lock (kind_legal asks_lock tt tt tt) (Deliver i) (ap (option_map message_kind) f)
    of_message i (message.Granted m v t) f = plainly granted (kind_legal granted tt tt tt) (Deliver i) (ap (option_map message_kind) f)
    of_message i (message.Unlock m v) f = plainly unlocked (kind_legal unlocked tt tt tt) (Deliver i) (ap (option_map message_kind) f)
    of_message i (message.Dup m a t) f = plainly asks_dup (kind_legal asks_dup tt tt tt) (Deliver i) (ap (option_map message_kind) f)
    of_message i (message.Dupped m t) f = plainly dupped (kind_legal dupped tt tt tt) (Deliver i) (ap (option_map message_kind) f)
    of_message i (message.Release r) f = plainly released (kind_legal released tt tt tt) (Deliver i) (ap (option_map message_kind) f)
    of_message i (message.Start p) f = plainly starts (kind_legal starts tt tt tt) (Deliver i) (ap (option_map message_kind) f)
    of_message i (message.Join u a t) f = plainly asks_join (kind_legal asks_join tt tt tt) (Deliver i) (ap (option_map message_kind) f)
    of_message i (message.Joined u v t) f = plainly joined (kind_legal joined tt tt tt) (Deliver i) (ap (option_map message_kind) f)
    of_message i (message.Finished u v) f = plainly finished (kind_legal finished tt tt tt) (Deliver i) (ap (option_map message_kind) f)
    of_message i (message.Migrate p) f = plainly arrives (kind_legal arrives tt tt tt) (Deliver i) (ap (option_map message_kind) f)

    of_delivery : (i : ℕ) (o : Option Message) → slice_get s.rest.inbox i ≡ o → EntryLegal k (Of (Deliver i))
    of_delivery i None f =
        none_done (Deliver i) (subst (λ o. Gives (λ (r : Server × EntryView). ⊥) (option_map (left_by s.events None None) (then_some o (λ m. deliver_message k.code m (received i s))))) (sym f) tt)
    of_delivery i (Some m) f = of_message i m f

    -- WHATEVER IT DOES

    of_what : (w : What) → EntryLegal k (Of w)
    of_what (Step t) = at_thread t (thread_in s.threads t) refl
    of_what (Deliver i) = of_delivery i (slice_get s.rest.inbox i) refl
    of_what (Evict v) = plainly evicts (kind_legal evicts tt tt tt) (Evict v) refl
    of_what (Migrate t target) = plainly migrates (kind_legal migrates tt tt tt) (Migrate t target) refl

  all_legal : (w : What) → EntryLegal k (Of w)
  all_legal w = by (server_at k.servers number) refl
    where
      by : (o : Option Server) → server_at k.servers number ≡ o → EntryLegal k (Of w)
      by None none = λ c0 is_coloured. then_gives (λ (d : Cluster × EntryView). LeadsOn k.options d.1 c0 d.0) (server_at k.servers number) _ (λ u at. let no : None ≡ Some u = sym none ∙ at in absurd (cc no))
      by (Some s) here = of_what s here w

-- so each entry leads on
pub each_leads : CoherentEntriesLegal moved → EntriesLead
each_leads comes k e co few c0 is_coloured =
    weaker (λ (d : Cluster × EntryView). LeadsOn k.options d.1 c0 d.0) (runs.LeadsOn k.options c0) (apply k e) (all_legal comes k e.server co few e.what c0 is_coloured) (λ d l. record { state = l.state; legal = l.legal; stands = l.stands; reached = l.reached })
