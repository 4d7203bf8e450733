-- An event of a coherent cluster has a legal entry, where its server leads on and words and gifts are kept.
use Rattle.std.proofs.Common.{◌≡◌, ℕ, true, Option, Some, None, is_some, option_map, refl, sym, ap, subst, ◌∙◌}
use Rattle.std.specs.Prelude.{⊤, slice_get}
use Rattle.law_entries_variables.specs.Below.fr_base.declared.name.MutexNo.{MutexNo}
use Rattle.law_entries_variables.specs.Below.fr_base.declared.instruction.Instr.{Instr}
use Rattle.law_entries_variables.specs.Below.fr_base.declared.instruction.Instr.TheVariants as instr
use Rattle.law_entries_variables.specs.Below.thread_state.View.{ThreadState}
use Rattle.law_entries_variables.specs.Below.server_msgs.declared.message.Message.{Message}
use Rattle.law_entries_variables.specs.Below.server_msgs.declared.message.Message.TheVariants as message
use Rattle.law_entries_variables.specs.Below.journal.View.{EntryView}
use Rattle.law_entries_variables.specs.Below.server_model.declared.event.Event.{Event}
use Rattle.law_entries_variables.specs.Below.server_model.declared.event.What.{What}
use Rattle.law_entries_variables.specs.Below.server_model.declared.event.What.TheVariants.{Step, Deliver, Evict, Migrate}
use Rattle.law_entries_variables.specs.Below.server_model.Servers.{Server, Cluster, server_at}
use Rattle.law_entries_variables.specs.Below.server_model.Work.{thread_in, then_some}
use Rattle.law_entries_variables.specs.Below.server_model.Events.{does}
use Rattle.law_entries_variables.specs.Below.server_model.Clusters.{apply}
use Rattle.law_entries_variables.specs.Below.coloured_heap.Heap.{Coloured}
use Rattle.law_entries_variables.specs.Below.coherent_memory.Names.{one, if_so}
use Rattle.law_entries_variables.specs.Below.coherent_memory.Things.{server_things, things_of}
use Rattle.law_entries_variables.specs.Below.coherent_memory.Follow.{Standing, locate}
use Rattle.law_entries_variables.specs.Below.coherent_memory.Sight.{sight}
use Rattle.law_entries_variables.specs.Below.coherent_memory.Requests.{locked_mutex, is_mutex}
use Rattle.law_entries_variables.specs.Below.coherent_memory.Sharing.{gift_content}
use Rattle.law_entries_variables.specs.Below.coherent_memory.Colours.{StandsColoured}
use Rattle.law_entries_variables.specs.Below.coherent_memory.Coherent.{IsSound}
use Rattle.law_copies_kept.specs.Below.coherent_types.ClusterTypes.{IsCoherent}
use Rattle.law_entries_variables.specs.Below.law_counts_sums.Kinds.{Kind, moving, message_kind, instr_kind, kind_at, kind_of}
use Rattle.law_entries_variables.specs.Below.law_counts_sums.Laws.{Gives, FewEvents}
use Rattle.law_entries_variables.proofs.Below.law_counts_sums.Results.{both_give, weaker}
use Rattle.law_entries_variables.specs.Below.law_heap_still.events.Shows.{Counts}
use Rattle.law_entries_variables.proofs.Below.law_heap_still.events.Alike.{mutex_same, all_seen}
use Rattle.law_entries_variables.proofs.Below.law_heap_still.events.Counting.{no_stray}
use Rattle.law_entries_variables.proofs.Below.law_heap_still.events.Once.{shown_once}
use Rattle.law_entries_variables.proofs.Below.law_heap_still.events.Sites.{AlikeBy, leads_by}
use Rattle.law_entries_variables.proofs.Below.law_heap_still.events.StillKinds.{IsStill, server_still}
use Rattle.law_entries_variables.specs.Below.law_words_paths.words.Unmoved.{LeavesWords}
use Rattle.law_copies_kept.proofs.Below.law_words_values.carried.Leaving.{moves_leave}
use Rattle.law_entries_variables.specs.deliveries.Entries.{LeadsOn}
use Rattle.law_entries_variables.proofs.deliveries.After.{Keeps}
use Rattle.law_entries_variables.proofs.deliveries.Applied.{Led, Afterwards, applied_by}
use Rattle.law_entries_reads.specs.served.Served.{CoherentEntriesLegal}

-- GIFTS

abbrev GiftsKept : Cluster → Cluster → Type 0
GiftsKept k c = (m : MutexNo) (x : Standing) → gift_content (sight c) m x ≡ gift_content (sight k) m x

gifts_kept : (k c : Cluster) → IsSound k → c.code ≡ k.code → AlikeBy (Counts (sight k)) (things_of k) (things_of c) → GiftsKept k c
gifts_kept k c sound code alike m x =
    ap (λ cs. if_so (is_some x.thread.gift) (one (is_mutex m (locked_mutex (sight c) x (slice_get cs x.thread.pc))))) code ∙ ap (λ o. if_so (is_some x.thread.gift) (one (is_mutex m o))) (by (slice_get k.code x.thread.pc))
  where
    by : (i : Option Instr) → locked_mutex (sight c) x i ≡ locked_mutex (sight k) x i
    by (Some (instr.Lock w)) =
        sym (mutex_same k c (things_of k) (things_of c) code (shown_once k sound) (λ o. true) (λ o e. absurd (cc e)) (λ t y v h i n l. all_seen (locate (sight k).ground y.thread.number v.slot n)) (λ v z n. alike v z n.0) (no_stray k (shown_once k sound).threads) (no_stray c)
        x.thread.number w (λ n l. all_seen (locate (sight k).ground x.thread.number w.slot n)))
    by _ = refl

-- an event that leaves words and shows the same keeps words and gifts
keeps_with : (kind : Kind) → IsStill kind → (k : Cluster) (e : Event) → kind_of k e ≡ Some kind → IsSound k → FewEvents k → Gives (λ (d : Cluster × EntryView). LeavesWords k d.0) (apply k e) → Gives (λ (d : Cluster × EntryView). Keeps k d.0) (apply k e)
keeps_with kind still k e q sound few words =
    both_give (λ (d : Cluster × EntryView). LeavesWords k d.0) (λ (d : Cluster × EntryView). ⊤ → GiftsKept k d.0) (λ (d : Cluster × EntryView). Keeps k d.0) (apply k e) words
    (leads_by (λ r. ⊤) (Counts (sight k)) (GiftsKept k) k e sound few (λ c code alike. gifts_kept k c sound code alike) (λ s h on. weaker (Still s) (λ r. ⊤ → Still s r) (does k.code k.options s e.what)
    (server_still k sound e.server s h kind still e.what (subst (λ o. then_some o (kind_at k e.what) ≡ Some kind) h q)) (λ r u sort. u)))
    (λ d words gifts. record { words = words.words; gifts = gifts tt })
  where
    Still : Server → Server × EntryView → Type 0
    Still s r = AlikeBy (Counts (sight k)) (server_things s) (server_things r.0)

-- WORDS AND GIFTS ARE KEPT

abbrev pub KindKeeps : Kind → Type 0
KindKeeps kind = (k : Cluster) (e : Event) → kind_of k e ≡ Some kind → IsCoherent k → FewEvents k → Gives (λ (d : Cluster × EntryView). Keeps k d.0) (apply k e)

pub coherent_legal : (kind : Kind) → KindKeeps kind → ((k : Cluster) (number : ℕ) (s : Server) (w : What) (c0 : Coloured) → IsCoherent k → FewEvents k → server_at k.servers number ≡ Some s → kind_at k w s ≡ Some kind → StandsColoured k c0 → Gives (Led k s c0) (does k.code k.options s w)) → CoherentEntriesLegal kind
coherent_legal kind kept go k e q coherent few c0 stands =
    both_give (λ (d : Cluster × EntryView). Keeps k d.0) (λ (d : Cluster × EntryView). Keeps k d.0 → LeadsOn k.options d.1 c0 d.0) (λ (d : Cluster × EntryView). LeadsOn k.options d.1 c0 d.0) (apply k e) (kept k e q coherent few)
    (applied_by (λ (d : Cluster × EntryView). Keeps k d.0 → LeadsOn k.options d.1 c0 d.0) k e coherent.sound few (λ s here on.
    weaker (Led k s c0) (λ (r : Server × EntryView). (c : Cluster) → Afterwards k s r.0 c → Keeps k c → LeadsOn k.options r.1 c0 c) (does k.code k.options s e.what) (go k e.server s e.what c0 coherent few here (subst (λ o. then_some o (kind_at k e.what) ≡ Some kind) here q) stands) (λ r l. l)))
    (λ d keeps l. l keeps)

-- A `move`

abbrev IsMoving : Kind → Type 0
IsMoving moving = ⊤
IsMoving kind = ⊥

some_same : {a b : Kind} → Some a ≡ Some b → b ≡ a
some_same e = cc

moving_as : (a : Kind) → Some a ≡ Some moving → IsMoving a
moving_as a q = subst IsMoving (some_same q) tt

no_step : (i : Instr) → IsMoving (instr_kind i) → ⊥
no_step (instr.Let o) p = p
no_step (instr.Assign w o) p = p
no_step (instr.Read w t) p = p
no_step (instr.Borrow w) p = p
no_step (instr.BorrowMut w) p = p
no_step (instr.Box o) p = p
no_step (instr.Arith f a b) p = p
no_step (instr.Print o) p = p
no_step instr.Discard p = p
no_step instr.DropSlot p = p
no_step (instr.Spawn cs pc) p = p
no_step (instr.Join o) p = p
no_step (instr.Mutex o) p = p
no_step (instr.Dup w) p = p
no_step (instr.Lock w) p = p
no_step instr.Unlock p = p
no_step (instr.Par cs pc ds other) p = p
no_step instr.ParEnd p = p
no_step (instr.End o) p = p

abbrev LeavesThem : Cluster → Event → Type 0
LeavesThem k e = Gives (λ (d : Cluster × EntryView). LeavesWords k d.0) (apply k e)

pub moves_keep : KindKeeps moving
moves_keep k e q coherent few = keeps_with moving tt k e q coherent.sound few (by_server (server_at k.servers e.server) refl (by_what e.what refl))
  where
    of_message : (s : Server) (i : ℕ) (m : Message) → server_at k.servers e.server ≡ Some s → e.what ≡ Deliver i → slice_get s.rest.inbox i ≡ Some m → IsMoving (message_kind m) → LeavesThem k e
    of_message s i (message.Move w o a t) here what at p = moves_leave k e w o a t (record { place = i; what = what; server = s; there = here; message = at }) coherent.sound few
    of_message s i (message.Fetch w o a t) here what at p = absurd p
    of_message s i (message.Fetched w c t) here what at p = absurd p
    of_message s i (message.Moved w c t) here what at p = absurd p
    of_message s i (message.Drop w o) here what at p = absurd p
    of_message s i (message.Start t) here what at p = absurd p
    of_message s i (message.Migrate t) here what at p = absurd p
    of_message s i (message.Granted m v t) here what at p = absurd p
    of_message s i (message.Dupped m t) here what at p = absurd p
    of_message s i (message.Joined u v t) here what at p = absurd p
    of_message s i (message.Lock m a t) here what at p = absurd p
    of_message s i (message.Dup m a t) here what at p = absurd p
    of_message s i (message.Join u a t) here what at p = absurd p
    of_message s i (message.Unlock m v) here what at p = absurd p
    of_message s i (message.Release x) here what at p = absurd p
    of_message s i (message.Finished u v) here what at p = absurd p

    of_delivery : (s : Server) (i : ℕ) (o : Option Message) → server_at k.servers e.server ≡ Some s → e.what ≡ Deliver i → slice_get s.rest.inbox i ≡ o → option_map message_kind o ≡ Some moving → LeavesThem k e
    of_delivery s i None here what at r = absurd (cc r)
    of_delivery s i (Some m) here what at r = of_message s i m here what at (moving_as (message_kind m) r)

    of_instr : (o : Option Instr) → option_map instr_kind o ≡ Some moving → LeavesThem k e
    of_instr None r = absurd (cc r)
    of_instr (Some i) r = absurd (no_step i (moving_as (instr_kind i) r))

    of_thread : (o : Option ThreadState) → then_some o (λ x. option_map instr_kind (slice_get k.code x.pc)) ≡ Some moving → LeavesThem k e
    of_thread None r = absurd (cc r)
    of_thread (Some x) r = of_instr (slice_get k.code x.pc) r

    by_what : (w : What) → e.what ≡ w → (s : Server) → server_at k.servers e.server ≡ Some s → kind_at k w s ≡ Some moving → LeavesThem k e
    by_what (Step t) is s here r = of_thread (thread_in s.threads t) r
    by_what (Deliver i) is s here r = of_delivery s i (slice_get s.rest.inbox i) here is refl r
    by_what (Evict w) is s here r = absurd (cc r)
    by_what (Migrate t target) is s here r = absurd (cc r)

    by_server : (o : Option Server) → server_at k.servers e.server ≡ o → ((s : Server) → server_at k.servers e.server ≡ Some s → kind_at k e.what s ≡ Some moving → LeavesThem k e) → LeavesThem k e
    by_server None here go = let none : then_some None (kind_at k e.what) ≡ Some moving = subst (λ o. then_some o (kind_at k e.what) ≡ Some moving) here q in absurd (cc none)
    by_server (Some s) here go = go s here (subst (λ o. then_some o (kind_at k e.what) ≡ Some moving) here q)
