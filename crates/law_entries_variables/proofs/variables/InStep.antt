-- A step of a thread at an instruction: from what it does at its server to its entry in the cluster.
use Rattle.std.proofs.Common.{◌≡◌, ℕ, true, Option, Some, None, refl, sym, subst, ◌∙◌}
use Rattle.std.specs.Prelude.{⊤, slice_get, option_map}
use Rattle.law_words_ends.specs.Below.fr_base.declared.instruction.Instr.{Instr}
use Rattle.law_words_ends.specs.Below.thread_state.View.{ThreadState}
use Rattle.law_words_ends.specs.Below.server_msgs.declared.message.Message.{Message}
use Rattle.law_words_ends.specs.Below.server_msgs.declared.message.Message.TheVariants as message
use Rattle.law_words_ends.specs.Below.journal.View.{EntryView}
use Rattle.law_words_ends.specs.Below.server_model.declared.event.What.{What}
use Rattle.law_words_ends.specs.Below.server_model.declared.event.What.TheVariants.{Step, Deliver, Evict, Migrate}
use Rattle.law_words_ends.specs.Below.server_model.Servers.{Server, Cluster, server_at}
use Rattle.law_words_ends.specs.Below.server_model.Work.{then_some, thread_in}
use Rattle.law_words_ends.specs.Below.server_model.Events.{can_step, has_phase, enabled, does, begin_work, Stepped, step, step_in, stepped}
use Rattle.law_words_ends.specs.Below.server_model.Clusters.{apply}
use Rattle.law_entries_variables.specs.Below.coloured_heap.Heap.{Coloured}
use Rattle.law_words_ends.specs.Below.coherent_memory.Colours.{StandsColoured}
use Rattle.law_words_ends.specs.Below.coherent_memory.Coherent.{IsSound}
use Rattle.law_words_ends.specs.Below.law_counts_sums.Kinds.{Kind, step_let, step_join, step_mutex, step_end, message_kind, instr_kind, kind_at}
use Rattle.law_words_ends.specs.Below.law_counts_sums.Laws.{Gives, FewEvents}
use Rattle.law_words_ends.proofs.Below.law_counts_sums.Results.{over_gives, both_give}
use Rattle.law_words_ends.proofs.Below.law_counts_sums.Bags.{thread_number}
use Rattle.law_entries_variables.specs.deliveries.Entries.{LeadsOn, EntryLegal, EntriesLegal}
use Rattle.law_entries_variables.proofs.deliveries.Applied.{applied_by}
use Rattle.law_entries_variables.proofs.variables.Led.{LedWith}

-- a thread is found by its own number
pub by_number : (s : Server) (t : ℕ) (y : ThreadState) → thread_in s.threads t ≡ Some y → thread_in s.threads y.number ≡ Some y
by_number s t y at = subst (λ j. thread_in s.threads j ≡ Some y) (sym (thread_number s.threads t y at)) at

-- the entry of a step, where that is known of the cluster afterwards
pub step_legal : (W : Cluster → Type 0) (k : Cluster) (number t : ℕ) (s : Server) (y : ThreadState) (i : Instr) → IsSound k → FewEvents k → server_at k.servers number ≡ Some s → thread_in s.threads t ≡ Some y → slice_get k.code y.pc ≡ Some i
    → Gives (λ (d : Cluster × EntryView). W d.0) (apply k (record { server = number; what = Step t }))
    → ((c0 : Coloured) → StandsColoured k c0 → can_step y.phase ≡ true → Gives (λ (d : Stepped). LedWith W k s c0 (stepped s d)) (step k.options.servers i (record { work = begin_work s.rest; thread = y })))
    → EntryLegal k (record { server = number; what = Step t })
step_legal W k number t s y i sound few here at code known go c0 is_coloured =
    both_give (λ (d : Cluster × EntryView). W d.0) (λ (d : Cluster × EntryView). W d.0 → LeadsOn k.options d.1 c0 d.0) (λ (d : Cluster × EntryView). LeadsOn k.options d.1 c0 d.0) (apply k (record { server = number; what = Step t })) known
    (applied_by (λ (d : Cluster × EntryView). W d.0 → LeadsOn k.options d.1 c0 d.0) k (record { server = number; what = Step t }) sound few (λ r e on.
    let same : r ≡ s = (let both : Some r ≡ Some s = sym e ∙ here in cc) in
    subst (λ (x : Server). Gives (LedWith W k x c0) (does k.code k.options x (Step t))) (sym same) (there (subst (λ (x : Server). enabled k.options x (Step t) ≡ true) same on))))
    (λ d w l. l w)
  where
    there : enabled k.options s (Step t) ≡ true → Gives (LedWith W k s c0) (does k.code k.options s (Step t))
    there on =
        let calm : can_step y.phase ≡ true = subst (λ x. has_phase can_step x ≡ true) at on in
        subst (λ x. Gives (LedWith W k s c0) (option_map (stepped s) (then_some (option_map (λ v. record { work = begin_work s.rest; thread = v }) x) (step_in k.code k.options.servers)))) (sym at)
        (subst (λ x. Gives (LedWith W k s c0) (option_map (stepped s) (then_some x (λ j. step k.options.servers j (record { work = begin_work s.rest; thread = y }))))) (sym code)
        (over_gives (λ (d : Stepped). LedWith W k s c0 (stepped s d)) (LedWith W k s c0) (step k.options.servers i (record { work = begin_work s.rest; thread = y })) (stepped s) (go c0 is_coloured calm) (λ d u. u)))

-- KINDS

-- steps of these kinds are legal whole, from a sound cluster
abbrev pub IsWhole : Kind → Type 0
IsWhole step_let = ⊤
IsWhole step_join = ⊤
IsWhole step_mutex = ⊤
IsWhole step_end = ⊤
IsWhole kind = ⊥

-- no delivery is one of them
no_message : (m : Message) → IsWhole (message_kind m) → ⊥
no_message (message.Fetch w o a t) p = p
no_message (message.Fetched w c t) p = p
no_message (message.Move w o a t) p = p
no_message (message.Moved w c t) p = p
no_message (message.Drop w o) p = p
no_message (message.Lock m a t) p = p
no_message (message.Granted m v t) p = p
no_message (message.Unlock m v) p = p
no_message (message.Dup m a t) p = p
no_message (message.Dupped m t) p = p
no_message (message.Release r) p = p
no_message (message.Start y) p = p
no_message (message.Migrate y) p = p
no_message (message.Join u a t) p = p
no_message (message.Joined u v t) p = p
no_message (message.Finished u v) p = p

kind_same : {a b : Kind} → Some a ≡ Some b → a ≡ b
kind_same e = cc

-- an event of such a kind is a step of a thread at an instruction of it
pub kind_legal : (kind : Kind) → IsWhole kind → ((k : Cluster) (number t : ℕ) (s : Server) (y : ThreadState) (i : Instr) → IsSound k → FewEvents k → server_at k.servers number ≡ Some s → thread_in s.threads t ≡ Some y → slice_get k.code y.pc ≡ Some i → instr_kind i ≡ kind
    → EntryLegal k (record { server = number; what = Step t })) → EntriesLegal kind
kind_legal kind p go k e q sound few = at_server (server_at k.servers e.server) refl q
  where
    at_instr : (t : ℕ) (s : Server) → server_at k.servers e.server ≡ Some s → (y : ThreadState) → thread_in s.threads t ≡ Some y → (o : Option Instr) → slice_get k.code y.pc ≡ o → option_map instr_kind o ≡ Some kind → EntryLegal k (record { server = e.server; what = Step t })
    at_instr t s here y at None c r = absurd (cc r)
    at_instr t s here y at (Some i) c r = go k e.server t s y i sound few here at c (kind_same r)

    at_thread : (t : ℕ) (s : Server) → server_at k.servers e.server ≡ Some s → (o : Option ThreadState) → thread_in s.threads t ≡ o → then_some o (λ x. option_map instr_kind (slice_get k.code x.pc)) ≡ Some kind → EntryLegal k (record { server = e.server; what = Step t })
    at_thread t s here None at r = absurd (cc r)
    at_thread t s here (Some y) at r = at_instr t s here y at (slice_get k.code y.pc) refl r

    of_message : {X : Type 0} (o : Option Message) → option_map message_kind o ≡ Some kind → X
    of_message None r = absurd (cc r)
    of_message (Some m) r = absurd (no_message m (subst IsWhole (sym (kind_same r)) p))

    at_what : (w : What) (s : Server) → server_at k.servers e.server ≡ Some s → kind_at k w s ≡ Some kind → EntryLegal k (record { server = e.server; what = w })
    at_what (Step t) s here r = at_thread t s here (thread_in s.threads t) refl r
    at_what (Deliver i) s here r = of_message (slice_get s.rest.inbox i) r
    at_what (Evict w) s here r = absurd (subst IsWhole (sym (kind_same r)) p)
    at_what (Migrate t target) s here r = absurd (subst IsWhole (sym (kind_same r)) p)

    at_server : (o : Option Server) → server_at k.servers e.server ≡ o → then_some o (kind_at k e.what) ≡ Some kind → EntryLegal k e
    at_server None here r = absurd (cc r)
    at_server (Some s) here r = at_what e.what s here r
