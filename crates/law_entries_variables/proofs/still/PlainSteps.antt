-- Steps that note no act: prints, arithmetic, and ends of pairs.
use Rattle.std.proofs.Common.{◌≡◌, ℕ, ℤ, true, false, List, [], ◌∷◌, ◌++◌, Option, Some, None, refl, ap, subst, ◌∙◌, ◌&&◌}
use Rattle.std.specs.Prelude.{⊤, slice_get, option_map}
use Rattle.law_entries_variables.specs.Below.fr_base.declared.label.Label.{Label}
use Rattle.law_entries_variables.specs.Below.fr_base.declared.label.Label.TheVariants as label
use Rattle.law_entries_variables.specs.Below.fr_base.declared.place.Op.{Op}
use Rattle.law_entries_variables.specs.Below.fr_base.declared.instruction.Operand.{Operand}
use Rattle.law_entries_variables.specs.Below.fr_base.declared.instruction.Operand.TheVariants as operand
use Rattle.law_entries_variables.specs.Below.fr_base.declared.instruction.Instr.{Instr}
use Rattle.law_entries_variables.specs.Below.fr_base.declared.instruction.Instr.TheVariants as instr
use Rattle.law_entries_variables.specs.Below.thread_state.View.{ThreadState, is_over}
use Rattle.law_entries_variables.specs.Below.thread_state.declared.phase.Phase.{Phase}
use Rattle.law_entries_variables.specs.Below.thread_state.declared.phase.Phase.TheVariants as phase
use Rattle.law_entries_variables.specs.Below.thread_state.declared.value.Value.{Value}
use Rattle.law_entries_variables.specs.Below.server_msgs.declared.message.Message.{Message}
use Rattle.law_entries_variables.specs.Below.server_msgs.declared.message.Message.TheVariants as message
use Rattle.law_entries_variables.specs.Below.journal.View.{EntryView}
use Rattle.law_entries_variables.specs.Below.server_model.declared.event.What.{What}
use Rattle.law_entries_variables.specs.Below.server_model.declared.event.What.TheVariants.{Step, Deliver, Evict, Migrate}
use Rattle.law_entries_variables.specs.Below.server_model.Servers.{Server, Cluster, server_at}
use Rattle.law_entries_variables.specs.Below.server_model.Work.{Hand, Popped, last_of, front_of, with_temps, int_of, taken_as, then_some, pop_int, thread_in}
use Rattle.law_entries_variables.specs.Below.server_model.Commit.{arith, print, par_end}
use Rattle.law_entries_variables.specs.Below.server_model.Events.{can_step, has_phase, enabled, does, begin_work, step, step_in, stepped}
use Rattle.law_entries_variables.specs.Below.server_model.Clusters.{apply}
use Rattle.law_entries_variables.specs.Below.coloured_heap.Heap.{Coloured, object_at}
use Rattle.law_entries_variables.specs.Below.coloured_heap.Lists.{holds}
use Rattle.law_entries_variables.specs.Below.coloured_heap.Rules.{is_here}
use Rattle.law_entries_variables.specs.Below.coloured_heap.Reach.{is_loaded, reaches}
use Rattle.law_entries_variables.specs.Below.coloured_heap.Changes.{stored, with_value}
use Rattle.law_entries_variables.specs.Below.coherent_memory.Colours.{StandsColoured}
use Rattle.law_entries_variables.specs.Below.coherent_memory.Coherent.{IsSound}
use Rattle.law_entries_variables.specs.Below.law_counts_sums.Kinds.{Kind, step_print, step_arith, step_par_end, message_kind, instr_kind, kind_at}
use Rattle.law_entries_variables.specs.Below.law_counts_sums.Laws.{Gives}
use Rattle.law_entries_variables.proofs.Below.law_counts_sums.Results.{map_gives, over_gives, bind_gives, both_give}
use Rattle.law_entries_variables.proofs.Below.law_counts_sums.QuietSteps.{GiftFits}
use Rattle.law_entries_variables.proofs.Below.law_counts_sums.GiftsTaken.{gift_fits}
use Rattle.law_entries_variables.proofs.Below.law_words_kept.stays.StayKinds.{Stays, kind_stays}
use Rattle.law_entries_variables.specs.Below.law_words_paths.words.Unmoved.{LeavesWords}
use Rattle.law_entries_variables.specs.deliveries.Entries.{LeadsOn, EntriesLegal}
use Rattle.law_entries_variables.proofs.deliveries.Applied.{applied_by}
use Rattle.law_entries_variables.proofs.still.Settled.{Keeping, Settles, goes_over, StepLed, settled_led}

-- a print stores nothing
print_stores : (ls : List Label) (i : ℤ) (c : Coloured) → stored (ls ++ label.Print i ∷ []) c ≡ stored ls c
print_stores [] i c = refl
print_stores (label.Store p v ∷ ls) i c = print_stores ls i (with_value c p v)
print_stores (_ ∷ ls) i c = print_stores ls i c

-- nor does it load anything
print_reaches : (e : EntryView) (ls : List Label) (i : ℤ) (c : Coloured) → reaches e (ls ++ label.Print i ∷ []) c ≡ reaches e ls c
print_reaches e [] i c = refl
print_reaches e (label.Load p v ∷ ls) i c = ap (λ b. holds (is_loaded e.server c v) (object_at c p) && b) (print_reaches e ls i c)
print_reaches e (label.Store p v ∷ ls) i c = ap (λ b. is_here e c p && b) (print_reaches e ls i (with_value c p v))
print_reaches e (_ ∷ ls) i c = print_reaches e ls i c

module _ (s : Server) (y : ThreadState) where
  abbrev K : Hand → Type 0
  K h = Keeping s y h

  other_temps : (h : Hand) (vs : List Value) → K h → K (with_temps vs h)
  other_temps h vs g = record { rest = g.rest; acts = g.acts; labels = g.labels; number = g.number; slots = g.slots; gift = g.gift }

  ints : (o : Operand) (h : Hand) → K h → Gives (λ (t : Popped ℤ). K t.hand) (pop_int o h)
  ints (operand.Const i) h g = g
  ints operand.Unit h g = tt
  ints operand.Pop h g = by (last_of h.thread.temps)
    where
      by : (o : Option Value) → Gives (λ (t : Popped ℤ). K t.hand) (then_some (option_map (λ v. record { item = v; hand = with_temps (front_of h.thread.temps) h }) o) (taken_as int_of))
      by None = tt
      by (Some v) = map_gives (λ (t : Popped ℤ). K t.hand) (int_of v) (λ x. record { item = x; hand = with_temps (front_of h.thread.temps) h }) (λ i q. other_temps h (front_of h.thread.temps) g)

  prints : (o : Operand) (h : Hand) → K h → Gives K (print o h)
  prints o h g =
      over_gives (λ (t : Popped ℤ). K t.hand) K (pop_int o h) _ (ints o h g)
      (λ t u. record { rest = u.rest; acts = u.acts; labels = (λ c. print_stores t.hand.work.labels t.item c ∙ u.labels.0 c, λ e c. print_reaches e t.hand.work.labels t.item c ∙ u.labels.1 e c); number = u.number; slots = u.slots; gift = u.gift })

  computes : (f : Op) (a b : Operand) (h : Hand) → K h → Gives K (arith f a b h)
  computes f a b h g =
      bind_gives (λ (t : Popped ℤ). K t.hand) K (pop_int b h) _ (ints b h g)
      (λ v u. over_gives (λ (t : Popped ℤ). K t.hand) K (pop_int a v.hand) _ (ints a v.hand u) (λ x w. record { rest = w.rest; acts = w.acts; labels = w.labels; number = w.number; slots = w.slots; gift = w.gift }))

  pairs_end : (p : Phase) (h : Hand) → K h → Gives K (par_end p h)
  pairs_end (phase.GotPar a b) h g = g
  pairs_end phase.Ready h g = tt
  pairs_end phase.Got h g = tt
  pairs_end (phase.Taken w) h g = tt
  pairs_end (phase.WaitCell w) h g = tt
  pairs_end (phase.WaitLock m) h g = tt
  pairs_end (phase.WaitDup m) h g = tt
  pairs_end (phase.WaitJoin t) h g = tt
  pairs_end (phase.WaitPar a b) h g = tt
  pairs_end phase.Over h g = tt

-- THE KINDS

abbrev pub IsPlain : Kind → Type 0
IsPlain step_print = ⊤
IsPlain step_arith = ⊤
IsPlain step_par_end = ⊤
IsPlain kind = ⊥

some_same : {a b : Kind} → Some a ≡ Some b → b ≡ a
some_same e = cc

plain_as : (a b : Kind) → Some a ≡ Some b → IsPlain b → IsPlain a
plain_as a b q p = subst IsPlain (some_same q) p

-- no delivery is one of these
no_message : (m : Message) → IsPlain (message_kind m) → ⊥
no_message (message.Fetch w o a t) p = p
no_message (message.Fetched w c t) p = p
no_message (message.Move w o a t) p = p
no_message (message.Moved w c t) p = p
no_message (message.Drop w o) p = p
no_message (message.Lock m a t) p = p
no_message (message.Granted m v t) p = p
no_message (message.Unlock m v) p = p
no_message (message.Dup m a t) p = p
no_message (message.Dupped m t) p = p
no_message (message.Release r) p = p
no_message (message.Start y) p = p
no_message (message.Migrate y) p = p
no_message (message.Join u a t) p = p
no_message (message.Joined u v t) p = p
no_message (message.Finished u v) p = p

-- such an instruction has no gift
no_gift : (i : Instr) (y : ThreadState) → IsPlain (instr_kind i) → GiftFits i y.gift → y.gift ≡ None
no_gift (instr.Print o) y p f = f
no_gift (instr.Arith op a b) y p f = f
no_gift instr.ParEnd y p f = f
no_gift (instr.Let o) y p f = absurd p
no_gift (instr.Assign w o) y p f = absurd p
no_gift (instr.Read w t) y p f = absurd p
no_gift (instr.Borrow w) y p f = absurd p
no_gift (instr.BorrowMut w) y p f = absurd p
no_gift (instr.Box o) y p f = absurd p
no_gift instr.Discard y p f = absurd p
no_gift instr.DropSlot y p f = absurd p
no_gift (instr.Spawn cs pc) y p f = absurd p
no_gift (instr.Join o) y p f = absurd p
no_gift (instr.Mutex o) y p f = absurd p
no_gift (instr.Dup w) y p f = absurd p
no_gift (instr.Lock w) y p f = absurd p
no_gift instr.Unlock y p f = absurd p
no_gift (instr.Par cs pc ds other) y p f = absurd p
no_gift (instr.End o) y p f = absurd p

plain_settles : (s : Server) (y : ThreadState) (servers : ℕ) (i : Instr) → IsPlain (instr_kind i) → y.gift ≡ None → Gives (Settles s y) (step servers i (record { work = begin_work s.rest; thread = y }))
plain_settles s y servers i p bare = by i p
  where
    h : Hand
    h = record { work = begin_work s.rest; thread = y }

    begun : Keeping s y h
    begun = record { rest = refl; acts = refl; labels = (λ c. refl, λ e c. refl); number = refl; slots = refl; gift = bare }

    by : (j : Instr) → IsPlain (instr_kind j) → Gives (Settles s y) (step servers j h)
    by (instr.Print o) p = goes_over s y (print o h) (prints s y o h begun)
    by (instr.Arith op a b) p = goes_over s y (arith op a b h) (computes s y op a b h begun)
    by instr.ParEnd p = goes_over s y (par_end h.thread.phase h) (pairs_end s y h.thread.phase h begun)
    by (instr.Let o) p = absurd p
    by (instr.Assign w o) p = absurd p
    by (instr.Read w t) p = absurd p
    by (instr.Borrow w) p = absurd p
    by (instr.BorrowMut w) p = absurd p
    by (instr.Box o) p = absurd p
    by instr.Discard p = absurd p
    by instr.DropSlot p = absurd p
    by (instr.Spawn cs pc) p = absurd p
    by (instr.Join o) p = absurd p
    by (instr.Mutex o) p = absurd p
    by (instr.Dup w) p = absurd p
    by (instr.Lock w) p = absurd p
    by instr.Unlock p = absurd p
    by (instr.Par cs pc ds other) p = absurd p
    by (instr.End o) p = absurd p

-- who steps isn't over
pub lives : (p : Phase) → can_step p ≡ true → is_over p ≡ false
lives phase.Ready e = refl
lives phase.Got e = refl
lives (phase.GotPar a b) e = refl
lives (phase.Taken w) e = refl
lives _ e = absurd (cc e)

-- AT ITS SERVER

module _ (k : Cluster) (sound : IsSound k) (number : ℕ) (s : Server) (here : server_at k.servers number ≡ Some s) (c0 : Coloured) (is_coloured : StandsColoured k c0) (kind : Kind) (p : IsPlain kind) where
  of_message : {X : Type 0} (o : Option Message) → option_map message_kind o ≡ Some kind → X
  of_message None r = absurd (cc r)
  of_message (Some m) r = absurd (no_message m (plain_as (message_kind m) kind r p))

  stepping : (t : ℕ) → has_phase can_step (thread_in s.threads t) ≡ true → then_some (thread_in s.threads t) (λ x. option_map instr_kind (slice_get k.code x.pc)) ≡ Some kind → Gives (StepLed k s c0) (does k.code k.options s (Step t))
  stepping t = by (thread_in s.threads t) refl
    where
      at_instr : (y : ThreadState) → thread_in s.threads t ≡ Some y → can_step y.phase ≡ true → (o : Option Instr) → slice_get k.code y.pc ≡ o → option_map instr_kind o ≡ Some kind
          → Gives (StepLed k s c0) (option_map (stepped s) (then_some o (λ i. step k.options.servers i (record { work = begin_work s.rest; thread = y }))))
      at_instr y at on None e q = tt
      at_instr y at on (Some i) e q =
          let plain : IsPlain (instr_kind i) = plain_as (instr_kind i) kind q p in
          let bare : y.gift ≡ None = no_gift i y plain (gift_fits k sound number s here t y at i e).0 in
          over_gives (Settles s y) (StepLed k s c0) (step k.options.servers i (record { work = begin_work s.rest; thread = y })) (stepped s) (plain_settles s y k.options.servers i plain bare)
          (λ d u. settled_led k sound number s here c0 is_coloured t y at (lives y.phase on) d bare u)

      by : (o : Option ThreadState) → thread_in s.threads t ≡ o → has_phase can_step o ≡ true → then_some o (λ x. option_map instr_kind (slice_get k.code x.pc)) ≡ Some kind
          → Gives (StepLed k s c0) (option_map (stepped s) (then_some (option_map (λ y. record { work = begin_work s.rest; thread = y }) o) (step_in k.code k.options.servers)))
      by None at on q = tt
      by (Some y) at on q = at_instr y at on (slice_get k.code y.pc) refl q

  step_led : (w : What) → enabled k.options s w ≡ true → kind_at k w s ≡ Some kind → Gives (StepLed k s c0) (does k.code k.options s w)
  step_led (Step t) on q = stepping t on q
  step_led (Deliver i) on q = of_message (slice_get s.rest.inbox i) q
  step_led (Evict w) on q = absurd (plain_as _ kind q p)
  step_led (Migrate t target) on q = absurd (plain_as _ kind q p)

-- a step of these kinds has a legal entry, as words stay
pub plain_legal : (kind : Kind) → IsPlain kind → Stays kind → EntriesLegal kind
plain_legal kind p stays k e q sound few c0 stands =
    both_give (λ (d : Cluster × EntryView). LeavesWords k d.0) (λ (d : Cluster × EntryView). LeavesWords k d.0 → LeadsOn k.options d.1 c0 d.0) (λ (d : Cluster × EntryView). LeadsOn k.options d.1 c0 d.0) (apply k e) (kind_stays kind stays k e q sound few)
    (applied_by (λ (d : Cluster × EntryView). LeavesWords k d.0 → LeadsOn k.options d.1 c0 d.0) k e sound few (λ s here on.
    step_led k sound e.server s here c0 stands kind p e.what on (subst (λ o. then_some o (kind_at k e.what) ≡ Some kind) here q)))
    (λ d words l. l words)
