-- Each kind of event that is proved to leave copies right.
use Rattle.std.proofs.Common.{◌⊎◌, inl, ⊎_elim, ◌≤◌, false, None, ◌≡◌, ℕ, zero, suc, ◌-◌, ◌+◌, List, [], ◌∷◌, Some, is_some, refl, sym, ap, subst, ◌∙◌, arith}
use Rattle.std.specs.Prelude.{⊤, length, slice_get, option_map}
use Rattle.law_words_borrows.specs.Below.fr_base.declared.place.Lval.{Lval}
use Rattle.law_words_borrows.specs.Below.fr_base.declared.instruction.Instr.{Instr}
use Rattle.law_words_borrows.specs.Below.fr_base.declared.instruction.Instr.TheVariants as instr
use Rattle.law_words_borrows.specs.Below.heap_partition.declared.value.Cell.{Cell}
use Rattle.law_words_borrows.specs.Below.journal.View.{EntryView}
use Rattle.law_words_borrows.specs.Below.thread_state.View.{ThreadState}
use Rattle.law_words_borrows.specs.Below.thread_state.declared.value.Value.{Value}
use Rattle.law_words_borrows.specs.Below.thread_state.declared.value.Value.TheVariants as value
use Rattle.law_words_borrows.specs.Below.server_msgs.declared.message.Message.{Message}
use Rattle.law_words_borrows.specs.Below.server_msgs.declared.message.Message.TheVariants as message
use Rattle.law_words_borrows.specs.Below.server_model.declared.event.Event.{Event}
use Rattle.law_words_borrows.specs.Below.server_model.declared.event.What.TheVariants.{Step}
use Rattle.law_words_borrows.specs.Below.server_model.Servers.{Server, Cluster, server_at}
use Rattle.law_words_borrows.specs.Below.server_model.Work.{thread_in, then_some}
use Rattle.law_words_borrows.specs.Below.server_model.Places.{Spot, in_slot as spot_slot, on_top}
use Rattle.law_words_borrows.specs.Below.server_model.Prepare.{ending, assigned, access_of}
use Rattle.law_words_borrows.specs.Below.server_model.Clusters.{apply}
use Rattle.law_words_borrows.specs.Below.coherent_memory.Names.{tot, other}
use Rattle.law_words_borrows.specs.Below.coherent_memory.Things.{Thing, copied, sent, things_of}
use Rattle.law_words_borrows.specs.Below.coherent_memory.Sight.{sight, issued}
use Rattle.law_words_borrows.specs.Below.coherent_memory.Placing.{words, clean_cell, other_cell, other_copy, unclean, unclean_request}
use Rattle.law_words_borrows.specs.Below.coherent_memory.Coherent.{IsSound, Holds, copies_agree, served_are_clean}
use Rattle.law_words_borrows.proofs.Below.law_words_paths.paths.Sole.{some_is}
use Rattle.law_words_borrows.specs.Below.law_words_paths.words.Reworded.{HasPlaces}
use Rattle.law_words_borrows.specs.Below.law_counts_sums.Kinds.{Kind, instr_kind, kind_of, kind_at}
use Rattle.law_words_borrows.specs.Below.law_counts_sums.Laws.{Gives, FewEvents}
use Rattle.law_words_borrows.proofs.Below.law_counts_sums.Results.{both_give, weaker}
use Rattle.law_words_borrows.proofs.Below.law_counts_sums.Sending.{applied_part}
use Rattle.law_words_borrows.proofs.Below.law_counts_sums.MutexResults.{has}
use Rattle.law_words_borrows.proofs.Below.coherent_memory.Words.{none_at, none_all}
use Rattle.law_words_borrows.specs.Below.law_words_kept.stays.Laws.{IsOfKind}
use Rattle.law_words_borrows.proofs.Below.law_words_kept.stays.StayKinds.{Stays, Seen, kind_seen}
use Rattle.law_words_borrows.proofs.Below.law_counts_things.things.Small.{Follows}
use Rattle.law_words_borrows.specs.Below.law_words_values.carried.Steps.{CarriesOne, a_let, a_mutex, a_join, an_end, IsNoReference, GivesOwned, drops as owned_drops, drops_none as none_drops, puts_back as owned_back, IsOwnedOrGone, owns, gone}
use Rattle.law_words_borrows.proofs.Below.law_words_values.carried.Events.{steps_go, discards_go}
use Rattle.law_words_borrows.proofs.Below.law_words_values.carried.Gives.{owned_go}
use Rattle.law_words_borrows.proofs.Below.law_words_values.carried.Assigns.{assigns_go}
use Rattle.law_words_borrows.proofs.Below.law_counts_things.names.Sums.{sent_copy, copy_of}
use Rattle.law_copies_kept.specs.copies.Copies.{CellsGoOn, CopiesComeFromCopies, CopiesAreRight, KeepCopies, StepsKeepCopies, DiscardsKeepCopies, LetsGo, drops, drops_none, puts_back, DropsKeepCopies, AssignsKeepCopies}
use Rattle.law_copies_kept.proofs.copies.Clean.{CellsStay, Leaves, cells_stay, all_goes}
use Rattle.law_copies_kept.proofs.copies.Comes.{ServedWeighNothing, AskedWeighNothing, copies_come}
use Rattle.law_copies_kept.proofs.copies.Served.{served_right}

-- WEIGHTS

-- how much a copy under a word differs from the clean cell of that word
abbrev differs : Cluster → ℕ → Cell → ℕ
differs k v c = other_cell c (clean_cell (sight k) v)

abbrev has_none : Cluster → ℕ → ℕ
has_none k v = other (is_some (clean_cell (sight k) v))

abbrev no_word : ℕ → ℕ
no_word v = 0

-- and that the word wasn't issued
abbrev is_off : Cluster → ℕ → Cell → ℕ
is_off k v c = differs k v c + other (issued (sight k) v)

-- before the event no copy is off
sent_off : (k : Cluster) (n : ℕ) (m : Message) → sent_copy (is_off k) no_word m ≤ other_copy (sight k) (sent n m) + words (λ v. other (issued (sight k) v)) (sent n m)
sent_off k n (message.Fetched v c t) = omega arith
sent_off k n (message.Fetch v o s t) = omega arith
sent_off k n m = omega arith

copy_off : (k : Cluster) (x : Thing) → copy_of (is_off k) no_word x ≤ other_copy (sight k) x + words (λ v. other (issued (sight k) v)) x
copy_off k (sent n m) = sent_off k n m
copy_off k (copied r c) = omega arith
copy_off k x = omega arith

all_off : (k : Cluster) (b : List Thing) → tot (copy_of (is_off k) no_word) b ≤ tot (other_copy (sight k)) b + tot (words (λ v. other (issued (sight k) v))) b
all_off k [] = omega arith
all_off k (x ∷ b) = omega (arith, copy_off k x, all_off k b)

sent_asks : (k : Cluster) (n : ℕ) (m : Message) → unclean (sight k) (sent n m) ≡ sent_copy (λ v c. 0) (has_none k) m
sent_asks k n (message.Fetched v c t) = omega arith
sent_asks k n (message.Fetch v o s t) = refl
sent_asks k n m = refl

thing_asks : (k : Cluster) (x : Thing) → unclean (sight k) x ≡ copy_of (λ v c. 0) (has_none k) x
thing_asks k (sent n m) = sent_asks k n m
thing_asks k x = refl

all_ask : (k : Cluster) (b : List Thing) → tot (unclean (sight k)) b ≡ tot (copy_of (λ v c. 0) (has_none k)) b
all_ask k [] = refl
all_ask k (x ∷ b) = omega (arith, thing_asks k x, all_ask k b)

-- and afterwards none that wasn't differs, where cells go on
differs_not : (k z : Cluster) → CellsGoOn k z → (v : ℕ) (c : Cell) → is_off k v c ≡ 0 → other_cell c (clean_cell (sight z) v) ≡ 0
differs_not k z go v c e =
    ⊎_elim (λ (same : clean_cell (sight z) v ≡ clean_cell (sight k) v). ap (other_cell c) same ∙ first e)
    (λ (o : (clean_cell (sight z) v ≡ None) ⊎ (issued (sight k) v ≡ false)). ⊎_elim (λ (none : clean_cell (sight z) v ≡ None). ap (other_cell c) none) (λ (new : issued (sight k) v ≡ false). absurd (omega (arith, e, ap other new))) o) (go v)
  where
    first : is_off k v c ≡ 0 → differs k v c ≡ 0
    first z0 = omega (arith, z0)

thing_right : (k z : Cluster) → CellsGoOn k z → (x : Thing) → copy_of (is_off k) no_word x ≡ 0 → other_copy (sight z) x ≡ 0
thing_right k z go (copied r c) e = differs_not k z go c.word c.cell e
thing_right k z go (sent n (message.Fetched v c t)) e = differs_not k z go v c (omega (arith, e))
thing_right k z go (sent n (message.Fetch v o s t)) e = refl
thing_right k z go (sent n m) e = refl
thing_right k z go x e = refl

other_asks : (k z : Cluster) → CellsStay k z → (x : Thing) → unclean (sight z) x ≡ copy_of (λ v c. 0) (has_none k) x
other_asks k z s (sent n m) = by m
  where
    same : (v : ℕ) → other (is_some (clean_cell (sight z) v)) ≡ has_none k v
    same v = ap (λ c. other (is_some c)) (s v)

    by : (m : Message) → unclean_request (sight z) m ≡ sent_copy (λ v c. 0) (has_none k) m
    by (message.Fetched v c t) = omega (arith, same v)
    by (message.Fetch v o r t) = same v
    by m = refl
other_asks k z s x = refl

ask_after : (k z : Cluster) → CellsStay k z → (b : List Thing) → tot (unclean (sight z)) b ≡ tot (copy_of (λ v c. 0) (has_none k)) b
ask_after k z s [] = refl
ask_after k z s (x ∷ b) = omega (arith, other_asks k z s x, ask_after k z s b)

-- EACH EVENT

pub come_from_copies : CopiesComeFromCopies
come_from_copies k e sound few =
    weaker (λ (d : Cluster × EntryView). tot (copy_of (is_off k) no_word) (things_of d.0) ≡ 0) (λ (d : Cluster × EntryView). CellsGoOn k d.0 → Holds d.0 copies_agree) (apply k e)
    (copies_come k e (is_off k) no_word sound few (omega (arith, all_off k (things_of k), agree, issued_all)) served (λ s here t y i q there at f p. refl))
    (λ d none go. none_all (other_copy (sight d.0)) (things_of d.0) (λ x m. thing_right k d.0 go x (none_at (copy_of (is_off k) no_word) x (things_of d.0) none m)))
  where
    agree : tot (other_copy (sight k)) (things_of k) ≡ 0
    agree = sound.copies.copies_agree

    issued_all : tot (words (λ v. other (issued (sight k) v))) (things_of k) ≡ 0
    issued_all = sound.words.are_issued

    served : ServedWeighNothing k (is_off k)
    served n s here i v o r t c q f =
        let right = served_right k sound n s here i v o r t c q f in
        let asked = has k sound n s here i (message.Fetch v o r t) q (words (λ u. other (issued (sight k) u))) in
        omega (arith, right, asked, issued_all)

-- where it asks for no copy, those that are asked for stay clean too
come_from_requests : (k : Cluster) (e : Event) → IsSound k → FewEvents k → AskedWeighNothing k e (has_none k) → Gives (λ (d : Cluster × EntryView). CellsStay k d.0 → Holds d.0 served_are_clean) (apply k e)
come_from_requests k e sound few asked =
    weaker (λ (d : Cluster × EntryView). tot (copy_of (λ v c. 0) (has_none k)) (things_of d.0) ≡ 0) (λ (d : Cluster × EntryView). CellsStay k d.0 → Holds d.0 served_are_clean) (apply k e)
    (copies_come k e (λ v c. 0) (has_none k) sound few (omega (arith, all_ask k (things_of k), clean)) (λ n s h i v o r t c q f. refl) asked)
    (λ d none stay. omega (arith, none, ask_after k d.0 stay (things_of d.0)))
  where
    clean : tot (unclean (sight k)) (things_of k) ≡ 0
    clean = sound.copies.served_are_clean

-- IN A CLUSTER

places_before : (k : Cluster) → IsSound k → HasPlaces k
places_before k sound = record { numbers_differ = sound.names.numbers_differ; home_of_each = sound.one_home.home_of_each; owner_of_each = sound.one_owner.owner_of_each }

places_after : (k : Cluster) (e : Event) → IsSound k → FewEvents k → Gives (λ (d : Cluster × EntryView). HasPlaces d.0) (apply k e)
places_after k e sound few = applied_part HasPlaces (λ c g. record { numbers_differ = g.numbers_differ; home_of_each = g.home_of_each; owner_of_each = g.owner_of_each }) k e sound few

-- where clean cells stay both do
abbrev BothStay : Cluster → Cluster × EntryView → Type 0
BothStay k d = (CellsGoOn k d.0 → Holds d.0 copies_agree) × (CellsStay k d.0 → Holds d.0 served_are_clean)

-- where clean cells stay, and no copy is asked for, copies are right
kept_so : (k : Cluster) (e : Event) → IsSound k → FewEvents k → Gives (λ (d : Cluster × EntryView). CellsStay k d.0) (apply k e) → AskedWeighNothing k e (has_none k) → Gives (λ (d : Cluster × EntryView). CopiesAreRight d.0) (apply k e)
kept_so k e sound few cells asked =
    both_give (λ (d : Cluster × EntryView). CellsStay k d.0) (BothStay k) (λ (d : Cluster × EntryView). CopiesAreRight d.0) (apply k e) cells
    (both_give (λ (d : Cluster × EntryView). CellsGoOn k d.0 → Holds d.0 copies_agree) (λ (d : Cluster × EntryView). CellsStay k d.0 → Holds d.0 served_are_clean) (BothStay k) (apply k e) (come_from_copies k e sound few) (come_from_requests k e sound few asked) (λ d a b. (a, b)))
    (λ d stay both. record { agree = both.0 (λ w. inl (stay w)); clean = both.1 stay })

-- KINDS

-- an instruction of these follows no place
follows_none : (i : Instr) (y : ThreadState) → Stays (instr_kind i) → Follows (access_of i y) → ⊥
follows_none (instr.Print o) y p f = f
follows_none (instr.Arith g a b) y p f = f
follows_none instr.ParEnd y p f = f
follows_none (instr.Let o) y p f = p
follows_none (instr.Assign v o) y p f = p
follows_none (instr.Read v t) y p f = p
follows_none (instr.Borrow v) y p f = p
follows_none (instr.BorrowMut v) y p f = p
follows_none (instr.Box o) y p f = p
follows_none instr.Discard y p f = p
follows_none instr.DropSlot y p f = p
follows_none (instr.Spawn cs pc) y p f = p
follows_none (instr.Join o) y p f = p
follows_none (instr.Mutex o) y p f = p
follows_none (instr.Dup v) y p f = p
follows_none (instr.Lock v) y p f = p
follows_none instr.Unlock y p f = p
follows_none (instr.Par cs pc ds other) y p f = p
follows_none (instr.End o) y p f = p

module _ (kind : Kind) (p : Stays kind) (k : Cluster) (e : Event) (of_kind : IsOfKind kind k e) (sound : IsSound k) (few : FewEvents k) where
  -- the instruction of a step is of the kind
  step_kind : (s : Server) → server_at k.servers e.server ≡ Some s → (t : ℕ) (y : ThreadState) (i : Instr) → e.what ≡ Step t → thread_in s.threads t ≡ Some y → slice_get k.code y.pc ≡ Some i → Stays (instr_kind i)
  step_kind s here t y i q there at =
      let first : kind_of k e ≡ kind_at k e.what s = ap (λ o. then_some o (kind_at k e.what)) here in
      let second : kind_at k e.what s ≡ kind_at k (Step t) s = ap (λ w. kind_at k w s) q in
      let third : kind_at k (Step t) s ≡ Some (instr_kind i) = ap (λ o. then_some o (λ (x : ThreadState). option_map instr_kind (slice_get k.code x.pc))) there ∙ ap (option_map instr_kind) at in
      subst Stays (some_is (sym of_kind ∙ first ∙ second ∙ third)) p

  asks_none : AskedWeighNothing k e (has_none k)
  asks_none s here t y i q there at f b = absurd (follows_none i y (step_kind s here t y i q there at) f)

  cells_after : Gives (λ (d : Cluster × EntryView). CellsStay k d.0) (apply k e)
  cells_after =
      both_give (Seen k e (λ v. ⊤)) (λ (d : Cluster × EntryView). HasPlaces d.0) (λ (d : Cluster × EntryView). CellsStay k d.0) (apply k e) (kind_seen kind p k e of_kind sound few) (places_after k e sound few)
      (λ d seen places. let same = seen tt in stays d.0 places (all_goes.seen k d.0 (places_before k sound) places same.0 same.1))
    where
      stays : (z : Cluster) → HasPlaces z → Leaves k z → CellsStay k z
      stays z places a = cells_stay k z sound (places_before k sound) places a.0 a.1

pub keep_copies : (kind : Kind) → Stays kind → KeepCopies kind
keep_copies kind p k e q sound few = kept_so k e sound few (cells_after kind p k e q sound few) (asks_none kind p k e q sound few)

-- STEPS OF OTHER INSTRUCTIONS

module _ (k : Cluster) (number t : ℕ) (s : Server) (y : ThreadState) (i : Instr) (sound : IsSound k) (few : FewEvents k) (here : server_at k.servers number ≡ Some s) (at : thread_in s.threads t ≡ Some y) (code : slice_get k.code y.pc ≡ Some i) where
  abbrev event : Event
  event = record { server = number; what = Step t }

  -- the step's instruction follows nothing
  no_requests : (Follows (access_of i y) → ⊥) → AskedWeighNothing k event (has_none k)
  no_requests none s2 here2 t2 y2 i2 q there at2 f b =
      let server : s ≡ s2 = some_is (sym here ∙ here2) in
      let thread : t ≡ t2 = some_step q in
      let its : thread_in s.threads t ≡ Some y2 = ap (λ (x : Server). thread_in x.threads t) server ∙ ap (thread_in s2.threads) thread ∙ there in
      let same : y ≡ y2 = some_is (sym at ∙ its) in
      let instr : i ≡ i2 = some_is (sym code ∙ ap (λ (x : ThreadState). slice_get k.code x.pc) same ∙ at2) in
      absurd (none (subst (λ (x : ThreadState). Follows (access_of i x)) (sym same) (subst (λ j. Follows (access_of j y2)) (sym instr) f)))
    where
      some_step : {a b : ℕ} → Step a ≡ Step b → a ≡ b
      some_step e = cc

  -- a step that leaves words and cells leaves copies right
  pub steps_kept : (Follows (access_of i y) → ⊥) → Gives (λ (d : Cluster × EntryView). Leaves k d.0) (apply k event) → Gives (λ (d : Cluster × EntryView). CopiesAreRight d.0) (apply k event)
  steps_kept none go =
      kept_so k event sound few
      (both_give (λ (d : Cluster × EntryView). Leaves k d.0) (λ (d : Cluster × EntryView). HasPlaces d.0) (λ (d : Cluster × EntryView). CellsStay k d.0) (apply k event) go (places_after k event sound few)
      (λ d a places. cells_stay k d.0 sound (places_before k sound) places a.0 a.1)) (no_requests none)

carries_follows : (i : Instr) (y : ThreadState) → CarriesOne i → Follows (access_of i y) → ⊥
carries_follows _ y (a_let o) f = f
carries_follows _ y (a_mutex o) f = f
carries_follows _ y (a_join o) f = f
carries_follows _ y (an_end o) f = f

pub carried_copies : StepsKeepCopies
carried_copies k number t s y i sound few here at code c = steps_kept k number t s y i sound few here at code (carries_follows i y c) (steps_go all_goes k number t s y i sound few here at code c)

-- what is no reference to an object needs no place when it goes
no_ending : (sp : Spot) (v : Value) → IsNoReference v → Follows (ending sp (Some v)) → ⊥
no_ending sp (value.Own u) p f = f
no_ending sp (value.SharedSlot i) p f = f
no_ending sp (value.MutSlot i) p f = f
no_ending sp value.Gone p f = f
no_ending sp (value.Held m) p f = f
no_ending sp (value.Shared r) p f = p
no_ending sp (value.Mut r) p f = p

pub discarded_copies : DiscardsKeepCopies
discarded_copies k number t s y v sound few here at code e a =
    steps_kept k number t s y instr.Discard sound few here at code (λ f. no_ending on_top v a (subst (λ o. Follows (ending on_top o)) e f)) (discards_go all_goes k number t s y v sound few here at code e a)

-- an instruction that lets go of what a slot owns follows no place
lets_follows : (i : Instr) (y : ThreadState) → LetsGo y i → Follows (access_of i y) → ⊥
lets_follows _ y (drops u e) f = no_ending (spot_slot (length y.slots - 1)) (value.Own u) tt (subst (λ o. Follows (ending (spot_slot (length y.slots - 1)) o)) e f)
lets_follows _ y (drops_none e) f = no_ending (spot_slot (length y.slots - 1)) value.Gone tt (subst (λ o. Follows (ending (spot_slot (length y.slots - 1)) o)) e f)
lets_follows _ y puts_back f = f

gives_it : (y : ThreadState) (i : Instr) → LetsGo y i → GivesOwned y i
gives_it y _ (drops u e) = owned_drops u e
gives_it y _ (drops_none e) = none_drops e
gives_it y _ puts_back = owned_back

pub dropped_copies : DropsKeepCopies
dropped_copies k number t s y i coherent few here at code g = steps_kept k number t s y i coherent.sound few here at code (lets_follows i y g) (owned_go all_goes k number t s y i coherent few here at code (gives_it y i g))

-- nor does an assignment over no reference
over_follows : (w : Lval) (y : ThreadState) (v : Value) → slice_get y.slots w.slot ≡ Some v → IsOwnedOrGone v → (d : ℕ) → d ≡ 0 → Follows (assigned w d y) → ⊥
over_follows w y v e o (suc d) z f = absurd (omega (arith, z))
over_follows w y v e (owns u) zero z f = no_ending (spot_slot w.slot) (value.Own u) tt (subst (λ x. Follows (ending (spot_slot w.slot) x)) e f)
over_follows w y v e gone zero z f = no_ending (spot_slot w.slot) value.Gone tt (subst (λ x. Follows (ending (spot_slot w.slot) x)) e f)

pub assigned_copies : AssignsKeepCopies
assigned_copies k number t s y w o v coherent few here at code flat e is =
    steps_kept k number t s y (instr.Assign w o) coherent.sound few here at code (over_follows w y v e is w.depth flat) (assigns_go all_goes k number t s y w o v coherent few here at code flat e is)
