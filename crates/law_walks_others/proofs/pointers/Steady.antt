-- Events in which no object comes or goes leave the pointers of each thread, and what each has followed.
use Rattle.std.proofs.Common.{◌≡◌, inl, inr, ℕ, zero, suc, ◌&&◌, not, Bool, true, false, Option, Some, None, is_some, option_map, refl, sym, ap, subst, ◌∙◌}
use Rattle.std.specs.Prelude.{⊤, slice_get}
use Rattle.law_words_values.specs.Below.fr_base.declared.name.ObjNo.{ObjNo}
use Rattle.law_words_values.specs.Below.fr_base.declared.place.Lval.{Lval}
use Rattle.law_words_values.specs.Below.fr_base.declared.instruction.Instr.{Instr}
use Rattle.law_words_values.specs.Below.fr_base.declared.instruction.Instr.TheVariants as instr
use Rattle.law_words_values.specs.Below.fr_base.Lists.{is_in}
use Rattle.law_words_values.specs.Below.heap_partition.declared.value.Cell.{Cell}
use Rattle.law_words_values.specs.Below.heap_partition.declared.value.Owned.{Owned}
use Rattle.law_words_values.specs.Below.heap_partition.declared.value.Owned.TheVariants as owned
use Rattle.law_words_values.specs.Below.read_cache.Cache.{can_fill, can_pin}
use Rattle.law_words_values.specs.Below.migration.Packing.{packed}
use Rattle.law_words_values.specs.Below.thread_state.View.{ThreadState}
use Rattle.law_words_values.specs.Below.thread_state.declared.phase.Phase.{Phase}
use Rattle.law_words_values.specs.Below.thread_state.declared.phase.Phase.TheVariants as phase
use Rattle.law_words_values.specs.Below.thread_state.declared.value.Value.{Value}
use Rattle.law_words_values.specs.Below.thread_state.declared.value.Value.TheVariants as value
use Rattle.law_words_values.specs.Below.server_msgs.declared.message.Message.TheVariants as message
use Rattle.law_words_values.specs.Below.journal.View.{EntryView}
use Rattle.law_words_values.specs.Below.server_model.declared.event.Event.{Event}
use Rattle.law_words_values.specs.Below.server_model.declared.event.What.TheVariants.{Step, Deliver}
use Rattle.law_words_values.specs.Below.server_model.Servers.{Server, Cluster, server_at}
use Rattle.law_words_values.specs.Below.server_model.Work.{Hand, thread_in, then_some, used_once}
use Rattle.law_words_values.specs.Below.server_model.Prepare.{access_of}
use Rattle.law_words_values.specs.Below.server_model.Objects.{waits_for_cell, filled}
use Rattle.law_words_values.specs.Below.server_model.Events.{Stepped, can_step, has_phase, is_ready, begin_work, received, step}
use Rattle.law_words_values.specs.Below.server_model.Clusters.{apply}
use Rattle.law_words_values.specs.Below.coherent_memory.Names.{tot, one, other, if_so, Among}
use Rattle.law_words_values.specs.Below.coherent_memory.Things.{Location, at_slot, at_temp, in_cell, things_of}
use Rattle.law_words_values.specs.Below.coherent_memory.Follow.{Standing, Ground, threads_in, value_in, value_behind, leads, locate, hop_at}
use Rattle.law_words_values.specs.Below.coherent_memory.Paths.{Path, no_path, reads, shares, lends, writes, ends, path_of, joined_thread, followed}
use Rattle.law_words_values.specs.Below.coherent_memory.Passing.{FollowedLaw}
use Rattle.law_words_values.specs.Below.coherent_memory.Sight.{Sight, sight}
use Rattle.law_words_values.specs.Below.coherent_memory.Walking.{instr_of, path, words_kept, loose_hop, has_gift_there, waits_for_lent, has_followed, lost_place}
use Rattle.law_words_values.specs.Below.coherent_memory.Requests.{is_got, is_task, early_gift, stands_wrong, gift_fits, gift_there}
use Rattle.law_words_values.specs.Below.coherent_memory.Coherent.{IsSound, Holds, place_followed}
use Rattle.law_words_values.proofs.Below.coherent_memory.Followed.{followed_law}
use Rattle.law_words_values.proofs.Below.coherent_memory.Words.{none_at, none_all}
use Rattle.law_words_values.specs.Below.law_counts_sums.Kinds.{Kind, evicts, migrates, starts, arrives, fetch, fetched, asks_lock, granted, unlocked, asks_dup, dupped, released, asks_join, joined, finished, moved, step_print, step_arith, step_par_end, message_kind, instr_kind, kind_at}
use Rattle.law_words_values.specs.Below.law_counts_sums.Laws.{Gives, FewEvents}
use Rattle.law_words_values.proofs.Below.law_counts_sums.Results.{over_gives, test_gives, both_give, weaker}
use Rattle.law_words_values.proofs.Below.law_counts_sums.Sending.{applied_part}
use Rattle.law_words_values.proofs.Below.law_counts_sums.ThreadThere.{thread_there}
use Rattle.law_words_values.proofs.Below.law_words_paths.paths.Contained.{among_thread}
use Rattle.law_counts_waiting.specs.Below.law_words_paths.words.Reworded.{HasPlaces}
use Rattle.law_counts_waiting.specs.Below.law_words_paths.words.Unmoved.{pointing, Untouched}
use Rattle.law_counts_waiting.proofs.Below.law_words_paths.words.Follows.{seen_places_lead}
use Rattle.law_counts_waiting.proofs.Below.law_words_paths.words.Takings.{leads_pointing}
use Rattle.law_words_values.proofs.Below.law_counts_things.things.Goes.{Goes, on, waits_pair, is_over, asks_cell, asks_home, gets_cell, gets_gift, goes_pair, Left, IsAsking, AsksHome, thread_goes}
use Rattle.law_words_values.proofs.Below.law_counts_things.things.Small.{Follows}
use Rattle.law_words_values.proofs.Below.law_counts_things.things.Handed.{Stood, InParcel}
use Rattle.law_counts_waiting.specs.Below.law_words_kept.stays.Laws.{IsOfKind}
use Rattle.law_counts_waiting.proofs.Below.law_words_kept.stays.Alike.{Alike}
use Rattle.law_counts_waiting.proofs.Below.law_words_kept.stays.Seen.{seen_alike}
use Rattle.law_counts_waiting.proofs.Below.law_words_kept.stays.StayKinds.{Stays, Seen, kind_seen}
use Rattle.law_counts_waiting.specs.waits.Steady.{IsSteady, EachSteadyEventKeeps}
use Rattle.law_counts_waiting.proofs.waits.Fates.{Fates, fated}
use Rattle.law_walks_others.specs.pointers.Steady.{AlikePointers, SteadyEventsLeavePointers}
use Rattle.law_walks_others.proofs.pointers.Sentences.{SameOn, lost_same}
use Rattle.law_walks_others.proofs.pointers.Followed.{same_settings}

-- POINTERS

steady_stays : (kind : Kind) → IsSteady kind → Stays kind
steady_stays evicts p = tt
steady_stays migrates p = tt
steady_stays starts p = tt
steady_stays arrives p = tt
steady_stays fetch p = tt
steady_stays fetched p = tt
steady_stays asks_lock p = tt
steady_stays granted p = tt
steady_stays unlocked p = tt
steady_stays asks_dup p = tt
steady_stays dupped p = tt
steady_stays released p = tt
steady_stays asks_join p = tt
steady_stays joined p = tt
steady_stays finished p = tt
steady_stays step_print p = tt
steady_stays step_arith p = tt
steady_stays step_par_end p = tt
steady_stays kind p = absurd p

no_temp : (t : ℕ) (v : Option Value) (u i : ℕ) → leads t v ≡ Some (at_temp u i) → ⊥
no_temp t None u i e = absurd (cc e)
no_temp t (Some (value.Own (owned.Box p))) u i e = absurd (cc e)
no_temp t (Some (value.Own v)) u i e = absurd (cc e)
no_temp t (Some v) u i e = absurd (cc e)

place_no_temp : (g : Ground) (t slot n u i : ℕ) → locate g t slot n ≡ Some (at_temp u i) → ⊥
place_no_temp g t slot zero u i e = absurd (cc e)
place_no_temp g t slot (suc n) u i e = no_temp t (value_behind g (locate g t slot n)) u i e

module _ (k c : Cluster) (before : HasPlaces k) (after : HasPlaces c) (code : c.code ≡ k.code) (alike : Alike k.code (things_of k) (things_of c)) where
  abbrev G : Ground
  G = (sight k).ground

  abbrev G2 : Ground
  G2 = (sight c).ground

  untouched : Untouched k c
  untouched = seen_alike k c before after code alike

  in_slots : (t u i : ℕ) → leads t (value_in G2 (at_slot u i)) ≡ leads t (value_in G (at_slot u i))
  in_slots t u i = sym (leads_pointing t (value_in G2 (at_slot u i))) ∙ ap (leads t) (let y = untouched in y.stands (at_slot u i)) ∙ leads_pointing t (value_in G (at_slot u i))

  in_cells : (t : ℕ) (o : ObjNo) → leads t (value_in G2 (in_cell o)) ≡ leads t (value_in G (in_cell o))
  in_cells t o = sym (leads_pointing t (value_in G2 (in_cell o))) ∙ ap (leads t) (let y = untouched in y.stands (in_cell o)) ∙ leads_pointing t (value_in G (in_cell o))

  place_same : (t slot n : ℕ) → locate G2 t slot n ≡ locate G t slot n
  place_same t slot n = seen_places_lead G G2 in_slots in_cells t slot n

  hop_same : (t : ℕ) (w : Lval) (n : ℕ) → pointing (hop_at G2 t w n) ≡ pointing (hop_at G t w n)
  hop_same t w n = ap (λ l. pointing (value_behind G2 l)) (place_same t w.slot n) ∙ by (locate G t w.slot n) refl
    where
      by : (l : Option Location) → locate G t w.slot n ≡ l → pointing (value_behind G2 l) ≡ pointing (value_behind G l)
      by None e = refl
      by (Some (at_slot u i)) e = let y = untouched in y.stands (at_slot u i)
      by (Some (in_cell o)) e = let y = untouched in y.stands (in_cell o)
      by (Some (at_temp u i)) e = absurd (place_no_temp G t w.slot n u i e)

  pub pointers_alike : (t : ℕ) (w : Lval) → AlikePointers k c t w
  pointers_alike t w n = (place_same t w.slot n, hop_same t w n)

  pub on_paths : (t : ℕ) (p : Path) → SameOn k c t p
  on_paths t no_path = tt
  on_paths t (reads w) = λ n lt. hop_same t w n
  on_paths t (shares w) = λ n lt. hop_same t w n
  on_paths t (lends w) = λ n lt. hop_same t w n
  on_paths t (writes w) = λ n lt. hop_same t w n
  on_paths t (ends r) = λ n lt. hop_same t r.holder n

-- what is known of the cluster afterwards
abbrev pub Kept : Cluster → Cluster × EntryView → Type 0
Kept k d = HasPlaces d.0 × ((d.0.code ≡ k.code) × Alike k.code (things_of k) (things_of d.0))

pub kept : (kind : Kind) → IsSteady kind → (k : Cluster) (e : Event) → IsOfKind kind k e → IsSound k → FewEvents k → Gives (Kept k) (apply k e)
kept kind steady k e q sound few =
    both_give (λ (d : Cluster × EntryView). HasPlaces d.0) (Seen k e (λ v. ⊤)) (Kept k) (apply k e)
    (applied_part HasPlaces (λ c g. record { numbers_differ = g.numbers_differ; home_of_each = g.home_of_each; owner_of_each = g.owner_of_each }) k e sound few) (kind_seen kind (steady_stays kind steady) k e q sound few) (λ d a b. (a, b tt))

abbrev places_in : {k : Cluster} → IsSound k → HasPlaces k
places_in sound = record { numbers_differ = sound.names.numbers_differ; home_of_each = sound.one_home.home_of_each; owner_of_each = sound.one_owner.owner_of_each }

pub steady_pointers : SteadyEventsLeavePointers
steady_pointers kind steady k e q sound few =
    weaker (Kept k) (λ (d : Cluster × EntryView). (t : ℕ) (w : Lval) → AlikePointers k d.0 t w) (apply k e) (kept kind steady k e q sound few) (λ d a t w. pointers_alike k d.0 (places_in sound) a.0 a.1.0 a.1.1 t w)

-- WHO HAS FOLLOWED ITS PLACE

-- the loose pointers of a thread in that phase, which has followed its place
abbrev lost : Cluster → Standing → Phase → ℕ
lost k x q = if_so (has_followed (sight k) x q) (tot (loose_hop x.server (words_kept x.thread)) (followed (sight k).ground x.thread.number (path (sight k) x)))

-- a phase in which no place is followed
abbrev Resting : Phase → Bool
Resting phase.Ready = true
Resting (phase.WaitJoin u) = true
Resting (phase.WaitPar a b) = true
Resting (phase.GotPar a b) = true
Resting phase.Over = true
Resting q = false

-- they weigh, and so does a gift in another phase
abbrev weigh : Cluster → Standing → Phase → Bool → ℕ
weigh k x q true = one (is_some x.thread.gift)
weigh k x q false = lost k x q

abbrev bare : Standing → Standing
bare x = record { server = x.server; packed = false; thread = x.thread }

abbrev pub weight : Cluster → Standing → ℕ
weight k x = weigh k (bare x) x.thread.phase (Resting x.thread.phase)

-- whether it goes in a parcel makes no difference
lent_bare : (s : Sight) (x : Standing) (p : Path) (w : ℕ) → waits_for_lent s (bare x) p w ≡ waits_for_lent s x p w
lent_bare s x (lends v) w = refl
lent_bare s x p w = refl

has_bare : (s : Sight) (x : Standing) (q : Phase) → has_followed s (bare x) q ≡ has_followed s x q
has_bare s x (phase.WaitCell w) = lent_bare s x (path s x) w
has_bare s x q = refl

lost_bare : (k : Cluster) (x : Standing) (q : Phase) → lost k (bare x) q ≡ lost k x q
lost_bare k x q = ap (λ b. if_so b (tot (loose_hop x.server (words_kept x.thread)) (followed (sight k).ground x.thread.number (path (sight k) x)))) (has_bare (sight k) x q)

-- without a gift a resting thread weighs nothing, and one that got a copy
rest_weighs : (k : Cluster) (x : Standing) (q : Phase) → x.thread.phase ≡ q → Resting q ≡ true → x.thread.gift ≡ None → weight k x ≡ 0
rest_weighs k x q e r g = ap (λ p. weigh k (bare x) x.thread.phase (Resting p)) e ∙ ap (weigh k (bare x) x.thread.phase) r ∙ ap (λ v. one (is_some v)) g

got_weighs : (k : Cluster) (x : Standing) → x.thread.phase ≡ phase.Got → x.thread.gift ≡ None → weight k x ≡ 0
got_weighs k x e g =
    let l = tot (loose_hop x.server (words_kept x.thread)) (followed (sight k).ground x.thread.number (path (sight k) x)) in
    ap (λ p. weigh k (bare x) p (Resting p)) e ∙ ap (λ v. if_so (has_gift_there v (instr_of (sight k) x)) l) g

no_gift : (v : Option Owned) (b : Bool) → b ≡ false → one (is_some v && not b) ≡ 0 → v ≡ None
no_gift None b e z = refl
no_gift (Some v) true e z = absurd (cc e)
no_gift (Some v) false e z = absurd (cc z)

resting_got : (q : Phase) → Resting q ≡ true → is_got q ≡ false
resting_got phase.Ready e = refl
resting_got (phase.WaitJoin u) e = refl
resting_got (phase.WaitPar a b) e = refl
resting_got (phase.GotPar a b) e = refl
resting_got phase.Over e = refl
resting_got q e = absurd (cc e)

-- a print, arithmetic or the end of a pair
abbrev Plainly : Instr → Type 0
Plainly (instr.Print o) = ⊤
Plainly (instr.Arith f a b) = ⊤
Plainly instr.ParEnd = ⊤
Plainly i = ⊥

steady_plain : (i : Instr) → IsSteady (instr_kind i) → Plainly i
steady_plain (instr.Print o) p = tt
steady_plain (instr.Arith f a b) p = tt
steady_plain instr.ParEnd p = tt
steady_plain i p = absurd p

follows_none : (i : Instr) (t : ThreadState) → Plainly i → Follows (access_of i t) → ⊥
follows_none (instr.Print o) t p f = f
follows_none (instr.Arith g a b) t p f = f
follows_none instr.ParEnd t p f = f
follows_none i t p f = absurd p

asks_none : (i : Instr) (q : Phase) → Plainly i → AsksHome i q → ⊥
asks_none (instr.Print o) q p a = a
asks_none (instr.Arith f u v) q p a = a
asks_none instr.ParEnd q p a = a
asks_none i q p a = absurd p

gift_none : (s : Sight) (x : Standing) (i : Instr) → Plainly i → instr_of s x ≡ Some i → (g : Option Owned) → gift_there s x g ≡ 0 → g ≡ None
gift_none s x i p e None z = refl
gift_none s x (instr.Print o) p e (Some v) z = absurd (cc (sym (ap (gift_fits s x v) e) ∙ z))
gift_none s x (instr.Arith f a b) p e (Some v) z = absurd (cc (sym (ap (gift_fits s x v) e) ∙ z))
gift_none s x instr.ParEnd p e (Some v) z = absurd (cc (sym (ap (gift_fits s x v) e) ∙ z))
gift_none s x i p e (Some v) z = absurd p

left_none : (g g2 : Option Owned) → g ≡ None → Left g g2 → g2 ≡ None
left_none g g2 e (inl a) = a ∙ e
left_none g g2 e (inr a) = a

not_asking : (q : Phase) → can_step q ≡ true → IsAsking q → ⊥
not_asking (phase.WaitLock m) e a = absurd (cc e)
not_asking (phase.WaitDup m) e a = absurd (cc e)
not_asking (phase.WaitJoin u) e a = absurd (cc e)
not_asking q e a = a

waits_not : (q : Phase) (w : ℕ) → can_step q ≡ true → q ≡ phase.WaitCell w → ⊥
waits_not q w e f = let z : can_step (phase.WaitCell w) ≡ true = subst (λ p. can_step p ≡ true) f e in absurd (cc z)

cell_got : (q : Phase) (v : ℕ) → waits_for_cell q v ≡ true → is_got q ≡ false
cell_got (phase.WaitCell w) v e = refl
cell_got q v e = absurd (cc e)

ready_is : (q : Phase) → is_ready q ≡ true → q ≡ phase.Ready
ready_is phase.Ready e = refl
ready_is q e = absurd (cc e)

-- the path sees neither phase nor gift
path_gift : (o : Option Instr) (t : ThreadState) (g : Option Owned) (q : Phase) → path_of o (record t { gift = g; phase = q }) ≡ path_of o t
path_gift None t g q = refl
path_gift (Some (instr.Read w true)) t g q = refl
path_gift (Some (instr.Read w false)) t g q = refl
path_gift (Some i) t g q = refl

same_instr : {a b : Instr} → Some a ≡ Some b → a ≡ b
same_instr e = cc

module _ (k : Cluster) (sound : IsSound k) where
  -- before the event
  none_before : tot (weight k) (threads_in (things_of k)) ≡ 0
  none_before = none_all (weight k) (threads_in (things_of k)) (λ x among. each x (early x among) (loose x among) (Resting x.thread.phase) refl)
    where
      early : (x : Standing) → Among x (threads_in (things_of k)) → early_gift x ≡ 0
      early x among = none_at early_gift x (threads_in (things_of k)) sound.requests.gifts_got among

      loose : (x : Standing) → Among x (threads_in (things_of k)) → lost_place (sight k) x ≡ 0
      loose x among = none_at (lost_place (sight k)) x (threads_in (things_of k)) (let law : FollowedLaw = followed_law in law.none_counted (sight k) sound.walks.have_followed) among

      each : (x : Standing) → early_gift x ≡ 0 → lost_place (sight k) x ≡ 0 → (b : Bool) → Resting x.thread.phase ≡ b → weight k x ≡ 0
      each x soon z true e = rest_weighs k x x.thread.phase refl e (no_gift x.thread.gift (is_got x.thread.phase) (resting_got x.thread.phase e) soon)
      each x soon z false e = ap (weigh k (bare x) x.thread.phase) e ∙ lost_bare k x x.thread.phase ∙ z

  module _ (e : Event) (kind : Kind) (steady : IsSteady kind) (s : Server) (at_it : server_at k.servers e.server ≡ Some s) (here : kind_at k e.what s ≡ Some kind) where
    abbrev st : ThreadState → Standing
    st y = record { server = s.rest.number; packed = false; thread = y }

    same_kind : {a b : Kind} → Some a ≡ Some b → b ≡ a
    same_kind e = cc

    no_object : (i t v : ℕ) (c : Cell) → e.what ≡ Deliver i → slice_get s.rest.inbox i ≡ Some (message.Moved v c t) → ⊥
    no_object i t v c is there =
        let at : option_map message_kind (slice_get s.rest.inbox i) ≡ Some kind = sym (ap (λ z. kind_at k z s) is) ∙ here in
        let q : Some moved ≡ Some kind = sym (ap (option_map message_kind) there) ∙ at in
        subst IsSteady (same_kind q) steady

    plain_there : (t : ℕ) (y : ThreadState) (i : Instr) → e.what ≡ Step t → thread_in s.threads t ≡ Some y → slice_get k.code y.pc ≡ Some i → Plainly i
    plain_there t y i is there code =
        let at : then_some (thread_in s.threads t) (λ x. option_map instr_kind (slice_get k.code x.pc)) ≡ Some kind = sym (ap (λ z. kind_at k z s) is) ∙ here in
        let q : Some (instr_kind i) ≡ Some kind = sym (ap (option_map instr_kind) code) ∙ sym (ap (λ o. then_some o (λ x. option_map instr_kind (slice_get k.code x.pc))) there) ∙ at in
        steady_plain i (subst IsSteady (same_kind q) steady)

    listed : (t : ℕ) (y : ThreadState) → thread_in s.threads t ≡ Some y → Among (st y) (threads_in (things_of k))
    listed t y there = (among_thread (sight k).ground.threads t (st y) (thread_there k sound e.server s at_it t y there)).0

    early_there : (t : ℕ) (y : ThreadState) → thread_in s.threads t ≡ Some y → early_gift (st y) ≡ 0
    early_there t y there = none_at early_gift (st y) (threads_in (things_of k)) sound.requests.gifts_got (listed t y there)

    gift_fits_there : (t : ℕ) (y : ThreadState) → thread_in s.threads t ≡ Some y → gift_there (sight k) (st y) y.gift ≡ 0
    gift_fits_there t y there = none_at (λ x. gift_there (sight k) x x.thread.gift) (st y) (threads_in (things_of k)) sound.requests.gifts_fit (listed t y there)

    phase_there : (t : ℕ) (y : ThreadState) → thread_in s.threads t ≡ Some y → stands_wrong (sight k) (st y) y.phase ≡ 0
    phase_there t y there = none_at (λ x. stands_wrong (sight k) x x.thread.phase) (st y) (threads_in (things_of k)) sound.requests.phases_stand (listed t y there)

    -- a step
    steps_so : (y : ThreadState) (i : Instr) → Plainly i → can_step y.phase ≡ true → slice_get k.code y.pc ≡ Some i → y.gift ≡ None → (y2 : ThreadState) → Goes k.code y y2 → weight k (st y2) ≡ 0
    steps_so y i p able code none y2 (on j at o pc q passed walk g same) = rest_weighs k (st y2) phase.Ready q refl (left_none y.gift y2.gift none g)
    steps_so y i p able code none y2 (waits_pair cs pc2 ds other a b at m q passed walk g same) = rest_weighs k (st y2) (phase.WaitPar a b) q refl (left_none y.gift y2.gift none g)
    steps_so y i p able code none y2 (is_over o at pc q passed walk slots temps g same) = rest_weighs k (st y2) phase.Over q refl (left_none y.gift y2.gift none g)
    steps_so y i p able code none y2 (asks_cell j w at f pc q g same) = absurd (follows_none i y p (subst (λ a. Follows (access_of a y)) (same_instr (sym at ∙ code)) f))
    steps_so y i p able code none y2 (asks_home j q at a pc r g passed walk same) = absurd (asks_none i q p (subst (λ b. AsksHome b q) (same_instr (sym at ∙ code)) a))
    steps_so y i p able code none y2 (gets_cell w was q pc g same) = absurd (waits_not y.phase w able was)
    steps_so y i p able code none y2 (gets_gift was q pc passed walk temps parts same) = absurd (not_asking y.phase able was)
    steps_so y i p able code none y2 (goes_pair a b was q pc g passed walk same) = rest_weighs k (st y2) (phase.GotPar a b) q refl (g ∙ none)

    -- a copy leaves the gift
    used_gift : (w : ℕ) (b : Bool) (h : Hand) → Gives (λ (h2 : Hand). h2.thread.gift ≡ h.thread.gift) (used_once w b h)
    used_gift w true h = refl
    used_gift w false h = test_gives (λ (h2 : Hand). h2.thread.gift ≡ h.thread.gift) (can_pin h.work.rest.cache w) _ (λ on. refl)

    filled_gift : (w : ℕ) (c : Cell) (h : Hand) → Gives (λ (h2 : Hand). h2.thread.gift ≡ h.thread.gift) (filled w c h)
    filled_gift w c h = test_gives (λ (h2 : Hand). h2.thread.gift ≡ h.thread.gift) (can_fill h.work.rest.cache w c) _ (λ on. used_gift w (is_in w h.thread.walk) _)

    -- a gift comes to who waits for it
    abbrev loose_of : ThreadState → ℕ
    loose_of y = tot (loose_hop s.rest.number (words_kept y)) (followed (sight k).ground y.number (path (sight k) (st y)))

    nothing : (b : Bool) (m l : ℕ) → m ≡ l → l ≡ 0 → if_so b m ≡ 0
    nothing true m l e z = e ∙ z
    nothing false m l e z = refl

    -- at a join no place is followed
    joins_none : (o : Option Instr) (y : ThreadState) (u : ℕ) (v : Owned) (m : ℕ) → other (is_task u (joined_thread o y)) ≡ 0 → if_so (has_gift_there (Some v) o) m ≡ 0
    joins_none (Some (instr.Lock w)) y u v m z = absurd (cc z)
    joins_none (Some (instr.Dup w)) y u v m z = absurd (cc z)
    joins_none (Some i) y u v m z = refl
    joins_none None y u v m z = refl

    gets_so : (t : ℕ) (y : ThreadState) (v : Owned) → thread_in s.threads t ≡ Some y → weight k (st y) ≡ 0 → IsAsking y.phase → weight k (st (record y { gift = Some v; phase = phase.Got })) ≡ 0
    gets_so t y v there p a = by y.phase a p (phase_there t y there)
      where
        same : loose_of (record y { gift = Some v; phase = phase.Got }) ≡ loose_of y
        same = ap (λ w. tot (loose_hop s.rest.number (words_kept y)) (followed (sight k).ground y.number w)) (path_gift (slice_get k.code y.pc) y (Some v) phase.Got)

        by : (q : Phase) → IsAsking q → weigh k (st y) q (Resting q) ≡ 0 → stands_wrong (sight k) (st y) q ≡ 0 → weight k (st (record y { gift = Some v; phase = phase.Got })) ≡ 0
        by (phase.WaitLock m) a p w = nothing (has_gift_there (Some v) (slice_get k.code y.pc)) (loose_of (record y { gift = Some v; phase = phase.Got })) (loose_of y) same p
        by (phase.WaitDup m) a p w = nothing (has_gift_there (Some v) (slice_get k.code y.pc)) (loose_of (record y { gift = Some v; phase = phase.Got })) (loose_of y) same p
        by (phase.WaitJoin u) a p w = joins_none (slice_get k.code y.pc) y u v (loose_of (record y { gift = Some v; phase = phase.Got })) w
        by q a p w = absurd a

    fates : Fates k.code k.options s e.what (Stood (weight k) s.rest.number) (InParcel (weight k))
    fates = record {
      steps = λ t y i is able there p code.
          weaker (λ (d : Stepped). Goes k.code y d.hand.thread) (λ (d : Stepped). Stood (weight k) s.rest.number d.hand.thread) (step k.options.servers i (record { work = begin_work s.rest; thread = y }))
          (thread_goes k.code k.options.servers i y code s.rest (record { work = begin_work s.rest; thread = y }) refl)
          (λ d g.
          let plain = plain_there t y i is there code in
          steps_so y i plain (subst (λ o. has_phase can_step o ≡ true) there able) code (gift_none (sight k) (st y) i plain code y.gift (gift_fits_there t y there)) d.hand.thread g);
      comes = λ i t v c y is there at p. absurd (no_object i t v c is there);
      copied = λ i t v c y is there at p.
          test_gives (λ (h2 : Hand). Stood (weight k) s.rest.number h2.thread) (waits_for_cell y.phase v) _ (λ z.
          over_gives (λ (h2 : Hand). h2.thread.gift ≡ y.gift) (λ (h2 : Hand). Stood (weight k) s.rest.number h2.thread) (filled v c (record { work = (received i s).work; thread = y })) _ (filled_gift v c (record { work = (received i s).work; thread = y }))
          (λ h2 g. got_weighs k (st (record h2.thread { phase = phase.Got })) refl (g ∙ no_gift y.gift (is_got y.phase) (cell_got y.phase v z) (early_there t y at))));
      given_it = λ t y v at p a. gets_so t y v at p a;
      paired = λ t a b y at p q. rest_weighs k (st (record y { phase = phase.GotPar a b })) (phase.GotPar a b) refl refl (no_gift y.gift (is_got y.phase) (ap is_got q) (early_there t y at));
      arrives = λ t q. q;
      starts = λ t n y i u pc vs at p there d. refl;
      leaves = λ t n y at p r.
          rest_weighs k (record { server = n; packed = true; thread = packed (record y { moved_since_step = true }) }) phase.Ready (ready_is y.phase r) refl
          (no_gift y.gift (is_got y.phase) (ap is_got (ready_is y.phase r)) (early_there t y at));
    }

  weighs_none : (kind : Kind) → IsSteady kind → (e : Event) → IsOfKind kind k e → FewEvents k → Gives (λ (d : Cluster × EntryView). tot (weight k) (threads_in (things_of d.0)) ≡ 0) (apply k e)
  weighs_none kind steady e q few = fated (weight k) k e sound few none_before (λ s at_it. fates e kind steady s at_it (subst (λ o. then_some o (kind_at k e.what) ≡ Some kind) at_it q))

-- AFTERWARDS

resting_follows : (s : Sight) (x : Standing) (q : Phase) → Resting q ≡ true → x.thread.gift ≡ None → has_followed s x q ≡ false
resting_follows s x phase.Ready e g = ap (λ v. has_gift_there v (instr_of s x)) g
resting_follows s x (phase.WaitJoin u) e g = ap (λ v. has_gift_there v (instr_of s x)) g
resting_follows s x (phase.WaitPar a b) e g = ap (λ v. has_gift_there v (instr_of s x)) g
resting_follows s x (phase.GotPar a b) e g = ap (λ v. has_gift_there v (instr_of s x)) g
resting_follows s x phase.Over e g = ap (λ v. has_gift_there v (instr_of s x)) g
resting_follows s x q e g = absurd (cc e)

none_there : (v : Option Owned) → one (is_some v) ≡ 0 → v ≡ None
none_there None e = refl
none_there (Some v) e = absurd (cc e)

module _ (k c : Cluster) (code : c.code ≡ k.code) (options : c.options ≡ k.options) (same : (t : ℕ) (p : Path) → SameOn k c t p) where
  follows_then : (x : Standing) → weight k x ≡ 0 → lost_place (sight c) x ≡ 0
  follows_then x z = by (Resting x.thread.phase) refl
    where
      by : (b : Bool) → Resting x.thread.phase ≡ b → lost_place (sight c) x ≡ 0
      by true e =
          let gift : x.thread.gift ≡ None = none_there x.thread.gift (subst (λ b. weigh k (bare x) x.thread.phase b ≡ 0) e z) in
          ap (λ b. if_so b (tot (loose_hop x.server (words_kept x.thread)) (followed (sight c).ground x.thread.number (path (sight c) x)))) (resting_follows (sight c) x x.thread.phase e gift)
      by false e = lost_same k c x code options (same x.thread.number (path (sight k) x)) ∙ sym (lost_bare k x x.thread.phase) ∙ subst (λ b. weigh k (bare x) x.thread.phase b ≡ 0) e z

  pub all_follow : tot (weight k) (threads_in (things_of c)) ≡ 0 → Holds c place_followed
  all_follow z = none_all (lost_place (sight c)) (threads_in (things_of c)) (λ x among. follows_then x (none_at (weight k) x (threads_in (things_of c)) z among))

pub steady_followed : EachSteadyEventKeeps place_followed
steady_followed kind steady k e q sound few =
    both_give (λ (d : Cluster × EntryView). Kept k d × ((d.0.code ≡ k.code) × (d.0.options ≡ k.options))) (λ (d : Cluster × EntryView). tot (weight k) (threads_in (things_of d.0)) ≡ 0) (λ (d : Cluster × EntryView). Holds d.0 place_followed) (apply k e)
    (both_give (Kept k) (λ (d : Cluster × EntryView). (d.0.code ≡ k.code) × (d.0.options ≡ k.options)) (λ (d : Cluster × EntryView). Kept k d × ((d.0.code ≡ k.code) × (d.0.options ≡ k.options))) (apply k e) (kept kind steady k e q sound few) (same_settings k e) (λ d a b. (a, b)))
    (weighs_none k sound kind steady e q few) (λ d a z. all_follow k d.0 a.1.0 a.1.1 (on_paths k d.0 (places_in sound) a.0.0 a.0.1.0 a.0.1.1) z)
