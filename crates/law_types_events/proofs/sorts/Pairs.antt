-- A pair that starts: what its branches capture is seen in the slots of their parent, which waits for both and keeps what it refers to.
use Rattle.std.proofs.Common.{◌≡◌, ℕ, zero, suc, ◌+◌, ◌*◌, ◌^◌, ◌==◌, ◌&&◌, Bool, true, false, if◌then◌else◌, List, [], ◌∷◌, ◌++◌, Option, Some, None, refl, sym, ap, ap₂, subst, ◌∙◌, arith}
use Rattle.std.specs.Bool.{⊤}
use Rattle.std.specs.Prelude.{slice_get, slice_set, option_map}
use Rattle.std.specs.List.{AllByRecursion}
use Rattle.std.proofs.lemmas.Bool.{eq-eqb}
use Rattle.law_types_still.specs.Below.fr_base.Rooms.{WithRoom}
use Rattle.law_types_still.specs.Below.fr_base.declared.name.ObjNo.{ObjNo}
use Rattle.law_types_still.specs.Below.fr_base.declared.step.Fresh.{Fresh}
use Rattle.law_types_still.specs.Below.fr_base.declared.instruction.Instr.TheVariants as instr
use Rattle.law_types_still.specs.Below.heap_partition.declared.value.Owned.{Owned}
use Rattle.law_types_still.specs.Below.heap_partition.declared.value.Owned.TheVariants as owned
use Rattle.law_types_still.specs.Below.join_home.Tasks.{can_begin_pair}
use Rattle.law_types_still.specs.Below.migration.Packing.{unpin_all}
use Rattle.law_types_still.specs.Below.mut_borrow.declared.shared.SharedRef.{SharedRef}
use Rattle.law_types_still.specs.Below.read_cache.Cache.{Copy}
use Rattle.law_types_still.specs.Below.thread_state.View.{ThreadState, new_thread}
use Rattle.law_types_still.specs.Below.thread_state.declared.phase.Phase.{Phase}
use Rattle.law_types_still.specs.Below.thread_state.declared.phase.Phase.TheVariants as phase
use Rattle.law_types_still.specs.Below.thread_state.declared.value.Value.{Value}
use Rattle.law_types_still.specs.Below.thread_state.declared.value.Value.TheVariants as value
use Rattle.law_types_still.specs.Below.server_msgs.declared.message.Message.{Message}
use Rattle.law_types_still.specs.Below.server_msgs.declared.message.Message.TheVariants as message
use Rattle.law_types_still.specs.Below.server_model.Servers.{Sent, Rest}
use Rattle.law_types_still.specs.Below.server_model.Work.{Work, Hand, with_cache, sent_from}
use Rattle.law_types_still.specs.Below.server_model.Places.{owns_nothing, second_of}
use Rattle.law_types_still.specs.Below.server_model.Start.{next_thread, server_for, start_thread, captured, left_after, capture_from, capture}
use Rattle.law_types_still.specs.Below.server_model.Commit.{Committed, done, waits, refused, done_where, pair_begun, par}
use Rattle.law_types_still.specs.Below.server_model.Events.{Stepped, done_step, committed, step, begin_work}
use Rattle.law_types_still.specs.Below.coherent_memory.Names.{one, some, same_object}
use Rattle.law_types_still.specs.Below.coherent_types.ClusterTypes.{refers_to}
use Rattle.law_types_still.specs.Below.law_counts_sums.Laws.{Gives}
use Rattle.law_types_still.proofs.Below.law_counts_sums.Results.{then_gives, over_gives, bind_gives, test_gives, weaker, both_give}
use Rattle.law_types_still.proofs.Below.law_counts_sums.Known.{all_append}
use Rattle.law_types_still.proofs.Below.law_counts_things.things.Mail.{Mailed, mail_sent}
use Rattle.law_types_events.proofs.sorts.Parts.{look_of, seen_look}
use Rattle.law_types_events.proofs.sorts.Starts.{is_light}
use Rattle.law_types_events.proofs.sorts.Steps.{IsDone}

some_value : {a b : Value} → Some a ≡ Some b → a ≡ b
some_value e = cc

-- WHAT SLOTS REFER TO

same_self : (o : ObjNo) → same_object o o ≡ true
same_self o = ap (λ b. b && (o.count == o.count)) (eq-eqb o.thread o.thread refl) ∙ eq-eqb o.count o.count refl

cons_same : (o : ObjNo) (x : Value) (us vs : List Value) → refers_to o us ≡ refers_to o vs → refers_to o (x ∷ us) ≡ refers_to o (x ∷ vs)
cons_same o (value.Shared r) us vs e = ap (λ n. one (same_object r.object o) + n) e
cons_same o value.Gone us vs e = e
cons_same o (value.Own w) us vs e = e
cons_same o (value.SharedSlot i) us vs e = e
cons_same o (value.MutSlot i) us vs e = e
cons_same o (value.Mut r) us vs e = e
cons_same o (value.Held m) us vs e = e

-- an owned value goes
refers_gone : (o : ObjNo) (vs : List Value) (i : ℕ) (w : Owned) → slice_get vs i ≡ Some (value.Own w) → refers_to o (slice_set vs i value.Gone) ≡ refers_to o vs
refers_gone o [] i w e = absurd cc
refers_gone o (x ∷ vs) zero w e = subst (λ z. refers_to o vs ≡ refers_to o (z ∷ vs)) (sym (some_value e)) refl
refers_gone o (x ∷ vs) (suc i) w e = cons_same o x (slice_set vs i value.Gone) vs (refers_gone o vs i w e)

some_more : (o : ObjNo) (x : Value) (vs : List Value) → some (refers_to o vs) ≡ true → some (refers_to o (x ∷ vs)) ≡ true
some_more o (value.Shared r) vs e = by (same_object r.object o) (refers_to o vs) e
  where
    by : (b : Bool) (n : ℕ) → some n ≡ true → some (one b + n) ≡ true
    by b zero h = absurd cc
    by true (suc n) h = subst (λ m. some m ≡ true) (let z : suc (suc n) ≡ 1 + suc n = omega arith in z) refl
    by false (suc n) h = subst (λ m. some m ≡ true) (let z : suc n ≡ 0 + suc n = omega arith in z) refl
some_more o value.Gone vs e = e
some_more o (value.Own w) vs e = e
some_more o (value.SharedSlot i) vs e = e
some_more o (value.MutSlot i) vs e = e
some_more o (value.Mut r) vs e = e
some_more o (value.Held m) vs e = e

-- what stands there is referred to
pub refers_there : (vs : List Value) (j : ℕ) (r : SharedRef) → slice_get vs j ≡ Some (value.Shared r) → some (refers_to r.object vs) ≡ true
refers_there [] j r e = absurd cc
refers_there (x ∷ vs) zero r e = subst (λ z. some (refers_to r.object (z ∷ vs)) ≡ true) (sym (some_value e)) (by (same_object r.object r.object) (same_self r.object) (refers_to r.object vs))
  where
    by : (b : Bool) → b ≡ true → (n : ℕ) → some (one b + n) ≡ true
    by true h n = subst (λ m. some m ≡ true) (let z : suc n ≡ 1 + n = omega arith in z) refl
    by false h n = absurd cc
refers_there (x ∷ vs) (suc j) r e = some_more r.object x vs (refers_there vs j r e)

-- CAPTURES

-- what is moved is owned
moved_owned : (branch : Bool) (v u : Value) → captured branch true v ≡ Some u → (w : Owned) × (v ≡ value.Own w)
moved_owned branch (value.Own w) u e = (w, refl)
moved_owned branch value.Gone u e = absurd cc
moved_owned branch (value.SharedSlot i) u e = absurd cc
moved_owned branch (value.MutSlot i) u e = absurd cc
moved_owned branch (value.Shared r) u e = absurd cc
moved_owned branch (value.Mut r) u e = absurd cc
moved_owned branch (value.Held m) u e = absurd cc

left_same : (branch b : Bool) (slots : List Value) (i : ℕ) (v u : Value) → slice_get slots i ≡ Some v → captured branch b v ≡ Some u → (o : ObjNo) → refers_to o (left_after b slots i) ≡ refers_to o slots
left_same branch true slots i v u q e o = let w = moved_owned branch v u e in refers_gone o slots i w.0 (q ∙ ap Some w.1)
left_same branch false slots i v u q e o = refl

module _ (sees : ObjNo → Bool) where
  -- what slots refer to is seen
  abbrev pub SeenIn : List Value → Type 0
  SeenIn vs = (o : ObjNo) → some (refers_to o vs) ≡ true → sees o ≡ true

  abbrev pub LightBy : Value → Type 0
  LightBy v = is_light (look_of sees v) ≡ true

  own_light : (w : Owned) → LightBy (value.Own w)
  own_light owned.Nothing = refl
  own_light owned.Unit = refl
  own_light (owned.Int i) = refl
  own_light (owned.Box b) = refl
  own_light (owned.Mutex m) = refl
  own_light (owned.Task t) = refl

  second_light : (w : Owned) (u : Value) → second_of (value.Own w) ≡ Some u → LightBy u
  second_light w u e = by (owns_nothing w) e
    where
      by : (b : Bool) → (if b then Some (value.Own w) else None) ≡ Some u → LightBy u
      by true f = subst LightBy (some_value f) (own_light w)
      by false f = absurd cc

  seen_light : (b : Bool) → b ≡ true → is_light (seen_look b) ≡ true
  seen_light true e = refl
  seen_light false e = absurd cc

  captured_light : (branch moves : Bool) (v u : Value) → ((r : SharedRef) → v ≡ value.Shared r → sees r.object ≡ true) → captured branch moves v ≡ Some u → LightBy u
  captured_light branch true (value.Own v) u seen e = subst LightBy (some_value e) (own_light v)
  captured_light branch false (value.Own v) u seen e = second_light v u e
  captured_light true false (value.Shared r) u seen e = subst LightBy (some_value e) (seen_light (sees r.object) (seen r refl))
  captured_light false false (value.Shared r) u seen e = absurd cc
  captured_light branch true (value.Shared r) u seen e = absurd cc
  captured_light branch true value.Gone u seen e = absurd cc
  captured_light branch true (value.SharedSlot i) u seen e = absurd cc
  captured_light branch true (value.MutSlot i) u seen e = absurd cc
  captured_light branch true (value.Mut r) u seen e = absurd cc
  captured_light branch true (value.Held m) u seen e = absurd cc
  captured_light branch false value.Gone u seen e = absurd cc
  captured_light branch false (value.SharedSlot i) u seen e = absurd cc
  captured_light branch false (value.MutSlot i) u seen e = absurd cc
  captured_light branch false (value.Mut r) u seen e = absurd cc
  captured_light branch false (value.Held m) u seen e = absurd cc

  -- what is captured is seen, where what slots refer to is
  captures_seen : (branch : Bool) (cs : List (ℕ × Bool)) (new slots : List Value) → SeenIn slots → AllByRecursion LightBy new → Gives (λ (p : List Value × List Value). AllByRecursion LightBy p.0) (capture_from branch new cs slots)
  captures_seen branch [] new slots seen a = a
  captures_seen branch (x ∷ cs) new slots seen a =
      then_gives (λ (p : List Value × List Value). AllByRecursion LightBy p.0) (slice_get slots x.0) _ (λ v q. then_gives (λ (p : List Value × List Value). AllByRecursion LightBy p.0) (captured branch x.1 v) _ (λ u e.
      captures_seen branch cs (new ++ u ∷ []) (left_after x.1 slots x.0) (λ o h. seen o (sym (ap some (left_same branch x.1 slots x.0 v u q e o)) ∙ h))
      (all_append LightBy new (u ∷ []) a (captured_light branch x.1 v u (λ r f. seen r.object (refers_there slots x.0 r (q ∙ ap Some f))) e, tt))))

-- captures leave what slots refer to
captures_keep : (branch : Bool) (cs : List (ℕ × Bool)) (new slots : List Value) → Gives (λ (p : List Value × List Value). (o : ObjNo) → refers_to o p.1 ≡ refers_to o slots) (capture_from branch new cs slots)
captures_keep branch [] new slots = λ o. refl
captures_keep branch (x ∷ cs) new slots =
    then_gives (λ (p : List Value × List Value). (o : ObjNo) → refers_to o p.1 ≡ refers_to o slots) (slice_get slots x.0) _ (λ v q. then_gives (λ (p : List Value × List Value). (o : ObjNo) → refers_to o p.1 ≡ refers_to o slots) (captured branch x.1 v) _ (λ u e.
    weaker (λ (p : List Value × List Value). (o : ObjNo) → refers_to o p.1 ≡ refers_to o (left_after x.1 slots x.0)) (λ (p : List Value × List Value). (o : ObjNo) → refers_to o p.1 ≡ refers_to o slots) (capture_from branch (new ++ u ∷ []) cs (left_after x.1 slots x.0))
    (captures_keep branch cs (new ++ u ∷ []) (left_after x.1 slots x.0)) (λ p g o. g o ∙ left_same branch x.1 slots x.0 v u q e o)))

-- THE STEP

module _ (servers : ℕ) (r0 : Rest) (y : ThreadState) (cs ds : WithRoom (ℕ × Bool)) (pc other : ℕ) where
  abbrev pub h0 : Hand
  h0 = record { work = begin_work r0; thread = y }

  abbrev nt : ℕ
  nt = next_thread r0

  abbrev Two : List Value × List Value → Type 0
  Two p = (o : ObjNo) → refers_to o p.1 ≡ refers_to o y.slots

  -- the parent waits for both, and refers to what it did
  pub record Waits (p : Phase) (slots : List Value) : Type 0 where
    pub waiting : p ≡ phase.WaitPar nt (nt + 1)
    pub refers : (o : ObjNo) → refers_to o slots ≡ refers_to o y.slots

  abbrev Holds : Committed → Type 0
  Holds (done names h) = Waits h.thread.phase h.thread.slots
  Holds c = ⊤

  done_holds : (names : Fresh) (o : Option Hand) → Gives (λ (h : Hand). Waits h.thread.phase h.thread.slots) o → Holds (done_where names o)
  done_holds names None g = tt
  done_holds names (Some h) g = g

  settles : (c : Committed) → Holds c → Gives (λ (d : Stepped). IsDone d.names → Waits d.hand.thread.phase d.hand.thread.slots) (committed c)
  settles (done names h) g = by (unpin_all h.thread.walk h.work.rest.cache)
    where
      by : (o : Option (List Copy)) → Gives (λ (d : Stepped). IsDone d.names → Waits d.hand.thread.phase d.hand.thread.slots) (option_map (done_step names) (option_map (λ cs. record { work = with_cache cs h.work; thread = record h.thread { passed = 0; walk = []; moved_since_step = false } }) o))
      by None = tt
      by (Some cs) = λ d. g
  settles (waits h) g = λ d. absurd (d refl)
  settles refused g = tt

  pub pair_waits : Gives (λ (d : Stepped). IsDone d.names → Waits d.hand.thread.phase d.hand.thread.slots) (step servers (instr.Par cs pc ds other) h0)
  pair_waits =
      settles (par servers cs pc ds other h0) (done_holds _ _
      (bind_gives Two (λ (h : Hand). Waits h.thread.phase h.thread.slots) (capture true cs.items y.slots) _ (captures_keep true cs.items [] y.slots) (λ a g.
      bind_gives (λ (p : List Value × List Value). (o : ObjNo) → refers_to o p.1 ≡ refers_to o a.1) (λ (h : Hand). Waits h.thread.phase h.thread.slots) (capture true ds.items a.1) _ (captures_keep true ds.items [] a.1) (λ b f.
      over_gives (λ (h2 : Hand). ⊤) (λ (h : Hand). Waits h.thread.phase h.thread.slots) (pair_begun h0 nt (nt + 1)) _ (test_gives (λ (h2 : Hand). ⊤) (can_begin_pair r0.tasks y.number nt (nt + 1)) _ (λ z. tt))
      (λ h2 u. record { waiting = refl; refers = λ o. f o ∙ g o })))))

  -- MESSAGES

  module _ (M : ℕ → Message → Type 0) (n : ℕ) (old : List Sent) (mail : Mailed M n old r0) (S : ℕ → ObjNo → Bool) (seen1 : SeenIn (S nt) y.slots) (seen2 : SeenIn (S (nt + 1)) y.slots)
      (starts1 : (t : ℕ) (vs : List Value) → AllByRecursion (LightBy (S nt)) vs → M t (message.Start (new_thread nt pc vs))) (starts2 : (t : ℕ) (vs : List Value) → AllByRecursion (LightBy (S (nt + 1))) vs → M t (message.Start (new_thread (nt + 1) other vs))) where
    abbrev Posted : Hand → Type 0
    Posted h = Mailed M n old h.work.rest

    abbrev Sent_all : Committed → Type 0
    Sent_all (done names h) = Posted h
    Sent_all (waits h) = Posted h
    Sent_all refused = ⊤

    done_sends : (names : Fresh) (o : Option Hand) → Gives Posted o → Sent_all (done_where names o)
    done_sends names None g = tt
    done_sends names (Some h) g = g

    sends : (c : Committed) → Sent_all c → Gives (λ (d : Stepped). Posted d.hand) (committed c)
    sends (done names h) g = by (unpin_all h.thread.walk h.work.rest.cache)
      where
        by : (o : Option (List Copy)) → Gives (λ (d : Stepped). Posted d.hand) (option_map (done_step names) (option_map (λ cs. record { work = with_cache cs h.work; thread = record h.thread { passed = 0; walk = []; moved_since_step = false } }) o))
        by None = tt
        by (Some cs) = g
    sends (waits h) g = g
    sends refused g = tt

    sent_number : (r : Rest) (t : ℕ) (m : Message) → ((sent_from r t m).number ≡ r.number) × ((sent_from r t m).started ≡ r.started)
    sent_number r t m = by (t == r.number)
      where
        by : (b : Bool) → ((if b then record r { inbox = r.inbox ++ m ∷ [] } else record r { outbox = r.outbox ++ record { target = t; message = m } ∷ [] }).number ≡ r.number) × ((if b then record r { inbox = r.inbox ++ m ∷ [] } else record r { outbox = r.outbox ++ record { target = t; message = m } ∷ [] }).started ≡ r.started)
        by true = (refl, refl)
        by false = (refl, refl)

    -- both start
    both_start : (w : Work) → w.rest.number ≡ r0.number → w.rest.started ≡ r0.started → Mailed M n old w.rest → (vs us : List Value) → AllByRecursion (LightBy (S nt)) vs → AllByRecursion (LightBy (S (nt + 1))) us
        → Mailed M n old (start_thread servers other us (start_thread servers pc vs w)).rest
    both_start w number started g vs us a b =
        let m1 : Message = message.Start (new_thread (next_thread w.rest) pc vs) in
        let r1 : Rest = record w.rest { started = w.rest.started + 1 } in
        let t1 = server_for servers w.rest in
        let first_number : next_thread w.rest ≡ nt = ap₂ (λ a b. a * 2 ^ 32 + (b + 1)) number started in
        let one_sent : Mailed M n old (sent_from r1 t1 m1) = mail_sent M n old r1 t1 m1 (subst (λ i. M t1 (message.Start (new_thread i pc vs))) (sym first_number) (starts1 t1 vs a)) g in
        let w1 = start_thread servers pc vs w in
        let s1 = sent_number r1 t1 m1 in
        let second_number : next_thread w1.rest ≡ nt + 1 = (let x : w1.rest.number ≡ r0.number = s1.0 ∙ number in let z : w1.rest.started ≡ r0.started + 1 = s1.1 ∙ ap (λ i. i + 1) started in (let q : next_thread w1.rest ≡ r0.number * 2 ^ 32 + (r0.started + 1 + 1) = ap₂ (λ a b. a * 2 ^ 32 + (b + 1)) x z in omega (arith, q))) in
        let m2 : Message = message.Start (new_thread (next_thread w1.rest) other us) in
        let t2 = server_for servers w1.rest in
        mail_sent M n old (record w1.rest { started = w1.rest.started + 1 }) t2 m2 (subst (λ i. M t2 (message.Start (new_thread i other us))) (sym second_number) (starts2 t2 us b)) one_sent

    pub pair_posts : Gives (λ (d : Stepped). Posted d.hand) (step servers (instr.Par cs pc ds other) h0)
    pair_posts =
        sends (par servers cs pc ds other h0) (done_sends _ _
        (bind_gives (λ (p : List Value × List Value). AllByRecursion (LightBy (S nt)) p.0 × Two p) Posted (capture true cs.items y.slots) _
        (both_give (λ (p : List Value × List Value). AllByRecursion (LightBy (S nt)) p.0) Two (λ (p : List Value × List Value). AllByRecursion (LightBy (S nt)) p.0 × Two p) (capture true cs.items y.slots) (captures_seen (S nt) true cs.items [] y.slots seen1 tt) (captures_keep true cs.items [] y.slots) (λ p a b. (a, b)))
        (λ a g.
        bind_gives (λ (p : List Value × List Value). AllByRecursion (LightBy (S (nt + 1))) p.0) Posted (capture true ds.items a.1) _ (captures_seen (S (nt + 1)) true ds.items [] a.1 (λ o h. seen2 o (sym (ap some (g.1 o)) ∙ h)) tt) (λ b f.
        over_gives (λ (h2 : Hand). (h2.work.rest.number ≡ r0.number) × (h2.work.rest.started ≡ r0.started) × Mailed M n old h2.work.rest) Posted (pair_begun h0 nt (nt + 1)) _
        (test_gives (λ (h2 : Hand). (h2.work.rest.number ≡ r0.number) × (h2.work.rest.started ≡ r0.started) × Mailed M n old h2.work.rest) (can_begin_pair r0.tasks y.number nt (nt + 1)) _ (λ z. (refl, refl, mail)))
        (λ h2 u. both_start h2.work u.0 u.1 u.2 a.0 b.0 g.0 f)))))
