-- A parcel's references keep nothing in use, whatever event is done: what starts has captured its slots, and what leaves is packed.
use Rattle.std.proofs.Common.{◌≡◌, ℕ, ◌+◌, Bool, true, false, List, [], ◌∷◌, ◌++◌, Option, Some, None, refl, subst, arith}
use Rattle.std.specs.Prelude.{slice_get, map}
use Rattle.law_counts_limits.specs.Below.heap_partition.declared.value.Owned.{Owned}
use Rattle.law_counts_limits.specs.Below.migration.Packing.{unpinned}
use Rattle.law_counts_limits.specs.Below.thread_state.View.{is_pinned}
use Rattle.law_counts_limits.specs.Below.thread_state.declared.value.Value.{Value}
use Rattle.law_counts_limits.specs.Below.thread_state.declared.value.Value.TheVariants as value
use Rattle.law_counts_limits.specs.Below.journal.View.{EntryView}
use Rattle.law_counts_limits.specs.Below.server_model.declared.event.Event.{Event}
use Rattle.law_counts_limits.specs.Below.server_model.Servers.{Cluster}
use Rattle.law_counts_limits.specs.Below.server_model.Places.{owns_nothing, second_of}
use Rattle.law_counts_limits.specs.Below.server_model.Objects.{deliver_fetched, deliver_moved}
use Rattle.law_counts_limits.specs.Below.server_model.Start.{captured, left_after, capture_from}
use Rattle.law_counts_limits.specs.Below.server_model.Events.{step}
use Rattle.law_counts_limits.specs.Below.server_model.Clusters.{apply}
use Rattle.law_counts_limits.specs.Below.coherent_memory.Names.{tot, one}
use Rattle.law_counts_limits.specs.Below.coherent_memory.Things.{things_of}
use Rattle.law_counts_limits.specs.Below.coherent_memory.Follow.{threads_in}
use Rattle.law_counts_limits.specs.Below.coherent_memory.Sight.{sight}
use Rattle.law_counts_limits.specs.Below.coherent_memory.Walking.{sum_threads}
use Rattle.law_counts_limits.specs.Below.coherent_memory.Naming.{pins, servers_wrong, pinned_parcel}
use Rattle.law_counts_limits.specs.Below.coherent_memory.Coherent.{IsSound}
use Rattle.law_counts_limits.proofs.Below.coherent_memory.Sums.{tot-append}
use Rattle.law_counts_limits.specs.Below.law_counts_sums.Laws.{Gives, FewEvents}
use Rattle.law_counts_limits.proofs.Below.law_counts_sums.Results.{then_gives}
use Rattle.law_counts_limits.proofs.Below.law_counts_things.things.Mail.{AreCaptured}
use Rattle.law_counts_limits.proofs.bounds.Turns.{ThreadsTurn, threads_turn}

-- WHAT IS CAPTURED

abbrev Free : Value → Type 0
Free v = one (is_pinned v) ≡ 0

some_same : {X : Type 0} {a b : X} → Some a ≡ Some b → a ≡ b
some_same e = cc

-- an owned value pins nothing
owned_free : (v : Owned) (b : Bool) (u : Value) → (Rattle.std.specs.Prelude.if◌then◌else◌ b (Some (value.Own v)) None) ≡ Some u → Free u
owned_free v true u e = subst Free (some_same e) refl
owned_free v false u e = absurd (cc e)

-- nor does a second value
second_free : (v u : Value) → second_of v ≡ Some u → Free u
second_free (value.Own v) u e = owned_free v (owns_nothing v) u e
second_free (value.SharedSlot i) u e = subst Free (some_same e) refl
second_free (value.Shared r) u e = subst Free (some_same e) refl
second_free value.Gone u e = absurd (cc e)
second_free (value.MutSlot i) u e = absurd (cc e)
second_free (value.Mut r) u e = absurd (cc e)
second_free (value.Held m) u e = absurd (cc e)

-- nor what is captured
captured_free : (branch moves : Bool) (v u : Value) → captured branch moves v ≡ Some u → Free u
captured_free branch true (value.Own v) u e = subst Free (some_same e) refl
captured_free branch false (value.Own v) u e = second_free (value.Own v) u e
captured_free true false (value.Shared r) u e = second_free (value.Shared r) u e
captured_free true true (value.Shared r) u e = absurd (cc e)
captured_free false true (value.Shared r) u e = absurd (cc e)
captured_free false false (value.Shared r) u e = absurd (cc e)
captured_free true true value.Gone u e = absurd (cc e)
captured_free true false value.Gone u e = absurd (cc e)
captured_free false true value.Gone u e = absurd (cc e)
captured_free false false value.Gone u e = absurd (cc e)
captured_free true true (value.SharedSlot i) u e = absurd (cc e)
captured_free true false (value.SharedSlot i) u e = absurd (cc e)
captured_free false true (value.SharedSlot i) u e = absurd (cc e)
captured_free false false (value.SharedSlot i) u e = absurd (cc e)
captured_free true true (value.MutSlot i) u e = absurd (cc e)
captured_free true false (value.MutSlot i) u e = absurd (cc e)
captured_free false true (value.MutSlot i) u e = absurd (cc e)
captured_free false false (value.MutSlot i) u e = absurd (cc e)
captured_free true true (value.Mut r) u e = absurd (cc e)
captured_free true false (value.Mut r) u e = absurd (cc e)
captured_free false true (value.Mut r) u e = absurd (cc e)
captured_free false false (value.Mut r) u e = absurd (cc e)
captured_free true true (value.Held m) u e = absurd (cc e)
captured_free true false (value.Held m) u e = absurd (cc e)
captured_free false true (value.Held m) u e = absurd (cc e)
captured_free false false (value.Held m) u e = absurd (cc e)

abbrev NoPins : List Value × List Value → Type 0
NoPins p = pins p.0 ≡ 0

-- so captures pin nothing, one by one
captures_free : (branch : Bool) (new : List Value) (cs : List (ℕ × Bool)) (slots : List Value) → pins new ≡ 0 → Gives NoPins (capture_from branch new cs slots)
captures_free branch new [] slots z = z
captures_free branch new (c ∷ cs) slots z =
    then_gives NoPins (slice_get slots c.0) _ (λ v q. then_gives NoPins (captured branch c.1 v) _ (λ u e.
    captures_free branch (new ++ u ∷ []) cs (left_after c.1 slots c.0) (omega (arith, z, tot-append (λ (x : Value). one (is_pinned x)) new (u ∷ []), captured_free branch c.1 v u e))))

-- all captured values
pub are_captured_free : (vs : List Value) → AreCaptured vs → pins vs ≡ 0
are_captured_free vs c = by (capture_from c.0 [] c.1 c.2) (captures_free c.0 [] c.1 c.2 refl) c.4
  where
    by : (o : Option (List Value × List Value)) → Gives NoPins o → o ≡ Some (vs, c.3) → pins vs ≡ 0
    by None g e = absurd (cc e)
    by (Some p) g e = let same : p ≡ (vs, c.3) = some_same e in subst NoPins same g

-- WHAT IS PACKED

-- what is unpinned pins nothing
unpinned_free : (v : Value) → Free (unpinned v)
unpinned_free (value.Shared r) = refl
unpinned_free value.Gone = refl
unpinned_free (value.Own v) = refl
unpinned_free (value.SharedSlot i) = refl
unpinned_free (value.MutSlot i) = refl
unpinned_free (value.Mut r) = refl
unpinned_free (value.Held m) = refl

-- nor all values of a packed thread
packed_free : (vs : List Value) → pins (map unpinned vs) ≡ 0
packed_free [] = refl
packed_free (v ∷ vs) = omega (arith, unpinned_free v, packed_free vs)

-- IN A CLUSTER

-- what holds of everything holds of a result
all_give : {X : Type 0} (P : X → Type 0) (o : Option X) → ((x : X) → P x) → Gives P o
all_give P None f = tt
all_give P (Some x) f = f x

-- each event leaves parcels without pins
pins_keep : ThreadsTurn IsSound (λ code. pinned_parcel)
pins_keep = record {
  before = λ k sound.
      let parts : servers_wrong (sight k) 0 k.servers + sum_threads (sight k) pinned_parcel ≡ 0 = sound.parts.parts_are_typed in
      let none : sum_threads (sight k) pinned_parcel ≡ 0 = omega (arith, parts) in
      none;
  turns = λ k number s sound few here. record {
    steps = λ t y i there p at h e. all_give _ (step k.options.servers i h) (λ d. refl);
    comes = λ t y there p v c h e. all_give _ (deliver_moved k.code v c h) (λ d. refl);
    copied = λ t y there p v c h e. all_give _ (deliver_fetched v c h) (λ d. refl);
    answered = λ t y g r there p e. refl;
    arrives = λ t q. refl;
    starts = λ t n y i u pc vs there p at e c. omega (arith, are_captured_free vs c);
    leaves = λ t n y there p r. omega (arith, packed_free y.slots, packed_free y.temps);
  };
}

pub pins_kept : (k : Cluster) (e : Event) → IsSound k → FewEvents k → Gives (λ (d : Cluster × EntryView). tot pinned_parcel (threads_in (things_of d.0)) ≡ 0) (apply k e)
pins_kept k e sound few = threads_turn IsSound (λ k sound. sound) (λ code. pinned_parcel) pins_keep k e sound few
