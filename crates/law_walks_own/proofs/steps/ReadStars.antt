-- One star of a read: what it asks for, and of what it is ready.
use Rattle.std.proofs.Common.{◌≡◌, ℕ, zero, suc, ◌+◌, ◌<◌, ◌≤◌, ◌==◌, ◌&&◌, ◌||◌, not, nat_lt, Bool, true, false, if◌then◌else◌, List, [], ◌∷◌, ◌++◌, length, Option, Some, None, refl, sym, ap, subst, ◌∙◌, arith}
use Rattle.std.specs.Prelude.{slice_get, slice_set}
use Rattle.std.specs.Bool.{⊤}
use Rattle.std.proofs.lemmas.Option.{slice_get_within}
use Rattle.std.proofs.lemmas.Bool.Decides.{nat_tests}
use Rattle.law_walks_others.specs.Below.fr_base.Lists.{is_in}
use Rattle.law_walks_others.proofs.Below.fr_typing.PlaceLemmas.{eq_cases}
use Rattle.law_walks_others.specs.Below.global_addr.Words.{colour_of, server_of, next_word}
use Rattle.law_walks_others.specs.Below.heap_partition.declared.value.BoxPtr.{BoxPtr}
use Rattle.law_walks_others.specs.Below.heap_partition.declared.value.Owned.{Owned}
use Rattle.law_walks_others.specs.Below.heap_partition.declared.value.Owned.TheVariants as owned
use Rattle.law_walks_others.specs.Below.journal.declared.act.Act.TheVariants as act
use Rattle.law_walks_others.specs.Below.migration.Packing.{pinned_word, pinned_words, used_words}
use Rattle.law_walks_others.specs.Below.mut_borrow.Refs.{cleaned_answer}
use Rattle.law_walks_others.specs.Below.mut_borrow.declared.mutable.Cleaned.TheVariants as cleaned
use Rattle.law_walks_others.specs.Below.mut_borrow.declared.mutable.MutRef.{MutRef}
use Rattle.law_walks_others.specs.Below.mut_borrow.declared.shared.SharedRef.{SharedRef}
use Rattle.law_walks_others.specs.Below.place_walk.declared.hop.Hop.{Hop}
use Rattle.law_walks_others.specs.Below.place_walk.declared.hop.Hop.TheVariants as jump
use Rattle.law_walks_others.specs.Below.place_walk.Hops.{by_copy, clean_hop, dirty_hop, read_hop}
use Rattle.law_walks_others.specs.Below.read_cache.Cache.{Copy, is_cached, can_pin, pin}
use Rattle.law_walks_others.specs.Below.thread_state.View.{ThreadState}
use Rattle.law_walks_others.specs.Below.thread_state.declared.value.Value.{Value}
use Rattle.law_walks_others.specs.Below.thread_state.declared.value.Value.TheVariants as value
use Rattle.law_walks_others.specs.Below.server_model.Work.{Hand, note, with_cache, with_slots, working, then_some, used_once, use_word}
use Rattle.law_walks_others.specs.Below.server_model.NewWords.{issue_tint}
use Rattle.law_walks_others.specs.Below.server_model.Places.{Spot, in_slot, on_top, in_cell, in_copy, nowhere, value_at, load_at, pointer_of, with_word, took, put_at, put_word}
use Rattle.law_walks_others.specs.Below.server_model.Prepare.{Prepared, ready, requested, nothing, and_then, ready_at, ask_copy, ask_object, request_by, box_of, cleaned_by, clean_value, pinned_once, use_copy, hopped, local, hit_by, read_by, read_value, read_clean, tinted_first, read_star}
use Rattle.law_walks_others.specs.Below.coherent_memory.Names.{one, other}
use Rattle.law_walks_others.specs.Below.coherent_memory.Paths.{is_at_hand}
use Rattle.law_walks_others.specs.Below.coherent_memory.Walking.{loose_hop}
use Rattle.law_walks_others.proofs.Below.law_results_reads.Usable.{times, times_append}
use Rattle.law_walks_others.proofs.Below.law_results_reads.Reading.{parts, pinned_set}

-- noting a load changes no value
loaded : (h : Hand) (s : Spot) → value_at (load_at s h) s ≡ value_at h s
loaded h (in_slot j) = refl
loaded h on_top = refl
loaded h (in_cell w q) = refl
loaded h (in_copy w) = refl
loaded h nowhere = refl

abbrev Tint : Option Hop → Type 0
Tint (Some (jump.NeedTint w)) = ⊤
Tint o = ⊥

abbrev go_on : Hand → Spot → Prepared
go_on h s = read_value s (value_at h s) h

module _ (h : Hand) (s : Spot) where
  abbrev h1 : Hand
  h1 = load_at s h

  abbrev N : ℕ
  N = h.work.rest.number

  abbrev C : List Copy
  C = h.work.rest.cache

  as_it_is : (v : Value) (o : Option Hop) → (Tint o → ⊥) → read_clean s v o h1 ≡ ready h1 s
  as_it_is v None f = refl
  as_it_is v (Some (jump.Slot i)) f = refl
  as_it_is v (Some (jump.Direct w)) f = refl
  as_it_is v (Some (jump.Hit w)) f = refl
  as_it_is v (Some (jump.NeedCopy w)) f = refl
  as_it_is v (Some (jump.NeedMove w)) f = refl
  as_it_is v (Some (jump.AtCell w)) f = refl
  as_it_is v (Some (jump.NeedTint w)) f = absurd (f tt)

  -- where nothing is cleaned the hop is read
  plain : (v : Value) (o : Option Hop) → value_at h s ≡ Some v → read_hop N C v ≡ o → (Tint o → ⊥) → read_star h s ≡ read_by s v o h1
  plain v o there hop f =
      ap (λ u. and_then go_on (tinted_first s u h1)) there ∙ ap (λ u. and_then go_on (read_clean s v u h1)) hop ∙ ap (and_then go_on) (as_it_is v o f) ∙ ap (λ u. read_value s u h1) (loaded h s ∙ there) ∙ ap (λ u. read_by s v u h1) hop

  -- else it is cleaned first
  tints : (v : Value) (w : ℕ) → value_at h s ≡ Some v → read_hop N C v ≡ Some (jump.NeedTint w) → read_star h s ≡ and_then go_on (clean_value s (Some v) h1)
  tints v w there hop = ap (λ u. and_then go_on (tinted_first s u h1)) there ∙ ap (λ u. and_then go_on (read_clean s v u h1)) hop

-- HOPS BY THEIR KIND

-- a pointer of which a copy may be read
pub data Clean : Value → BoxPtr → Type 0 where
  by_box : (p : BoxPtr) → Clean (value.Own (owned.Box p)) p
  by_shared : (r : SharedRef) → Clean (value.Shared r) (record { word = r.word; object = r.object })
  by_reference : (r : MutRef) → r.dirty ≡ false → Clean (value.Mut r) (record { word = r.word; object = r.object })

-- each value by what its hop is
data Kind (n : ℕ) (cs : List Copy) (v : Value) : Type 0 where
  is_slot : (i : ℕ) → read_hop n cs v ≡ Some (jump.Slot i) → ((kept : List ℕ) → loose_hop n kept (Some v) ≡ 0) → Kind n cs v
  is_here : (w : ℕ) → read_hop n cs v ≡ Some (jump.Direct w) → ((kept : List ℕ) → loose_hop n kept (Some v) ≡ 0) → Kind n cs v
  is_copy : (p : BoxPtr) → Clean v p → pointer_of v ≡ Some p → (server_of p.word == n) ≡ false → is_cached cs p.word ≡ true → read_hop n cs v ≡ Some (jump.Hit p.word) → Kind n cs v
  is_away : (p : BoxPtr) → Clean v p → pointer_of v ≡ Some p → (server_of p.word == n) ≡ false → is_cached cs p.word ≡ false → read_hop n cs v ≡ Some (jump.NeedCopy p.word) → Kind n cs v
  is_dirty : (r : MutRef) → v ≡ value.Mut r → r.dirty ≡ true → (server_of r.word == n) ≡ false → read_hop n cs v ≡ Some (jump.NeedTint r.word) → Kind n cs v
  is_none : read_hop n cs v ≡ None → Kind n cs v

at_home : (n : ℕ) (kept : List ℕ) (b : Bool) (w : ℕ) → (server_of w == n) ≡ true → other (is_at_hand kept n b w) ≡ 0
at_home n kept b w e = ap (λ q. other (q || (b && is_in w kept))) e

clean_is : (n : ℕ) (cs : List Copy) (v : Value) (p : BoxPtr) → Clean v p → pointer_of v ≡ Some p → read_hop n cs v ≡ Some (clean_hop n cs p.word) → ((kept : List ℕ) → loose_hop n kept (Some v) ≡ other (is_at_hand kept n true p.word)) → Kind n cs v
clean_is n cs v p c points hop loose = by (server_of p.word == n) refl (is_cached cs p.word) refl
  where
    hop_is : (a : Bool) → (server_of p.word == n) ≡ a → (b : Bool) → is_cached cs p.word ≡ b → read_hop n cs v ≡ Some (if a then jump.Direct p.word else (if b then jump.Hit p.word else jump.NeedCopy p.word))
    hop_is a e b f = hop ∙ ap (λ q. Some (if q then jump.Direct p.word else by_copy cs p.word)) e ∙ ap (λ q. Some (if a then jump.Direct p.word else (if q then jump.Hit p.word else jump.NeedCopy p.word))) f

    by : (a : Bool) → (server_of p.word == n) ≡ a → (b : Bool) → is_cached cs p.word ≡ b → Kind n cs v
    by true e b f = is_here p.word (hop_is true e b f) (λ kept. loose kept ∙ at_home n kept true p.word e)
    by false e true f = is_copy p c points e f (hop_is false e true f)
    by false e false f = is_away p c points e f (hop_is false e false f)

kind_of : (n : ℕ) (cs : List Copy) (v : Value) → Kind n cs v
kind_of n cs (value.SharedSlot i) = is_slot i refl (λ kept. refl)
kind_of n cs (value.MutSlot i) = is_slot i refl (λ kept. refl)
kind_of n cs (value.Own (owned.Box p)) = clean_is n cs (value.Own (owned.Box p)) p (by_box p) refl refl (λ kept. refl)
kind_of n cs (value.Shared r) = clean_is n cs (value.Shared r) (record { word = r.word; object = r.object }) (by_shared r) refl refl (λ kept. refl)
kind_of n cs (value.Mut r) = by r.dirty refl
  where
    hop_is : (b : Bool) → r.dirty ≡ b → read_hop n cs (value.Mut r) ≡ Some (if b then dirty_hop n r.word else clean_hop n cs r.word)
    hop_is b e = ap (λ q. Some (if q then dirty_hop n r.word else clean_hop n cs r.word)) e

    dirty : r.dirty ≡ true → (a : Bool) → (server_of r.word == n) ≡ a → Kind n cs (value.Mut r)
    dirty e true f = is_here r.word (hop_is true e ∙ ap (λ q. Some (if q then jump.Direct r.word else jump.NeedTint r.word)) f) (λ kept. at_home n kept (not r.dirty) r.word f)
    dirty e false f = is_dirty r refl e f (hop_is true e ∙ ap (λ q. Some (if q then jump.Direct r.word else jump.NeedTint r.word)) f)

    by : (b : Bool) → r.dirty ≡ b → Kind n cs (value.Mut r)
    by true e = dirty e (server_of r.word == n) refl
    by false e = clean_is n cs (value.Mut r) (record { word = r.word; object = r.object }) (by_reference r e) refl (hop_is false e) (λ kept. ap (λ q. other (is_at_hand kept n (not q) r.word)) e)
kind_of n cs (value.Own owned.Nothing) = is_none refl
kind_of n cs (value.Own owned.Unit) = is_none refl
kind_of n cs (value.Own (owned.Int i)) = is_none refl
kind_of n cs (value.Own (owned.Mutex m)) = is_none refl
kind_of n cs (value.Own (owned.Task t)) = is_none refl
kind_of n cs value.Gone = is_none refl
kind_of n cs (value.Held m) = is_none refl

-- CLEANING IN A SLOT

set_there : (xs : List Value) (i : ℕ) (v : Value) → i < length xs → slice_get (slice_set xs i v) i ≡ Some v
set_there [] i v l = absurd (omega (arith, l))
set_there (x ∷ xs) zero v l = refl
set_there (x ∷ xs) (suc i) v l = set_there xs i v (omega (arith, l))

-- the hand in which the reference in a slot has the next colour of its word
abbrev pub tinted_hand : ℕ → MutRef → Hand → Hand
tinted_hand j r h = with_slots (slice_set h.thread.slots j (value.Mut (took r (next_word r.word)))) (record h { work = (issue_tint (box_of r) h.work).work })

puts_tint : (j : ℕ) (r : MutRef) (h : Hand) → slice_get h.thread.slots j ≡ Some (value.Mut r) → put_word (in_slot j) (issue_tint (box_of r) h.work) h ≡ Some (tinted_hand j r h)
puts_tint j r h there =
    let within : j < length h.thread.slots = slice_get_within h.thread.slots j (value.Mut r) there in
    let test : nat_lt j (length h.thread.slots) ≡ true = grind (arith, nat_tests, within) in
    ap (λ o. then_some o (λ v. then_some (with_word (next_word r.word) v) (λ w. put_at (in_slot j) w (record h { work = (issue_tint (box_of r) h.work).work })))) there ∙ ap (λ b. if b then Some (tinted_hand j r h) else None) test

-- what is asked for where a dirty reference is followed
pub data Cleans (j : ℕ) (r : MutRef) (h : Hand) : Prepared → Type 0 where
  a_tint : nat_lt (colour_of r.word + 1) h.work.rest.partition.limit ≡ true → Cleans j r h (go_on (tinted_hand j r h) (in_slot j))
  a_pull : nat_lt (colour_of r.word) h.work.rest.partition.limit ≡ true → nat_lt (colour_of r.word + 1) h.work.rest.partition.limit ≡ false → Cleans j r h (requested (ask_object (box_of r) h))
  too_late : Cleans j r h nothing

cleans : (j : ℕ) (r : MutRef) (h : Hand) → slice_get h.thread.slots j ≡ Some (value.Mut r) → r.dirty ≡ true → (server_of r.word == h.work.rest.number) ≡ false → Cleans j r h (and_then go_on (clean_value (in_slot j) (Some (value.Mut r)) h))
cleans j r h there dirty away = by_limit (nat_lt (colour_of r.word) h.work.rest.partition.limit) refl
  where
    limit : ℕ
    limit = h.work.rest.partition.limit

    by_colour : nat_lt (colour_of r.word) limit ≡ true → (b : Bool) → nat_lt (colour_of r.word + 1) limit ≡ b → Cleans j r h (and_then go_on (cleaned_by (if b then cleaned.Tinted (next_word r.word) else cleaned.MustRenew) (in_slot j) r h))
    by_colour l true e = subst (λ o. Cleans j r h (and_then go_on (ready_at (in_slot j) o))) (sym (puts_tint j r h there)) (a_tint e)
    by_colour l false e =
        subst (λ b. Cleans j r h (and_then go_on (if b then ready_at (in_slot j) (then_some (Rattle.law_walks_others.specs.Below.server_model.NewWords.issue_renewal (box_of r) h.work) (λ n. put_word (in_slot j) n h)) else requested (ask_object (box_of r) h)))) (sym away) (a_pull l e)

    by_limit : (b : Bool) → nat_lt (colour_of r.word) limit ≡ b → Cleans j r h (and_then go_on (if b then cleaned_by (cleaned_answer limit r) (in_slot j) r h else nothing))
    by_limit true l =
        subst (λ b. Cleans j r h (and_then go_on (cleaned_by (if b then (if nat_lt (colour_of r.word + 1) limit then cleaned.Tinted (next_word r.word) else cleaned.MustRenew) else cleaned.Same) (in_slot j) r h))) (sym dirty)
        (by_colour l (nat_lt (colour_of r.word + 1) limit) refl)
    by_limit false l = too_late

-- under a word of which no copy is here a copy is asked for
asks_under : (j : ℕ) (r : MutRef) (h : Hand) → slice_get h.thread.slots j ≡ Some (value.Mut r) → (server_of r.word == h.work.rest.number) ≡ false → is_cached h.work.rest.cache (next_word r.word) ≡ false
    → go_on (tinted_hand j r h) (in_slot j) ≡ requested (ask_copy (box_of (took r (next_word r.word))) (tinted_hand j r h))
asks_under j r h there away none =
    let within : j < length h.thread.slots = slice_get_within h.thread.slots j (value.Mut r) there in
    let h3 : Hand = tinted_hand j r h in
    let q : MutRef = took r (next_word r.word) in
    let now : value_at h3 (in_slot j) ≡ Some (value.Mut q) = set_there h.thread.slots j (value.Mut q) within in
    let same : server_of (next_word r.word) ≡ server_of r.word = omega arith in
    let elsewhere : (server_of (next_word r.word) == h.work.rest.number) ≡ false = ap (λ w. w == h.work.rest.number) same ∙ away in
    ap (λ o. read_value (in_slot j) o h3) now ∙ ap (λ b. read_by (in_slot j) (value.Mut q) (Some (if b then jump.Direct (next_word r.word) else by_copy h.work.rest.cache (next_word r.word))) h3) elsewhere
    ∙ ap (λ b. read_by (in_slot j) (value.Mut q) (Some (if b then jump.Hit (next_word r.word) else jump.NeedCopy (next_word r.word))) h3) none

-- WHERE POINTERS STAND

-- what stands there is a value of a slot, or one that owns
pub data Placed (h : Hand) (s : Spot) : Type 0 where
  in_its_slot : (j : ℕ) → s ≡ in_slot j → Placed h s
  in_memory : (u : Owned) → value_at h s ≡ Some (value.Own u) → Placed h s

no_reference : (o : Option Value) (u : Owned) (r : MutRef) → o ≡ Some (value.Own u) → o ≡ Some (value.Mut r) → ⊥
no_reference o u r e f = absurd (cc (sym e ∙ f))

no_shared : (o : Option Value) (u : Owned) (r : SharedRef) → o ≡ Some (value.Own u) → o ≡ Some (value.Shared r) → ⊥
no_shared o u r e f = absurd (cc (sym e ∙ f))

-- no copy is here under the next colour of a dirty reference
abbrev pub Untinted : Hand → Spot → Type 0
Untinted h s = (r : MutRef) → value_at h s ≡ Some (value.Mut r) → r.dirty ≡ true → is_cached h.work.rest.cache (next_word r.word) ≡ false

reference_slot : (h : Hand) (s : Spot) (r : MutRef) → Placed h s → value_at h s ≡ Some (value.Mut r) → (j : ℕ) × (s ≡ in_slot j) × (slice_get h.thread.slots j ≡ Some (value.Mut r))
reference_slot h s r (in_its_slot j e) there = (j, e, sym (ap (value_at h) e) ∙ there)
reference_slot h s r (in_memory u e) there = absurd (no_reference (value_at h s) u r e there)

shared_slot : (h : Hand) (s : Spot) (r : SharedRef) → Placed h s → value_at h s ≡ Some (value.Shared r) → (j : ℕ) × (s ≡ in_slot j) × (slice_get h.thread.slots j ≡ Some (value.Shared r))
shared_slot h s r (in_its_slot j e) there = (j, e, sym (ap (value_at h) e) ∙ there)
shared_slot h s r (in_memory u e) there = absurd (no_shared (value_at h s) u r e there)

-- WHAT IT ASKS FOR

pub data ReadAsks (h : Hand) (s : Spot) (h2 : Hand) : Type 0 where
  -- a copy, of which none is here
  for_copy : (v : Value) (p : BoxPtr) → Clean v p → value_at h s ≡ Some v → (server_of p.word == h.work.rest.number) ≡ false → is_cached h.work.rest.cache p.word ≡ false → h2 ≡ ask_copy p (load_at s h) → ReadAsks h s h2
  -- a copy under the next colour of a dirty reference
  for_tint : (r : MutRef) (j : ℕ) → s ≡ in_slot j → value_at h s ≡ Some (value.Mut r) → r.dirty ≡ true → (server_of r.word == h.work.rest.number) ≡ false → nat_lt (colour_of r.word + 1) h.work.rest.partition.limit ≡ true
      → h2 ≡ ask_copy (box_of (took r (next_word r.word))) (tinted_hand j r (load_at s h)) → ReadAsks h s h2
  -- the object of a dirty reference without another colour
  for_object : (r : MutRef) (j : ℕ) → s ≡ in_slot j → value_at h s ≡ Some (value.Mut r) → r.dirty ≡ true → (server_of r.word == h.work.rest.number) ≡ false → nat_lt (colour_of r.word) h.work.rest.partition.limit ≡ true
      → nat_lt (colour_of r.word + 1) h.work.rest.partition.limit ≡ false → h2 ≡ ask_object (box_of r) (load_at s h) → ReadAsks h s h2

asked_is : {a b : Hand} → requested a ≡ requested b → b ≡ a
asked_is e = cc

ready_is : {a b : Hand} {s u : Spot} → ready a s ≡ ready b u → b ≡ a
ready_is e = cc

no_request : (s : Spot) (o : Option Hand) (h2 : Hand) → ready_at s o ≡ requested h2 → ⊥
no_request s None h2 e = absurd (cc e)
no_request s (Some h) h2 e = absurd (cc e)

no_star : (h : Hand) (s : Spot) (p : Prepared) → value_at h s ≡ None → read_star h s ≡ p → p ≡ nothing
no_star h s p there e = sym e ∙ ap (λ u. and_then go_on (tinted_first s u (load_at s h))) there

-- a reference that is cleaned
dirty_star : (h : Hand) (s : Spot) (r : MutRef) (j : ℕ) → s ≡ in_slot j → value_at h s ≡ Some (value.Mut r) → slice_get h.thread.slots j ≡ Some (value.Mut r) → r.dirty ≡ true → (server_of r.word == h.work.rest.number) ≡ false
    → read_hop h.work.rest.number h.work.rest.cache (value.Mut r) ≡ Some (jump.NeedTint r.word) → Cleans j r (load_at s h) (read_star h s)
dirty_star h s r j at there in_it dirty away hop =
    subst (Cleans j r (load_at s h)) (sym (tints h s (value.Mut r) r.word there hop ∙ ap (λ u. and_then go_on (clean_value u (Some (value.Mut r)) (load_at s h))) at)) (cleans j r (load_at s h) in_it dirty away)

pub read_asks : (h : Hand) (s : Spot) (h2 : Hand) → Placed h s → Untinted h s → read_star h s ≡ requested h2 → ReadAsks h s h2
read_asks h s h2 placed none e = by (value_at h s) refl
  where
    N : ℕ
    N = h.work.rest.number

    C : List Copy
    C = h.work.rest.cache

    by_cleaning : (r : MutRef) (j : ℕ) → s ≡ in_slot j → value_at h s ≡ Some (value.Mut r) → slice_get h.thread.slots j ≡ Some (value.Mut r) → r.dirty ≡ true → (server_of r.word == N) ≡ false → (p : Prepared) → Cleans j r (load_at s h) p → p ≡ requested h2 → ReadAsks h s h2
    by_cleaning r j at there in_it dirty away _ (a_tint l) f = for_tint r j at there dirty away l (asked_is (sym (asks_under j r (load_at s h) in_it away (none r there dirty)) ∙ f))
    by_cleaning r j at there in_it dirty away _ (a_pull l m) f = for_object r j at there dirty away l m (asked_is f)
    by_cleaning r j at there in_it dirty away _ too_late f = absurd (cc f)

    by_kind : (v : Value) → value_at h s ≡ Some v → Kind N C v → ReadAsks h s h2
    by_kind v there (is_slot i hop loose) = absurd (cc (sym (plain h s v (Some (jump.Slot i)) there hop (λ q. q)) ∙ e))
    by_kind v there (is_here w hop loose) = absurd (cc (sym (plain h s v (Some (jump.Direct w)) there hop (λ q. q)) ∙ e))
    by_kind v there (is_copy p c points away has hop) = absurd (no_request (in_copy p.word) (use_copy s v p.word (hit_by v (load_at s h))) h2 (sym (plain h s v (Some (jump.Hit p.word)) there hop (λ q. q)) ∙ e))
    by_kind v there (is_away p c points away lacks hop) =
        for_copy v p c there away lacks (asked_is (sym (plain h s v (Some (jump.NeedCopy p.word)) there hop (λ q. q) ∙ ap (request_by ask_copy (load_at s h)) points) ∙ e))
    by_kind v there (is_dirty r is dirty away hop) =
        let here : value_at h s ≡ Some (value.Mut r) = there ∙ ap (λ q. Some q) is in
        let at = reference_slot h s r placed here in
        by_cleaning r at.0 at.1 here at.2 dirty away (read_star h s) (dirty_star h s r at.0 at.1 here at.2 dirty away (sym (ap (read_hop N C) is) ∙ hop)) e
    by_kind v there (is_none hop) = absurd (cc (sym (plain h s v None there hop (λ q. q)) ∙ e))

    by : (o : Option Value) → value_at h s ≡ o → ReadAsks h s h2
    by None q = absurd (cc (sym (no_star h s (requested h2) q e)))
    by (Some v) q = by_kind v q (kind_of N C v)

-- OF WHAT IT IS READY

-- what is used is among the words
pub in_times : (w : ℕ) (ws : List ℕ) → is_in w ws ≡ true → 1 ≤ times w ws
in_times w [] e = absurd (cc e)
in_times w (v ∷ ws) e = by (in_times w ws) (v == w) e
  where
    by : (is_in w ws ≡ true → 1 ≤ times w ws) → (b : Bool) → b || is_in w ws ≡ true → 1 ≤ one b + times w ws
    by go true h = omega arith
    by go false h = omega (arith, go h)

pub times_in : (w : ℕ) (ws : List ℕ) → 1 ≤ times w ws → is_in w ws ≡ true
times_in w [] l = absurd (omega (arith, l))
times_in w (v ∷ ws) l = by (times_in w ws) (v == w) l
  where
    by : (1 ≤ times w ws → is_in w ws ≡ true) → (b : Bool) → 1 ≤ one b + times w ws → b || is_in w ws ≡ true
    by go true h = refl
    by go false h = go (omega (arith, h))

-- it keeps no word less
abbrev pub Grows : ThreadState → ThreadState → Type 0
Grows t u = (w : ℕ) → times w (used_words t) ≤ times w (used_words u)

kept_near : (n : ℕ) (kept : List ℕ) (w : ℕ) → 1 ≤ times w kept → other (is_at_hand kept n true w) ≡ 0
kept_near n kept w l = by (server_of w == n) (is_in w kept) (times_in w kept l)
  where
    by : (a b : Bool) → b ≡ true → other (a || (true && b)) ≡ 0
    by true b e = refl
    by false b e = ap other e

clean_near : (n : ℕ) (kept : List ℕ) (v : Value) (p : BoxPtr) → Clean v p → 1 ≤ times p.word kept → loose_hop n kept (Some v) ≡ 0
clean_near n kept _ _ (by_box p) l = kept_near n kept p.word l
clean_near n kept _ _ (by_shared r) l = kept_near n kept r.word l
clean_near n kept _ _ (by_reference r e) l = ap (λ q. other (is_at_hand kept n (not q) r.word)) e ∙ kept_near n kept r.word l

-- what is at hand stays so where more is kept
pub loose_grows : (n : ℕ) (t u : ThreadState) (v : Option Value) → Grows t u → loose_hop n (used_words t) v ≡ 0 → loose_hop n (used_words u) v ≡ 0
loose_grows n t u v g z = by v z
  where
    more : (b : Bool) (w : ℕ) → other (is_at_hand (used_words t) n b w) ≡ 0 → other (is_at_hand (used_words u) n b w) ≡ 0
    more b w y = by_home (server_of w == n) b y
      where
        by_home : (a b : Bool) → other (a || (b && is_in w (used_words t))) ≡ 0 → other (a || (b && is_in w (used_words u))) ≡ 0
        by_home true b y = refl
        by_home false false y = absurd (cc y)
        by_home false true y = ap other (times_in w (used_words u) (let l = in_times w (used_words t) (is_true (is_in w (used_words t)) y) in let m = g w in omega (arith, l, m)))
          where
            is_true : (q : Bool) → other q ≡ 0 → q ≡ true
            is_true true x = refl
            is_true false x = absurd (cc x)

    by : (v : Option Value) → loose_hop n (used_words t) v ≡ 0 → loose_hop n (used_words u) v ≡ 0
    by (Some (value.Own (owned.Box p))) y = more true p.word y
    by (Some (value.Shared r)) y = more true r.word y
    by (Some (value.Mut r)) y = more (not r.dirty) r.word y
    by None y = refl
    by (Some (value.Own owned.Nothing)) y = refl
    by (Some (value.Own owned.Unit)) y = refl
    by (Some (value.Own (owned.Int i))) y = refl
    by (Some (value.Own (owned.Mutex m))) y = refl
    by (Some (value.Own (owned.Task m))) y = refl
    by (Some value.Gone) y = refl
    by (Some (value.SharedSlot i)) y = refl
    by (Some (value.MutSlot i)) y = refl
    by (Some (value.Held m)) y = refl

-- a copy that is used, or kept
pub record Keeps (w : ℕ) (h h2 : Hand) : Type 0 where
  pub kept : 1 ≤ times w (used_words h2.thread)
  pub grows : Grows h.thread h2.thread

own_time : (w : ℕ) → times w (w ∷ []) ≡ 1
own_time w = eq_cases (λ b. one b + 0 ≡ 1) w w (λ e. refl) (λ ne. absurd (ne refl))

walk_keeps : (w : ℕ) (h h2 : Hand) → use_word w h ≡ Some h2 → Keeps w h h2
walk_keeps w h h2 e = by (is_in w h.thread.walk) refl e
  where
    some_hand : {a b : Hand} → Some a ≡ Some b → b ≡ a
    some_hand f = cc

    longer : ThreadState
    longer = record h.thread { walk = h.thread.walk ++ w ∷ [] }

    h3 : Hand
    h3 = record { work = with_cache (pin h.work.rest.cache w) h.work; thread = longer }

    by_room : (b : Bool) → (if b then Some h3 else None) ≡ Some h2 → Keeps w h h2
    by_room true f =
        subst (Keeps w h) (sym (some_hand f)) (record {
          kept = (let a = parts longer w in let b = times_append w h.thread.walk (w ∷ []) in let c = own_time w in omega (arith, a, b, c));
          grows = λ v. (let a = parts longer v in let b = parts h.thread v in let c = times_append v h.thread.walk (w ∷ []) in omega (arith, a, b, c));
        })
    by_room false f = absurd (cc f)

    by : (b : Bool) → is_in w h.thread.walk ≡ b → used_once w b h ≡ Some h2 → Keeps w h h2
    by true q f = subst (Keeps w h) (sym (some_hand f)) (record { kept = (let a = parts h.thread w in let l = in_times w h.thread.walk q in omega (arith, a, l)); grows = λ v. omega arith })
    by false q f = by_room (can_pin h.work.rest.cache w) f

pinned_there : (vs : List Value) (j : ℕ) (r : SharedRef) → slice_get vs j ≡ Some (value.Shared r) → r.pinned ≡ true → 1 ≤ times r.word (pinned_words vs)
pinned_there [] j r e f = absurd (cc e)
pinned_there (value.Shared q ∷ vs) zero r e f =
    let same : q ≡ r = cc in
    let is : pinned_words (value.Shared q ∷ vs) ≡ r.word ∷ pinned_words vs = ap (λ (x : SharedRef). pinned_word x x.pinned (pinned_words vs)) same ∙ ap (λ b. pinned_word r b (pinned_words vs)) f in
    subst (λ ws. 1 ≤ times r.word ws) (sym is) (let a = own_time r.word in omega (arith, a))
pinned_there (value.Shared q ∷ vs) (suc j) r e f = by q.pinned (pinned_there vs j r e f)
  where
    by : (b : Bool) → 1 ≤ times r.word (pinned_words vs) → 1 ≤ times r.word (pinned_word q b (pinned_words vs))
    by true l = omega (arith, l)
    by false l = l
pinned_there (value.Gone ∷ vs) zero r e f = absurd (cc e)
pinned_there (value.Own u ∷ vs) zero r e f = absurd (cc e)
pinned_there (value.SharedSlot i ∷ vs) zero r e f = absurd (cc e)
pinned_there (value.MutSlot i ∷ vs) zero r e f = absurd (cc e)
pinned_there (value.Mut q ∷ vs) zero r e f = absurd (cc e)
pinned_there (value.Held m ∷ vs) zero r e f = absurd (cc e)
pinned_there (value.Gone ∷ vs) (suc j) r e f = pinned_there vs j r e f
pinned_there (value.Own u ∷ vs) (suc j) r e f = pinned_there vs j r e f
pinned_there (value.SharedSlot i ∷ vs) (suc j) r e f = pinned_there vs j r e f
pinned_there (value.MutSlot i ∷ vs) (suc j) r e f = pinned_there vs j r e f
pinned_there (value.Mut q ∷ vs) (suc j) r e f = pinned_there vs j r e f
pinned_there (value.Held m ∷ vs) (suc j) r e f = pinned_there vs j r e f

pin_keeps : (j : ℕ) (r : SharedRef) (h h2 : Hand) → slice_get h.thread.slots j ≡ Some (value.Shared r) → pinned_once (in_slot j) r r.pinned h ≡ Some h2 → Keeps r.word h h2
pin_keeps j r h h2 there e = by r.pinned refl e
  where
    some_hand : {a b : Hand} → Some a ≡ Some b → b ≡ a
    some_hand f = cc

    kept_one : Value
    kept_one = value.Shared (record r { pinned = true })

    pinned : ThreadState
    pinned = record h.thread { slots = slice_set h.thread.slots j kept_one }

    h3 : Hand
    h3 = with_slots (slice_set h.thread.slots j kept_one) (working (with_cache (pin h.work.rest.cache r.word)) h)

    by_room : r.pinned ≡ false → (a b : Bool) → (if a then (if b then Some h3 else None) else None) ≡ Some h2 → Keeps r.word h h2
    by_room free true true f =
        let none : (v : ℕ) → times v (pinned_words (value.Shared r ∷ [])) ≡ 0 = λ v. ap (λ b. times v (pinned_word r b [])) free in
        subst (Keeps r.word h) (sym (some_hand f)) (record {
          kept = (let a = parts pinned r.word in let b = pinned_set r.word h.thread.slots j (value.Shared r) kept_one there in let c = own_time r.word in let d = none r.word in omega (arith, a, b, c, d));
          grows = λ v. (let a = parts pinned v in let b = parts h.thread v in let c = pinned_set v h.thread.slots j (value.Shared r) kept_one there in let d = none v in omega (arith, a, b, c, d));
        })
    by_room free true false f = absurd (cc f)
    by_room free false b f = absurd (cc f)

    by : (b : Bool) → r.pinned ≡ b → pinned_once (in_slot j) r b h ≡ Some h2 → Keeps r.word h h2
    by true q f = subst (Keeps r.word h) (sym (some_hand f)) (record { kept = (let a = parts h.thread r.word in let l = pinned_there h.thread.slots j r there q in omega (arith, a, l)); grows = λ v. omega arith })
    by false q f = by_room q (can_pin h.work.rest.cache r.word) (nat_lt j (length h.thread.slots)) f

-- a hop that is noted keeps what was kept
hopped_thread : (v : Value) (h : Hand) → (hit_by v h).thread ≡ h.thread
hopped_thread v h = by (pointer_of v)
  where
    by : (o : Option BoxPtr) → (hopped (λ p. note (act.Hit p.object p.word)) o h).thread ≡ h.thread
    by None = refl
    by (Some p) = refl

local_thread : (v : Value) (h : Hand) → (local v h).thread ≡ h.thread
local_thread v h = by (pointer_of v)
  where
    by : (o : Option BoxPtr) → (hopped (λ p. note (act.Local p.object p.word)) o h).thread ≡ h.thread
    by None = refl
    by (Some p) = refl

copy_keeps : (h : Hand) (s : Spot) (v : Value) (p : BoxPtr) (h2 : Hand) → Placed h s → value_at h s ≡ Some v → Clean v p → use_copy s v p.word (hit_by v (load_at s h)) ≡ Some h2 → Keeps p.word h h2
copy_keeps h s v p h2 placed there c e = by v p c there e
  where
    from_here : (w : ℕ) (a : Hand) → a.thread ≡ h.thread → Keeps w a h2 → Keeps w h h2
    from_here w a same k = record { kept = k.kept; grows = subst (λ x. Grows x h2.thread) same k.grows }

    by : (v : Value) (p : BoxPtr) → Clean v p → value_at h s ≡ Some v → use_copy s v p.word (hit_by v (load_at s h)) ≡ Some h2 → Keeps p.word h h2
    by _ _ (by_box p) there e = from_here p.word (hit_by (value.Own (owned.Box p)) (load_at s h)) refl (walk_keeps p.word (hit_by (value.Own (owned.Box p)) (load_at s h)) h2 e)
    by _ _ (by_reference r q) there e = from_here r.word (hit_by (value.Mut r) (load_at s h)) refl (walk_keeps r.word (hit_by (value.Mut r) (load_at s h)) h2 e)
    by _ _ (by_shared r) there e =
        let at = shared_slot h s r placed there in
        from_here r.word (hit_by (value.Shared r) (load_at s h)) refl
        (pin_keeps at.0 r (hit_by (value.Shared r) (load_at s h)) h2 at.2 (sym (ap (λ u. pinned_once u r r.pinned (hit_by (value.Shared r) (load_at s h))) at.1) ∙ e))

pub record ReadGoes (h : Hand) (s : Spot) (h2 : Hand) : Type 0 where
  pub pointed : Value
  pub stands : value_at h s ≡ Some pointed
  pub near : loose_hop h.work.rest.number (used_words h2.thread) (Some pointed) ≡ 0
  pub grows : Grows h.thread h2.thread

pub read_goes : (h : Hand) (s : Spot) (h2 : Hand) (s2 : Spot) → Placed h s → Untinted h s → read_star h s ≡ ready h2 s2 → ReadGoes h s h2
read_goes h s h2 s2 placed none e = by (value_at h s) refl
  where
    N : ℕ
    N = h.work.rest.number

    C : List Copy
    C = h.work.rest.cache

    same_grows : (a : Hand) → a.thread ≡ h.thread → h2 ≡ a → Grows h.thread h2.thread
    same_grows a f g w = let q = ap (λ (t : ThreadState). times w (used_words t)) (ap (λ (b : Hand). b.thread) g ∙ f) in omega (arith, q)

    by_cleaning : (r : MutRef) (j : ℕ) → slice_get h.thread.slots j ≡ Some (value.Mut r) → value_at h s ≡ Some (value.Mut r) → r.dirty ≡ true → (server_of r.word == N) ≡ false → (p : Prepared) → Cleans j r (load_at s h) p → p ≡ ready h2 s2 → ReadGoes h s h2
    by_cleaning r j in_it there dirty away _ (a_tint l) f = absurd (cc (sym (asks_under j r (load_at s h) in_it away (none r there dirty)) ∙ f))
    by_cleaning r j in_it there dirty away _ (a_pull l m) f = absurd (cc f)
    by_cleaning r j in_it there dirty away _ too_late f = absurd (cc f)

    used : (v : Value) (p : BoxPtr) → value_at h s ≡ Some v → Clean v p → (o : Option Hand) → use_copy s v p.word (hit_by v (load_at s h)) ≡ o → ready_at (in_copy p.word) o ≡ ready h2 s2 → ReadGoes h s h2
    used v p there c None q f = absurd (cc f)
    used v p there c (Some h3) q f =
        let keeps = copy_keeps h s v p h2 placed there c (q ∙ ap (λ x. Some x) (sym (ready_is f))) in
        record { pointed = v; stands = there; near = clean_near N (used_words h2.thread) v p c keeps.kept; grows = keeps.grows }

    by_kind : (v : Value) → value_at h s ≡ Some v → Kind N C v → ReadGoes h s h2
    by_kind v there (is_slot i hop loose) = record { pointed = v; stands = there; near = loose (used_words h2.thread); grows = same_grows (load_at s h) refl (ready_is (sym (plain h s v (Some (jump.Slot i)) there hop (λ q. q)) ∙ e)) }
    by_kind v there (is_here w hop loose) = record {
      pointed = v;
      stands = there;
      near = loose (used_words h2.thread);
      grows = same_grows (local v (load_at s h)) (local_thread v (load_at s h)) (ready_is (sym (plain h s v (Some (jump.Direct w)) there hop (λ q. q)) ∙ e));
    }
    by_kind v there (is_copy p c points away has hop) = used v p there c (use_copy s v p.word (hit_by v (load_at s h))) refl (sym (plain h s v (Some (jump.Hit p.word)) there hop (λ q. q)) ∙ e)
    by_kind v there (is_away p c points away lacks hop) = absurd (cc (sym (plain h s v (Some (jump.NeedCopy p.word)) there hop (λ q. q) ∙ ap (request_by ask_copy (load_at s h)) points) ∙ e))
    by_kind v there (is_dirty r is dirty away hop) =
        let here : value_at h s ≡ Some (value.Mut r) = there ∙ ap (λ q. Some q) is in
        let at = reference_slot h s r placed here in
        by_cleaning r at.0 at.2 here dirty away (read_star h s) (dirty_star h s r at.0 at.1 here at.2 dirty away (sym (ap (read_hop N C) is) ∙ hop)) e
    by_kind v there (is_none hop) = absurd (cc (sym (plain h s v None there hop (λ q. q)) ∙ e))

    by : (o : Option Value) → value_at h s ≡ o → ReadGoes h s h2
    by None q = absurd (cc (sym (no_star h s (ready h2 s2) q e)))
    by (Some v) q = by_kind v q (kind_of N C v)
