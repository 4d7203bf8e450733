-- A place that is read, star by star: where all is ready only hops were noted; and what a request asks for, from a hand in which only hops were noted.
use Rattle.std.proofs.Common.{◌≡◌, ℕ, zero, suc, ◌+◌, ◌<◌, ◌≤◌, ◌==◌, Bool, true, false, if◌then◌else◌, List, [], ◌∷◌, ◌++◌, Option, Some, None, refl, sym, ap, subst, ◌∙◌, arith}
use Rattle.std.specs.Bool.{⊤}
use Rattle.std.specs.Prelude.{slice_get, nat_lt, map, length}
use Rattle.law_entries_reads.specs.Below.law_copies_kept.Below.fr_base.Lists.{is_in}
use Rattle.law_entries_reads.specs.Below.law_copies_kept.Below.fr_base.declared.place.Lval.{Lval}
use Rattle.law_entries_reads.specs.Below.law_copies_kept.Below.fr_base.declared.instruction.Instr.{Instr}
use Rattle.law_entries_reads.specs.Below.law_copies_kept.Below.global_addr.Words.{colour_of, server_of, next_word}
use Rattle.law_entries_reads.specs.Below.law_copies_kept.Below.heap_partition.declared.value.BoxPtr.{BoxPtr}
use Rattle.law_entries_reads.specs.Below.law_copies_kept.Below.heap_partition.declared.value.Owned.{Owned}
use Rattle.law_entries_reads.specs.Below.law_copies_kept.Below.heap_partition.declared.value.Owned.TheVariants as owned
use Rattle.law_entries_reads.specs.Below.law_copies_kept.Below.read_cache.Cache.{Copy, is_cached, can_pin, pin}
use Rattle.law_entries_reads.specs.Below.law_copies_kept.Below.mut_borrow.Refs.{cleaned_answer}
use Rattle.law_entries_reads.specs.Below.law_copies_kept.Below.mut_borrow.declared.mutable.MutRef.{MutRef}
use Rattle.law_entries_reads.specs.Below.law_copies_kept.Below.mut_borrow.declared.shared.SharedRef.{SharedRef}
use Rattle.law_entries_reads.specs.Below.law_copies_kept.Below.mut_borrow.declared.mutable.Cleaned.{Cleaned}
use Rattle.law_entries_reads.specs.Below.law_copies_kept.Below.mut_borrow.declared.mutable.Cleaned.TheVariants as cleaned
use Rattle.law_entries_reads.specs.Below.law_copies_kept.Below.journal.declared.act.Act.{Act}
use Rattle.law_entries_reads.specs.Below.law_copies_kept.Below.journal.declared.act.Act.TheVariants as act
use Rattle.law_entries_reads.specs.Below.law_copies_kept.Below.place_walk.declared.hop.Hop.{Hop}
use Rattle.law_entries_reads.specs.Below.law_copies_kept.Below.place_walk.declared.hop.Hop.TheVariants as hop
use Rattle.law_entries_reads.specs.Below.law_copies_kept.Below.place_walk.Hops.{clean_hop, dirty_hop, read_hop}
use Rattle.law_entries_reads.specs.Below.law_copies_kept.Below.thread_state.View.{ThreadState}
use Rattle.law_entries_reads.specs.Below.law_copies_kept.Below.thread_state.declared.value.Value.{Value}
use Rattle.law_entries_reads.specs.Below.law_copies_kept.Below.thread_state.declared.value.Value.TheVariants as value
use Rattle.law_entries_reads.specs.Below.law_copies_kept.Below.migration.Packing.{unpinned}
use Rattle.law_entries_reads.specs.Below.law_copies_kept.Below.server_model.Servers.{Server, Cluster}
use Rattle.law_entries_reads.specs.Below.law_copies_kept.Below.server_model.Work.{Hand, note, with_cache, working, is_hop, without_hops, look, then_some, used_once, use_word}
use Rattle.law_entries_reads.specs.Below.law_copies_kept.Below.server_model.NewWords.{issue_tint, issue_renewal}
use Rattle.law_entries_reads.specs.Below.law_copies_kept.Below.server_model.Places.{Spot, in_slot, in_cell, in_copy, on_top, nowhere, value_at, value_in as cell_value, load_at, put_at, pointer_of, took, put_word}
use Rattle.law_entries_reads.specs.Below.law_copies_kept.Below.server_model.Prepare.{Prepared, ready, requested, nothing, and_then, ready_at, ask_copy, ask_object, request_by, box_of, cleaned_by, clean_value, pinned_once, use_copy, hopped, local, hit_by, read_by, read_value, read_clean, tinted_first, read_star, read_stars}
use Rattle.law_entries_reads.specs.Below.law_copies_kept.Below.coherent_memory.Things.{Location, at_slot}
use Rattle.law_entries_reads.specs.Below.law_copies_kept.Below.coherent_memory.Follow.{Standing, Ground, value_in, value_of, slot_of, locate}
use Rattle.law_entries_reads.specs.Below.law_copies_kept.Below.coherent_memory.Sight.{sight}
use Rattle.law_entries_reads.specs.Below.law_copies_kept.Below.law_counts_sums.Laws.{Gives}
use Rattle.law_entries_reads.proofs.Below.law_copies_kept.Below.law_counts_sums.Results.{test_gives, weaker}
use Rattle.law_entries_reads.proofs.Below.law_copies_kept.Below.law_words_paths.paths.Shown.{stands_there}
use Rattle.law_entries_reads.proofs.Below.law_copies_kept.Below.law_words_paths.paths.Sole.{some_is}
use Rattle.law_entries_reads.proofs.Below.law_copies_kept.Below.law_words_paths.words.Slots.{set_same}
use Rattle.law_entries_reads.proofs.Below.law_copies_kept.Below.law_words_paths.words.Tints.{slot_put}
use Rattle.law_entries_reads.proofs.Below.law_copies_kept.Below.law_results_reads.Known.{Steps, goes, paths, standing, hand}
use Rattle.law_entries_reads.proofs.Below.law_copies_kept.Below.law_results_reads.Followed.{Place}
use Rattle.law_entries_reads.proofs.Below.law_copies_kept.Below.law_results_reads.Reading.{Alike, equal, both_shared, alike_at}
use Rattle.law_entries_reads.proofs.Below.law_copies_kept.Below.law_results_reads.Starred.{a_slot, a_cell, a_copy, Fine, loaded}
use Rattle.law_entries_reads.proofs.Below.law_copies_kept.Below.law_results_reads.Readers.{IsFree, stars_fine}
use Rattle.law_entries_reads.proofs.Below.law_copies_kept.references.ReadAsks.{Reads, Stands, Followed, Known}

-- HOPS

-- only hops were noted
abbrev pub OnlyHops : Hand → Type 0
OnlyHops h = without_hops h.work.acts ≡ []

pub without_append : (a b : List Act) → without_hops (a ++ b) ≡ without_hops a ++ without_hops b
without_append [] b = refl
without_append (x ∷ a) b = by (is_hop x) (without_append a b)
  where
    by : (q : Bool) → without_hops (a ++ b) ≡ without_hops a ++ without_hops b → (if q then without_hops (a ++ b) else x ∷ without_hops (a ++ b)) ≡ (if q then without_hops a else x ∷ without_hops a) ++ without_hops b
    by true e = e
    by false e = ap (λ l. x ∷ l) e

-- what is noted after them
pub noted_after : (h : Hand) → OnlyHops h → (b : List Act) → without_hops (h.work.acts ++ b) ≡ without_hops b
noted_after h e b = without_append h.work.acts b ∙ ap (λ l. l ++ without_hops b) e

local_hop : (v : Value) (h : Hand) → OnlyHops h → OnlyHops (local v h)
local_hop v h e = by (pointer_of v)
  where
    by : (o : Option BoxPtr) → OnlyHops (hopped (λ p. note (act.Local p.object p.word)) o h)
    by None = e
    by (Some p) = noted_after h e (act.Local p.object p.word ∷ [])

hit_hop : (v : Value) (h : Hand) → OnlyHops h → OnlyHops (hit_by v h)
hit_hop v h e = by (pointer_of v)
  where
    by : (o : Option BoxPtr) → OnlyHops (hopped (λ p. note (act.Hit p.object p.word)) o h)
    by None = e
    by (Some p) = noted_after h e (act.Hit p.object p.word ∷ [])

-- a use of a copy notes nothing
abbrev SameActs : Hand → Hand → Type 0
SameActs h h2 = h2.work.acts ≡ h.work.acts

used_so : (w : ℕ) (h : Hand) → Gives (λ h2. SameActs h h2 × (h2.thread.slots ≡ h.thread.slots)) (use_word w h)
used_so w h = by (is_in w h.thread.walk)
  where
    by : (b : Bool) → Gives (λ h2. SameActs h h2 × (h2.thread.slots ≡ h.thread.slots)) (used_once w b h)
    by true = (refl, refl)
    by false = test_gives (λ h2. SameActs h h2 × (h2.thread.slots ≡ h.thread.slots)) (can_pin h.work.rest.cache w) _ (λ on. (refl, refl))

puts_so : (sp : Spot) (q : SharedRef) (h : Hand) → Gives (SameActs h) (put_at sp (value.Shared q) h)
puts_so (in_slot j) q h = test_gives (SameActs h) (nat_lt j (length h.thread.slots)) _ (λ on. refl)
puts_so on_top q h = refl
puts_so (in_cell w through) q h = tt
puts_so (in_copy w) q h = tt
puts_so nowhere q h = tt

copy_used : (sp : Spot) (v : Value) (w : ℕ) (h : Hand) → Gives (SameActs h) (use_copy sp v w h)
copy_used sp (value.Shared q) w h = by q.pinned
  where
    by : (b : Bool) → Gives (SameActs h) (pinned_once sp q b h)
    by true = refl
    by false = test_gives (SameActs h) (can_pin h.work.rest.cache q.word) _ (λ on. puts_so sp (record q { pinned = true }) (working (with_cache (pin h.work.rest.cache q.word)) h))
copy_used sp value.Gone w h = weaker (λ h2. SameActs h h2 × (h2.thread.slots ≡ h.thread.slots)) (SameActs h) (use_word w h) (used_so w h) (λ h2 a. a.0)
copy_used sp (value.Own u) w h = weaker (λ h2. SameActs h h2 × (h2.thread.slots ≡ h.thread.slots)) (SameActs h) (use_word w h) (used_so w h) (λ h2 a. a.0)
copy_used sp (value.SharedSlot j) w h = weaker (λ h2. SameActs h h2 × (h2.thread.slots ≡ h.thread.slots)) (SameActs h) (use_word w h) (used_so w h) (λ h2 a. a.0)
copy_used sp (value.MutSlot j) w h = weaker (λ h2. SameActs h h2 × (h2.thread.slots ≡ h.thread.slots)) (SameActs h) (use_word w h) (used_so w h) (λ h2 a. a.0)
copy_used sp (value.Mut q) w h = weaker (λ h2. SameActs h h2 × (h2.thread.slots ≡ h.thread.slots)) (SameActs h) (use_word w h) (used_so w h) (λ h2 a. a.0)
copy_used sp (value.Held m) w h = weaker (λ h2. SameActs h h2 × (h2.thread.slots ≡ h.thread.slots)) (SameActs h) (use_word w h) (used_so w h) (λ h2 a. a.0)

-- WHICH HOPS ASK

-- where a copy is needed the object is elsewhere, and no copy is cached
copy_needed : (n c : ℕ) (cs : List Copy) (u : Value) (b : BoxPtr) → read_hop n cs u ≡ Some (hop.NeedCopy c) → pointer_of u ≡ Some b → ((server_of b.word == n) ≡ false) × (is_cached cs b.word ≡ false)
copy_needed n c cs u b e f = by u e f
  where
    Far : ℕ → Type 0
    Far w = ((server_of w == n) ≡ false) × (is_cached cs w ≡ false)

    clean : (w : ℕ) → Some (clean_hop n cs w) ≡ Some (hop.NeedCopy c) → Far w
    clean w q = two (server_of w == n) (is_cached cs w) refl refl q
      where
        two : (a d : Bool) → (server_of w == n) ≡ a → is_cached cs w ≡ d → Some (if a then hop.Direct w else (if d then hop.Hit w else hop.NeedCopy w)) ≡ Some (hop.NeedCopy c) → Far w
        two true d x z r = absurd cc
        two false true x z r = absurd cc
        two false false x z r = (x, z)

    lent : (r : MutRef) (d : Bool) → Some (if d then dirty_hop n r.word else clean_hop n cs r.word) ≡ Some (hop.NeedCopy c) → Far r.word
    lent r false q = clean r.word q
    lent r true q = two (server_of r.word == n) q
      where
        two : (a : Bool) → Some (if a then hop.Direct r.word else hop.NeedTint r.word) ≡ Some (hop.NeedCopy c) → Far r.word
        two true x = absurd cc
        two false x = absurd cc

    by : (v : Value) → read_hop n cs v ≡ Some (hop.NeedCopy c) → pointer_of v ≡ Some b → Far b.word
    by (value.Own (owned.Box p)) q r = subst (λ (x : BoxPtr). Far x.word) (some_is r) (clean p.word q)
    by (value.Shared p) q r = subst (λ (x : BoxPtr). Far x.word) (some_is r) (clean p.word q)
    by (value.Mut p) q r = subst (λ (x : BoxPtr). Far x.word) (some_is r) (lent p p.dirty q)
    by (value.Own owned.Nothing) q r = absurd cc
    by (value.Own owned.Unit) q r = absurd cc
    by (value.Own (owned.Int m)) q r = absurd cc
    by (value.Own (owned.Mutex m)) q r = absurd cc
    by (value.Own (owned.Task m)) q r = absurd cc
    by (value.SharedSlot j) q r = absurd cc
    by (value.MutSlot j) q r = absurd cc
    by value.Gone q r = absurd cc
    by (value.Held m) q r = absurd cc

-- what wants a tint is dirty, and its object is elsewhere
tint_wanted : (n c : ℕ) (cs : List Copy) (q : MutRef) → read_hop n cs (value.Mut q) ≡ Some (hop.NeedTint c) → (q.dirty ≡ true) × ((server_of q.word == n) ≡ false)
tint_wanted n c cs q e = by q.dirty refl e
  where
    clean : (a b : Bool) → Some (if a then hop.Direct q.word else (if b then hop.Hit q.word else hop.NeedCopy q.word)) ≡ Some (hop.NeedTint c) → ⊥
    clean true b f = absurd cc
    clean false true f = absurd cc
    clean false false f = absurd cc

    away : (a : Bool) → Some (if a then hop.Direct q.word else hop.NeedTint q.word) ≡ Some (hop.NeedTint c) → a ≡ false
    away true f = absurd cc
    away false f = refl

    by : (d : Bool) → q.dirty ≡ d → Some (if d then dirty_hop n q.word else clean_hop n cs q.word) ≡ Some (hop.NeedTint c) → (q.dirty ≡ true) × ((server_of q.word == n) ≡ false)
    by true g f = (g, away (server_of q.word == n) f)
    by false g f = absurd (clean (server_of q.word == n) (is_cached cs q.word) f)

-- a colour is left where a dirty reference is cleaned by a tint
tint_left : (limit : ℕ) (r : MutRef) (w : ℕ) → cleaned_answer limit r ≡ cleaned.Tinted w → nat_lt (colour_of r.word + 1) limit ≡ true
tint_left limit r w e = by r.dirty e
  where
    left : (b : Bool) → (if b then cleaned.Tinted (next_word r.word) else cleaned.MustRenew) ≡ cleaned.Tinted w → b ≡ true
    left true h = refl
    left false h = absurd (cc h)

    by : (b : Bool) → (if b then (if nat_lt (colour_of r.word + 1) limit then cleaned.Tinted (next_word r.word) else cleaned.MustRenew) else cleaned.Same) ≡ cleaned.Tinted w → nat_lt (colour_of r.word + 1) limit ≡ true
    by true h = left (nat_lt (colour_of r.word + 1) limit) h
    by false h = absurd (cc h)

pub loaded_at : (h : Hand) (sp : Spot) → value_at (load_at sp h) sp ≡ value_at h sp
loaded_at h (in_slot j) = refl
loaded_at h (in_cell c q) = refl
loaded_at h (in_copy c) = refl
loaded_at h on_top = refl
loaded_at h nowhere = refl

own_mut : (o : Owned) (q : MutRef) → value.Own o ≡ value.Mut q → ⊥
own_mut o q e = absurd cc

-- a value that looks like a mutable reference is it
pub alike_mut : (u : Value) (q : MutRef) → Alike u (value.Mut q) → u ≡ value.Mut q
alike_mut _ q equal = refl

-- the same pointer in both values
pub record OnePointer (u v : Value) : Type 0 where
  pub pointer : (b : BoxPtr) → pointer_of u ≡ Some b → (p : BoxPtr) × (pointer_of v ≡ Some p) × (p.word ≡ b.word) × (p.object ≡ b.object)
  pub back : (q : MutRef) → u ≡ value.Mut q → v ≡ value.Mut q

one_pointer : (v u : Value) → Alike v u → OnePointer u v
one_pointer v _ equal = record { pointer = λ b e. (b, e, refl, refl); back = λ q e. e }
one_pointer _ _ (both_shared a b words objects) = record {
  pointer = λ c e. (let same : record { word = b.word; object = b.object } ≡ c = some_is e in (record { word = a.word; object = a.object }, refl, words ∙ ap (λ (p : BoxPtr). p.word) same, objects ∙ ap (λ (p : BoxPtr). p.object) same));
  back = λ q e. absurd cc;
}

module _ (k : Cluster) (n t : ℕ) (s : Server) (y : ThreadState) (i : Instr) (z : Steps k n t s y i) where
  abbrev x : Standing
  x = standing k n t s y i z

  abbrev g : Ground
  g = (sight k).ground

  abbrev tn : ℕ
  tn = y.number

  abbrev pub ReadsSoFar : ℕ → Hand → Type 0
  ReadsSoFar d h = Reads k n t s y i z d h

  abbrev At : Spot → Location → Type 0
  At sp l = Stands k n t s y i z sp l

  -- what is asked for, from a hand of which something is known
  pub data Wanted (X : Hand → Type 0) (w : Lval) (most : ℕ) (h2 : Hand) : Type 0 where
    -- a copy, which isn't cached, of what is elsewhere
    for_copy : (d : ℕ) (h1 : Hand) (b : BoxPtr) → X h1 → OnlyHops h1 → ReadsSoFar d h1 → Followed k n t s y i z w most b → (server_of b.word == h1.work.rest.number) ≡ false → is_cached h1.work.rest.cache b.word ≡ false → h2 ≡ ask_copy b h1 → Wanted X w most h2
    -- the object of a dirty reference, which is elsewhere
    for_object : (d : ℕ) (h1 : Hand) (b : BoxPtr) → X h1 → OnlyHops h1 → ReadsSoFar d h1 → Followed k n t s y i z w most b → (server_of b.word == h1.work.rest.number) ≡ false → h2 ≡ ask_object b h1 → Wanted X w most h2
    -- a copy under the next colour of a dirty reference's word
    for_tinted : (d : ℕ) (h1 h3 : Hand) (j : ℕ) (q : MutRef) → X h1 → OnlyHops h1 → ReadsSoFar d h1 → d < most → locate g tn w.slot d ≡ Some (at_slot tn j) → slice_get h1.thread.slots j ≡ Some (value.Mut q) → value_in g (at_slot tn j) ≡ Some (value.Mut q) → q.dirty ≡ true
        → (server_of q.word == h1.work.rest.number) ≡ false → nat_lt (colour_of q.word + 1) h1.work.rest.partition.limit ≡ true → put_word (in_slot j) (issue_tint (box_of q) h1.work) h1 ≡ Some h3 → is_cached h3.work.rest.cache (next_word q.word) ≡ false → h2 ≡ ask_copy (record { word = next_word q.word; object = q.object }) h3 → Wanted X w most h2

  abbrev pub WantedSo : (Hand → Type 0) → Lval → ℕ → Prepared → Type 0
  WantedSo X w most (ready h sp) = OnlyHops h
  WantedSo X w most (requested h) = Wanted X w most h
  WantedSo X w most nothing = ⊤

  -- what stands at the spot
  pub spot_value : (d : ℕ) (h : Hand) (sp : Spot) (l : Location) (u : Value) → ReadsSoFar d h → At sp l → value_at h sp ≡ Some u → (v : Value) × (value_in g l ≡ Some v) × OnePointer u v
  spot_value d h _ _ u a (a_slot j) e =
      let m = alike_at y.slots h.thread.slots j u (sym a.slots) e in
      (m.0, ap (λ o. slot_of o j) (stands_there k (paths k n t s y i z) x (goes k n t s y i z)) ∙ m.1, one_pointer m.0 u m.2)
  spot_value d h _ _ u a (a_cell c q o cell f there) e =
      let same : value.Own cell.value ≡ u = some_is (sym (ap cell_value (ap (λ p. look p c) a.partition ∙ f)) ∙ e) in
      (u, ap value_of there ∙ ap Some same, one_pointer u u equal)
  spot_value d h _ _ u a (a_copy c o cell f there) e =
      let same : value.Own cell.value ≡ u = some_is (sym (ap cell_value (a.hits c ∙ f)) ∙ e) in
      (u, ap value_of there ∙ ap Some same, one_pointer u u equal)

  -- so something stands at the location
  pub some_stands : (d : ℕ) (h : Hand) (sp : Spot) (l : Location) (u : Value) → ReadsSoFar d h → At sp l → value_at h sp ≡ Some u → value_in g l ≡ None → ⊥
  some_stands d h sp l u a spot e none = let v = spot_value d h sp l u a spot e in cc (sym none ∙ v.1)

  -- a mutable reference stands in a slot
  in_its_slot : (d : ℕ) (h : Hand) (sp : Spot) (l : Location) (q : MutRef) → ReadsSoFar d h → At sp l → value_at h sp ≡ Some (value.Mut q) → (j : ℕ) × (sp ≡ in_slot j) × (l ≡ at_slot tn j)
  in_its_slot d h _ _ q a (a_slot j) e = (j, refl, refl)
  in_its_slot d h _ _ q a (a_cell c p o cell f there) e = absurd (own_mut cell.value q (some_is (sym (ap cell_value (ap (λ p. look p c) a.partition ∙ f)) ∙ e)))
  in_its_slot d h _ _ q a (a_copy c o cell f there) e = absurd (own_mut cell.value q (some_is (sym (ap cell_value (a.hits c ∙ f)) ∙ e)))

  -- where a place is ready, slots have what they had but for pins
  abbrev Slotted : Prepared → Type 0
  Slotted (ready h sp) = map unpinned h.thread.slots ≡ map unpinned y.slots
  Slotted (requested h) = ⊤
  Slotted nothing = ⊤

  module _ (X : Hand → Type 0) (w : Lval) (most d : ℕ) (lt : d < most) (l : Location) (located : locate g tn w.slot d ≡ Some l) where
    abbrev Goal : Prepared → Type 0
    Goal p = Slotted p → WantedSo X w most p

    ready_goal : (sp : Spot) (o : Option Hand) → Gives OnlyHops o → Goal (ready_at sp o)
    ready_goal sp None a = λ q. tt
    ready_goal sp (Some h) a = λ q. a

    abbrev next : Hand → Spot → Prepared
    next h sp = read_value sp (value_at h sp) h

    module _ (h : Hand) (sp : Spot) (c : X h) (hops : OnlyHops h) (a : ReadsSoFar d h) (spot : At sp l) (u : Value) (at : value_at h sp ≡ Some u) where
      stood : (v : Value) × (value_in g l ≡ Some v) × OnePointer u v
      stood = spot_value d h sp l u a spot at

      -- a pointer there is on the way
      followed : (b : BoxPtr) → pointer_of u ≡ Some b → Followed k n t s y i z w most b
      followed b f =
          let like = stood.2 in
          let p = like.pointer b f in
          record { stars = d; under = lt; location = l; located = located; value = stood.0; stood = stood.1; pointer = p.0; points = p.1; word = p.2; object = p.3 }

      asks_copy_of : (m : ℕ) → read_hop h.work.rest.number h.work.rest.cache u ≡ Some (hop.NeedCopy m) → (o : Option BoxPtr) → pointer_of u ≡ o → Goal (request_by ask_copy h o)
      asks_copy_of m e None f = λ q. tt
      asks_copy_of m e (Some b) f = λ q. let far = copy_needed h.work.rest.number m h.work.rest.cache u b e f in for_copy d h b c hops a (followed b f) far.0 far.1 refl

      by_hop : (o : Option Hop) → read_hop h.work.rest.number h.work.rest.cache u ≡ o → Goal (read_by sp u o h)
      by_hop None e = λ q. tt
      by_hop (Some (hop.Slot m)) e = λ q. hops
      by_hop (Some (hop.Direct m)) e = λ q. local_hop u h hops
      by_hop (Some (hop.Hit m)) e =
          ready_goal (in_copy m) (use_copy sp u m (hit_by u h)) (weaker (SameActs (hit_by u h)) OnlyHops (use_copy sp u m (hit_by u h)) (copy_used sp u m (hit_by u h)) (λ h2 q. ap without_hops q ∙ hit_hop u h hops))
      by_hop (Some (hop.NeedCopy m)) e = asks_copy_of m e (pointer_of u) refl
      by_hop (Some (hop.NeedMove m)) e = λ q. tt
      by_hop (Some (hop.NeedTint m)) e = λ q. tt
      by_hop (Some (hop.AtCell m)) e = λ q. tt

      -- the hop is read
      reads_on : Goal (next h sp)
      reads_on = subst (λ o. Goal (read_value sp o h)) (sym at) (by_hop (read_hop h.work.rest.number h.work.rest.cache u) refl)

    -- a dirty reference is cleaned first
    module _ (h : Hand) (sp : Spot) (known : X h) (hops : OnlyHops h) (a : ReadsSoFar d h) (spot : At sp l) (q : MutRef) (at : value_at h sp ≡ Some (value.Mut q)) (dirty : q.dirty ≡ true) (away : (server_of q.word == h.work.rest.number) ≡ false) where
      abbrev there : (j : ℕ) × (sp ≡ in_slot j) × (l ≡ at_slot tn j)
      there = in_its_slot d h sp l q a spot at

      abbrev j : ℕ
      j = there.0

      its : slice_get h.thread.slots j ≡ Some (value.Mut q)
      its = subst (λ c. value_at h c ≡ Some (value.Mut q)) there.1 at

      was : value_in g (at_slot tn j) ≡ Some (value.Mut q)
      was =
          let st = spot_value d h sp l (value.Mut q) a spot at in
          let like = st.2 in
          subst (λ c. value_in g c ≡ Some (value.Mut q)) there.2 (st.1 ∙ ap Some (like.back q refl))

      -- it stood there
      stood_then : slice_get y.slots j ≡ Some (value.Mut q)
      stood_then = let m = alike_at y.slots h.thread.slots j (value.Mut q) (sym a.slots) its in m.1 ∙ ap Some (alike_mut m.0 q m.2)

      tinted_asks : (h3 : Hand) → nat_lt (colour_of q.word + 1) h.work.rest.partition.limit ≡ true → put_word (in_slot j) (issue_tint (box_of q) h.work) h ≡ Some h3 → Goal (next h3 (in_slot j))
      tinted_asks h3 low e = subst (λ o. Goal (read_value (in_slot j) o h3)) (sym now) (by (server_of (next_word q.word) == h3.work.rest.number) (is_cached h3.work.rest.cache (next_word q.word)) refl)
        where
          v : Value
          v = value.Mut (took q (next_word q.word))

          now : slice_get h3.thread.slots j ≡ Some v
          now = let wrote = slot_put h h3 j (value.Mut q) (box_of q) its e in ap (λ (th : ThreadState). slice_get th.slots j) wrote.thread ∙ set_same h.thread.slots j (value.Mut q) wrote.new its ∙ sym wrote.worded

          -- a hand with the new word isn't one that has what it had
          never : (h2 : Hand) → h2.thread.slots ≡ h3.thread.slots → Slotted (ready h2 sp) → OnlyHops h2
          never h2 same slots =
              let m = alike_at y.slots h2.thread.slots j v (sym slots) (ap (λ l. slice_get l j) same ∙ now) in
              let one : value.Mut q ≡ v = some_is (sym stood_then ∙ m.1 ∙ ap Some (alike_mut m.0 (took q (next_word q.word)) m.2)) in
              let refs : q ≡ took q (next_word q.word) = cc in
              let no : true ≡ false = sym dirty ∙ ap (λ (b : MutRef). b.dirty) refs in
              absurd cc

          hit_slots : (hit_by v h3).thread.slots ≡ h3.thread.slots
          hit_slots = refl

          local_slots : (local v h3).thread.slots ≡ h3.thread.slots
          local_slots = refl

          hits : (o : Option Hand) → Gives (λ h2. SameActs (hit_by v h3) h2 × (h2.thread.slots ≡ (hit_by v h3).thread.slots)) o → Goal (ready_at (in_copy (next_word q.word)) o)
          hits None b = λ slots. tt
          hits (Some h2) b = λ slots. never h2 (b.1 ∙ hit_slots) slots

          by : (b c : Bool) → is_cached h3.work.rest.cache (next_word q.word) ≡ c → Goal (read_by (in_slot j) v (Some (if b then hop.Direct (next_word q.word) else (if c then hop.Hit (next_word q.word) else hop.NeedCopy (next_word q.word)))) h3)
          by true c f = λ slots. never (local v h3) local_slots slots
          by false true f = hits (use_copy (in_slot j) v (next_word q.word) (hit_by v h3)) (used_so (next_word q.word) (hit_by v h3))
          by false false f = λ slots. for_tinted d h h3 j q known hops a lt (located ∙ ap Some there.2) its was dirty away low e f refl

      at_slot_now : nat_lt (colour_of q.word + 1) h.work.rest.partition.limit ≡ true → (o : Option Hand) → put_word (in_slot j) (issue_tint (box_of q) h.work) h ≡ o → Goal (and_then next (ready_at (in_slot j) o))
      at_slot_now low None e = λ slots. tt
      at_slot_now low (Some h3) e = tinted_asks h3 low e

      by_answer : (c : Cleaned) → cleaned_answer h.work.rest.partition.limit q ≡ c → Goal (and_then next (cleaned_by c sp q h))
      by_answer cleaned.Same f = reads_on h sp known hops a spot (value.Mut q) at
      by_answer (cleaned.Tinted v) f =
          subst (λ c. Goal (and_then next (ready_at c (put_word c (issue_tint (box_of q) h.work) h)))) (sym there.1)
          (at_slot_now (tint_left h.work.rest.partition.limit q v f) (put_word (in_slot j) (issue_tint (box_of q) h.work) h) refl)
      by_answer cleaned.MustRenew f =
          subst (λ b. Goal (and_then next (if b then ready_at sp (then_some (issue_renewal (box_of q) h.work) (λ m. put_word sp m h)) else requested (ask_object (box_of q) h)))) (sym away)
          (λ slots. for_object d h (box_of q) known hops a (followed h sp known hops a spot (value.Mut q) at (box_of q) refl) away refl)

      cleans : Goal (and_then next (clean_value sp (Some (value.Mut q)) h))
      cleans = by (nat_lt (colour_of q.word) h.work.rest.partition.limit)
        where
          by : (b : Bool) → Goal (and_then next (if b then cleaned_by (cleaned_answer h.work.rest.partition.limit q) sp q h else nothing))
          by true = by_answer (cleaned_answer h.work.rest.partition.limit q) refl
          by false = λ slots. tt

    -- what a value is cleaned to
    tints : (h : Hand) (sp : Spot) → X h → OnlyHops h → ReadsSoFar d h → At sp l → (u : Value) → value_at h sp ≡ Some u → (c : ℕ) → read_hop h.work.rest.number h.work.rest.cache u ≡ Some (hop.NeedTint c) → Goal (and_then next (clean_value sp (Some u) h))
    tints h sp c0 hops a spot (value.Mut q) at c e = let both = tint_wanted h.work.rest.number c h.work.rest.cache q e in cleans h sp c0 hops a spot q at both.0 both.1
    tints h sp c0 hops a spot (value.Own o) at c e = reads_on h sp c0 hops a spot (value.Own o) at
    tints h sp c0 hops a spot (value.SharedSlot b) at c e = reads_on h sp c0 hops a spot (value.SharedSlot b) at
    tints h sp c0 hops a spot (value.MutSlot b) at c e = reads_on h sp c0 hops a spot (value.MutSlot b) at
    tints h sp c0 hops a spot (value.Shared b) at c e = reads_on h sp c0 hops a spot (value.Shared b) at
    tints h sp c0 hops a spot value.Gone at c e = reads_on h sp c0 hops a spot value.Gone at
    tints h sp c0 hops a spot (value.Held b) at c e = reads_on h sp c0 hops a spot (value.Held b) at

    first : (h : Hand) (sp : Spot) → X h → OnlyHops h → ReadsSoFar d h → At sp l → (u : Value) → value_at h sp ≡ Some u → (o : Option Hop) → read_hop h.work.rest.number h.work.rest.cache u ≡ o → Goal (and_then next (read_clean sp u o h))
    first h sp c0 hops a spot u at (Some (hop.NeedTint c)) e = tints h sp c0 hops a spot u at c e
    first h sp c0 hops a spot u at (Some (hop.Slot c)) e = reads_on h sp c0 hops a spot u at
    first h sp c0 hops a spot u at (Some (hop.Direct c)) e = reads_on h sp c0 hops a spot u at
    first h sp c0 hops a spot u at (Some (hop.Hit c)) e = reads_on h sp c0 hops a spot u at
    first h sp c0 hops a spot u at (Some (hop.NeedCopy c)) e = reads_on h sp c0 hops a spot u at
    first h sp c0 hops a spot u at (Some (hop.NeedMove c)) e = reads_on h sp c0 hops a spot u at
    first h sp c0 hops a spot u at (Some (hop.AtCell c)) e = reads_on h sp c0 hops a spot u at
    first h sp c0 hops a spot u at None e = reads_on h sp c0 hops a spot u at

    -- ONE STAR

    star_wants : (h : Hand) (sp : Spot) → X (load_at sp h) → OnlyHops h → ReadsSoFar d h → At sp l → Goal (read_star h sp)
    star_wants h sp known hops a spot = by (value_at h sp) refl
      where
        h1 : Hand
        h1 = load_at sp h

        by : (o : Option Value) → value_at h sp ≡ o → Goal (and_then next (tinted_first sp o h1))
        by None e = λ slots. tt
        by (Some u) e = first h1 sp known hops (loaded k n t s y i z d h sp a) spot u (loaded_at h sp ∙ e) (read_hop h1.work.rest.number h1.work.rest.cache u) refl

  -- ALL STARS

  last_star : (d : ℕ) (h : Hand) (sp : Spot) → read_stars (suc d) h sp ≡ and_then read_star (read_stars d h sp)
  last_star zero h sp = by (read_star h sp)
    where
      by : (p : Prepared) → and_then (read_stars 0) p ≡ p
      by (ready h2 s2) = refl
      by (requested h2) = refl
      by nothing = refl
  last_star (suc d) h sp = by (read_star h sp) (λ h2 s2. last_star d h2 s2)
    where
      by : (p : Prepared) → ((h2 : Hand) (s2 : Spot) → read_stars (suc d) h2 s2 ≡ and_then read_star (read_stars d h2 s2)) → and_then (read_stars (suc d)) p ≡ and_then read_star (and_then (read_stars d) p)
      by (ready h2 s2) go = go h2 s2
      by (requested h2) go = refl
      by nothing go = refl

  slotted : (slot d : ℕ) (p : Prepared) → Fine k n t s y i z slot d p → Slotted p
  slotted slot d (ready h sp) f = (f.3).slots
  slotted slot d (requested h) f = tt
  slotted slot d nothing f = tt

  module _ (X : Hand → Type 0) (only : Bool) (w : Lval) (place : Place k (paths k n t s y i z) x only w) (short : w.depth ≤ 8) (most : ℕ) (le : most ≤ w.depth) (free : IsFree k n t s y i z only w place most)
      (known : (d : ℕ) → Known k n t s y i z X (read_stars d (hand k n t s y i z) (in_slot w.slot))) where
    free_so : (d : ℕ) → d ≤ most → IsFree k n t s y i z only w place d
    free_so d l e lt under = free e lt (omega (arith, l, under))

    fine_so : (d : ℕ) → d ≤ most → Fine k n t s y i z w.slot d (read_stars d (hand k n t s y i z) (in_slot w.slot))
    fine_so d l = stars_fine k n t s y i z only w place short d (omega (arith, l, le)) (free_so d l)

    pub stars_want : (d : ℕ) → d ≤ most → WantedSo X w most (read_stars d (hand k n t s y i z) (in_slot w.slot))
    stars_want zero l = refl
    stars_want (suc d) l =
        subst (WantedSo X w most) (sym (last_star d (hand k n t s y i z) (in_slot w.slot)))
        (by (read_stars d (hand k n t s y i z) (in_slot w.slot)) (stars_want d (omega (arith, l))) (known d) (fine_so d (omega (arith, l)))
        (subst (Fine k n t s y i z w.slot (suc d)) (last_star d (hand k n t s y i z) (in_slot w.slot)) (fine_so (suc d) l)))
      where
        by : (p : Prepared) → WantedSo X w most p → Known k n t s y i z X p → Fine k n t s y i z w.slot d p → Fine k n t s y i z w.slot (suc d) (and_then read_star p) → WantedSo X w most (and_then read_star p)
        by (ready h sp) a b f f2 = star_wants X w most d (omega (arith, l)) f.0 f.1 h sp b a f.3 f.2 (slotted w.slot (suc d) (read_star h sp) f2)
        by (requested h) a b f f2 = a
        by nothing a b f f2 = tt
