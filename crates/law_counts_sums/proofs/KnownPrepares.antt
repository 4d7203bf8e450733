-- Making a place ready keeps what is named known, and leaves alone what messages, mutexes and tasks there are, but for the request that it may end with.
use Rattle.std.proofs.Common.{◌≡◌, ℕ, zero, suc, ◌+◌, ◌==◌, ◌&&◌, Bool, true, false, nat_lt, if◌then◌else◌, List, Option, Some, None, refl, sym, subst}
use Rattle.std.specs.Bool.{⊤}
use Rattle.coherent_memory.specs.Below.fr_base.declared.place.Lval.{Lval}
use Rattle.coherent_memory.specs.Below.fr_base.Lists.{is_in}
use Rattle.coherent_memory.specs.Below.global_addr.Words.{colour_of, server_of}
use Rattle.coherent_memory.specs.Below.heap_partition.declared.value.BoxPtr.{BoxPtr}
use Rattle.coherent_memory.specs.Below.read_cache.Cache.{can_pin, pin, users}
use Rattle.coherent_memory.specs.Below.mut_borrow.Refs.{cleaned_answer, finish_word}
use Rattle.coherent_memory.specs.Below.mut_borrow.declared.shared.SharedRef.{SharedRef}
use Rattle.coherent_memory.specs.Below.mut_borrow.declared.mutable.MutRef.{MutRef}
use Rattle.coherent_memory.specs.Below.mut_borrow.declared.mutable.Cleaned.{Cleaned}
use Rattle.coherent_memory.specs.Below.mut_borrow.declared.mutable.Cleaned.TheVariants as cleaned
use Rattle.coherent_memory.specs.Below.thread_state.declared.value.Value.{Value}
use Rattle.coherent_memory.specs.Below.thread_state.declared.value.Value.TheVariants as value
use Rattle.coherent_memory.specs.Below.journal.declared.act.Act.{Act}
use Rattle.coherent_memory.specs.Below.journal.declared.act.Act.TheVariants as act
use Rattle.coherent_memory.specs.Below.place_walk.declared.hop.Hop.{Hop}
use Rattle.coherent_memory.specs.Below.place_walk.declared.hop.Hop.TheVariants as hop
use Rattle.coherent_memory.specs.Below.place_walk.Hops.{read_hop, write_hop}
use Rattle.coherent_memory.specs.Below.server_model.Servers.{Server}
use Rattle.coherent_memory.specs.Below.server_model.Work.{Hand, note, with_cache, working, then_some, leads_here, used_once}
use Rattle.coherent_memory.specs.Below.server_model.NewWords.{NewWord, can_grow, is_last, issue_tint, issue_renewal, issue_colour}
use Rattle.coherent_memory.specs.Below.server_model.Places.{Spot, in_slot, in_cell, in_copy, value_at, load_at, put_at, pointer_of, put_word}
use Rattle.coherent_memory.specs.Below.server_model.Prepare.{Access, ReadTo, ReadPointer, WriteTo, LendTo, EndRef, Prepared, ready, requested, nothing, and_then, ready_at, ask_copy, ask_object, request_by, box_of, clean_last, cleaned_by, clean_value, pinned_once, use_copy, hopped, local, hit_by, read_by, read_value, read_clean, tinted_first, read_star, read_stars, passing, box_ready, colour_box, write_by, pass_by, write_value, write_star, write_stars, read_pointer, is_taken, lend_by, lend_value, lend_pointer, follow_holder, follow_ended, unlabelled, end_ref, prepare}
use Rattle.coherent_memory.proofs.Names.{and_right}
use Rattle.law_counts_sums.specs.Laws.{Gives}
use Rattle.law_counts_sums.proofs.Results.{test_gives, bind_gives}
use Rattle.law_counts_sums.proofs.Known.{Here, ValueKnown, next_server, renewed_known, renewal_here, users_known}
use Rattle.law_counts_sums.proofs.KnownPlaces.{Told, Holds, KnownHand, spot_known, pointer_known, put_known, put_keeps, pointer_put, pointer_keeps}

module _ (ss : List Server) (fact : Told) where
  abbrev pub Ok : Hand → Type 0
  Ok h = KnownHand ss h × Holds fact h

  abbrev pub PointerKnown : BoxPtr → Type 0
  PointerKnown p = Here ss (server_of p.word)

-- a request for a known pointer's object leaves what is wanted of it
pub record Asked (ss : List Server) (fact : Told) (Wanted : Hand → Type 0) : Type 0 where
  pub for_copy : (p : BoxPtr) (h : Hand) → PointerKnown ss fact p → Ok ss fact h → Wanted (ask_copy p h)
  pub for_object : (p : BoxPtr) (h : Hand) → PointerKnown ss fact p → Ok ss fact h → Wanted (ask_object p h)

module _ (ss : List Server) (fact : Told) {Wanted : Hand → Type 0} (asks : Asked ss fact Wanted) where
  abbrev Good : Hand → Type 0
  Good = Ok ss fact

  -- what is ready is known, and a request leaves what is wanted of it
  abbrev pub Fine : Prepared → Type 0
  Fine (ready h s) = Good h
  Fine (requested h) = Wanted h
  Fine nothing = ⊤

  then_fine : (x : Prepared) (go : Hand → Spot → Prepared) → Fine x → ((h : Hand) (s : Spot) → Good h → Fine (go h s)) → Fine (and_then go x)
  then_fine (ready h s) go g w = w h s g
  then_fine (requested h) go g w = g
  then_fine nothing go g w = tt

  ready_fine : (s : Spot) (o : Option Hand) → Gives Good o → Fine (ready_at s o)
  ready_fine s None g = tt
  ready_fine s (Some h) g = g

  if_fine : (b : Bool) (x y : Prepared) → Fine x → Fine y → Fine (if b then x else y)
  if_fine true x y f g = f
  if_fine false x y f g = g

  both : (P Q : Hand → Type 0) (o : Option Hand) → Gives P o → Gives Q o → Gives (λ h. P h × Q h) o
  both P Q None p q = tt
  both P Q (Some h) p q = (p, q)

  -- REQUESTS

  copy_asked : (p : BoxPtr) (h : Hand) → PointerKnown ss fact p → Good h → Wanted (ask_copy p h)
  copy_asked = asks.for_copy

  object_asked : (p : BoxPtr) (h : Hand) → PointerKnown ss fact p → Good h → Wanted (ask_object p h)
  object_asked = asks.for_object

  asked_fine : (request : BoxPtr → Hand → Hand) → ((p : BoxPtr) (h : Hand) → PointerKnown ss fact p → Good h → Wanted (request p h)) → (h : Hand) (o : Option BoxPtr) → Gives (PointerKnown ss fact) o → Good h → Fine (request_by request h o)
  asked_fine request w h None k g = tt
  asked_fine request w h (Some p) k g = w p h k g

  -- NEW WORDS

  -- a word that is known is put, and the work with it
  words : (s : Spot) (n : NewWord) (h : Hand) → Here ss (server_of n.word) → Good (record h { work = n.work }) → Gives Good (put_word s n h)
  words s n h k g = both (KnownHand ss) (Holds fact) (put_word s n h) (pointer_put ss s n.word (record h { work = n.work }) k g.0) (pointer_keeps fact s n.word (record h { work = n.work }) g.1)

  abbrev NewOk : Hand → NewWord → Type 0
  NewOk h n = Here ss (server_of n.word) × Good (record h { work = n.work })

  tints : (p : BoxPtr) (h : Hand) → PointerKnown ss fact p → Good h → NewOk h (issue_tint p h.work)
  tints p h k g = (subst (Here ss) (sym (next_server p.word)) k, g)

  renews : (p : BoxPtr) (h : Hand) → Good h → Gives (NewOk h) (issue_renewal p h.work)
  renews p h g =
      let q = h.work.rest.partition in
      let known = g.0 in
      test_gives (NewOk h) (leads_here q p.word && (is_last q p.word && can_grow q)) _ (λ on. (
        renewal_here ss q p.word (and_right (is_last q p.word) (can_grow q) (and_right (leads_here q p.word) (is_last q p.word && can_grow q) on)) known.partition_known,
        (record { home_here = known.home_here; slots_known = known.slots_known; temps_known = known.temps_known; partition_known = renewed_known ss q p.word known.partition_known; copies_known = known.copies_known }, g.1),
      ))

  colours : (p : BoxPtr) (h : Hand) → PointerKnown ss fact p → Good h → Gives (NewOk h) (issue_colour p h.work)
  colours p h k g = by (nat_lt (colour_of p.word + 1) h.work.rest.partition.limit)
    where
      by : (b : Bool) → Gives (NewOk h) (if b then Some (issue_tint p h.work) else issue_renewal p h.work)
      by true = tints p h k g
      by false = renews p h g

  -- CLEANING

  last_cleans : (s : Spot) (q : MutRef) (h : Hand) → Here ss (server_of q.word) → Good h → Fine (clean_last s q h)
  last_cleans s q h k g =
      if_fine (server_of q.word == h.work.rest.number) (ready_at s (then_some (issue_renewal (box_of q) h.work) (λ m. put_word s m h))) (requested (ask_object (box_of q) h))
      (ready_fine s (then_some (issue_renewal (box_of q) h.work) (λ m. put_word s m h)) (bind_gives (NewOk h) Good (issue_renewal (box_of q) h.work) (λ m. put_word s m h) (renews (box_of q) h g) (λ m u. words s m h u.0 u.1)))
      (object_asked (box_of q) h k g)

  cleans_by : (a : Cleaned) (s : Spot) (q : MutRef) (h : Hand) → Here ss (server_of q.word) → Good h → Fine (cleaned_by a s q h)
  cleans_by cleaned.Same s q h k g = g
  cleans_by (cleaned.Tinted w) s q h k g = let n = tints (box_of q) h k g in ready_fine s (put_word s (issue_tint (box_of q) h.work) h) (words s (issue_tint (box_of q) h.work) h n.0 n.1)
  cleans_by cleaned.MustRenew s q h k g = last_cleans s q h k g

  cleans : (s : Spot) (v : Option Value) (h : Hand) → Gives (ValueKnown ss) v → Good h → Fine (clean_value s v h)
  cleans s (Some (value.Mut q)) h k g =
      if_fine (nat_lt (colour_of q.word) h.work.rest.partition.limit) (cleaned_by (cleaned_answer h.work.rest.partition.limit q) s q h) nothing (cleans_by (cleaned_answer h.work.rest.partition.limit q) s q h k g) tt
  cleans s _ h k g = g

  -- what stands at a spot, if anything does
  at_spot : (s : Spot) (h : Hand) → Good h → Gives (ValueKnown ss) (value_at h s)
  at_spot s h g = by (value_at h s) refl
    where
      by : (o : Option Value) → value_at h s ≡ o → Gives (ValueKnown ss) o
      by None q = tt
      by (Some v) q = spot_known ss s h v g.0 q

  -- READING

  pinned : (w : ℕ) (h : Hand) → Good h → Good (working (with_cache (pin h.work.rest.cache w)) h)
  pinned w h g =
      let known = g.0 in (
        record {
          home_here = known.home_here;
          slots_known = known.slots_known;
          temps_known = known.temps_known;
          partition_known = known.partition_known;
          copies_known = users_known ss h.work.rest.cache w (users h.work.rest.cache w + 1) known.copies_known;
        },
        g.1,
      )

  pins_once : (s : Spot) (q : SharedRef) (b : Bool) (h : Hand) → Here ss (server_of q.word) → Good h → Gives Good (pinned_once s q b h)
  pins_once s q true h k g = g
  pins_once s q false h k g =
      let v = value.Shared (record q { pinned = true }) in
      let h2 = working (with_cache (pin h.work.rest.cache q.word)) h in
      test_gives Good (can_pin h.work.rest.cache q.word) _ (λ on. let p = pinned q.word h g in both (KnownHand ss) (Holds fact) (put_at s v h2) (put_known ss s v h2 k p.0) (put_keeps fact s v h2 p.1))

  word_used : (w : ℕ) (b : Bool) (h : Hand) → Good h → Gives Good (used_once w b h)
  word_used w true h g = g
  word_used w false h g = test_gives Good (can_pin h.work.rest.cache w) _ (λ on. pinned w h g)

  copy_used : (s : Spot) (v : Value) (w : ℕ) (h : Hand) → ValueKnown ss v → Good h → Gives Good (use_copy s v w h)
  copy_used s (value.Shared q) w h k g = pins_once s q q.pinned h k g
  copy_used s _ w h k g = word_used w (is_in w h.thread.walk) h g

  hops : (f : BoxPtr → Act) (o : Option BoxPtr) (h : Hand) → Good h → Good (hopped (λ p. note (f p)) o h)
  hops f None h g = g
  hops f (Some p) h g = g

  local_kept : (v : Value) (h : Hand) → Good h → Good (local v h)
  local_kept v h g = hops (λ p. act.Local p.object p.word) (pointer_of v) h g

  reads_by : (s : Spot) (v : Value) (o : Option Hop) (h : Hand) → ValueKnown ss v → Good h → Fine (read_by s v o h)
  reads_by s v (Some (hop.Slot i)) h k g = g
  reads_by s v (Some (hop.Direct w)) h k g = local_kept v h g
  reads_by s v (Some (hop.Hit w)) h k g = ready_fine (in_copy w) (use_copy s v w (hit_by v h)) (copy_used s v w (hit_by v h) k (hops (λ p. act.Hit p.object p.word) (pointer_of v) h g))
  reads_by s v (Some (hop.NeedCopy w)) h k g = asked_fine ask_copy copy_asked h (pointer_of v) (pointer_known ss v k) g
  reads_by s v _ h k g = tt

  reads_value : (s : Spot) (v : Option Value) (h : Hand) → Gives (ValueKnown ss) v → Good h → Fine (read_value s v h)
  reads_value s None h k g = tt
  reads_value s (Some v) h k g = reads_by s v (read_hop h.work.rest.number h.work.rest.cache v) h k g

  reads_clean : (s : Spot) (v : Value) (o : Option Hop) (h : Hand) → ValueKnown ss v → Good h → Fine (read_clean s v o h)
  reads_clean s v (Some (hop.NeedTint w)) h k g = cleans s (Some v) h k g
  reads_clean s v _ h k g = g

  tints_first : (s : Spot) (v : Option Value) (h : Hand) → Gives (ValueKnown ss) v → Good h → Fine (tinted_first s v h)
  tints_first s None h k g = tt
  tints_first s (Some v) h k g = reads_clean s v (read_hop h.work.rest.number h.work.rest.cache v) h k g

  reads_star : (h : Hand) (s : Spot) → Good h → Fine (read_star h s)
  reads_star h s g = then_fine (tinted_first s (value_at h s) (load_at s h)) _ (tints_first s (value_at h s) (load_at s h) (at_spot s h g) g) (λ h2 s2 u. reads_value s2 (value_at h2 s2) h2 (at_spot s2 h2 u) u)

  reads_stars : (d : ℕ) (h : Hand) (s : Spot) → Good h → Fine (read_stars d h s)
  reads_stars zero h s g = g
  reads_stars (suc d) h s g = then_fine (read_star h s) (read_stars d) (reads_star h s g) (λ h2 s2 u. reads_stars d h2 s2 u)

  -- WRITING

  boxes_ready : (s : Spot) (o : Option NewWord) (h : Hand) → Gives (NewOk h) o → Fine (box_ready s o h)
  boxes_ready s None h g = tt
  boxes_ready s (Some m) h g = ready_fine (in_cell m.word None) (put_word s m h) (words s m h g.0 g.1)

  colours_box : (s : Spot) (o : Option BoxPtr) (h : Hand) → Gives (PointerKnown ss fact) o → Good h → Fine (colour_box s o h)
  colours_box s None h k g = tt
  colours_box s (Some p) h k g = boxes_ready s (issue_colour p h.work) h (colours p h k g)

  writes_by : (m : ℕ) (s : Spot) (v : Value) (o : Option Hop) (h : Hand) → ValueKnown ss v → Good h → Fine (write_by m s v o h)
  writes_by m s v (Some (hop.Slot i)) h k g = g
  writes_by m s v (Some (hop.NeedTint w)) h k g = colours_box s (pointer_of v) (passing (m + 1) h) (pointer_known ss v k) g
  writes_by m s v (Some (hop.AtCell w)) h k g = local_kept v h g
  writes_by m s v (Some (hop.NeedMove w)) h k g = asked_fine ask_object object_asked h (pointer_of v) (pointer_known ss v k) g
  writes_by m s v _ h k g = tt

  passes_by : (s : Spot) (v : Value) (o : Option Hop) (h : Hand) → Good h → Fine (pass_by s v o h)
  passes_by s v (Some (hop.Slot i)) h g = g
  passes_by s v (Some (hop.NeedTint w)) h g = g
  passes_by s v (Some (hop.AtCell w)) h g = local_kept v h g
  passes_by s v _ h g = tt

  writes_value : (m : ℕ) (s : Spot) (v : Option Value) (h : Hand) → Gives (ValueKnown ss) v → Good h → Fine (write_value m s v h)
  writes_value m s None h k g = tt
  writes_value m s (Some v) h k g =
      let o = write_hop h.work.rest.number v in
      if_fine (nat_lt m h.thread.passed) (pass_by s v o h) (write_by m s v o h) (passes_by s v o h g) (writes_by m s v o h k g)

  writes_stars : (d m : ℕ) (h : Hand) (s : Spot) → Good h → Fine (write_stars d m h s)
  writes_stars zero m h s g = g
  writes_stars (suc d) m h s g = then_fine (write_star m h s) (write_stars d (m + 1)) (writes_value m s (value_at h s) (load_at s h) (at_spot s h g) g) (λ h2 s2 u. writes_stars d (m + 1) h2 s2 u)

  -- BORROWS AND ENDS

  reads_pointer : (w : Lval) (d : ℕ) (h : Hand) → Good h → Fine (read_pointer w d h)
  reads_pointer w zero h g = g
  reads_pointer w (suc d) h g = then_fine (read_stars d h (in_slot w.slot)) _ (reads_stars d h (in_slot w.slot) g) (λ h2 s u. cleans s (value_at h2 s) (load_at s h2) (at_spot s h2 u) u)

  lends_by : (s : Spot) (v : Value) (o : Option Hop) (h : Hand) → ValueKnown ss v → Good h → Fine (lend_by s v o h)
  lends_by s v None h k g = tt
  lends_by s v (Some (hop.NeedMove w)) h k g = if_fine (is_taken h.thread.phase) (ready h s) (request_by ask_object h (pointer_of v)) g (asked_fine ask_object object_asked h (pointer_of v) (pointer_known ss v k) g)
  lends_by s v (Some _) h k g = g

  lends_value : (s : Spot) (v : Option Value) (h : Hand) → Gives (ValueKnown ss) v → Good h → Fine (lend_value s v h)
  lends_value s None h k g = tt
  lends_value s (Some v) h k g = lends_by s v (write_hop h.work.rest.number v) h k g

  lends_pointer : (w : Lval) (d : ℕ) (h : Hand) → Good h → Fine (lend_pointer w d h)
  lends_pointer w zero h g = g
  lends_pointer w (suc d) h g = then_fine (read_stars d h (in_slot w.slot)) _ (reads_stars d h (in_slot w.slot) g) (λ h2 s u. lends_value s (value_at h2 s) (load_at s h2) (at_spot s h2 u) u)

  follows_holder : (q : MutRef) (o : Option ℕ) (h : Hand) → Good h → Fine (follow_holder q o h)
  follows_holder q None h g = g
  follows_holder q (Some w) h g = writes_stars q.holder.depth 0 h (in_slot q.holder.slot) g

  follows_ended : (v : Option Value) (h : Hand) → Good h → Fine (follow_ended v h)
  follows_ended (Some (value.Mut q)) h g = follows_holder q (finish_word q) h g
  follows_ended _ h g = tt

  ends_ref : (s : Spot) (h : Hand) → Good h → Fine (end_ref s h)
  ends_ref s h g =
      then_fine (and_then (λ h2 s2. follow_ended (value_at h2 s2) h2) (clean_value s (value_at h s) h)) unlabelled
      (then_fine (clean_value s (value_at h s) h) _ (cleans s (value_at h s) h (at_spot s h g) g) (λ h2 s2 u. follows_ended (value_at h2 s2) h2 u)) (λ h2 s2 u. u)

  -- any access is made ready
  pub prepare_fine : (a : Option Access) (h : Hand) → Good h → Fine (prepare a h)
  prepare_fine None h g = g
  prepare_fine (Some (ReadTo w)) h g = reads_stars w.depth h (in_slot w.slot) g
  prepare_fine (Some (ReadPointer w)) h g = reads_pointer w w.depth h g
  prepare_fine (Some (WriteTo w)) h g = writes_stars w.depth 0 h (in_slot w.slot) g
  prepare_fine (Some (LendTo w)) h g = lends_pointer w w.depth h g
  prepare_fine (Some (EndRef s)) h g = ends_ref s h g
