-- Making a place ready sends the request that it notes, and nothing else.
use Rattle.std.proofs.Common.{◌≡◌, ℕ, zero, suc, ◌+◌, ◌==◌, ◌&&◌, Bool, true, false, nat_lt, if◌then◌else◌, length, Option, Some, None, refl}
use Rattle.std.specs.Bool.{⊤}
use Rattle.law_counts_things.specs.Below.fr_base.Lists.{is_in}
use Rattle.law_counts_things.specs.Below.fr_base.declared.place.Lval.{Lval}
use Rattle.law_counts_things.specs.Below.global_addr.Words.{colour_of, server_of, next_word}
use Rattle.law_counts_things.specs.Below.heap_partition.declared.value.BoxPtr.{BoxPtr}
use Rattle.law_counts_things.specs.Below.owner_box.Partition.{stored, new_word, freed, renewed}
use Rattle.law_counts_things.specs.Below.read_cache.Cache.{can_pin, pin}
use Rattle.law_counts_things.specs.Below.mut_borrow.Refs.{cleaned_answer, finish_word}
use Rattle.law_counts_things.specs.Below.mut_borrow.declared.shared.SharedRef.{SharedRef}
use Rattle.law_counts_things.specs.Below.mut_borrow.declared.mutable.MutRef.{MutRef}
use Rattle.law_counts_things.specs.Below.mut_borrow.declared.mutable.Cleaned.{Cleaned}
use Rattle.law_counts_things.specs.Below.mut_borrow.declared.mutable.Cleaned.TheVariants as cleaned
use Rattle.law_counts_things.specs.Below.thread_state.View.{ThreadState}
use Rattle.law_counts_things.specs.Below.thread_state.declared.value.Value.{Value}
use Rattle.law_counts_things.specs.Below.thread_state.declared.value.Value.TheVariants as value
use Rattle.law_counts_things.specs.Below.server_msgs.declared.message.Message.TheVariants as message
use Rattle.law_counts_things.specs.Below.place_walk.declared.hop.Hop.{Hop}
use Rattle.law_counts_things.specs.Below.place_walk.declared.hop.Hop.TheVariants as hop
use Rattle.law_counts_things.specs.Below.place_walk.Hops.{read_hop, write_hop}
use Rattle.law_counts_things.specs.Below.journal.declared.act.Act.{Act}
use Rattle.law_counts_things.specs.Below.journal.declared.act.Act.TheVariants as act
use Rattle.law_counts_things.specs.Below.coloured_heap.Sends.{sends}
use Rattle.law_counts_things.specs.Below.server_model.Servers.{Rest}
use Rattle.law_counts_things.specs.Below.server_model.Work.{Hand, note, with_cache, with_partition, working, leads_here, then_some, used_once}
use Rattle.law_counts_things.specs.Below.server_model.NewWords.{NewWord, can_grow, is_last, issue_tint, issue_renewal, issue_colour}
use Rattle.law_counts_things.specs.Below.server_model.Places.{Spot, in_slot, on_top, in_cell, in_copy, nowhere, value_at, load_at, note_write, put_at, pointer_of, with_word, set_pointer, put_word}
use Rattle.law_counts_things.specs.Below.server_model.Prepare.{Access, ReadTo, ReadPointer, WriteTo, LendTo, EndRef, Prepared, ready, requested, nothing, and_then, ready_at, ask_copy, ask_object, request_by, box_of, clean_last, cleaned_by, clean_value, pinned_once, use_copy, hopped, local, hit_by, read_by, read_value, read_clean, tinted_first, read_star, read_stars, passing, box_ready, colour_box, write_by, pass_by, write_value, write_star, write_stars, read_pointer, is_taken, lend_by, lend_value, lend_pointer, follow_holder, follow_ended, unlabelled, end_ref, prepare}
use Rattle.law_counts_things.specs.Below.fr_base.Names.{home_of}
use Rattle.law_counts_things.specs.Below.law_counts_sums.Laws.{Gives}
use Rattle.law_counts_things.proofs.Below.law_counts_sums.Results.{then_gives, test_gives, bind_gives}
use Rattle.law_counts_limits.proofs.sendings.Sent.{By, evicts, sends_act, notes}

-- a thread's home is that of its number
abbrev pub IsHome : ThreadState → Type 0
IsHome t = t.home ≡ home_of t.number

module _ (r : Rest) where
  -- what the event has sent is what its acts send, and the thread in its hand has its home
  abbrev pub Good : Hand → Type 0
  Good h = By r h.work × IsHome h.thread

  abbrev pub Fine : Prepared → Type 0
  Fine (ready h s) = Good h
  Fine (requested h) = Good h
  Fine nothing = ⊤

  noted : (a : Act) (h : Hand) → sends a ≡ None → evicts a ≡ 0 → Good h → Good (working (note a) h)
  noted a h e z g = (notes r h.work.rest.number h.work.rest.inbox h.work.rest.outbox h.work.acts a e z g.0, g.1)

  then_fine : (x : Prepared) (go : Hand → Spot → Prepared) → Fine x → ((h : Hand) (s : Spot) → Good h → Fine (go h s)) → Fine (and_then go x)
  then_fine (ready h s) go g w = w h s g
  then_fine (requested h) go g w = g
  then_fine nothing go g w = tt

  ready_fine : (s : Spot) (o : Option Hand) → Gives Good o → Fine (ready_at s o)
  ready_fine s None g = tt
  ready_fine s (Some h) g = g

  -- PUTTING VALUES

  puts_noted : (o : Option ℕ) (h : Hand) → Good h → Good (note_write o h)
  puts_noted None h g = g
  puts_noted (Some i) h g = g

  pub puts : (s : Spot) (v : Value) (h : Hand) → Good h → Gives Good (put_at s v h)
  puts (in_slot i) v h g = test_gives Good (nat_lt i (length h.thread.slots)) _ (λ on. g)
  puts on_top v h g = g
  puts (in_cell w through) (value.Own v) h g = test_gives Good (leads_here h.work.rest.partition w) _ (λ on. puts_noted through (working (with_partition (stored h.work.rest.partition w v)) h) g)
  puts (in_cell w through) value.Gone h g = tt
  puts (in_cell w through) (value.SharedSlot i) h g = tt
  puts (in_cell w through) (value.MutSlot i) h g = tt
  puts (in_cell w through) (value.Shared q) h g = tt
  puts (in_cell w through) (value.Mut q) h g = tt
  puts (in_cell w through) (value.Held m) h g = tt
  puts (in_copy w) v h g = tt
  puts nowhere v h g = tt

  pub pointer_puts : (s : Spot) (w : ℕ) (h : Hand) → Good h → Gives Good (set_pointer s w h)
  pointer_puts s w h g = then_gives Good (value_at h s) _ (λ v q. then_gives Good (with_word w v) _ (λ new e. puts s new h g))

  -- REQUESTS

  pub asks_copy : (p : BoxPtr) (h : Hand) → Good h → Good (ask_copy p h)
  asks_copy p h g = (sends_act r h.work.rest h.work.acts (act.Ask p.object p.word) (server_of p.word) (message.Fetch p.word p.object h.work.rest.number h.thread.number) refl g.0, g.1)

  pub asks_object : (p : BoxPtr) (h : Hand) → Good h → Good (ask_object p h)
  asks_object p h g = (sends_act r h.work.rest h.work.acts (act.Pull p.object p.word) (server_of p.word) (message.Move p.word p.object h.work.rest.number h.thread.number) refl g.0, g.1)

  copy_asked : (h : Hand) (o : Option BoxPtr) → Good h → Fine (request_by ask_copy h o)
  copy_asked h None g = tt
  copy_asked h (Some p) g = asks_copy p h g

  object_asked : (h : Hand) (o : Option BoxPtr) → Good h → Fine (request_by ask_object h o)
  object_asked h None g = tt
  object_asked h (Some p) g = asks_object p h g

  -- NEW WORDS

  abbrev NewOk : Hand → NewWord → Type 0
  NewOk h n = Good (record h { work = n.work })

  words : (s : Spot) (n : NewWord) (h : Hand) → NewOk h n → Gives Good (put_word s n h)
  words s n h g = pointer_puts s n.word (record h { work = n.work }) g

  tints : (p : BoxPtr) (h : Hand) → Good h → NewOk h (issue_tint p h.work)
  tints p h g = noted (act.Tint p.object p.word (next_word p.word)) h refl refl g

  renewals : (p : BoxPtr) (h : Hand) → Good h → Gives (NewOk h) (issue_renewal p h.work)
  renewals p h g =
      test_gives (NewOk h) (leads_here h.work.rest.partition p.word && (is_last h.work.rest.partition p.word && can_grow h.work.rest.partition)) _
      (λ on. noted (act.Renew p.object p.word (new_word (freed h.work.rest.partition p.word))) (working (with_partition (renewed h.work.rest.partition p.word)) h) refl refl g)

  colours : (p : BoxPtr) (h : Hand) → Good h → Gives (NewOk h) (issue_colour p h.work)
  colours p h g = by (nat_lt (colour_of p.word + 1) h.work.rest.partition.limit)
    where
      by : (b : Bool) → Gives (NewOk h) (if b then Some (issue_tint p h.work) else issue_renewal p h.work)
      by true = tints p h g
      by false = renewals p h g

  -- CLEANING

  last_cleans : (s : Spot) (q : MutRef) (h : Hand) → Good h → Fine (clean_last s q h)
  last_cleans s q h g = by (server_of q.word == h.work.rest.number)
    where
      by : (b : Bool) → Fine (if b then ready_at s (then_some (issue_renewal (box_of q) h.work) (λ n. put_word s n h)) else requested (ask_object (box_of q) h))
      by true = ready_fine s (then_some (issue_renewal (box_of q) h.work) (λ n. put_word s n h)) (bind_gives (NewOk h) Good (issue_renewal (box_of q) h.work) (λ n. put_word s n h) (renewals (box_of q) h g) (λ n u. words s n h u))
      by false = asks_object (box_of q) h g

  cleans_by : (c : Cleaned) (s : Spot) (q : MutRef) (h : Hand) → Good h → Fine (cleaned_by c s q h)
  cleans_by cleaned.Same s q h g = g
  cleans_by (cleaned.Tinted w) s q h g = ready_fine s (put_word s (issue_tint (box_of q) h.work) h) (words s (issue_tint (box_of q) h.work) h (tints (box_of q) h g))
  cleans_by cleaned.MustRenew s q h g = last_cleans s q h g

  cleans : (s : Spot) (v : Option Value) (h : Hand) → Good h → Fine (clean_value s v h)
  cleans s (Some (value.Mut q)) h g = by (nat_lt (colour_of q.word) h.work.rest.partition.limit)
    where
      by : (b : Bool) → Fine (if b then cleaned_by (cleaned_answer h.work.rest.partition.limit q) s q h else nothing)
      by true = cleans_by (cleaned_answer h.work.rest.partition.limit q) s q h g
      by false = tt
  cleans s _ h g = g

  -- READING

  pins_once : (s : Spot) (q : SharedRef) (b : Bool) (h : Hand) → Good h → Gives Good (pinned_once s q b h)
  pins_once s q true h g = g
  pins_once s q false h g = test_gives Good (can_pin h.work.rest.cache q.word) _ (λ on. puts s (value.Shared (record q { pinned = true })) (working (with_cache (pin h.work.rest.cache q.word)) h) g)

  pub word_used : (w : ℕ) (b : Bool) (h : Hand) → Good h → Gives Good (used_once w b h)
  word_used w true h g = g
  word_used w false h g = test_gives Good (can_pin h.work.rest.cache w) _ (λ on. g)

  copy_used : (s : Spot) (v : Value) (w : ℕ) (h : Hand) → Good h → Gives Good (use_copy s v w h)
  copy_used s (value.Shared q) w h g = pins_once s q q.pinned h g
  copy_used s _ w h g = word_used w (is_in w h.thread.walk) h g

  hops : (f : BoxPtr → Act) → ((p : BoxPtr) → sends (f p) ≡ None) → ((p : BoxPtr) → evicts (f p) ≡ 0) → (o : Option BoxPtr) (h : Hand) → Good h → Good (hopped (λ p. note (f p)) o h)
  hops f e z None h g = g
  hops f e z (Some p) h g = noted (f p) h (e p) (z p) g

  local_kept : (v : Value) (h : Hand) → Good h → Good (local v h)
  local_kept v h g = hops (λ p. act.Local p.object p.word) (λ p. refl) (λ p. refl) (pointer_of v) h g

  reads_by : (s : Spot) (v : Value) (o : Option Hop) (h : Hand) → Good h → Fine (read_by s v o h)
  reads_by s v (Some (hop.Slot i)) h g = g
  reads_by s v (Some (hop.Direct w)) h g = local_kept v h g
  reads_by s v (Some (hop.Hit w)) h g = ready_fine (in_copy w) (use_copy s v w (hit_by v h)) (copy_used s v w (hit_by v h) (hops (λ p. act.Hit p.object p.word) (λ p. refl) (λ p. refl) (pointer_of v) h g))
  reads_by s v (Some (hop.NeedCopy w)) h g = copy_asked h (pointer_of v) g
  reads_by s v _ h g = tt

  reads_value : (s : Spot) (v : Option Value) (h : Hand) → Good h → Fine (read_value s v h)
  reads_value s None h g = tt
  reads_value s (Some v) h g = reads_by s v (read_hop h.work.rest.number h.work.rest.cache v) h g

  reads_clean : (s : Spot) (v : Value) (o : Option Hop) (h : Hand) → Good h → Fine (read_clean s v o h)
  reads_clean s v (Some (hop.NeedTint w)) h g = cleans s (Some v) h g
  reads_clean s v _ h g = g

  tints_first : (s : Spot) (v : Option Value) (h : Hand) → Good h → Fine (tinted_first s v h)
  tints_first s None h g = tt
  tints_first s (Some v) h g = reads_clean s v (read_hop h.work.rest.number h.work.rest.cache v) h g

  reads_star : (h : Hand) (s : Spot) → Good h → Fine (read_star h s)
  reads_star h s g = then_fine (tinted_first s (value_at h s) (load_at s h)) _ (tints_first s (value_at h s) (load_at s h) g) (λ h2 s2 u. reads_value s2 (value_at h2 s2) h2 u)

  reads_stars : (d : ℕ) (h : Hand) (s : Spot) → Good h → Fine (read_stars d h s)
  reads_stars zero h s g = g
  reads_stars (suc d) h s g = then_fine (read_star h s) (read_stars d) (reads_star h s g) (λ h2 s2 u. reads_stars d h2 s2 u)

  -- BORROWS

  reads_pointer : (w : Lval) (d : ℕ) (h : Hand) → Good h → Fine (read_pointer w d h)
  reads_pointer w zero h g = g
  reads_pointer w (suc d) h g = then_fine (read_stars d h (in_slot w.slot)) _ (reads_stars d h (in_slot w.slot) g) (λ h2 s u. cleans s (value_at h2 s) (load_at s h2) u)

  lends_by : (s : Spot) (v : Value) (o : Option Hop) (h : Hand) → Good h → Fine (lend_by s v o h)
  lends_by s v None h g = tt
  lends_by s v (Some (hop.NeedMove w)) h g = by (is_taken h.thread.phase)
    where
      by : (b : Bool) → Fine (if b then ready h s else request_by ask_object h (pointer_of v))
      by true = g
      by false = object_asked h (pointer_of v) g
  lends_by s v (Some _) h g = g

  lends_value : (s : Spot) (v : Option Value) (h : Hand) → Good h → Fine (lend_value s v h)
  lends_value s None h g = tt
  lends_value s (Some v) h g = lends_by s v (write_hop h.work.rest.number v) h g

  lends_pointer : (w : Lval) (d : ℕ) (h : Hand) → Good h → Fine (lend_pointer w d h)
  lends_pointer w zero h g = g
  lends_pointer w (suc d) h g = then_fine (read_stars d h (in_slot w.slot)) _ (reads_stars d h (in_slot w.slot) g) (λ h2 s u. lends_value s (value_at h2 s) (load_at s h2) u)

  -- WRITING

  boxes_ready : (s : Spot) (o : Option NewWord) (h : Hand) → Gives (NewOk h) o → Fine (box_ready s o h)
  boxes_ready s None h g = tt
  boxes_ready s (Some n) h g = ready_fine (in_cell n.word None) (put_word s n h) (words s n h g)

  colours_box : (s : Spot) (o : Option BoxPtr) (h : Hand) → Good h → Fine (colour_box s o h)
  colours_box s None h g = tt
  colours_box s (Some p) h g = boxes_ready s (issue_colour p h.work) h (colours p h g)

  writes_by : (k : ℕ) (s : Spot) (v : Value) (o : Option Hop) (h : Hand) → Good h → Fine (write_by k s v o h)
  writes_by k s v (Some (hop.Slot i)) h g = g
  writes_by k s v (Some (hop.NeedTint w)) h g = colours_box s (pointer_of v) (passing (k + 1) h) g
  writes_by k s v (Some (hop.AtCell w)) h g = local_kept v h g
  writes_by k s v (Some (hop.NeedMove w)) h g = object_asked h (pointer_of v) g
  writes_by k s v _ h g = tt

  passes_by : (s : Spot) (v : Value) (o : Option Hop) (h : Hand) → Good h → Fine (pass_by s v o h)
  passes_by s v (Some (hop.Slot i)) h g = g
  passes_by s v (Some (hop.NeedTint w)) h g = g
  passes_by s v (Some (hop.AtCell w)) h g = local_kept v h g
  passes_by s v _ h g = tt

  writes_value : (k : ℕ) (s : Spot) (v : Option Value) (h : Hand) → Good h → Fine (write_value k s v h)
  writes_value k s None h g = tt
  writes_value k s (Some v) h g = by (nat_lt k h.thread.passed)
    where
      by : (b : Bool) → Fine (if b then pass_by s v (write_hop h.work.rest.number v) h else write_by k s v (write_hop h.work.rest.number v) h)
      by true = passes_by s v (write_hop h.work.rest.number v) h g
      by false = writes_by k s v (write_hop h.work.rest.number v) h g

  writes_stars : (d k : ℕ) (h : Hand) (s : Spot) → Good h → Fine (write_stars d k h s)
  writes_stars zero k h s g = g
  writes_stars (suc d) k h s g = then_fine (write_star k h s) (write_stars d (k + 1)) (writes_value k s (value_at h s) (load_at s h) g) (λ h2 s2 u. writes_stars d (k + 1) h2 s2 u)

  -- THE END OF A MUTABLE REFERENCE

  follows_holder : (q : MutRef) (o : Option ℕ) (h : Hand) → Good h → Fine (follow_holder q o h)
  follows_holder q None h g = g
  follows_holder q (Some w) h g = writes_stars q.holder.depth 0 h (in_slot q.holder.slot) g

  follows_ended : (v : Option Value) (h : Hand) → Good h → Fine (follow_ended v h)
  follows_ended (Some (value.Mut q)) h g = follows_holder q (finish_word q) h g
  follows_ended _ h g = tt

  ends_ref : (s : Spot) (h : Hand) → Good h → Fine (end_ref s h)
  ends_ref s h g =
      then_fine (and_then (λ h2 s2. follow_ended (value_at h2 s2) h2) (clean_value s (value_at h s) h)) unlabelled
      (then_fine (clean_value s (value_at h s) h) _ (cleans s (value_at h s) h g) (λ h2 s2 u. follows_ended (value_at h2 s2) h2 u)) (λ h2 s2 u. u)

  -- any access is made ready
  pub prepare_sends : (a : Option Access) (h : Hand) → Good h → Fine (prepare a h)
  prepare_sends None h g = g
  prepare_sends (Some (ReadTo w)) h g = reads_stars w.depth h (in_slot w.slot) g
  prepare_sends (Some (ReadPointer w)) h g = reads_pointer w w.depth h g
  prepare_sends (Some (WriteTo w)) h g = writes_stars w.depth 0 h (in_slot w.slot) g
  prepare_sends (Some (LendTo w)) h g = lends_pointer w w.depth h g
  prepare_sends (Some (EndRef s)) h g = ends_ref s h g
