-- What making a place ready keeps, and that a plain step is one of the same thread: one line for each function.
use Rattle.std.proofs.Common.{◌≡◌, ℕ, zero, suc, ◌+◌, ◌==◌, ◌&&◌, Bool, true, false, nat_lt, if◌then◌else◌, [], ◌∷◌, ◌++◌, length, Option, Some, None, IfSome, option_map, refl, sym, subst}
use Rattle.std.specs.Bool.{⊤}
use Rattle.std.specs.Prelude.{slice_set}
use Rattle.fr_base.specs.declared.place.Lval.{Lval}
use Rattle.global_addr.specs.Words.{colour_of, server_of}
use Rattle.heap_partition.specs.declared.value.BoxPtr.{BoxPtr}
use Rattle.owner_box.specs.Partition.{freed, renewed, new_word, stored}
use Rattle.read_cache.specs.Cache.{can_pin, pin}
use Rattle.mut_borrow.specs.Refs.{cleaned_answer, finish_word}
use Rattle.mut_borrow.specs.declared.shared.SharedRef.{SharedRef}
use Rattle.mut_borrow.specs.declared.mutable.MutRef.{MutRef}
use Rattle.mut_borrow.specs.declared.mutable.Cleaned.{Cleaned}
use Rattle.mut_borrow.specs.declared.mutable.Cleaned.TheVariants as cleaned
use Rattle.thread_state.specs.declared.value.Value.{Value}
use Rattle.thread_state.specs.declared.value.Value.TheVariants as value
use Rattle.server_msgs.specs.declared.message.Message.{Message}
use Rattle.server_msgs.specs.declared.message.Message.TheVariants as message
use Rattle.journal.specs.declared.act.Act.{Act}
use Rattle.journal.specs.declared.act.Act.TheVariants as act
use Rattle.place_walk.specs.declared.hop.Hop.{Hop}
use Rattle.place_walk.specs.declared.hop.Hop.TheVariants as hop
use Rattle.place_walk.specs.Hops.{read_hop, write_hop}
use Rattle.fr_base.specs.Lists.{is_in}
use Rattle.server_model.specs.Servers.{Rest}
use Rattle.server_model.specs.Work.{Hand, add_waiting, sent_from, note, with_partition, leads_here, with_slots, with_cache, working, then_some, used_once}
use Rattle.server_model.specs.NewWords.{NewWord, can_grow, is_last, issue_tint, issue_renewal, issue_colour}
use Rattle.server_model.specs.Places.{Spot, in_slot, on_top, in_cell, in_copy, nowhere, value_at, load_at, note_write, put_at, pointer_of, with_word, set_pointer, put_word}
use Rattle.server_model.specs.Prepare.{Access, ReadTo, ReadPointer, WriteTo, LendTo, EndRef, Prepared, ready, requested, nothing, and_then, ready_at, ask_copy, ask_object, request_by, box_of, clean_last, cleaned_by, clean_value, pinned_once, use_copy, hopped, local, hit_by, read_by, read_value, read_clean, tinted_first, read_star, read_stars, passing, box_ready, colour_box, write_by, pass_by, write_value, write_star, write_stars, read_pointer, is_taken, lend_by, lend_value, lend_pointer, follow_holder, follow_ended, unlabelled, end_ref, prepare}

pub some_then : {X Y : Type 0} (P : X → Type 0) (Q : Y → Type 0) (o : Option X) (go : X → Option Y) → IfSome o P → ((x : X) → P x → IfSome (go x) Q) → IfSome (then_some o go) Q
some_then P Q None go h k = tt
some_then P Q (Some x) go h k = k x h

pub any_then : {X Y : Type 0} (Q : Y → Type 0) (o : Option X) (go : X → Option Y) → ((x : X) → IfSome (go x) Q) → IfSome (then_some o go) Q
any_then Q None go k = tt
any_then Q (Some x) go k = k x

pub some_map : {X Y : Type 0} (P : X → Type 0) (Q : Y → Type 0) (o : Option X) (f : X → Y) → IfSome o P → ((x : X) → P x → Q (f x)) → IfSome (option_map f o) Q
some_map P Q None f h k = tt
some_map P Q (Some x) f h k = k x h

pub any_map : {X Y : Type 0} (Q : Y → Type 0) (o : Option X) (f : X → Y) → ((x : X) → Q (f x)) → IfSome (option_map f o) Q
any_map Q None f k = tt
any_map Q (Some x) f k = k x

pub some_where : {X : Type 0} (P : X → Type 0) (b : Bool) (o : Option X) → IfSome o P → IfSome (if b then o else None) P
some_where P true o h = h
some_where P false o h = tt

-- a message changes no count
sent_started : (r : Rest) (target : ℕ) (m : Message) → (sent_from r target m).started ≡ r.started
sent_started r target m = by (target == r.number)
  where
    by : (b : Bool) → (if b then add_waiting m r else record r { outbox = r.outbox ++ record { target = target; message = m } ∷ [] }).started ≡ r.started
    by true = refl
    by false = refl

-- kept, where something is prepared
abbrev pub PreparedOk : (Hand → Type 0) → Prepared → Type 0
PreparedOk P (ready h s) = P h
PreparedOk P (requested h) = P h
PreparedOk P nothing = ⊤

-- what is said of a thread's number, its next instruction, how many objects it made, and how many threads the server has started
module _ (P : ℕ → ℕ → ℕ → ℕ → Type 0) where
  abbrev pub Ok : Hand → Type 0
  Ok h = P h.thread.number h.thread.pc h.thread.made h.work.rest.started

  abbrev Fine : Prepared → Type 0
  Fine = PreparedOk Ok

  then_fine : (x : Prepared) (go : Hand → Spot → Prepared) → Fine x → ((h : Hand) (s : Spot) → Ok h → Fine (go h s)) → Fine (and_then go x)
  then_fine (ready h s) go g w = w h s g
  then_fine (requested h) go g w = g
  then_fine nothing go g w = tt

  ready_fine : (s : Spot) (o : Option Hand) → IfSome o Ok → Fine (ready_at s o)
  ready_fine s None g = tt
  ready_fine s (Some h) g = g

  if_fine : (b : Bool) (x y : Prepared) → Fine x → Fine y → Fine (if b then x else y)
  if_fine true x y f g = f
  if_fine false x y f g = g

  -- REQUESTS

  asked : (target : ℕ) (m : Message) (h : Hand) → Ok h → P h.thread.number h.thread.pc h.thread.made (sent_from h.work.rest target m).started
  asked target m h g = subst (P h.thread.number h.thread.pc h.thread.made) (sym (sent_started h.work.rest target m)) g

  copy_asked : (p : BoxPtr) (h : Hand) → Ok h → Ok (ask_copy p h)
  copy_asked p h g = asked (server_of p.word) (message.Fetch p.word p.object h.work.rest.number h.thread.number) h g

  object_asked : (p : BoxPtr) (h : Hand) → Ok h → Ok (ask_object p h)
  object_asked p h g = asked (server_of p.word) (message.Move p.word p.object h.work.rest.number h.thread.number) h g

  asked_fine : (request : BoxPtr → Hand → Hand) → ((p : BoxPtr) (h : Hand) → Ok h → Ok (request p h)) → (h : Hand) (o : Option BoxPtr) → Ok h → Fine (request_by request h o)
  asked_fine request w h None g = tt
  asked_fine request w h (Some p) g = w p h g

  -- PUTTING VALUES

  written_ok : (through : Option ℕ) (h : Hand) → Ok h → Ok (note_write through h)
  written_ok None h g = g
  written_ok (Some i) h g = g

  pub puts : (s : Spot) (v : Value) (h : Hand) → Ok h → IfSome (put_at s v h) Ok
  puts (in_slot i) v h g = some_where Ok (nat_lt i (length h.thread.slots)) (Some (with_slots (slice_set h.thread.slots i v) h)) g
  puts on_top v h g = g
  puts (in_cell w through) (value.Own v) h g =
      let h2 = working (with_partition (stored h.work.rest.partition w v)) h in some_where Ok (leads_here h.work.rest.partition w) (Some (note_write through h2)) (written_ok through h2 g)
  puts (in_cell w through) v h g = tt
  puts (in_copy w) v h g = tt
  puts nowhere v h g = tt

  pub sets : (s : Spot) (w : ℕ) (h : Hand) → Ok h → IfSome (set_pointer s w h) Ok
  sets s w h g = any_then Ok (value_at h s) _ (λ v. any_then Ok (with_word w v) _ (λ new. puts s new h g))

  -- CLEANING

  -- a word that is issued
  abbrev Issued : Hand → NewWord → Type 0
  Issued h n = Ok (record h { work = n.work })

  renews : (p : BoxPtr) (h : Hand) → Ok h → IfSome (issue_renewal p h.work) (Issued h)
  renews p h g =
      some_where (Issued h) (leads_here h.work.rest.partition p.word && (is_last h.work.rest.partition p.word && can_grow h.work.rest.partition))
      (Some (record {
        word = new_word (freed h.work.rest.partition p.word);
        work = note (act.Renew p.object p.word (new_word (freed h.work.rest.partition p.word))) (with_partition (renewed h.work.rest.partition p.word) h.work);
      })) g

  last_cleans : (s : Spot) (r : MutRef) (h : Hand) → Ok h → Fine (clean_last s r h)
  last_cleans s r h g =
      if_fine (server_of r.word == h.work.rest.number) _ _
      (ready_fine s _ (some_then (Issued h) Ok (issue_renewal (box_of r) h.work) _ (renews (box_of r) h g) (λ n u. sets s n.word (record h { work = n.work }) u)))
      (object_asked (box_of r) h g)

  cleans_by : (a : Cleaned) (s : Spot) (r : MutRef) (h : Hand) → Ok h → Fine (cleaned_by a s r h)
  cleans_by cleaned.Same s r h g = g
  cleans_by (cleaned.Tinted w) s r h g = let n = issue_tint (box_of r) h.work in ready_fine s (put_word s n h) (sets s n.word (record h { work = n.work }) g)
  cleans_by cleaned.MustRenew s r h g = last_cleans s r h g

  cleans : (s : Spot) (v : Option Value) (h : Hand) → Ok h → Fine (clean_value s v h)
  cleans s (Some (value.Mut r)) h g =
      if_fine (nat_lt (colour_of r.word) h.work.rest.partition.limit) (cleaned_by (cleaned_answer h.work.rest.partition.limit r) s r h) nothing (cleans_by (cleaned_answer h.work.rest.partition.limit r) s r h g) tt
  cleans s _ h g = g

  -- READING

  pins : (s : Spot) (r : SharedRef) (b : Bool) (h : Hand) → Ok h → IfSome (pinned_once s r b h) Ok
  pins s r true h g = g
  pins s r false h g =
      some_where Ok (can_pin h.work.rest.cache r.word) (put_at s (value.Shared (record r { pinned = true })) (working (with_cache (pin h.work.rest.cache r.word)) h)) (puts s (value.Shared (record r { pinned = true })) (working (with_cache (pin h.work.rest.cache r.word)) h) g)

  uses_once : (w : ℕ) (b : Bool) (h : Hand) → Ok h → IfSome (used_once w b h) Ok
  uses_once w true h g = g
  uses_once w false h g = some_where Ok (can_pin h.work.rest.cache w) (Some (record { work = with_cache (pin h.work.rest.cache w) h.work; thread = record h.thread { walk = h.thread.walk ++ w ∷ [] } })) g

  uses : (s : Spot) (v : Value) (w : ℕ) (h : Hand) → Ok h → IfSome (use_copy s v w h) Ok
  uses s (value.Shared r) w h g = pins s r r.pinned h g
  uses s _ w h g = uses_once w (is_in w h.thread.walk) h g

  hops : (f : BoxPtr → Act) (o : Option BoxPtr) (h : Hand) → Ok h → Ok (hopped (λ p. note (f p)) o h)
  hops f None h g = g
  hops f (Some p) h g = g

  local_ok : (v : Value) (h : Hand) → Ok h → Ok (local v h)
  local_ok v h g = hops (λ p. act.Local p.object p.word) (pointer_of v) h g

  reads_by : (s : Spot) (v : Value) (o : Option Hop) (h : Hand) → Ok h → Fine (read_by s v o h)
  reads_by s v (Some (hop.Slot i)) h g = g
  reads_by s v (Some (hop.Direct w)) h g = local_ok v h g
  reads_by s v (Some (hop.Hit w)) h g = ready_fine (in_copy w) (use_copy s v w (hit_by v h)) (uses s v w (hit_by v h) (hops (λ p. act.Hit p.object p.word) (pointer_of v) h g))
  reads_by s v (Some (hop.NeedCopy w)) h g = asked_fine ask_copy copy_asked h (pointer_of v) g
  reads_by s v _ h g = tt

  reads_value : (s : Spot) (v : Option Value) (h : Hand) → Ok h → Fine (read_value s v h)
  reads_value s None h g = tt
  reads_value s (Some v) h g = reads_by s v (read_hop h.work.rest.number h.work.rest.cache v) h g

  reads_clean : (s : Spot) (v : Value) (o : Option Hop) (h : Hand) → Ok h → Fine (read_clean s v o h)
  reads_clean s v (Some (hop.NeedTint w)) h g = cleans s (Some v) h g
  reads_clean s v _ h g = g

  tints_first : (s : Spot) (v : Option Value) (h : Hand) → Ok h → Fine (tinted_first s v h)
  tints_first s None h g = tt
  tints_first s (Some v) h g = reads_clean s v (read_hop h.work.rest.number h.work.rest.cache v) h g

  reads_star : (h : Hand) (s : Spot) → Ok h → Fine (read_star h s)
  reads_star h s g = then_fine (tinted_first s (value_at h s) (load_at s h)) _ (tints_first s (value_at h s) (load_at s h) g) (λ h2 s2 u. reads_value s2 (value_at h2 s2) h2 u)

  reads_stars : (d : ℕ) (h : Hand) (s : Spot) → Ok h → Fine (read_stars d h s)
  reads_stars zero h s g = g
  reads_stars (suc d) h s g = then_fine (read_star h s) (read_stars d) (reads_star h s g) (λ h2 s2 u. reads_stars d h2 s2 u)

  -- WRITING

  boxes_ready : (s : Spot) (o : Option NewWord) (h : Hand) → IfSome o (Issued h) → Fine (box_ready s o h)
  boxes_ready s None h g = tt
  boxes_ready s (Some n) h g = ready_fine (in_cell n.word None) (put_word s n h) (sets s n.word (record h { work = n.work }) g)

  colours : (p : BoxPtr) (h : Hand) → Ok h → IfSome (issue_colour p h.work) (Issued h)
  colours p h g = by (nat_lt (colour_of p.word + 1) h.work.rest.partition.limit)
    where
      by : (b : Bool) → IfSome (if b then Some (issue_tint p h.work) else issue_renewal p h.work) (Issued h)
      by true = g
      by false = renews p h g

  colours_box : (s : Spot) (o : Option BoxPtr) (h : Hand) → Ok h → Fine (colour_box s o h)
  colours_box s None h g = tt
  colours_box s (Some p) h g = boxes_ready s (issue_colour p h.work) h (colours p h g)

  writes_by : (m : ℕ) (s : Spot) (v : Value) (o : Option Hop) (h : Hand) → Ok h → Fine (write_by m s v o h)
  writes_by m s v (Some (hop.Slot i)) h g = g
  writes_by m s v (Some (hop.NeedTint w)) h g = colours_box s (pointer_of v) (passing (m + 1) h) g
  writes_by m s v (Some (hop.AtCell w)) h g = local_ok v h g
  writes_by m s v (Some (hop.NeedMove w)) h g = asked_fine ask_object object_asked h (pointer_of v) g
  writes_by m s v _ h g = tt

  passes_by : (s : Spot) (v : Value) (o : Option Hop) (h : Hand) → Ok h → Fine (pass_by s v o h)
  passes_by s v (Some (hop.Slot i)) h g = g
  passes_by s v (Some (hop.NeedTint w)) h g = g
  passes_by s v (Some (hop.AtCell w)) h g = local_ok v h g
  passes_by s v _ h g = tt

  writes_value : (m : ℕ) (s : Spot) (v : Option Value) (h : Hand) → Ok h → Fine (write_value m s v h)
  writes_value m s None h g = tt
  writes_value m s (Some v) h g =
      let o = write_hop h.work.rest.number v in if_fine (nat_lt m h.thread.passed) (pass_by s v o h) (write_by m s v o h) (passes_by s v o h g) (writes_by m s v o h g)

  writes_stars : (d m : ℕ) (h : Hand) (s : Spot) → Ok h → Fine (write_stars d m h s)
  writes_stars zero m h s g = g
  writes_stars (suc d) m h s g = then_fine (write_star m h s) (write_stars d (m + 1)) (writes_value m s (value_at h s) (load_at s h) g) (λ h2 s2 u. writes_stars d (m + 1) h2 s2 u)

  -- BORROWS AND ENDS

  reads_pointer : (w : Lval) (d : ℕ) (h : Hand) → Ok h → Fine (read_pointer w d h)
  reads_pointer w zero h g = g
  reads_pointer w (suc d) h g = then_fine (read_stars d h (in_slot w.slot)) _ (reads_stars d h (in_slot w.slot) g) (λ h2 s u. cleans s (value_at h2 s) (load_at s h2) u)

  lends_by : (s : Spot) (v : Value) (o : Option Hop) (h : Hand) → Ok h → Fine (lend_by s v o h)
  lends_by s v None h g = tt
  lends_by s v (Some (hop.NeedMove w)) h g = if_fine (is_taken h.thread.phase) (ready h s) (request_by ask_object h (pointer_of v)) g (asked_fine ask_object object_asked h (pointer_of v) g)
  lends_by s v (Some _) h g = g

  lends_value : (s : Spot) (v : Option Value) (h : Hand) → Ok h → Fine (lend_value s v h)
  lends_value s None h g = tt
  lends_value s (Some v) h g = lends_by s v (write_hop h.work.rest.number v) h g

  lends_pointer : (w : Lval) (d : ℕ) (h : Hand) → Ok h → Fine (lend_pointer w d h)
  lends_pointer w zero h g = g
  lends_pointer w (suc d) h g = then_fine (read_stars d h (in_slot w.slot)) _ (reads_stars d h (in_slot w.slot) g) (λ h2 s u. lends_value s (value_at h2 s) (load_at s h2) u)

  follows_holder : (r : MutRef) (o : Option ℕ) (h : Hand) → Ok h → Fine (follow_holder r o h)
  follows_holder r None h g = g
  follows_holder r (Some w) h g = writes_stars r.holder.depth 0 h (in_slot r.holder.slot) g

  follows_ended : (v : Option Value) (h : Hand) → Ok h → Fine (follow_ended v h)
  follows_ended (Some (value.Mut r)) h g = follows_holder r (finish_word r) h g
  follows_ended _ h g = tt

  ends_ref : (s : Spot) (h : Hand) → Ok h → Fine (end_ref s h)
  ends_ref s h g =
      then_fine (and_then (λ h2 s2. follow_ended (value_at h2 s2) h2) (clean_value s (value_at h s) h)) unlabelled
      (then_fine (clean_value s (value_at h s) h) _ (cleans s (value_at h s) h g) (λ h2 s2 u. follows_ended (value_at h2 s2) h2 u)) (λ h2 s2 u. u)

  -- any access is made ready
  pub prepares : (a : Option Access) (h : Hand) → Ok h → Fine (prepare a h)
  prepares None h g = g
  prepares (Some (ReadTo w)) h g = reads_stars w.depth h (in_slot w.slot) g
  prepares (Some (ReadPointer w)) h g = reads_pointer w w.depth h g
  prepares (Some (WriteTo w)) h g = writes_stars w.depth 0 h (in_slot w.slot) g
  prepares (Some (LendTo w)) h g = lends_pointer w w.depth h g
  prepares (Some (EndRef s)) h g = ends_ref s h g
