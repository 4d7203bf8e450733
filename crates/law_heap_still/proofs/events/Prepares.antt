-- Making a place ready leaves what it showed, whether the place is ready then or a request was sent.
use Rattle.std.proofs.Common.{◌≡◌, ℕ, zero, suc, ◌+◌, ◌==◌, ◌&&◌, Bool, true, false, nat_lt, if◌then◌else◌, List, [], ◌∷◌, ◌++◌, Option, Some, None, refl, ◌∙◌, ap, subst, sym, arith}
use Rattle.std.specs.Bool.{⊤}
use Rattle.law_counts_sums.specs.Below.fr_base.declared.place.Lval.{Lval}
use Rattle.law_counts_sums.specs.Below.fr_base.Lists.{is_in}
use Rattle.law_counts_sums.specs.Below.fr_base.declared.label.Label.{Label}
use Rattle.law_counts_sums.specs.Below.global_addr.Words.{colour_of, server_of}
use Rattle.law_counts_sums.specs.Below.heap_partition.declared.value.BoxPtr.{BoxPtr}
use Rattle.law_counts_sums.specs.Below.owner_box.Partition.{freed, renewed, new_word}
use Rattle.law_counts_sums.specs.Below.read_cache.Cache.{can_pin, pin}
use Rattle.law_counts_sums.specs.Below.mut_borrow.Refs.{cleaned_answer, finish_word}
use Rattle.law_counts_sums.specs.Below.mut_borrow.declared.shared.SharedRef.{SharedRef}
use Rattle.law_counts_sums.specs.Below.mut_borrow.declared.mutable.MutRef.{MutRef}
use Rattle.law_counts_sums.specs.Below.mut_borrow.declared.mutable.Cleaned.{Cleaned}
use Rattle.law_counts_sums.specs.Below.mut_borrow.declared.mutable.Cleaned.TheVariants as cleaned
use Rattle.law_counts_sums.specs.Below.thread_state.View.{ThreadState}
use Rattle.law_counts_sums.specs.Below.thread_state.declared.phase.Phase.{Phase}
use Rattle.law_counts_sums.specs.Below.thread_state.declared.phase.Phase.TheVariants as phase
use Rattle.law_counts_sums.specs.Below.thread_state.declared.value.Value.{Value}
use Rattle.law_counts_sums.specs.Below.thread_state.declared.value.Value.TheVariants as value
use Rattle.law_counts_sums.specs.Below.server_msgs.declared.message.Message.{Message}
use Rattle.law_counts_sums.specs.Below.server_msgs.declared.message.Message.TheVariants as message
use Rattle.law_counts_sums.specs.Below.journal.declared.act.Act.{Act}
use Rattle.law_counts_sums.specs.Below.journal.declared.act.Act.TheVariants as act
use Rattle.law_counts_sums.specs.Below.place_walk.declared.hop.Hop.{Hop}
use Rattle.law_counts_sums.specs.Below.place_walk.declared.hop.Hop.TheVariants as hop
use Rattle.law_counts_sums.specs.Below.place_walk.Hops.{read_hop, write_hop}
use Rattle.law_counts_sums.specs.Below.server_model.Work.{Work, Hand, send, note, with_cache, with_partition, with_phase, working, then_some, leads_here, used_once}
use Rattle.law_counts_sums.specs.Below.server_model.NewWords.{NewWord, can_grow, is_last, issue_tint, issue_renewal, issue_colour}
use Rattle.law_counts_sums.specs.Below.server_model.Places.{Spot, in_slot, on_top, in_cell, in_copy, nowhere, value_at, load_at, put_at, pointer_of, put_word}
use Rattle.law_counts_sums.specs.Below.server_model.Prepare.{Access, ReadTo, ReadPointer, WriteTo, LendTo, EndRef, Prepared, ready, requested, nothing, and_then, ready_at, ask_copy, ask_object, request_by, box_of, clean_last, cleaned_by, clean_value, pinned_once, use_copy, hopped, local, hit_by, read_by, read_value, read_clean, tinted_first, read_star, read_stars, passing, box_ready, colour_box, write_by, pass_by, write_value, write_star, write_stars, read_pointer, is_taken, lend_by, lend_value, lend_pointer, follow_holder, follow_ended, unlabelled, end_ref, prepare}
use Rattle.law_counts_sums.specs.Below.coherent_memory.Names.{tot}
use Rattle.law_counts_sums.specs.Below.coherent_memory.Things.{Thing, sent, thread_things, message_things}
use Rattle.law_counts_sums.proofs.Below.coherent_memory.Names.{and_left}
use Rattle.law_counts_sums.specs.Laws.{Gives}
use Rattle.law_counts_sums.proofs.Trades.{tot-append}
use Rattle.law_counts_sums.proofs.Results.{test_gives, bind_gives, weaker}
use Rattle.law_counts_sums.proofs.Bags.{rest_things, of_sending, sent_number}
use Rattle.law_heap_still.specs.events.Shows.{sign_of}
use Rattle.law_heap_still.proofs.events.Arrivals.{thread_parts}
use Rattle.law_heap_still.proofs.events.Hands.{HandStill, then_hand, IsQuiet, quiet_shown}
use Rattle.law_heap_still.proofs.events.Addresses.{renews}
use Rattle.law_heap_still.proofs.events.Readied.{Readied, IsPlaced, Kept, same_rest, same_ready, then_ready, ready_still, phase_stays, work_ready, copies_ready, passes_ready, pinned, put_ready, set_ready}

-- A REQUEST

-- a message that carries nothing is sent, and the thread waits
pub request_still : (h : Hand) (a : Act) (target : ℕ) (m : Message) (p : Phase) → message_things target m ≡ sent target m ∷ [] → IsQuiet h.thread.phase → IsQuiet p → HandStill [] h (with_phase p (working (λ w. send target m (note a w)) h))
request_still h a target m p alone quiet waits =
    let n = h.work.rest.number in
    let y = h.thread in
    let y2 : ThreadState = record y { phase = p } in
    let r2 = (send target m (note a h.work)).rest in
    let t = of_sending n 0 h.work.rest refl target m in record {
      number = sent_number h.work.rest target m;
      thread = refl;
      alike = λ w z.
          let f : Thing → ℕ = λ x. w (sign_of x) in
          let none : tot f (message_things target m) ≡ tot f (sent target m ∷ []) = ap (tot f) alone in
          omega (
            arith,
            z,
            none,
            t.before f,
            t.after f,
            thread_parts w z n false y,
            thread_parts w z n false y2,
            quiet_shown w n y p quiet waits,
            tot-append f (thread_things n false y) (rest_things n 0 h.work.rest),
            tot-append f (thread_things n false y2) (rest_things n 0 r2),
          );
    }

cell_waits : (w : ℕ) → IsQuiet (phase.WaitCell w)
cell_waits w = record { goes_on = refl; alone = refl; unpaired = refl }

-- from this hand on
module _ (h0 : Hand) where
  abbrev pub Good : Hand → Type 0
  Good h = Readied h0 h × IsPlaced h

  -- a hand that is ready shows what this one showed, thread and server each for itself; and so does one that sent a request
  abbrev pub Fine : Prepared → Type 0
  Fine (ready h s) = Good h
  Fine (requested h) = IsQuiet h0.thread.phase → HandStill [] h0 h
  Fine nothing = ⊤

  onward : (h h2 : Hand) → Good h → Kept h h2 → Good h2
  onward h h2 g k = (then_ready h0 h h2 g.0 k.0, k.1 g.1)

  gives_on : (h : Hand) (o : Option Hand) → Good h → Gives (Kept h) o → Gives Good o
  gives_on h o g k = weaker (Kept h) Good o k (λ h2 u. onward h h2 g u)

  then_fine : (x : Prepared) (go : Hand → Spot → Prepared) → Fine x → ((h : Hand) (s : Spot) → Good h → Fine (go h s)) → Fine (and_then go x)
  then_fine (ready h s) go g w = w h s g
  then_fine (requested h) go g w = g
  then_fine nothing go g w = tt

  ready_fine : (s : Spot) (o : Option Hand) → Gives Good o → Fine (ready_at s o)
  ready_fine s None g = tt
  ready_fine s (Some h) g = g

  if_fine : (b : Bool) (x y : Prepared) → Fine x → Fine y → Fine (if b then x else y)
  if_fine true x y f g = f
  if_fine false x y f g = g

  -- what is noted and labelled isn't shown
  noted : (h : Hand) (acts : List Act) (labels : List Label) → Good h → Good (record h { work = record h.work { acts = acts; labels = labels } })
  noted h acts labels g = let w : Work = record h.work { acts = acts; labels = labels } in onward h (record h { work = w }) g (work_ready h w (same_rest h.work.rest), λ p. p)

  -- REQUESTS

  quiet_still : (h : Hand) → Good h → IsQuiet h0.thread.phase → IsQuiet h.thread.phase
  quiet_still h g q = subst IsQuiet (sym (phase_stays h0 h g.0)) q

  copy_asked : (p : BoxPtr) (h : Hand) → Good h → Fine (requested (ask_copy p h))
  copy_asked p h g q =
      then_hand [] h0 h (ask_copy p h) (ready_still h0 h g.0)
      (request_still h (act.Ask p.object p.word) (server_of p.word) (message.Fetch p.word p.object h.work.rest.number h.thread.number) (phase.WaitCell p.word) refl (quiet_still h g q) (cell_waits p.word))

  object_asked : (p : BoxPtr) (h : Hand) → Good h → Fine (requested (ask_object p h))
  object_asked p h g q =
      then_hand [] h0 h (ask_object p h) (ready_still h0 h g.0)
      (request_still h (act.Pull p.object p.word) (server_of p.word) (message.Move p.word p.object h.work.rest.number h.thread.number) (phase.WaitCell p.word) refl (quiet_still h g q) (cell_waits p.word))

  asked_fine : (request : BoxPtr → Hand → Hand) → ((p : BoxPtr) (h : Hand) → Good h → Fine (requested (request p h))) → (h : Hand) (o : Option BoxPtr) → Good h → Fine (request_by request h o)
  asked_fine request w h None g = tt
  asked_fine request w h (Some p) g = w p h g

  -- NEW WORDS

  words : (s : Spot) (n : NewWord) (h : Hand) → Good (record h { work = n.work }) → Gives Good (put_word s n h)
  words s n h g = gives_on (record h { work = n.work }) (put_word s n h) g (set_ready s n.word (record h { work = n.work }))

  abbrev NewGood : Hand → NewWord → Type 0
  NewGood h n = Good (record h { work = n.work })

  tints : (p : BoxPtr) (h : Hand) → Good h → NewGood h (issue_tint p h.work)
  tints p h g = noted h (issue_tint p h.work).work.acts h.work.labels g

  issues_renewal : (p : BoxPtr) (h : Hand) → Good h → Gives (NewGood h) (issue_renewal p h.work)
  issues_renewal p h g =
      let q = h.work.rest.partition in
      test_gives (NewGood h) (leads_here q p.word && (is_last q p.word && can_grow q)) _ (λ on.
      let new = renews h.work.rest p.word (and_left (leads_here q p.word) (is_last q p.word && can_grow q) on) g.1 in
      let word : ℕ = new_word (freed q p.word) in
      let w : Work = note (act.Renew p.object p.word word) (with_partition (renewed q p.word) h.work) in
      (then_ready h0 h (record h { work = w }) g.0 (work_ready h w new.0), new.1))

  colours : (p : BoxPtr) (h : Hand) → Good h → Gives (NewGood h) (issue_colour p h.work)
  colours p h g = by (nat_lt (colour_of p.word + 1) h.work.rest.partition.limit)
    where
      by : (b : Bool) → Gives (NewGood h) (if b then Some (issue_tint p h.work) else issue_renewal p h.work)
      by true = tints p h g
      by false = issues_renewal p h g

  -- CLEANING

  last_cleans : (s : Spot) (q : MutRef) (h : Hand) → Good h → Fine (clean_last s q h)
  last_cleans s q h g =
      if_fine (server_of q.word == h.work.rest.number) (ready_at s (then_some (issue_renewal (box_of q) h.work) (λ m. put_word s m h))) (requested (ask_object (box_of q) h))
      (ready_fine s (then_some (issue_renewal (box_of q) h.work) (λ m. put_word s m h)) (bind_gives (NewGood h) Good (issue_renewal (box_of q) h.work) (λ m. put_word s m h) (issues_renewal (box_of q) h g) (λ m u. words s m h u)))
      (object_asked (box_of q) h g)

  cleans_by : (a : Cleaned) (s : Spot) (q : MutRef) (h : Hand) → Good h → Fine (cleaned_by a s q h)
  cleans_by cleaned.Same s q h g = g
  cleans_by (cleaned.Tinted w) s q h g = ready_fine s (put_word s (issue_tint (box_of q) h.work) h) (words s (issue_tint (box_of q) h.work) h (tints (box_of q) h g))
  cleans_by cleaned.MustRenew s q h g = last_cleans s q h g

  cleans : (s : Spot) (v : Option Value) (h : Hand) → Good h → Fine (clean_value s v h)
  cleans s (Some (value.Mut q)) h g =
      if_fine (nat_lt (colour_of q.word) h.work.rest.partition.limit) (cleaned_by (cleaned_answer h.work.rest.partition.limit q) s q h) nothing (cleans_by (cleaned_answer h.work.rest.partition.limit q) s q h g) tt
  cleans s _ h g = g

  -- READING

  pins_once : (s : Spot) (q : SharedRef) (b : Bool) (h : Hand) → value_at h s ≡ Some (value.Shared q) → Good h → Gives Good (pinned_once s q b h)
  pins_once s q true h e g = g
  pins_once s q false h e g =
      let h2 = working (with_cache (pin h.work.rest.cache q.word)) h in
      test_gives Good (can_pin h.work.rest.cache q.word) _ (λ on. by s e (onward h h2 g (copies_ready h (pin h.work.rest.cache q.word) h.thread.walk)))
    where
      -- only slots and temporary values have references
      by : (s : Spot) → value_at h s ≡ Some (value.Shared q) → Good (working (with_cache (pin h.work.rest.cache q.word)) h) → Gives Good (put_at s (value.Shared (record q { pinned = true })) (working (with_cache (pin h.work.rest.cache q.word)) h))
      by (in_slot i) e u = gives_on (working (with_cache (pin h.work.rest.cache q.word)) h) (put_at (in_slot i) (value.Shared (record q { pinned = true })) (working (with_cache (pin h.work.rest.cache q.word)) h)) u (put_ready (in_slot i) (value.Shared q) (value.Shared (record q { pinned = true })) (working (with_cache (pin h.work.rest.cache q.word)) h) e (pinned q true))
      by on_top e u = gives_on (working (with_cache (pin h.work.rest.cache q.word)) h) (put_at on_top (value.Shared (record q { pinned = true })) (working (with_cache (pin h.work.rest.cache q.word)) h)) u (put_ready on_top (value.Shared q) (value.Shared (record q { pinned = true })) (working (with_cache (pin h.work.rest.cache q.word)) h) e (pinned q true))
      by (in_cell w through) e u = tt
      by (in_copy w) e u = tt
      by nowhere e u = tt

  word_used : (w : ℕ) (b : Bool) (h : Hand) → Good h → Gives Good (used_once w b h)
  word_used w true h g = g
  word_used w false h g = test_gives Good (can_pin h.work.rest.cache w) _ (λ on. onward h _ g (copies_ready h (pin h.work.rest.cache w) (h.thread.walk ++ w ∷ [])))

  copy_used : (s : Spot) (v : Value) (w : ℕ) (h : Hand) → value_at h s ≡ Some v → Good h → Gives Good (use_copy s v w h)
  copy_used s (value.Shared q) w h e g = pins_once s q q.pinned h e g
  copy_used s _ w h e g = word_used w (is_in w h.thread.walk) h g

  hops : (f : BoxPtr → Act) (o : Option BoxPtr) (h : Hand) → Good h → Good (hopped (λ p. note (f p)) o h)
  hops f None h g = g
  hops f (Some p) h g = noted h (note (f p) h.work).acts h.work.labels g

  -- acts change no value
  value_noted : (s : Spot) (f : BoxPtr → Act) (o : Option BoxPtr) (h : Hand) → value_at (hopped (λ p. note (f p)) o h) s ≡ value_at h s
  value_noted s f None h = refl
  value_noted (in_slot i) f (Some p) h = refl
  value_noted on_top f (Some p) h = refl
  value_noted (in_cell w through) f (Some p) h = refl
  value_noted (in_copy w) f (Some p) h = refl
  value_noted nowhere f (Some p) h = refl

  local_kept : (v : Value) (h : Hand) → Good h → Good (local v h)
  local_kept v h g = hops (λ p. act.Local p.object p.word) (pointer_of v) h g

  loaded : (s : Spot) (h : Hand) → Good h → Good (load_at s h)
  loaded s h g = noted h h.work.acts (load_at s h).work.labels g

  reads_by : (s : Spot) (v : Value) (o : Option Hop) (h : Hand) → value_at h s ≡ Some v → Good h → Fine (read_by s v o h)
  reads_by s v (Some (hop.Slot i)) h e g = g
  reads_by s v (Some (hop.Direct w)) h e g = local_kept v h g
  reads_by s v (Some (hop.Hit w)) h e g =
      ready_fine (in_copy w) (use_copy s v w (hit_by v h)) (copy_used s v w (hit_by v h) (value_noted s (λ p. act.Hit p.object p.word) (pointer_of v) h ∙ e) (hops (λ p. act.Hit p.object p.word) (pointer_of v) h g))
  reads_by s v (Some (hop.NeedCopy w)) h e g = asked_fine ask_copy copy_asked h (pointer_of v) g
  reads_by s v _ h e g = tt

  reads_value : (s : Spot) (v : Option Value) (h : Hand) → value_at h s ≡ v → Good h → Fine (read_value s v h)
  reads_value s None h e g = tt
  reads_value s (Some v) h e g = reads_by s v (read_hop h.work.rest.number h.work.rest.cache v) h e g

  reads_clean : (s : Spot) (v : Value) (o : Option Hop) (h : Hand) → Good h → Fine (read_clean s v o h)
  reads_clean s v (Some (hop.NeedTint w)) h g = cleans s (Some v) h g
  reads_clean s v _ h g = g

  tints_first : (s : Spot) (v : Option Value) (h : Hand) → Good h → Fine (tinted_first s v h)
  tints_first s None h g = tt
  tints_first s (Some v) h g = reads_clean s v (read_hop h.work.rest.number h.work.rest.cache v) h g

  reads_star : (h : Hand) (s : Spot) → Good h → Fine (read_star h s)
  reads_star h s g = then_fine (tinted_first s (value_at h s) (load_at s h)) _ (tints_first s (value_at h s) (load_at s h) (loaded s h g)) (λ h2 s2 u. reads_value s2 (value_at h2 s2) h2 refl u)

  pub reads_stars : (d : ℕ) (h : Hand) (s : Spot) → Good h → Fine (read_stars d h s)
  reads_stars zero h s g = g
  reads_stars (suc d) h s g = then_fine (read_star h s) (read_stars d) (reads_star h s g) (λ h2 s2 u. reads_stars d h2 s2 u)

  -- WRITING

  boxes_ready : (s : Spot) (o : Option NewWord) (h : Hand) → Gives (NewGood h) o → Fine (box_ready s o h)
  boxes_ready s None h g = tt
  boxes_ready s (Some m) h g = ready_fine (in_cell m.word None) (put_word s m h) (words s m h g)

  colours_box : (s : Spot) (o : Option BoxPtr) (h : Hand) → Good h → Fine (colour_box s o h)
  colours_box s None h g = tt
  colours_box s (Some p) h g = boxes_ready s (issue_colour p h.work) h (colours p h g)

  writes_by : (m : ℕ) (s : Spot) (v : Value) (o : Option Hop) (h : Hand) → Good h → Fine (write_by m s v o h)
  writes_by m s v (Some (hop.Slot i)) h g = onward h (passing (m + 1) h) g (passes_ready (m + 1) h)
  writes_by m s v (Some (hop.NeedTint w)) h g = colours_box s (pointer_of v) (passing (m + 1) h) (onward h (passing (m + 1) h) g (passes_ready (m + 1) h))
  writes_by m s v (Some (hop.AtCell w)) h g = onward (local v h) (passing (m + 1) (local v h)) (local_kept v h g) (passes_ready (m + 1) (local v h))
  writes_by m s v (Some (hop.NeedMove w)) h g = asked_fine ask_object object_asked h (pointer_of v) g
  writes_by m s v _ h g = tt

  passes_by : (s : Spot) (v : Value) (o : Option Hop) (h : Hand) → Good h → Fine (pass_by s v o h)
  passes_by s v (Some (hop.Slot i)) h g = g
  passes_by s v (Some (hop.NeedTint w)) h g = g
  passes_by s v (Some (hop.AtCell w)) h g = local_kept v h g
  passes_by s v _ h g = tt

  writes_value : (m : ℕ) (s : Spot) (v : Option Value) (h : Hand) → Good h → Fine (write_value m s v h)
  writes_value m s None h g = tt
  writes_value m s (Some v) h g =
      let o = write_hop h.work.rest.number v in
      if_fine (nat_lt m h.thread.passed) (pass_by s v o h) (write_by m s v o h) (passes_by s v o h g) (writes_by m s v o h g)

  writes_stars : (d m : ℕ) (h : Hand) (s : Spot) → Good h → Fine (write_stars d m h s)
  writes_stars zero m h s g = g
  writes_stars (suc d) m h s g = then_fine (write_star m h s) (write_stars d (m + 1)) (writes_value m s (value_at h s) (load_at s h) (loaded s h g)) (λ h2 s2 u. writes_stars d (m + 1) h2 s2 u)

  -- BORROWS AND ENDS

  reads_pointer : (w : Lval) (d : ℕ) (h : Hand) → Good h → Fine (read_pointer w d h)
  reads_pointer w zero h g = g
  reads_pointer w (suc d) h g = then_fine (read_stars d h (in_slot w.slot)) _ (reads_stars d h (in_slot w.slot) g) (λ h2 s u. cleans s (value_at h2 s) (load_at s h2) (loaded s h2 u))

  lends_by : (s : Spot) (v : Value) (o : Option Hop) (h : Hand) → Good h → Fine (lend_by s v o h)
  lends_by s v None h g = tt
  lends_by s v (Some (hop.NeedMove w)) h g = if_fine (is_taken h.thread.phase) (ready h s) (request_by ask_object h (pointer_of v)) g (asked_fine ask_object object_asked h (pointer_of v) g)
  lends_by s v (Some _) h g = g

  lends_value : (s : Spot) (v : Option Value) (h : Hand) → Good h → Fine (lend_value s v h)
  lends_value s None h g = tt
  lends_value s (Some v) h g = lends_by s v (write_hop h.work.rest.number v) h g

  lends_pointer : (w : Lval) (d : ℕ) (h : Hand) → Good h → Fine (lend_pointer w d h)
  lends_pointer w zero h g = g
  lends_pointer w (suc d) h g = then_fine (read_stars d h (in_slot w.slot)) _ (reads_stars d h (in_slot w.slot) g) (λ h2 s u. lends_value s (value_at h2 s) (load_at s h2) (loaded s h2 u))

  follows_holder : (q : MutRef) (o : Option ℕ) (h : Hand) → Good h → Fine (follow_holder q o h)
  follows_holder q None h g = g
  follows_holder q (Some w) h g = writes_stars q.holder.depth 0 h (in_slot q.holder.slot) g

  follows_ended : (v : Option Value) (h : Hand) → Good h → Fine (follow_ended v h)
  follows_ended (Some (value.Mut q)) h g = follows_holder q (finish_word q) h g
  follows_ended _ h g = tt

  ends_ref : (s : Spot) (h : Hand) → Good h → Fine (end_ref s h)
  ends_ref s h g =
      then_fine (and_then (λ h2 s2. follow_ended (value_at h2 s2) h2) (clean_value s (value_at h s) h)) unlabelled
      (then_fine (clean_value s (value_at h s) h) _ (cleans s (value_at h s) h g) (λ h2 s2 u. follows_ended (value_at h2 s2) h2 u)) (λ h2 s2 u. noted h2 h2.work.acts [] u)

  prepares : (a : Option Access) (h : Hand) → Good h → Fine (prepare a h)
  prepares None h g = g
  prepares (Some (ReadTo w)) h g = reads_stars w.depth h (in_slot w.slot) g
  prepares (Some (ReadPointer w)) h g = reads_pointer w w.depth h g
  prepares (Some (WriteTo w)) h g = writes_stars w.depth 0 h (in_slot w.slot) g
  prepares (Some (LendTo w)) h g = lends_pointer w w.depth h g
  prepares (Some (EndRef s)) h g = ends_ref s h g

  -- any access is made ready
  pub prepare_shows : (a : Option Access) → IsPlaced h0 → Fine (prepare a h0)
  prepare_shows a p = prepares a h0 (same_ready h0, p)
