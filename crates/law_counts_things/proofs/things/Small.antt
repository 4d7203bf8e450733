-- Making an instruction's place ready, once for any fact that each small step keeps.
use Rattle.std.proofs.Common.{◌≡◌, ℕ, zero, suc, ◌+◌, ◌==◌, ◌&&◌, Bool, true, false, nat_lt, if◌then◌else◌, List, [], ◌∷◌, ◌++◌, Option, Some, None, refl, subst}
use Rattle.std.specs.Bool.{⊤}
use Rattle.law_counts_sums.specs.Below.fr_base.Lists.{is_in}
use Rattle.law_counts_sums.specs.Below.fr_base.declared.place.Lval.{Lval}
use Rattle.law_counts_sums.specs.Below.global_addr.Words.{colour_of, server_of, next_word}
use Rattle.law_counts_sums.specs.Below.heap_partition.declared.value.BoxPtr.{BoxPtr}
use Rattle.law_counts_sums.specs.Below.heap_partition.declared.value.Owned.{Owned}
use Rattle.law_counts_sums.specs.Below.heap_partition.declared.value.Owned.TheVariants as owned
use Rattle.law_counts_sums.specs.Below.owner_box.Partition.{new_word, freed, renewed}
use Rattle.law_counts_sums.specs.Below.read_cache.Cache.{Copy, can_pin, pin}
use Rattle.law_counts_sums.specs.Below.mut_borrow.Refs.{cleaned_answer, finish_word}
use Rattle.law_counts_sums.specs.Below.mut_borrow.declared.shared.SharedRef.{SharedRef}
use Rattle.law_counts_sums.specs.Below.mut_borrow.declared.mutable.MutRef.{MutRef}
use Rattle.law_counts_sums.specs.Below.mut_borrow.declared.mutable.Cleaned.{Cleaned}
use Rattle.law_counts_sums.specs.Below.mut_borrow.declared.mutable.Cleaned.TheVariants as cleaned
use Rattle.law_counts_sums.specs.Below.thread_state.View.{ThreadState}
use Rattle.law_counts_sums.specs.Below.thread_state.declared.value.Value.{Value}
use Rattle.law_counts_sums.specs.Below.thread_state.declared.value.Value.TheVariants as value
use Rattle.law_counts_sums.specs.Below.place_walk.declared.hop.Hop.{Hop}
use Rattle.law_counts_sums.specs.Below.place_walk.declared.hop.Hop.TheVariants as hop
use Rattle.law_counts_sums.specs.Below.place_walk.Hops.{by_copy, clean_hop, dirty_hop, read_hop, write_hop}
use Rattle.law_counts_sums.specs.Below.journal.declared.act.Act.{Act}
use Rattle.law_counts_sums.specs.Below.journal.declared.act.Act.TheVariants as act
use Rattle.law_counts_sums.specs.Below.server_model.Servers.{Rest}
use Rattle.law_counts_sums.specs.Below.server_model.Work.{Hand, note, with_cache, working, leads_here, then_some, used_once}
use Rattle.law_counts_sums.specs.Below.server_model.NewWords.{NewWord, can_grow, is_last, issue_tint, issue_renewal, issue_colour}
use Rattle.law_counts_sums.specs.Below.server_model.Places.{Spot, in_slot, on_top, in_cell, in_copy, nowhere, value_at, load_at, put_at, pointer_of, took, with_word, set_pointer, put_word}
use Rattle.law_counts_sums.specs.Below.server_model.Prepare.{Access, ReadTo, ReadPointer, WriteTo, LendTo, EndRef, Prepared, ready, requested, nothing, and_then, ready_at, ask_copy, ask_object, request_by, box_of, clean_last, cleaned_by, clean_value, pinned_once, use_copy, hopped, local, hit_by, read_by, read_value, read_clean, tinted_first, read_star, read_stars, passing, box_ready, colour_box, write_by, pass_by, write_value, write_star, write_stars, read_pointer, is_taken, lend_by, lend_value, lend_pointer, follow_holder, follow_ended, unlabelled, end_ref, prepare}
use Rattle.law_counts_sums.specs.Laws.{Gives}
use Rattle.law_counts_sums.proofs.Results.{then_gives, test_gives, bind_gives}

-- of the rest of the server and the thread that an event has in its hand
abbrev pub Of : (Rest → ThreadState → Type 0) → Hand → Type 0
Of F h = F h.work.rest h.thread

some_same : {X : Type 0} {a b : X} → Some a ≡ Some b → a ≡ b
some_same e = cc

-- no mark is put on top of the temporary values
abbrev pub Lies : Spot → Value → Type 0
Lies on_top (value.Held m) = ⊥
Lies s v = ⊤

pub owned_lies : (s : Spot) (v : Owned) → Lies s (value.Own v)
owned_lies (in_slot j) v = tt
owned_lies on_top v = tt
owned_lies (in_cell w through) v = tt
owned_lies (in_copy w) v = tt
owned_lies nowhere v = tt

shared_lies : (s : Spot) (q : SharedRef) → Lies s (value.Shared q)
shared_lies (in_slot j) q = tt
shared_lies on_top q = tt
shared_lies (in_cell w through) q = tt
shared_lies (in_copy w) q = tt
shared_lies nowhere q = tt

mutable_lies : (s : Spot) (q : MutRef) → Lies s (value.Mut q)
mutable_lies (in_slot j) q = tt
mutable_lies on_top q = tt
mutable_lies (in_cell w through) q = tt
mutable_lies (in_copy w) q = tt
mutable_lies nowhere q = tt

worded_lies : (s : Spot) (w : ℕ) (v new : Value) → with_word w v ≡ Some new → Lies s new
worded_lies s w (value.Own (owned.Box p)) new e = subst (Lies s) (some_same e) (owned_lies s (owned.Box (record p { word = w })))
worded_lies s w (value.Mut r) new e = subst (Lies s) (some_same e) (mutable_lies s (took r w))
worded_lies s w (value.Own owned.Nothing) new e = absurd (cc e)
worded_lies s w (value.Own owned.Unit) new e = absurd (cc e)
worded_lies s w (value.Own (owned.Int n)) new e = absurd (cc e)
worded_lies s w (value.Own (owned.Mutex m)) new e = absurd (cc e)
worded_lies s w (value.Own (owned.Task t)) new e = absurd (cc e)
worded_lies s w value.Gone new e = absurd (cc e)
worded_lies s w (value.SharedSlot j) new e = absurd (cc e)
worded_lies s w (value.MutSlot j) new e = absurd (cc e)
worded_lies s w (value.Shared q) new e = absurd (cc e)
worded_lies s w (value.Held m) new e = absurd (cc e)

-- what stands at a spot is of a kind, and values of that kind may be put anywhere; so may words of a kind into pointers
pub record Places (F : Rest → ThreadState → Type 0) (V : Value → Type 0) (W : ℕ → Type 0) : Type 0 where
  pub spot : (s : Spot) (v : Value) (h : Hand) → Of F h → value_at h s ≡ Some v → V v
  pub puts : (s : Spot) (v : Value) (h : Hand) → Lies s v → V v → Of F h → Gives (Of F) (put_at s v h)
  pub worded : (w : ℕ) (v new : Value) → W w → V v → with_word w v ≡ Some new → V new
  pub word_of : (r : MutRef) → V (value.Mut r) → W r.word
  pub points : (v : Value) (p : BoxPtr) → V v → pointer_of v ≡ Some p → V (value.Own (owned.Box p))

-- the small steps that make a place ready keep the fact, and a request leaves what is wanted then
pub record Small (F E : Rest → ThreadState → Type 0) (V : Value → Type 0) (W : ℕ → Type 0) : Type 0 where
  pub places : Places F V W
  pub tints : (p : BoxPtr) (h : Hand) → V (value.Own (owned.Box p)) → Of F h → nat_lt (colour_of p.word + 1) h.work.rest.partition.limit ≡ true → W (next_word p.word)
  pub renews : (p : BoxPtr) (h : Hand) → V (value.Own (owned.Box p)) → Of F h → (leads_here h.work.rest.partition p.word && (is_last h.work.rest.partition p.word && can_grow h.work.rest.partition)) ≡ true
      → W (new_word (freed h.work.rest.partition p.word)) × F (record h.work.rest { partition = renewed h.work.rest.partition p.word }) h.thread
  pub pinned : (r : SharedRef) → V (value.Shared r) → V (value.Shared (record r { pinned = true }))
  pub pins : (w : ℕ) (h : Hand) → can_pin h.work.rest.cache w ≡ true → Of F h → F (record h.work.rest { cache = pin h.work.rest.cache w }) h.thread
  pub uses : (w : ℕ) (h : Hand) → can_pin h.work.rest.cache w ≡ true → Of F h → F (record h.work.rest { cache = pin h.work.rest.cache w }) (record h.thread { walk = h.thread.walk ++ w ∷ [] })
  pub asks_copy : (p : BoxPtr) (h : Hand) → V (value.Own (owned.Box p)) → (server_of p.word == h.work.rest.number) ≡ false → Of F h → Of E (ask_copy p h)
  pub asks_object : (p : BoxPtr) (h : Hand) → V (value.Own (owned.Box p)) → (server_of p.word == h.work.rest.number) ≡ false → Of F h → Of E (ask_object p h)

-- one hop of a write more is ready
abbrev pub Passes : (Rest → ThreadState → Type 0) → Type 0
Passes F = (n : ℕ) (h : Hand) → Of F h → F h.work.rest (record h.thread { passed = n })

-- POINTERS THAT LEAD ELSEWHERE

copy_elsewhere : (n w u : ℕ) (cs : List Copy) (b : Bool) → (server_of w == n) ≡ b → (if b then hop.Direct w else by_copy cs w) ≡ hop.NeedCopy u → (server_of w == n) ≡ false
copy_elsewhere n w u cs true e h = absurd (cc h)
copy_elsewhere n w u cs false e h = e

-- where a copy is needed the pointer leads to another server
needs_copy : (n u : ℕ) (cs : List Copy) (v : Value) → read_hop n cs v ≡ Some (hop.NeedCopy u) → Gives (λ (p : BoxPtr). (server_of p.word == n) ≡ false) (pointer_of v)
needs_copy n u cs (value.Own (owned.Box q)) h = copy_elsewhere n q.word u cs (server_of q.word == n) refl (some_same h)
needs_copy n u cs (value.Shared q) h = copy_elsewhere n q.word u cs (server_of q.word == n) refl (some_same h)
needs_copy n u cs (value.Mut q) h = by q.dirty (some_same h)
  where
    dirty : (b : Bool) → (if b then hop.Direct q.word else hop.NeedTint q.word) ≡ hop.NeedCopy u → (server_of q.word == n) ≡ false
    dirty true e = absurd (cc e)
    dirty false e = absurd (cc e)

    by : (b : Bool) → (if b then dirty_hop n q.word else clean_hop n cs q.word) ≡ hop.NeedCopy u → (server_of q.word == n) ≡ false
    by true e = dirty (server_of q.word == n) e
    by false e = copy_elsewhere n q.word u cs (server_of q.word == n) refl e
needs_copy n u cs _ h = tt

object_elsewhere : (n w u : ℕ) (x : Hop) (b : Bool) → (server_of w == n) ≡ b → (x ≡ hop.NeedMove u → ⊥) → (if b then x else hop.NeedMove w) ≡ hop.NeedMove u → (server_of w == n) ≡ false
object_elsewhere n w u x true e other h = absurd (other h)
object_elsewhere n w u x false e other h = e

-- where the object has to come the pointer leads to another server
needs_move : (n u : ℕ) (v : Value) → write_hop n v ≡ Some (hop.NeedMove u) → Gives (λ (p : BoxPtr). (server_of p.word == n) ≡ false) (pointer_of v)
needs_move n u (value.Own (owned.Box q)) h = object_elsewhere n q.word u (hop.NeedTint q.word) (server_of q.word == n) refl (λ e. cc e) (some_same h)
needs_move n u (value.Mut q) h = object_elsewhere n q.word u (hop.AtCell q.word) (server_of q.word == n) refl (λ e. cc e) (some_same h)
needs_move n u (value.Shared q) h = absurd (cc h)
needs_move n u _ h = tt

-- a colour is left where a dirty reference is cleaned by a tint
tint_left : (limit : ℕ) (r : MutRef) (w : ℕ) → cleaned_answer limit r ≡ cleaned.Tinted w → nat_lt (colour_of r.word + 1) limit ≡ true
tint_left limit r w e = by r.dirty e
  where
    left : (b : Bool) → (if b then cleaned.Tinted (next_word r.word) else cleaned.MustRenew) ≡ cleaned.Tinted w → b ≡ true
    left true h = refl
    left false h = absurd (cc h)

    by : (b : Bool) → (if b then (if nat_lt (colour_of r.word + 1) limit then cleaned.Tinted (next_word r.word) else cleaned.MustRenew) else cleaned.Same) ≡ cleaned.Tinted w → nat_lt (colour_of r.word + 1) limit ≡ true
    by true h = left (nat_lt (colour_of r.word + 1) limit) h
    by false h = absurd (cc h)

module _ {F : Rest → ThreadState → Type 0} {V : Value → Type 0} {W : ℕ → Type 0} (k : Places F V W) where
  -- what stands at a spot, if anything does
  pub at_spot : (s : Spot) (h : Hand) → Of F h → Gives V (value_at h s)
  at_spot s h g = by (value_at h s) refl
    where
      by : (o : Option Value) → value_at h s ≡ o → Gives V o
      by None q = tt
      by (Some v) q = k.spot s v h g q

  -- the pointer there gets a word
  pub pointer_put : (s : Spot) (w : ℕ) (h : Hand) → W w → Of F h → Gives (Of F) (set_pointer s w h)
  pointer_put s w h x g = then_gives (Of F) (value_at h s) _ (λ v q. then_gives (Of F) (with_word w v) _ (λ new e. k.puts s new h (worded_lies s w v new e) (k.worded w v new x (k.spot s v h g q) e) g))

module _ {F E : Rest → ThreadState → Type 0} {V : Value → Type 0} {W : ℕ → Type 0} (k : Small F E V W) where
  abbrev Good : Hand → Type 0
  Good = Of F

  -- what is ready has the fact, and a request leaves what is wanted
  abbrev pub Fine : Prepared → Type 0
  Fine (ready h s) = Good h
  Fine (requested h) = Of E h
  Fine nothing = ⊤

  then_fine : (x : Prepared) (go : Hand → Spot → Prepared) → Fine x → ((h : Hand) (s : Spot) → Good h → Fine (go h s)) → Fine (and_then go x)
  then_fine (ready h s) go g w = w h s g
  then_fine (requested h) go g w = g
  then_fine nothing go g w = tt

  ready_fine : (s : Spot) (o : Option Hand) → Gives Good o → Fine (ready_at s o)
  ready_fine s None g = tt
  ready_fine s (Some h) g = g

  -- REQUESTS

  abbrev Elsewhere : Hand → BoxPtr → Type 0
  Elsewhere h p = (server_of p.word == h.work.rest.number) ≡ false

  copy_asked : (v : Value) (h : Hand) (o : Option BoxPtr) → pointer_of v ≡ o → V v → Gives (Elsewhere h) o → Good h → Fine (request_by ask_copy h o)
  copy_asked v h None q a z g = tt
  copy_asked v h (Some p) q a z g = let kept = k.places in k.asks_copy p h (kept.points v p a q) z g

  object_asked : (v : Value) (h : Hand) (o : Option BoxPtr) → pointer_of v ≡ o → V v → Gives (Elsewhere h) o → Good h → Fine (request_by ask_object h o)
  object_asked v h None q a z g = tt
  object_asked v h (Some p) q a z g = let kept = k.places in k.asks_object p h (kept.points v p a q) z g

  -- NEW WORDS

  abbrev NewOk : Hand → NewWord → Type 0
  NewOk h n = W n.word × Good (record h { work = n.work })

  words : (s : Spot) (n : NewWord) (h : Hand) → NewOk h n → Gives Good (put_word s n h)
  words s n h x = pointer_put k.places s n.word (record h { work = n.work }) x.0 x.1

  renewals : (p : BoxPtr) (h : Hand) → V (value.Own (owned.Box p)) → Good h → Gives (NewOk h) (issue_renewal p h.work)
  renewals p h a g = test_gives (NewOk h) (leads_here h.work.rest.partition p.word && (is_last h.work.rest.partition p.word && can_grow h.work.rest.partition)) _ (λ on. k.renews p h a g on)

  colours : (p : BoxPtr) (h : Hand) → V (value.Own (owned.Box p)) → Good h → Gives (NewOk h) (issue_colour p h.work)
  colours p h a g = by (nat_lt (colour_of p.word + 1) h.work.rest.partition.limit) refl
    where
      by : (b : Bool) → nat_lt (colour_of p.word + 1) h.work.rest.partition.limit ≡ b → Gives (NewOk h) (if b then Some (issue_tint p h.work) else issue_renewal p h.work)
      by true e = (k.tints p h a g e, g)
      by false e = renewals p h a g

  -- CLEANING

  box_kept : (r : MutRef) → V (value.Mut r) → V (value.Own (owned.Box (box_of r)))
  box_kept r a = let kept = k.places in kept.points (value.Mut r) (box_of r) a refl

  last_cleans : (s : Spot) (q : MutRef) (h : Hand) → V (value.Mut q) → Good h → Fine (clean_last s q h)
  last_cleans s q h a g = by (server_of q.word == h.work.rest.number) refl
    where
      by : (b : Bool) → (server_of q.word == h.work.rest.number) ≡ b → Fine (if b then ready_at s (then_some (issue_renewal (box_of q) h.work) (λ n. put_word s n h)) else requested (ask_object (box_of q) h))
      by true e = ready_fine s (then_some (issue_renewal (box_of q) h.work) (λ n. put_word s n h)) (bind_gives (NewOk h) Good (issue_renewal (box_of q) h.work) (λ n. put_word s n h) (renewals (box_of q) h (box_kept q a) g) (λ n u. words s n h u))
      by false e = k.asks_object (box_of q) h (box_kept q a) e g

  cleans_by : (c : Cleaned) (s : Spot) (q : MutRef) (h : Hand) → cleaned_answer h.work.rest.partition.limit q ≡ c → V (value.Mut q) → Good h → Fine (cleaned_by c s q h)
  cleans_by cleaned.Same s q h e a g = g
  cleans_by (cleaned.Tinted w) s q h e a g =
      ready_fine s (put_word s (issue_tint (box_of q) h.work) h) (words s (issue_tint (box_of q) h.work) h (k.tints (box_of q) h (box_kept q a) g (tint_left h.work.rest.partition.limit q w e), g))
  cleans_by cleaned.MustRenew s q h e a g = last_cleans s q h a g

  cleans : (s : Spot) (v : Option Value) (h : Hand) → Gives V v → Good h → Fine (clean_value s v h)
  cleans s (Some (value.Mut q)) h a g = by (nat_lt (colour_of q.word) h.work.rest.partition.limit)
    where
      by : (b : Bool) → Fine (if b then cleaned_by (cleaned_answer h.work.rest.partition.limit q) s q h else nothing)
      by true = cleans_by (cleaned_answer h.work.rest.partition.limit q) s q h refl a g
      by false = tt
  cleans s _ h a g = g

  -- READING

  pins_once : (s : Spot) (q : SharedRef) (b : Bool) (h : Hand) → V (value.Shared q) → Good h → Gives Good (pinned_once s q b h)
  pins_once s q true h a g = g
  pins_once s q false h a g =
      let kept = k.places in
      test_gives Good (can_pin h.work.rest.cache q.word) _ (λ on. kept.puts s (value.Shared (record q { pinned = true })) (working (with_cache (pin h.work.rest.cache q.word)) h) (shared_lies s (record q { pinned = true })) (k.pinned q a) (k.pins q.word h on g))

  pub word_used : (w : ℕ) (b : Bool) (h : Hand) → Good h → Gives Good (used_once w b h)
  word_used w true h g = g
  word_used w false h g = test_gives Good (can_pin h.work.rest.cache w) _ (λ on. k.uses w h on g)

  copy_used : (s : Spot) (v : Value) (w : ℕ) (h : Hand) → V v → Good h → Gives Good (use_copy s v w h)
  copy_used s (value.Shared q) w h a g = pins_once s q q.pinned h a g
  copy_used s _ w h a g = word_used w (is_in w h.thread.walk) h g

  hops : (f : BoxPtr → Act) (o : Option BoxPtr) (h : Hand) → Good h → Good (hopped (λ p. note (f p)) o h)
  hops f None h g = g
  hops f (Some p) h g = g

  local_kept : (v : Value) (h : Hand) → Good h → Good (local v h)
  local_kept v h g = hops (λ p. act.Local p.object p.word) (pointer_of v) h g

  reads_by : (s : Spot) (v : Value) (o : Option Hop) (h : Hand) → read_hop h.work.rest.number h.work.rest.cache v ≡ o → V v → Good h → Fine (read_by s v o h)
  reads_by s v (Some (hop.Slot i)) h e a g = g
  reads_by s v (Some (hop.Direct w)) h e a g = local_kept v h g
  reads_by s v (Some (hop.Hit w)) h e a g = ready_fine (in_copy w) (use_copy s v w (hit_by v h)) (copy_used s v w (hit_by v h) a (hops (λ p. act.Hit p.object p.word) (pointer_of v) h g))
  reads_by s v (Some (hop.NeedCopy w)) h e a g = copy_asked v h (pointer_of v) refl a (needs_copy h.work.rest.number w h.work.rest.cache v e) g
  reads_by s v _ h e a g = tt

  reads_value : (s : Spot) (v : Option Value) (h : Hand) → Gives V v → Good h → Fine (read_value s v h)
  reads_value s None h a g = tt
  reads_value s (Some v) h a g = reads_by s v (read_hop h.work.rest.number h.work.rest.cache v) h refl a g

  reads_clean : (s : Spot) (v : Value) (o : Option Hop) (h : Hand) → V v → Good h → Fine (read_clean s v o h)
  reads_clean s v (Some (hop.NeedTint w)) h a g = cleans s (Some v) h a g
  reads_clean s v _ h a g = g

  tints_first : (s : Spot) (v : Option Value) (h : Hand) → Gives V v → Good h → Fine (tinted_first s v h)
  tints_first s None h a g = tt
  tints_first s (Some v) h a g = reads_clean s v (read_hop h.work.rest.number h.work.rest.cache v) h a g

  reads_star : (h : Hand) (s : Spot) → Good h → Fine (read_star h s)
  reads_star h s g =
      then_fine (tinted_first s (value_at h s) (load_at s h)) _ (tints_first s (value_at h s) (load_at s h) (at_spot k.places s h g) g) (λ h2 s2 u. reads_value s2 (value_at h2 s2) h2 (at_spot k.places s2 h2 u) u)

  reads_stars : (d : ℕ) (h : Hand) (s : Spot) → Good h → Fine (read_stars d h s)
  reads_stars zero h s g = g
  reads_stars (suc d) h s g = then_fine (read_star h s) (read_stars d) (reads_star h s g) (λ h2 s2 u. reads_stars d h2 s2 u)

  -- BORROWS

  reads_pointer : (w : Lval) (d : ℕ) (h : Hand) → Good h → Fine (read_pointer w d h)
  reads_pointer w zero h g = g
  reads_pointer w (suc d) h g = then_fine (read_stars d h (in_slot w.slot)) _ (reads_stars d h (in_slot w.slot) g) (λ h2 s u. cleans s (value_at h2 s) (load_at s h2) (at_spot k.places s h2 u) u)

  lends_by : (s : Spot) (v : Value) (o : Option Hop) (h : Hand) → write_hop h.work.rest.number v ≡ o → V v → Good h → Fine (lend_by s v o h)
  lends_by s v None h e a g = tt
  lends_by s v (Some (hop.NeedMove w)) h e a g = by (is_taken h.thread.phase)
    where
      by : (b : Bool) → Fine (if b then ready h s else request_by ask_object h (pointer_of v))
      by true = g
      by false = object_asked v h (pointer_of v) refl a (needs_move h.work.rest.number w v e) g
  lends_by s v (Some _) h e a g = g

  lends_value : (s : Spot) (v : Option Value) (h : Hand) → Gives V v → Good h → Fine (lend_value s v h)
  lends_value s None h a g = tt
  lends_value s (Some v) h a g = lends_by s v (write_hop h.work.rest.number v) h refl a g

  lends_pointer : (w : Lval) (d : ℕ) (h : Hand) → Good h → Fine (lend_pointer w d h)
  lends_pointer w zero h g = g
  lends_pointer w (suc d) h g = then_fine (read_stars d h (in_slot w.slot)) _ (reads_stars d h (in_slot w.slot) g) (λ h2 s u. lends_value s (value_at h2 s) (load_at s h2) (at_spot k.places s h2 u) u)

  -- WRITING

  module _ (passes : Passes F) where
    boxes_ready : (s : Spot) (o : Option NewWord) (h : Hand) → Gives (NewOk h) o → Fine (box_ready s o h)
    boxes_ready s None h g = tt
    boxes_ready s (Some m) h g = ready_fine (in_cell m.word None) (put_word s m h) (words s m h g)

    colours_box : (s : Spot) (v : Value) (o : Option BoxPtr) (h : Hand) → pointer_of v ≡ o → V v → Good h → Fine (colour_box s o h)
    colours_box s v None h q a g = tt
    colours_box s v (Some p) h q a g = let kept = k.places in boxes_ready s (issue_colour p h.work) h (colours p h (kept.points v p a q) g)

    writes_by : (m : ℕ) (s : Spot) (v : Value) (o : Option Hop) (h : Hand) → write_hop h.work.rest.number v ≡ o → V v → Good h → Fine (write_by m s v o h)
    writes_by m s v (Some (hop.Slot i)) h e a g = passes (m + 1) h g
    writes_by m s v (Some (hop.NeedTint w)) h e a g = colours_box s v (pointer_of v) (passing (m + 1) h) refl a (passes (m + 1) h g)
    writes_by m s v (Some (hop.AtCell w)) h e a g = passes (m + 1) (local v h) (local_kept v h g)
    writes_by m s v (Some (hop.NeedMove w)) h e a g = object_asked v h (pointer_of v) refl a (needs_move h.work.rest.number w v e) g
    writes_by m s v _ h e a g = tt

    passes_by : (s : Spot) (v : Value) (o : Option Hop) (h : Hand) → Good h → Fine (pass_by s v o h)
    passes_by s v (Some (hop.Slot i)) h g = g
    passes_by s v (Some (hop.NeedTint w)) h g = g
    passes_by s v (Some (hop.AtCell w)) h g = local_kept v h g
    passes_by s v _ h g = tt

    writes_value : (m : ℕ) (s : Spot) (v : Option Value) (h : Hand) → Gives V v → Good h → Fine (write_value m s v h)
    writes_value m s None h a g = tt
    writes_value m s (Some v) h a g = by (nat_lt m h.thread.passed)
      where
        by : (b : Bool) → Fine (if b then pass_by s v (write_hop h.work.rest.number v) h else write_by m s v (write_hop h.work.rest.number v) h)
        by true = passes_by s v (write_hop h.work.rest.number v) h g
        by false = writes_by m s v (write_hop h.work.rest.number v) h refl a g

    pub writes_stars : (d m : ℕ) (h : Hand) (s : Spot) → Good h → Fine (write_stars d m h s)
    writes_stars zero m h s g = g
    writes_stars (suc d) m h s g = then_fine (write_star m h s) (write_stars d (m + 1)) (writes_value m s (value_at h s) (load_at s h) (at_spot k.places s h g) g) (λ h2 s2 u. writes_stars d (m + 1) h2 s2 u)

    follows_holder : (q : MutRef) (o : Option ℕ) (h : Hand) → Good h → Fine (follow_holder q o h)
    follows_holder q None h g = g
    follows_holder q (Some w) h g = writes_stars q.holder.depth 0 h (in_slot q.holder.slot) g

    follows_ended : (v : Option Value) (h : Hand) → Good h → Fine (follow_ended v h)
    follows_ended (Some (value.Mut q)) h g = follows_holder q (finish_word q) h g
    follows_ended _ h g = tt

    ends_ref : (s : Spot) (h : Hand) → Good h → Fine (end_ref s h)
    ends_ref s h g =
        then_fine (and_then (λ h2 s2. follow_ended (value_at h2 s2) h2) (clean_value s (value_at h s) h)) unlabelled
        (then_fine (clean_value s (value_at h s) h) _ (cleans s (value_at h s) h (at_spot k.places s h g) g) (λ h2 s2 u. follows_ended (value_at h2 s2) h2 u)) (λ h2 s2 u. u)

-- an access that follows a place; one that writes
abbrev pub Follows : Option Access → Type 0
Follows None = ⊥
Follows (Some a) = ⊤

abbrev pub Writes : Option Access → Type 0
Writes (Some (WriteTo w)) = ⊤
Writes (Some (EndRef s)) = ⊤
Writes a = ⊥

-- what is ready has the fact, and a request leaves what is wanted
abbrev pub Made : (F E : Rest → ThreadState → Type 0) → Prepared → Type 0
Made F E (ready h s) = Of F h
Made F E (requested h) = Of E h
Made F E nothing = ⊤

module _ {F E : Rest → ThreadState → Type 0} {V : Value → Type 0} {W : ℕ → Type 0} where
  made : (k : Small F E V W) (p : Prepared) → Fine k p → Made F E p
  made k (ready h s) g = g
  made k (requested h) g = g
  made k nothing g = tt

  -- any access is made ready
  pub prepare_makes : (a : Option Access) (h : Hand) → (Follows a → Small F E V W) → (Writes a → Passes F) → Of F h → Made F E (prepare a h)
  prepare_makes None h k p g = g
  prepare_makes (Some (ReadTo w)) h k p g = made (k tt) (read_stars w.depth h (in_slot w.slot)) (reads_stars (k tt) w.depth h (in_slot w.slot) g)
  prepare_makes (Some (ReadPointer w)) h k p g = made (k tt) (read_pointer w w.depth h) (reads_pointer (k tt) w w.depth h g)
  prepare_makes (Some (WriteTo w)) h k p g = made (k tt) (write_stars w.depth 0 h (in_slot w.slot)) (writes_stars (k tt) (p tt) w.depth 0 h (in_slot w.slot) g)
  prepare_makes (Some (LendTo w)) h k p g = made (k tt) (lend_pointer w w.depth h) (lends_pointer (k tt) w w.depth h g)
  prepare_makes (Some (EndRef s)) h k p g = made (k tt) (end_ref s h) (ends_ref (k tt) (p tt) s h g)
