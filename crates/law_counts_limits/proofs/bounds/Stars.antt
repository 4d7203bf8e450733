-- Making an instruction's place ready, star by star: what each star may change of a server's rest and of how many hops are passed. References keep their holders.
use Rattle.std.proofs.Common.{◌≡◌, ◌≤◌, ◌<◌, ℕ, zero, suc, ◌+◌, ◌-◌, ◌==◌, ◌&&◌, Bool, true, false, nat_lt, if◌then◌else◌, List, [], ◌∷◌, ◌++◌, length, Option, Some, None, refl, sym, ap, subst, ◌∙◌, arith}
use Rattle.std.specs.Prelude.{slice_get, slice_set, map, take}
use Rattle.std.specs.Bool.{⊤}
use Rattle.law_counts_things.specs.Below.fr_base.Lists.{is_in, last_of}
use Rattle.law_counts_things.specs.Below.fr_base.declared.place.Lval.{Lval}
use Rattle.law_counts_things.specs.Below.global_addr.Words.{server_of}
use Rattle.law_counts_things.specs.Below.heap_partition.declared.value.BoxPtr.{BoxPtr}
use Rattle.law_counts_things.specs.Below.heap_partition.declared.value.Cell.{Cell}
use Rattle.law_counts_things.specs.Below.heap_partition.declared.value.Owned.{Owned}
use Rattle.law_counts_things.specs.Below.heap_partition.declared.value.Owned.TheVariants as owned
use Rattle.law_counts_things.specs.Below.owner_box.Partition.{stored, renewed}
use Rattle.law_counts_things.specs.Below.read_cache.Cache.{Copy, can_pin, pin}
use Rattle.law_counts_things.specs.Below.mut_borrow.Refs.{cleaned_answer, finish_word}
use Rattle.law_counts_things.specs.Below.mut_borrow.declared.shared.SharedRef.{SharedRef}
use Rattle.law_counts_things.specs.Below.mut_borrow.declared.mutable.MutRef.{MutRef}
use Rattle.law_counts_things.specs.Below.mut_borrow.declared.mutable.Cleaned.{Cleaned}
use Rattle.law_counts_things.specs.Below.mut_borrow.declared.mutable.Cleaned.TheVariants as cleaned
use Rattle.law_counts_things.specs.Below.thread_state.View.{ThreadState}
use Rattle.law_counts_things.specs.Below.thread_state.declared.value.Value.{Value}
use Rattle.law_counts_things.specs.Below.thread_state.declared.value.Value.TheVariants as value
use Rattle.law_counts_things.specs.Below.server_msgs.declared.message.Message.{Message}
use Rattle.law_counts_things.specs.Below.place_walk.declared.hop.Hop.{Hop}
use Rattle.law_counts_things.specs.Below.place_walk.declared.hop.Hop.TheVariants as hop
use Rattle.law_counts_things.specs.Below.place_walk.Hops.{clean_hop, dirty_hop, read_hop, write_hop}
use Rattle.law_counts_things.specs.Below.journal.declared.act.Act.{Act}
use Rattle.law_counts_things.specs.Below.journal.declared.act.Act.TheVariants as act
use Rattle.law_counts_things.specs.Below.server_model.Servers.{Rest}
use Rattle.law_counts_things.specs.Below.server_model.Work.{Hand, front_of, note, sent_from, with_cache, with_partition, working, leads_here, then_some, used_once}
use Rattle.law_counts_things.specs.Below.server_model.NewWords.{NewWord, can_grow, is_last, issue_tint, issue_renewal, issue_colour}
use Rattle.law_counts_things.specs.Below.server_model.Places.{Spot, in_slot, on_top, in_cell, in_copy, nowhere, value_in, cell_at, value_at, load_at, written, note_slot, note_write, put_at, pointer_of, with_word, set_pointer, put_word}
use Rattle.law_counts_things.specs.Below.server_model.Prepare.{Access, ReadTo, ReadPointer, WriteTo, LendTo, EndRef, Prepared, ready, requested, nothing, and_then, ready_at, ask_copy, ask_object, request_by, box_of, clean_last, cleaned_by, clean_value, pinned_once, use_copy, hopped, local, hit_by, read_by, read_value, read_clean, tinted_first, read_star, read_stars, passing, box_ready, colour_box, write_by, pass_by, write_value, write_star, write_stars, read_pointer, is_taken, lend_by, lend_value, lend_pointer, follow_holder, follow_ended, unlabelled, end_ref, prepare}
use Rattle.law_counts_things.specs.Below.law_counts_sums.Laws.{Gives}
use Rattle.law_counts_things.proofs.Below.law_counts_sums.Results.{then_gives, test_gives, bind_gives}
use Rattle.law_counts_things.proofs.things.Small.{Writes}

-- HOLDERS

-- how many stars the holder of a reference has
abbrev pub holder_depth : Value → ℕ
holder_depth (value.Mut r) = r.holder.depth
holder_depth v = 0

-- of what stands there, if anything does
abbrev pub depth_there : Option Value → ℕ
depth_there None = 0
depth_there (Some v) = holder_depth v

-- the same holders, one by one
abbrev pub depths : List Value → List ℕ
depths vs = map holder_depth vs

-- lists with the same holders have the same one at each place, and are as long
pub same_there : (xs ys : List Value) → depths xs ≡ depths ys → (i : ℕ) → depth_there (slice_get xs i) ≡ depth_there (slice_get ys i)
same_there [] [] e i = refl
same_there [] (y ∷ ys) e i = absurd (cc e)
same_there (x ∷ xs) [] e i = absurd (cc e)
same_there (x ∷ xs) (y ∷ ys) e zero = let same : holder_depth x ≡ holder_depth y = cc in same
same_there (x ∷ xs) (y ∷ ys) e (suc i) = same_there xs ys (let same : depths xs ≡ depths ys = cc in same) i

pub same_length : (xs ys : List Value) → depths xs ≡ depths ys → length xs ≡ length ys
same_length [] [] e = refl
same_length [] (y ∷ ys) e = absurd (cc e)
same_length (x ∷ xs) [] e = absurd (cc e)
same_length (x ∷ xs) (y ∷ ys) e = ap suc (same_length xs ys (let same : depths xs ≡ depths ys = cc in same))

-- the last one's too
pub same_last : (xs ys : List Value) → depths xs ≡ depths ys → depth_there (last_of xs) ≡ depth_there (last_of ys)
same_last xs ys e = same_there xs ys e (length xs - 1) ∙ ap (λ n. depth_there (slice_get ys (n - 1))) (same_length xs ys e)

some_same : {X : Type 0} {a b : X} → Some a ≡ Some b → a ≡ b
some_same e = cc

-- a value with the same holder in place of another one
set_depths : (vs : List Value) (i : ℕ) (v new : Value) → slice_get vs i ≡ Some v → holder_depth new ≡ holder_depth v → depths (slice_set vs i new) ≡ depths vs
set_depths [] i v new e h = refl
set_depths (x ∷ vs) zero v new e h = let same : x ≡ v = some_same e in ap (λ n. n ∷ depths vs) (h ∙ ap holder_depth (sym same))
set_depths (x ∷ vs) (suc i) v new e h = ap (λ l. holder_depth x ∷ l) (set_depths vs i v new e h)

-- the last item of a list is set
set_at : (vs : List Value) (n : ℕ) (v : Value) → length vs ≡ n + 1 → slice_set vs n v ≡ take n vs ++ v ∷ []
set_at [] n v h = absurd (omega (arith, h))
set_at (x ∷ []) zero v h = refl
set_at (x ∷ y ∷ vs) zero v h = absurd (omega (arith, h))
set_at (x ∷ vs) (suc n) v h = ap (λ l. x ∷ l) (set_at vs n v (omega (arith, h)))

-- what is there is below the length
there_below : (vs : List Value) (n : ℕ) (v : Value) → slice_get vs n ≡ Some v → n < length vs
there_below [] n v e = absurd (cc e)
there_below (x ∷ vs) zero v e = omega arith
there_below (x ∷ vs) (suc n) v e = omega (arith, there_below vs n v e)

-- the same for the last one
top_depths : (vs : List Value) (v new : Value) → last_of vs ≡ Some v → holder_depth new ≡ holder_depth v → depths (front_of vs ++ new ∷ []) ≡ depths vs
top_depths vs v new e h =
    let l = there_below vs (length vs - 1) v e in
    subst (λ z. depths z ≡ depths vs) (set_at vs (length vs - 1) new (omega (arith, l))) (set_depths vs (length vs - 1) v new e h)

-- another word leaves the holder
word_depth : (w : ℕ) (v new : Value) → with_word w v ≡ Some new → holder_depth new ≡ holder_depth v
word_depth w (value.Own (owned.Box p)) new e = ap holder_depth (sym (some_same e))
word_depth w (value.Mut r) new e = ap holder_depth (sym (some_same e))
word_depth w (value.Own owned.Nothing) new e = absurd (cc e)
word_depth w (value.Own owned.Unit) new e = absurd (cc e)
word_depth w (value.Own (owned.Int n)) new e = absurd (cc e)
word_depth w (value.Own (owned.Mutex m)) new e = absurd (cc e)
word_depth w (value.Own (owned.Task t)) new e = absurd (cc e)
word_depth w value.Gone new e = absurd (cc e)
word_depth w (value.SharedSlot j) new e = absurd (cc e)
word_depth w (value.MutSlot j) new e = absurd (cc e)
word_depth w (value.Shared q) new e = absurd (cc e)
word_depth w (value.Held m) new e = absurd (cc e)

-- so does the mark of a write
written_depth : (v : Value) → holder_depth (written v) ≡ holder_depth v
written_depth (value.Mut r) = refl
written_depth value.Gone = refl
written_depth (value.Own v) = refl
written_depth (value.SharedSlot j) = refl
written_depth (value.MutSlot j) = refl
written_depth (value.Shared q) = refl
written_depth (value.Held m) = refl

-- and a write that is noted on a slot
noted_depths : (vs : List Value) (i : ℕ) → depths (note_slot vs i (slice_get vs i)) ≡ depths vs
noted_depths vs i = by (slice_get vs i) refl
  where
    by : (o : Option Value) → slice_get vs i ≡ o → depths (note_slot vs i o) ≡ depths vs
    by None e = refl
    by (Some v) e = set_depths vs i v (written v) e (written_depth v)

-- no reference stands in a cell
cell_depth : (c : Option Cell) → depth_there (value_in c) ≡ 0
cell_depth None = refl
cell_depth (Some c) = refl

-- so many stars more
abbrev pub after : ℕ → ℕ → ℕ
after zero c = c
after (suc d) c = after d (suc c)

-- these are so many
pub after_is : (d c : ℕ) → after d c ≡ d + c
after_is zero c = omega arith
after_is (suc d) c = omega (arith, after_is d (suc c))

-- what small steps may change, where so many hops may be passed: a renewal and a use of a copy count, and nothing else does
pub record Steps (most : ℕ) (W : Type 0) (X : ℕ → Rest → ℕ → Type 0) : Type 0 where
  pub more : (c : ℕ) (r : Rest) (n : ℕ) → X c r n → X (suc c) r n
  pub stores : (w : ℕ) (v : Owned) (c : ℕ) (r : Rest) (n : ℕ) → X c r n → X c (record r { partition = stored r.partition w v }) n
  pub renews : (w c : ℕ) (r : Rest) (n : ℕ) → X c r n → X (suc c) (record r { partition = renewed r.partition w }) n
  pub pins : (w c : ℕ) (r : Rest) (n : ℕ) → X c r n → X (suc c) (record r { cache = pin r.cache w }) n
  pub sends : (t : ℕ) (m : Message) (c : ℕ) (r : Rest) (n : ℕ) → X c r n → X c (sent_from r t m) n
  pub passes : W → (m c : ℕ) (r : Rest) (n : ℕ) → m ≤ most → X c r n → X c r m

-- the stars of an access
abbrev pub stars : Option Access → Hand → ℕ
stars None h = 0
stars (Some (ReadTo w)) h = w.depth
stars (Some (ReadPointer w)) h = w.depth
stars (Some (WriteTo w)) h = w.depth
stars (Some (LendTo w)) h = w.depth
stars (Some (EndRef s)) h = depth_there (value_at h s)

-- a thread at that instruction, with the holders in its slots and temporary values
pub record Shape (y : ThreadState) (pc : ℕ) (vs ts : List Value) : Type 0 where
  pub pc_so : pc ≡ y.pc
  pub slots_so : depths vs ≡ depths y.slots
  pub temps_so : depths ts ≡ depths y.temps

module _ {most : ℕ} {W : Type 0} {X : ℕ → Rest → ℕ → Type 0} (k : Steps most W X) (y : ThreadState) where
  abbrev pub Good : ℕ → Hand → Type 0
  Good c h = Shape y h.thread.pc h.thread.slots h.thread.temps × X c h.work.rest h.thread.passed

  -- a count more may be
  up : (c : ℕ) (h : Hand) → Good c h → Good (suc c) h
  up c h g = (g.0, k.more c h.work.rest h.thread.passed g.1)

  -- as many more as there are stars left
  raised : (d c : ℕ) (h : Hand) → Good c h → Good (after d c) h
  raised zero c h g = g
  raised (suc d) c h g = raised d (suc c) h (up c h g)

  -- what is ready, or asked for
  abbrev pub Made : ℕ → Prepared → Type 0
  Made c (ready h s) = Good c h
  Made c (requested h) = Good c h
  Made c nothing = ⊤

  -- the same, where what is ready is that spot
  abbrev MadeAt : Spot → ℕ → Prepared → Type 0
  MadeAt s c (ready h s2) = (s2 ≡ s) × Good c h
  MadeAt s c (requested h) = Good c h
  MadeAt s c nothing = ⊤

  -- what follows goes on from there
  then_made : (d c : ℕ) (x : Prepared) (go : Hand → Spot → Prepared) → Made c x → ((h : Hand) (s : Spot) → Good c h → Made (after d c) (go h s)) → Made (after d c) (and_then go x)
  then_made d c (ready h s) go g w = w h s g
  then_made d c (requested h) go g w = raised d c h g
  then_made d c nothing go g w = tt

  -- the same where it follows at that spot
  then_there : (d c : ℕ) (s : Spot) (x : Prepared) (go : Hand → Spot → Prepared) → MadeAt s c x → ((h : Hand) → Good c h → Made (after d c) (go h s)) → Made (after d c) (and_then go x)
  then_there d c s (ready h s2) go g w = subst (λ z. Made (after d c) (go h z)) (sym g.0) (w h g.1)
  then_there d c s (requested h) go g w = raised d c h g
  then_there d c s nothing go g w = tt

  -- ready, where something is there
  ready_made : (c : ℕ) (s : Spot) (o : Option Hand) → Gives (Good c) o → Made c (ready_at s o)
  ready_made c s None g = tt
  ready_made c s (Some h) g = g

  ready_there : (c : ℕ) (s : Spot) (o : Option Hand) → Gives (Good c) o → MadeAt s c (ready_at s o)
  ready_there c s None g = tt
  ready_there c s (Some h) g = (refl, g)

  -- the spot plays no part
  made_of : (c : ℕ) (s : Spot) (x : Prepared) → MadeAt s c x → Made c x
  made_of c s (ready h s2) g = g.1
  made_of c s (requested h) g = g
  made_of c s nothing g = tt

  up_there : (c : ℕ) (s : Spot) (x : Prepared) → MadeAt s c x → MadeAt s (suc c) x
  up_there c s (ready h s2) g = (g.0, up c h g.1)
  up_there c s (requested h) g = up c h g
  up_there c s nothing g = tt

  -- POINTERS

  -- a value with the holder of what stands there is put
  puts : (c : ℕ) (s : Spot) (v new : Value) (h : Hand) → value_at h s ≡ Some v → holder_depth new ≡ holder_depth v → Good c h → Gives (Good c) (put_at s new h)
  puts c (in_slot j) v new h e d g = test_gives (Good c) (nat_lt j (length h.thread.slots)) _ (λ z. let a = g.0 in (record { pc_so = a.pc_so; slots_so = set_depths h.thread.slots j v new e d ∙ a.slots_so; temps_so = a.temps_so }, g.1))
  puts c on_top v new h e d g = let a = g.0 in (record { pc_so = a.pc_so; slots_so = a.slots_so; temps_so = top_depths h.thread.temps v new e d ∙ a.temps_so }, g.1)
  puts c (in_cell w through) v (value.Own x) h e d g = test_gives (Good c) (leads_here h.work.rest.partition w) _ (λ z. noted through)
    where
      noted : (o : Option ℕ) → Good c (note_write o (working (with_partition (stored h.work.rest.partition w x)) h))
      noted None = (g.0, k.stores w x c h.work.rest h.thread.passed g.1)
      noted (Some j) = let a = g.0 in (record { pc_so = a.pc_so; slots_so = noted_depths h.thread.slots j ∙ a.slots_so; temps_so = a.temps_so }, k.stores w x c h.work.rest h.thread.passed g.1)
  puts c (in_cell w through) v value.Gone h e d g = tt
  puts c (in_cell w through) v (value.SharedSlot j) h e d g = tt
  puts c (in_cell w through) v (value.MutSlot j) h e d g = tt
  puts c (in_cell w through) v (value.Shared q) h e d g = tt
  puts c (in_cell w through) v (value.Mut q) h e d g = tt
  puts c (in_cell w through) v (value.Held m) h e d g = tt
  puts c (in_copy w) v new h e d g = tt
  puts c nowhere v new h e d g = tt

  -- a pointer gets a word
  pub sets : (c : ℕ) (s : Spot) (w : ℕ) (h : Hand) → Good c h → Gives (Good c) (set_pointer s w h)
  sets c s w h g = then_gives (Good c) (value_at h s) _ (λ v q. then_gives (Good c) (with_word w v) _ (λ new e. puts c s v new h q (word_depth w v new e) g))

  -- NEW WORDS

  abbrev NewGood : ℕ → Hand → NewWord → Type 0
  NewGood c h n = Good c (record h { work = n.work })

  -- a renewal is one count
  renewals : (c : ℕ) (p : BoxPtr) (h : Hand) → Good c h → Gives (NewGood (suc c) h) (issue_renewal p h.work)
  renewals c p h g = test_gives (NewGood (suc c) h) (leads_here h.work.rest.partition p.word && (is_last h.work.rest.partition p.word && can_grow h.work.rest.partition)) _ (λ on. let g2 : Good (suc c) (record h { work = record h.work { rest = record h.work.rest { partition = renewed h.work.rest.partition p.word } } }) = (g.0, k.renews p.word c h.work.rest h.thread.passed g.1) in g2)

  -- a new word is one at most
  colours : (c : ℕ) (p : BoxPtr) (h : Hand) → Good c h → Gives (NewGood (suc c) h) (issue_colour p h.work)
  colours c p h g = by (nat_lt _ h.work.rest.partition.limit)
    where
      by : (b : Bool) → Gives (NewGood (suc c) h) (if b then Some (issue_tint p h.work) else issue_renewal p h.work)
      by true = up c h g
      by false = renewals c p h g

  -- a pointer gets the new word
  words : (c : ℕ) (s : Spot) (n : NewWord) (h : Hand) → NewGood c h n → Gives (Good c) (put_word s n h)
  words c s n h g = sets c s n.word (record h { work = n.work }) g

  -- REQUESTS

  -- a request changes no count
  asks_copy : (c : ℕ) (h : Hand) (o : Option BoxPtr) → Good c h → Made c (request_by ask_copy h o)
  asks_copy c h None g = tt
  asks_copy c h (Some p) g = (g.0, k.sends _ _ c h.work.rest h.thread.passed g.1)

  asks_object : (c : ℕ) (h : Hand) (o : Option BoxPtr) → Good c h → Made c (request_by ask_object h o)
  asks_object c h None g = tt
  asks_object c h (Some p) g = (g.0, k.sends _ _ c h.work.rest h.thread.passed g.1)

  asked_there : (c : ℕ) (s : Spot) (p : BoxPtr) (h : Hand) → Good c h → MadeAt s c (requested (ask_object p h))
  asked_there c s p h g = (g.0, k.sends _ _ c h.work.rest h.thread.passed g.1)

  -- CLEANING

  -- a reference is tinted, which is no count
  tinted : (c : ℕ) (s : Spot) (q : MutRef) (h : Hand) → Good c h → MadeAt s c (ready_at s (put_word s (issue_tint (box_of q) h.work) h))
  tinted c s q h g = ready_there c s (put_word s (issue_tint (box_of q) h.work) h) (words c s (issue_tint (box_of q) h.work) h g)

  -- one at its last colour is renewed, or asked for
  last_cleans : (c : ℕ) (s : Spot) (q : MutRef) (h : Hand) → Good c h → MadeAt s (suc c) (clean_last s q h)
  last_cleans c s q h g = by (server_of q.word == h.work.rest.number)
    where
      by : (b : Bool) → MadeAt s (suc c) (if b then ready_at s (then_some (issue_renewal (box_of q) h.work) (λ n. put_word s n h)) else requested (ask_object (box_of q) h))
      by true =
          ready_there (suc c) s (then_some (issue_renewal (box_of q) h.work) (λ n. put_word s n h))
          (bind_gives (NewGood (suc c) h) (Good (suc c)) (issue_renewal (box_of q) h.work) (λ n. put_word s n h) (renewals c (box_of q) h g) (λ n u. words (suc c) s n h u))
      by false = up_there c s (requested (ask_object (box_of q) h)) (asked_there c s (box_of q) h g)

  -- cleaning is one count at most
  cleans_by : (c : ℕ) (a : Cleaned) (s : Spot) (q : MutRef) (h : Hand) → Good c h → MadeAt s (suc c) (cleaned_by a s q h)
  cleans_by c cleaned.Same s q h g = (refl, up c h g)
  cleans_by c (cleaned.Tinted w) s q h g = up_there c s (ready_at s (put_word s (issue_tint (box_of q) h.work) h)) (tinted c s q h g)
  cleans_by c cleaned.MustRenew s q h g = last_cleans c s q h g

  cleans : (c : ℕ) (s : Spot) (v : Option Value) (h : Hand) → Good c h → MadeAt s (suc c) (clean_value s v h)
  cleans c s (Some (value.Mut q)) h g = by (nat_lt _ h.work.rest.partition.limit)
    where
      by : (b : Bool) → MadeAt s (suc c) (if b then cleaned_by (cleaned_answer h.work.rest.partition.limit q) s q h else nothing)
      by true = cleans_by c (cleaned_answer h.work.rest.partition.limit q) s q h g
      by false = tt
  cleans c s _ h g = (refl, up c h g)

  -- a reference whose object is elsewhere: nothing is renewed here
  cleans_away_by : (c : ℕ) (a : Cleaned) (s : Spot) (q : MutRef) (h : Hand) → (server_of q.word == h.work.rest.number) ≡ false → Good c h → Made c (cleaned_by a s q h)
  cleans_away_by c cleaned.Same s q h e g = g
  cleans_away_by c (cleaned.Tinted w) s q h e g = made_of c s (ready_at s (put_word s (issue_tint (box_of q) h.work) h)) (tinted c s q h g)
  cleans_away_by c cleaned.MustRenew s q h e g =
      subst (λ b. Made c (if b then ready_at s (then_some (issue_renewal (box_of q) h.work) (λ n. put_word s n h)) else requested (ask_object (box_of q) h))) (sym e) (made_of c s (requested (ask_object (box_of q) h)) (asked_there c s (box_of q) h g))

  -- and none where the object is elsewhere
  cleans_away : (c : ℕ) (s : Spot) (q : MutRef) (h : Hand) → (server_of q.word == h.work.rest.number) ≡ false → Good c h → Made c (clean_value s (Some (value.Mut q)) h)
  cleans_away c s q h e g = by (nat_lt _ h.work.rest.partition.limit)
    where
      by : (b : Bool) → Made c (if b then cleaned_by (cleaned_answer h.work.rest.partition.limit q) s q h else nothing)
      by true = cleans_away_by c (cleaned_answer h.work.rest.partition.limit q) s q h e g
      by false = tt

  -- a clean pointer is read without a tint
  copy_no_tint : (n w u : ℕ) (cs : List Copy) (b d : Bool) → (if b then hop.Direct w else (if d then hop.Hit w else hop.NeedCopy w)) ≡ hop.NeedTint u → ⊥
  copy_no_tint n w u cs true d e = cc e
  copy_no_tint n w u cs false true e = cc e
  copy_no_tint n w u cs false false e = cc e

  -- where a read tints first, the object is elsewhere
  away : (n u : ℕ) (cs : List Copy) (q : MutRef) → read_hop n cs (value.Mut q) ≡ Some (hop.NeedTint u) → (server_of q.word == n) ≡ false
  away n u cs q e = by q.dirty (some_same e)
    where
      here : (b : Bool) → (server_of q.word == n) ≡ b → (if b then hop.Direct q.word else hop.NeedTint q.word) ≡ hop.NeedTint u → (server_of q.word == n) ≡ false
      here true d h = absurd (cc h)
      here false d h = d

      by : (b : Bool) → (if b then dirty_hop n q.word else clean_hop n cs q.word) ≡ hop.NeedTint u → (server_of q.word == n) ≡ false
      by true h = here (server_of q.word == n) refl h
      by false h = absurd (copy_no_tint n q.word u cs (server_of q.word == n) (Rattle.law_counts_things.specs.Below.read_cache.Cache.is_cached cs q.word) h)

  -- so a tint before a read is no count
  tint_first : (c : ℕ) (s : Spot) (v : Value) (u : ℕ) (h : Hand) → read_hop h.work.rest.number h.work.rest.cache v ≡ Some (hop.NeedTint u) → Good c h → Made c (clean_value s (Some v) h)
  tint_first c s (value.Mut q) u h e g = cleans_away c s q h (away h.work.rest.number u h.work.rest.cache q e) g
  tint_first c s _ u h e g = g

  -- READING

  -- what is noted of the event changes nothing at a spot
  same_at : (s : Spot) (f : BoxPtr → Act) (o : Option BoxPtr) (h : Hand) → value_at (hopped (λ p. note (f p)) o h) s ≡ value_at h s
  same_at s f None h = refl
  same_at (in_slot j) f (Some p) h = refl
  same_at on_top f (Some p) h = refl
  same_at (in_cell w through) f (Some p) h = refl
  same_at (in_copy w) f (Some p) h = refl
  same_at nowhere f (Some p) h = refl

  -- a hop that is noted
  hops : (c : ℕ) (f : BoxPtr → Act) (o : Option BoxPtr) (h : Hand) → Good c h → Good c (hopped (λ p. note (f p)) o h)
  hops c f None h g = g
  hops c f (Some p) h g = g

  local_good : (c : ℕ) (v : Value) (h : Hand) → Good c h → Good c (local v h)
  local_good c v h g = hops c (λ p. act.Local p.object p.word) (pointer_of v) h g

  -- a use more of a copy leaves a reference where it stands
  with_pin : (s : Spot) (w : ℕ) (q : SharedRef) (h : Hand) → value_at h s ≡ Some (value.Shared q) → value_at (working (with_cache (pin h.work.rest.cache w)) h) s ≡ Some (value.Shared q)
  with_pin (in_slot j) w q h e = e
  with_pin on_top w q h e = e
  with_pin (in_cell u through) w q h e = e
  with_pin (in_copy u) w q h e = absurd (by _ e)
    where
      by : (o : Option Cell) → value_in o ≡ Some (value.Shared q) → ⊥
      by None d = cc d
      by (Some x) d = cc d
  with_pin nowhere w q h e = absurd (cc e)

  -- a reference pins once
  pins_once : (c : ℕ) (s : Spot) (q : SharedRef) (b : Bool) (h : Hand) → value_at h s ≡ Some (value.Shared q) → Good c h → Gives (Good (suc c)) (pinned_once s q b h)
  pins_once c s q true h e g = up c h g
  pins_once c s q false h e g =
      test_gives (Good (suc c)) (can_pin h.work.rest.cache q.word) _ (λ on.
      puts (suc c) s (value.Shared q) (value.Shared (record q { pinned = true })) (working (with_cache (pin h.work.rest.cache q.word)) h) (with_pin s q.word q h e) refl (g.0, k.pins q.word c h.work.rest h.thread.passed g.1))

  -- a word is used once
  pub uses : (c w : ℕ) (b : Bool) (h : Hand) → Good c h → Gives (Good (suc c)) (used_once w b h)
  uses c w true h g = up c h g
  uses c w false h g = test_gives (Good (suc c)) (can_pin h.work.rest.cache w) _ (λ on. (g.0, k.pins w c h.work.rest h.thread.passed g.1))

  -- a copy is pinned or used
  copy_used : (c : ℕ) (s : Spot) (v : Value) (w : ℕ) (h : Hand) → value_at h s ≡ Some v → Good c h → Gives (Good (suc c)) (use_copy s v w h)
  copy_used c s (value.Shared q) w h e g = pins_once c s q q.pinned h e g
  copy_used c s _ w h e g = uses c w (is_in w h.thread.walk) h g

  -- a star of a read is one count at most
  reads_by : (c : ℕ) (s : Spot) (v : Value) (o : Option Hop) (h : Hand) → value_at h s ≡ Some v → Good c h → Made (suc c) (read_by s v o h)
  reads_by c s v (Some (hop.Slot i)) h e g = up c h g
  reads_by c s v (Some (hop.Direct w)) h e g = local_good (suc c) v h (up c h g)
  reads_by c s v (Some (hop.Hit w)) h e g =
      let f : BoxPtr → Act = λ p. act.Hit p.object p.word in
      ready_made (suc c) (in_copy w) (use_copy s v w (hit_by v h)) (copy_used c s v w (hit_by v h) (same_at s f (pointer_of v) h ∙ e) (hops c f (pointer_of v) h g))
  reads_by c s v (Some (hop.NeedCopy w)) h e g = asks_copy (suc c) h (pointer_of v) (up c h g)
  reads_by c s v _ h e g = tt

  reads_value : (c : ℕ) (s : Spot) (v : Option Value) (h : Hand) → value_at h s ≡ v → Good c h → Made (suc c) (read_value s v h)
  reads_value c s None h e g = tt
  reads_value c s (Some v) h e g = reads_by c s v (read_hop h.work.rest.number h.work.rest.cache v) h e g

  reads_clean : (c : ℕ) (s : Spot) (v : Value) (o : Option Hop) (h : Hand) → read_hop h.work.rest.number h.work.rest.cache v ≡ o → Good c h → Made c (read_clean s v o h)
  reads_clean c s v (Some (hop.NeedTint w)) h e g = tint_first c s v w h e g
  reads_clean c s v _ h e g = g

  tints_first : (c : ℕ) (s : Spot) (v : Option Value) (h : Hand) → Good c h → Made c (tinted_first s v h)
  tints_first c s None h g = tt
  tints_first c s (Some v) h g = reads_clean c s v (read_hop h.work.rest.number h.work.rest.cache v) h refl g

  reads_star : (c : ℕ) (h : Hand) (s : Spot) → Good c h → Made (suc c) (read_star h s)
  reads_star c h s g = then_made 1 c (tinted_first s (value_at h s) (load_at s h)) (λ h2 s2. read_value s2 (value_at h2 s2) h2) (tints_first c s (value_at h s) (load_at s h) g) (λ h2 s2 u. reads_value c s2 (value_at h2 s2) h2 refl u)

  reads_stars : (d c : ℕ) (h : Hand) (s : Spot) → Good c h → Made (after d c) (read_stars d h s)
  reads_stars zero c h s g = g
  reads_stars (suc d) c h s g = then_made d (suc c) (read_star h s) (read_stars d) (reads_star c h s g) (λ h2 s2 u. reads_stars d (suc c) h2 s2 u)

  -- BORROWS

  -- a shared borrow cleans the pointer at the end
  reads_pointer : (w : Lval) (d c : ℕ) (h : Hand) → Good c h → Made (after 1 (after d c)) (read_pointer w d h)
  reads_pointer w zero c h g = up c h g
  reads_pointer w (suc d) c h g =
      then_made 1 (after d (suc c)) (read_stars d h (in_slot w.slot)) _ (reads_stars d (suc c) h (in_slot w.slot) (up c h g)) (λ h2 s u. made_of _ s (clean_value s (value_at h2 s) (load_at s h2)) (cleans (after d (suc c)) s (value_at h2 s) (load_at s h2) u))

  -- the pointer of a mutable borrow
  lends_by : (c : ℕ) (s : Spot) (v : Value) (o : Option Hop) (h : Hand) → Good c h → Made c (lend_by s v o h)
  lends_by c s v None h g = tt
  lends_by c s v (Some (hop.NeedMove w)) h g = by (is_taken h.thread.phase)
    where
      by : (b : Bool) → Made c (if b then ready h s else request_by ask_object h (pointer_of v))
      by true = g
      by false = asks_object c h (pointer_of v) g
  lends_by c s v (Some _) h g = g

  lends_value : (c : ℕ) (s : Spot) (v : Option Value) (h : Hand) → Good c h → Made c (lend_value s v h)
  lends_value c s None h g = tt
  lends_value c s (Some v) h g = lends_by c s v (write_hop h.work.rest.number v) h g

  lends_pointer : (w : Lval) (d c : ℕ) (h : Hand) → Good c h → Made (after d c) (lend_pointer w d h)
  lends_pointer w zero c h g = g
  lends_pointer w (suc d) c h g = then_made 0 (after d (suc c)) (read_stars d h (in_slot w.slot)) _ (reads_stars d (suc c) h (in_slot w.slot) (up c h g)) (λ h2 s u. lends_value (after d (suc c)) s (value_at h2 s) (load_at s h2) u)

  -- WRITING

  module _ (on : W) where
    passed : (c m : ℕ) (h : Hand) → m ≤ most → Good c h → Good c (passing m h)
    passed c m h l g = (g.0, k.passes on m c h.work.rest h.thread.passed l g.1)

    colours_box : (c : ℕ) (s : Spot) (o : Option BoxPtr) (h : Hand) → Good c h → Made (suc c) (colour_box s o h)
    colours_box c s None h g = tt
    colours_box c s (Some p) h g = by (issue_colour p h.work) (colours c p h g)
      where
        by : (o : Option NewWord) → Gives (NewGood (suc c) h) o → Made (suc c) (box_ready s o h)
        by None a = tt
        by (Some n) a = ready_made (suc c) (in_cell n.word None) (put_word s n h) (words (suc c) s n h a)

    writes_by : (c m : ℕ) (s : Spot) (v : Value) (o : Option Hop) (h : Hand) → m + 1 ≤ most → Good c h → Made (suc c) (write_by m s v o h)
    writes_by c m s v (Some (hop.Slot i)) h l g = up c (passing (m + 1) h) (passed c (m + 1) h l g)
    writes_by c m s v (Some (hop.NeedTint w)) h l g = colours_box c s (pointer_of v) (passing (m + 1) h) (passed c (m + 1) h l g)
    writes_by c m s v (Some (hop.AtCell w)) h l g = up c (passing (m + 1) (local v h)) (passed c (m + 1) (local v h) l (local_good c v h g))
    writes_by c m s v (Some (hop.NeedMove w)) h l g = asks_object (suc c) h (pointer_of v) (up c h g)
    writes_by c m s v _ h l g = tt

    passes_by : (c : ℕ) (s : Spot) (v : Value) (o : Option Hop) (h : Hand) → Good c h → Made (suc c) (pass_by s v o h)
    passes_by c s v (Some (hop.Slot i)) h g = up c h g
    passes_by c s v (Some (hop.NeedTint w)) h g = up c h g
    passes_by c s v (Some (hop.AtCell w)) h g = local_good (suc c) v h (up c h g)
    passes_by c s v _ h g = tt

    writes_value : (c m : ℕ) (s : Spot) (v : Option Value) (h : Hand) → m + 1 ≤ most → Good c h → Made (suc c) (write_value m s v h)
    writes_value c m s None h l g = tt
    writes_value c m s (Some v) h l g = by (nat_lt m h.thread.passed)
      where
        by : (b : Bool) → Made (suc c) (if b then pass_by s v (write_hop h.work.rest.number v) h else write_by m s v (write_hop h.work.rest.number v) h)
        by true = passes_by c s v (write_hop h.work.rest.number v) h g
        by false = writes_by c m s v (write_hop h.work.rest.number v) h l g

    pub writes_stars : (d c m : ℕ) (h : Hand) (s : Spot) → m + d ≤ most → Good c h → Made (after d c) (write_stars d m h s)
    writes_stars zero c m h s l g = g
    writes_stars (suc d) c m h s l g = then_made d (suc c) (write_star m h s) (write_stars d (m + 1)) (writes_value c m s (value_at h s) (load_at s h) (omega (arith, l)) g) (λ h2 s2 u. writes_stars d (suc c) (m + 1) h2 s2 (omega (arith, l)) u)

    follows_holder : (c : ℕ) (q : MutRef) (o : Option ℕ) (h : Hand) → q.holder.depth ≤ most → Good c h → Made (after q.holder.depth c) (follow_holder q o h)
    follows_holder c q None h l g = raised q.holder.depth c h g
    follows_holder c q (Some w) h l g = writes_stars q.holder.depth c 0 h (in_slot q.holder.slot) (omega (arith, l)) g

    follows_ended : (c : ℕ) (v : Option Value) (h : Hand) → depth_there v ≤ most → Good c h → Made (after (depth_there v) c) (follow_ended v h)
    follows_ended c (Some (value.Mut q)) h l g = follows_holder c q (finish_word q) h l g
    follows_ended c _ h l g = tt

    -- the holder of what stands at a spot is as it was
    holder_stays : (s : Spot) (h h2 : Hand) → Shape y h.thread.pc h.thread.slots h.thread.temps → Shape y h2.thread.pc h2.thread.slots h2.thread.temps → depth_there (value_at h2 s) ≡ depth_there (value_at h s)
    holder_stays (in_slot j) h h2 a b = same_there h2.thread.slots h.thread.slots (b.slots_so ∙ sym a.slots_so) j
    holder_stays on_top h h2 a b = same_last h2.thread.temps h.thread.temps (b.temps_so ∙ sym a.temps_so)
    holder_stays (in_cell w through) h h2 a b = cell_depth (cell_at h2 (in_cell w through)) ∙ sym (cell_depth (cell_at h (in_cell w through)))
    holder_stays (in_copy w) h h2 a b = cell_depth (cell_at h2 (in_copy w)) ∙ sym (cell_depth (cell_at h (in_copy w)))
    holder_stays nowhere h h2 a b = refl

    ends_ref : (c : ℕ) (s : Spot) (h : Hand) → depth_there (value_at h s) ≤ most → Good c h → Made (after (depth_there (value_at h s)) (suc c)) (end_ref s h)
    ends_ref c s h l g =
        let d = depth_there (value_at h s) in
        then_made 0 (after d (suc c)) (and_then (λ h2 s2. follow_ended (value_at h2 s2) h2) (clean_value s (value_at h s) h)) unlabelled
        (then_there d (suc c) s (clean_value s (value_at h s) h) (λ h2 s2. follow_ended (value_at h2 s2) h2) (cleans c s (value_at h s) h g) (λ h2 u.
        let same : depth_there (value_at h2 s) ≡ d = holder_stays s h h2 g.0 u.0 in
        subst (λ n. Made (after n (suc c)) (follow_ended (value_at h2 s) h2)) same (follows_ended (suc c) (value_at h2 s) h2 (omega (arith, same, l)) u))) (λ h2 s2 u. u)

-- made ready or asked for, with at most one count more than there are stars
module _ {most : ℕ} {W : Type 0} {X : ℕ → Rest → ℕ → Type 0} (k : Steps most W X) (y : ThreadState) where
  -- a count more may be
  up_made : (c : ℕ) (p : Prepared) → Made k y c p → Made k y (suc c) p
  up_made c (ready h s) g = up k y c h g
  up_made c (requested h) g = up k y c h g
  up_made c nothing g = tt

  -- the order of counts plays no part
  swap : (d c : ℕ) → after d (suc c) ≡ suc (after d c)
  swap zero c = refl
  swap (suc d) c = swap d (suc c)

  -- all accesses
  pub prepare_made : (a : Option Access) (h : Hand) → (Writes a → W) → stars a h ≤ most → Good k y 0 h → Made k y (suc (after (stars a h) 0)) (prepare a h)
  prepare_made None h w l g = up k y 0 h g
  prepare_made (Some (ReadTo p)) h w l g = up_made _ (read_stars p.depth h (in_slot p.slot)) (reads_stars k y p.depth 0 h (in_slot p.slot) g)
  prepare_made (Some (ReadPointer p)) h w l g = reads_pointer k y p p.depth 0 h g
  prepare_made (Some (WriteTo p)) h w l g = up_made _ (write_stars p.depth 0 h (in_slot p.slot)) (writes_stars k y (w tt) p.depth 0 0 h (in_slot p.slot) (omega (arith, l)) g)
  prepare_made (Some (LendTo p)) h w l g = up_made _ (lend_pointer p p.depth h) (lends_pointer k y p p.depth 0 h g)
  prepare_made (Some (EndRef s)) h w l g = subst (λ n. Made k y n (end_ref s h)) (swap (depth_there (value_at h s)) 0) (ends_ref k y (w tt) 0 s h l g)
