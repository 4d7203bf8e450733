-- Where the types of names agree with what stands for them, going from owners to what they own comes to an end.
use Rattle.std.proofs.Common.{◌≡◌, inl, inr, ℕ, ◌<◌, ◌&&◌, Bool, true, false, nat_lt, List, [], ◌∷◌, ◌++◌, Option, Some, None, refl, sym, ap, subst, ◌∙◌, arith}
use Rattle.std.proofs.lemmas.Bool.Decides.{nat_tests}
use Rattle.coherent_memory.specs.Below.fr_base.declared.name.MutexNo.{MutexNo}
use Rattle.coherent_memory.specs.Below.fr_base.declared.instruction.Instr.{Instr}
use Rattle.coherent_memory.specs.Below.fr_base.declared.instruction.Instr.TheVariants as instr
use Rattle.coherent_memory.specs.Below.heap_partition.declared.value.Owned.{Owned}
use Rattle.coherent_memory.specs.Below.heap_partition.declared.value.Owned.TheVariants as owned
use Rattle.coherent_memory.specs.Below.journal.View.{EntryView}
use Rattle.coherent_memory.specs.Below.server_model.Servers.{Cluster}
use Rattle.coherent_memory.specs.Below.server_model.Clusters.{apply}
use Rattle.coherent_memory.specs.Names.{tot, other, Among}
use Rattle.coherent_memory.specs.Things.{Thing, in_slot, in_temp, as_gift, as_content, as_result, in_hand, holds, lies, flies, stands, things_of}
use Rattle.coherent_memory.specs.Follow.{Standing, threads_in, thread_at}
use Rattle.coherent_memory.specs.Sight.{Sight, sight}
use Rattle.coherent_memory.specs.Walking.{instr_of}
use Rattle.coherent_memory.specs.Paths.{joined_thread}
use Rattle.coherent_memory.specs.Requests.{locked_mutex}
use Rattle.coherent_memory.specs.OneHeap.{object_n, mutex_n, task_n, Owner, a_thread, inside, outside, content_owner, result_owner, gift_owner, gift_owner_of, spot_owner}
use Rattle.coherent_memory.specs.Ranks.{Step, steps_of, Falls}
use Rattle.coherent_memory.specs.Rooted.{ownings_of, ownings}
use Rattle.coherent_memory.specs.Coherent.{Holds, none_owns_itself}
use Rattle.coherent_memory.proofs.Names.{and_right}
use Rattle.coherent_memory.proofs.Ranks.{nodes_none}
use Rattle.law_counts_sums.specs.Laws.{NumbersDiffer}
use Rattle.law_counts_sums.proofs.Results.{weaker}
use Rattle.law_counts_sums.proofs.Applied.{handed_part}
use Rattle.law_counts_sums.proofs.Sending.{each_event_sends}
use Rattle.law_counts_things.specs.Below.coherent_types.Names.{NameTypes, fits, is_there}
use Rattle.law_counts_things.specs.Below.coherent_types.ClusterTypes.{misfit, content_gift, result_gift, gift_misfit}
use Rattle.law_counts_things.proofs.Below.coherent_types.Branches.{found}
use Rattle.law_runs_coherent.specs.events.Owning.{Agrees, AgreeingEnd, EventsThatAgreeEnd}
use Rattle.law_types_events.proofs.Below.law_heap_writes.drops.GiftValues.{placed, telling, gifts_told}
use Rattle.law_runs_coherent.proofs.events.Levels.{level, own_steps, inside_falls}

is_so : (b : Bool) → other b ≡ 0 → b ≡ true
is_so true z = refl
is_so false z = absurd (cc z)

-- it is there, and fits
fitting : (a b : Bool) → other (a && b) ≡ 0 → b ≡ true
fitting a b z = and_right a b (is_so (a && b) z)

none_at : {X : Type 0} (f : X → ℕ) (x : X) (xs : List X) → tot f xs ≡ 0 → Among x xs → f x ≡ 0
none_at f x [] z h = absurd h
none_at f x (y ∷ ys) z (inl e) = subst (λ w. f w ≡ 0) e (omega (arith, z))
none_at f x (y ∷ ys) z (inr h) = none_at f x ys (omega (arith, z)) h

module _ {N : Type 0} (rank : N → ℕ) where
  -- steps on which it doesn't fall
  abbrev unfallen : Step N → ℕ
  unfallen e = other (nat_lt (rank e.to) (rank e.from))

  falls_so : (es : List (Step N)) → tot unfallen es ≡ 0 → Falls rank es
  falls_so [] z = tt
  falls_so (e ∷ es) z = (by (nat_lt (rank e.to) (rank e.from)) refl (omega (arith, z)), falls_so es (omega (arith, z)))
    where
      by : (c : Bool) → nat_lt (rank e.to) (rank e.from) ≡ c → other c ≡ 0 → rank e.to < rank e.from
      by true d y = grind (arith, nat_tests, d)
      by false d y = absurd (cc y)

  so_falls : (es : List (Step N)) → Falls rank es → tot unfallen es ≡ 0
  so_falls [] h = refl
  so_falls (e ∷ es) h =
      let low = h.0 in
      let l : nat_lt (rank e.to) (rank e.from) ≡ true = grind (arith, nat_tests, low) in
      omega (arith, ap other l, so_falls es h.1)

  both : (es fs : List (Step N)) → Falls rank es → Falls rank fs → Falls rank (es ++ fs)
  both [] fs g h = h
  both (e ∷ es) fs g h = (g.0, both es fs g.1 h)

  all : {A : Type 0} (f : A → List (Step N)) (xs : List A) → ((x : A) → Among x xs → Falls rank (f x)) → Falls rank (steps_of f xs)
  all f [] g = tt
  all f (x ∷ xs) g = both (f x) (steps_of f xs) (g x (inl refl)) (all f xs (λ y h. g y (inr h)))

module _ (k : Cluster) (differ : NumbersDiffer k) (n : NameTypes) (things : tot (misfit n) (things_of k) ≡ 0) (gifts : tot (gift_misfit n (sight k)) (threads_in (things_of k)) ≡ 0) where
  abbrev s : Sight
  s = sight k

  -- GIFTS

  -- what a gift's owner would own by it
  abbrev bad : ℕ → Owned → ℕ
  bad t v = tot (unfallen (level n)) (own_steps (gift_owner_of s (thread_at s.ground.threads t)) v)

  good_content : (m : Option MutexNo) (v : Owned) → content_gift n m (Some v) ≡ 0 → Falls (level n) (own_steps (content_owner m) v)
  good_content None v z = tt
  good_content (Some m) v z = inside_falls n (mutex_n m) v (fitting (is_there v) (fits n (n.mutex m) v) z)

  good_result : (t : Option ℕ) (v : Owned) → result_gift n t (Some v) ≡ 0 → Falls (level n) (own_steps (result_owner t) v)
  good_result None v z = tt
  good_result (Some t) v z = inside_falls n (task_n t) v (fitting (is_there v) (fits n (n.result t) v) z)

  good_gift : (x : Standing) (v : Owned) → x.thread.gift ≡ Some v → gift_misfit n s x ≡ 0 → Falls (level n) (own_steps (gift_owner s x (instr_of s x)) v)
  good_gift x v e z = by (instr_of s x) refl
    where
      contents : content_gift n (locked_mutex s x (instr_of s x)) (Some v) ≡ 0
      contents = subst (λ g. content_gift n (locked_mutex s x (instr_of s x)) g ≡ 0) e (omega (arith, z))

      results : result_gift n (joined_thread (instr_of s x) x.thread) (Some v) ≡ 0
      results = subst (λ g. result_gift n (joined_thread (instr_of s x) x.thread) g ≡ 0) e (omega (arith, z))

      by : (i : Option Instr) → instr_of s x ≡ i → Falls (level n) (own_steps (gift_owner s x i) v)
      by (Some (instr.Lock w)) q = good_content (locked_mutex s x (Some (instr.Lock w))) v (subst (λ i. content_gift n (locked_mutex s x i) (Some v) ≡ 0) q contents)
      by (Some (instr.Join o)) q = good_result (joined_thread (Some (instr.Join o)) x.thread) v (subst (λ i. result_gift n (joined_thread i x.thread) (Some v) ≡ 0) q results)
      by i q = tt

  thread_among : (r : ℕ) (p : Bool) (y : _) (b : List Thing) → Among (stands r p y) b → Among (record { server = r; packed = p; thread = y }) (threads_in b)
  thread_among r p y [] h = absurd h
  thread_among r p y (stands a q z ∷ b) (inl e) = inl (let same : record { server = a; packed = q; thread = z } ≡ record { server = r; packed = p; thread = y } = cc in same)
  thread_among r p y (stands a q z ∷ b) (inr h) = inr (thread_among r p y b h)
  thread_among r p y (x ∷ b) (inl e) = absurd (cc e)
  thread_among r p y (x ∷ b) (inr h) = thread_among r p y b h

  good_thread : (r : ℕ) (p : Bool) (y : _) → Among (stands r p y) (things_of k) → (v : Owned) → y.gift ≡ Some v → bad y.number v ≡ 0
  good_thread r p y h v e =
      let x : Standing = record { server = r; packed = p; thread = y } in
      let among : Among x (threads_in (things_of k)) = thread_among r p y (things_of k) h in
      let there : thread_at s.ground.threads y.number ≡ Some x = found x (things_of k) (differ y.number) among in
      ap (λ o. tot (unfallen (level n)) (own_steps (gift_owner_of s o) v)) there ∙ so_falls (level n) (own_steps (gift_owner s x (instr_of s x)) v) (good_gift x v e (none_at (gift_misfit n s) x (threads_in (things_of k)) gifts among))

  all_told : (b : List Thing) → ((x : Thing) → Among x b → Among x (things_of k)) → tot (telling bad) b ≡ 0
  all_told [] f = refl
  all_told (x ∷ b) f = omega (arith, one x (f x (inl refl)), all_told b (λ y h. f y (inr h)))
    where
      one : (x : Thing) → Among x (things_of k) → telling bad x ≡ 0
      one (stands r p y) h = by y.gift refl
        where
          by : (o : Option Owned) → y.gift ≡ o → telling bad (stands r p (record y { gift = o })) ≡ 0
          by None e = refl
          by (Some v) e = good_thread r p y h v e
      one x h = refl

  no_bad : tot (placed bad) (things_of k) ≡ 0
  no_bad = omega (arith, gifts_told bad k, all_told (things_of k) (λ x h. h))

  -- THINGS

  gift_steps : (t : ℕ) (v : Owned) (o : Owner) → spot_owner s (as_gift t) ≡ o → ownings_of s (holds (as_gift t) v) ≡ own_steps o v
  gift_steps t v a_thread e = rw e refl
  gift_steps t v outside e = rw e refl
  gift_steps t owned.Nothing (inside p) e = rw e refl
  gift_steps t owned.Unit (inside p) e = rw e refl
  gift_steps t (owned.Int i) (inside p) e = rw e refl
  gift_steps t (owned.Box b) (inside p) e = rw e refl
  gift_steps t (owned.Mutex m) (inside p) e = rw e refl
  gift_steps t (owned.Task u) (inside p) e = rw e refl

  thing_falls : (x : Thing) → misfit n x ≡ 0 → placed bad x ≡ 0 → Falls (level n) (ownings_of s x)
  thing_falls (holds (as_gift t) v) z b = subst (Falls (level n)) (sym (gift_steps t v (spot_owner s (as_gift t)) refl)) (falls_so (level n) (own_steps (spot_owner s (as_gift t)) v) b)
  thing_falls (holds (as_content m) v) z b = inside_falls n (mutex_n m) v (fitting (is_there v) (fits n (n.mutex m) v) z)
  thing_falls (holds (as_result t) v) z b = inside_falls n (task_n t) v (fitting (is_there v) (fits n (n.result t) v) z)
  thing_falls (holds (in_slot t i) v) z b = tt
  thing_falls (holds (in_temp t i) v) z b = tt
  thing_falls (holds in_hand v) z b = tt
  thing_falls (lies r a c) z b = inside_falls n (object_n c.object) c.value (is_so (fits n (n.object c.object) c.value) z)
  thing_falls (flies w c) z b = inside_falls n (object_n c.object) c.value (is_so (fits n (n.object c.object) c.value) z)
  thing_falls x z b = tt

  ends : Holds k none_owns_itself
  ends =
      nodes_none (ownings s) (record {
        rank = level n;
        falls = all (level n) (ownings_of s) (things_of k) (λ x h. thing_falls x (none_at (misfit n) x (things_of k) things h) (none_at (placed bad) x (things_of k) no_bad h));
      })

pub agreeing_end : AgreeingEnd
agreeing_end k differ a =
    let agree = a.agree in
    ends k differ a.names (omega (arith, agree)) (omega (arith, agree))

pub events_that_agree_end : EventsThatAgreeEnd
events_that_agree_end k e sound few =
    weaker (λ (d : Cluster × EntryView). NumbersDiffer d.0) (λ (d : Cluster × EntryView). Agrees d.0 → Holds d.0 none_owns_itself) (apply k e)
    (handed_part NumbersDiffer (λ c sums. sums.numbers_differ) k e sound few (each_event_sends k e sound few)) (λ d differ a. agreeing_end d.0 differ a)
