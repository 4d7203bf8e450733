-- No pointer that a thread follows for reading is stale: no reference was made from it, and no other thread has taken its object for a mutable borrow.
use Rattle.std.proofs.Common.{◌≡◌, ◌≢◌, ◌⊎◌, inl, inr, ℕ, suc, ◌+◌, ◌-◌, ◌<◌, Bool, true, false, List, [], ◌∷◌, length, Some, None, is_some, sym, ap, subst, ◌∙◌, arith}
use Rattle.law_counts_sums.proofs.Below.fr_typing.PlaceLemmas.{eq_cases}
use Rattle.law_counts_sums.specs.Below.fr_typing.Kinds.{Kind}
use Rattle.law_counts_sums.specs.Below.fr_base.declared.place.Lval.{Lval}
use Rattle.law_counts_sums.specs.Below.fr_base.declared.instruction.Instr.{Instr}
use Rattle.law_counts_sums.specs.Below.fr_base.declared.instruction.Instr.TheVariants as instr
use Rattle.law_counts_sums.specs.Below.fr_store.Keys.{Key, slot_k}
use Rattle.law_counts_sums.specs.Below.fr_store.Store.{Store, Place as StorePlace, below_key, add}
use Rattle.law_counts_sums.specs.Below.fr_store.Typed.{Exact, refers, KeyTypes, Resolves, Unlent}
use Rattle.law_counts_sums.specs.Below.fr_store.Thread.{ThreadTyped}
use Rattle.law_counts_sums.proofs.Below.fr_store.Chains.{unique, add_plus}
use Rattle.law_counts_sums.proofs.Below.fr_store.Sound.{ref_at, sound}
use Rattle.law_words_paths.specs.Below.fr_sound.States.{hand_key, hand_kind}
use Rattle.law_counts_sums.specs.Below.thread_state.View.{is_over}
use Rattle.law_counts_sums.specs.Below.server_model.Servers.{Cluster}
use Rattle.law_counts_sums.specs.Below.coherent_memory.Names.{Among}
use Rattle.law_counts_sums.specs.Below.coherent_memory.Things.{Location, things_of}
use Rattle.law_counts_sums.specs.Below.coherent_memory.Follow.{Standing, Ground, threads_in, thread_at, locate}
use Rattle.law_counts_sums.specs.Below.coherent_memory.Stale.{Reference, references, is_held_at, changed_above, stale_above, taken_above}
use Rattle.law_counts_sums.specs.Below.coherent_memory.Sight.{sight}
use Rattle.law_counts_sums.specs.Below.coherent_memory.Walking.{instr_of}
use Rattle.law_counts_sums.specs.Below.coherent_memory.Words.{IsStale}
use Rattle.law_counts_sums.specs.Below.coherent_memory.OneHeap.{two_in, pair_of}
use Rattle.law_words_paths.specs.paths.HeapStore.{in_store, heap_store, GoesOn, HasPaths}
use Rattle.law_words_paths.specs.paths.Pointing.{lends as lends_to}
use Rattle.law_words_paths.proofs.paths.Sole.{some_is, more_stars}
use Rattle.law_words_paths.proofs.paths.Circles.{shorter}
use Rattle.law_words_paths.proofs.paths.Shown.{stands_there}
use Rattle.law_words_paths.proofs.paths.Alike.{leads_in_heap}
use Rattle.law_words_paths.proofs.paths.Forms.{running_typed}
use Rattle.law_words_paths.proofs.paths.MayWrites.{awake_thread}
use Rattle.law_words_paths.proofs.paths.FreshPaths.{holds_there, HasTaken, taken_among, followed_of, chain_of}
use Rattle.law_words_kept.specs.reads.Reading.{Reads, copies, shares, lends, dups, locks, MayRead, ReadAreFresh}
use Rattle.law_words_kept.proofs.reads.Meets.{none_lent, kept_along}
use Rattle.law_words_kept.proofs.reads.ReadPlaces.{may_read_there}

slots_differ : (t u i j : ℕ) → slot_k t i ≡ slot_k u j → t ≡ u
slots_differ t u i j e = cc

slot_no_hand : (t u i : ℕ) (ks : List Kind) → slot_k u i ≡ hand_key t ks → ⊥
slot_no_hand t u i [] e = absurd (cc e)
slot_no_hand t u i (x ∷ ks) e = absurd (cc e)

module _ (k : Cluster) (c : HasPaths k) where
  abbrev st : Store
  st = heap_store k c.types

  abbrev E : KeyTypes
  E = c.types.typing.exact

  abbrev ground : Ground
  ground = (sight k).ground

  -- a location to which a place leads that its thread may read
  pub record Reading (x : Standing) (l : Location) : Type 0 where
    pub goes : GoesOn k x
    pub slot : ℕ
    pub stars : ℕ
    pub free : Unlent E (slot_k x.thread.number slot)
    pub base : Key
    pub boxes : ℕ
    pub type : Exact
    pub resolves : Resolves E false (slot_k x.thread.number slot) stars base boxes type
    pub located : locate ground x.thread.number slot stars ≡ Some l

  pub read_chain : (x : Standing) (l : Location) (f : Reading x l) → below_key st f.base f.boxes ≡ Some (in_store l)
  read_chain x l f = sym (sound c.types.typing.rank E st c.types.state.typed false (slot_k x.thread.number f.slot) f.stars f.base f.boxes f.type f.resolves) ∙ (leads_in_heap k c x f.goes f.slot f.stars l f.located).0

  -- a place with fewer stars
  pub reading_of : (x : Standing) (i : Instr) (w : Lval) (n d : ℕ) (l : Location) → GoesOn k x → instr_of (sight k) x ≡ Some i → Reads i w n → (e : ℕ) → w.depth ≡ e + d → locate ground x.thread.number w.slot d ≡ Some l → Reading x l
  reading_of x i w n d l g at reads e deep there =
      let may = may_read_there k c x g i w n at reads in
      let s = shorter E false (slot_k x.thread.number w.slot) e w.depth d may.base may.boxes may.type deep may.resolves in
      record { goes = g; slot = w.slot; stars = d; free = may.free; base = s.base; boxes = s.boxes; type = s.type; resolves = s.res; located = there }

  -- NO REFERENCE WAS MADE FROM IT

  pub read_unmade : (x : Standing) (l : Location) (r : Reference) → Reading x l → Among r (references ground (things_of k)) → is_held_at l r.holder ≡ true → ⊥
  read_unmade x l r f among held =
      let m = (holds_there k c r l among held).2 in
      let u = m.made.place in
      let q = ref_at c.types.typing.rank E st c.types.state.typed m.key true u m.made.refers in
      let z = shorter E true u.key 1 u.depth m.made.stars q.base q.boxes q.type (omega (arith, m.made.last)) q.res in
      let there = sym (sound c.types.typing.rank E st c.types.state.typed true u.key m.made.stars z.base z.boxes z.type z.res) ∙ m.made.leads in
      let one = unique st c.types.state.typed.owner z.base f.base z.boxes f.boxes (in_store l) there (read_chain x l f) in
      none_lent c.types.typing.rank E st c.types.state.typed false (slot_k x.thread.number f.slot) f.stars f.base f.boxes f.type z.type m.key u m.made.stars f.free f.resolves m.made.refers m.made.last
      (subst (λ b. Resolves E true u.key m.made.stars b f.boxes z.type) one.0 (subst (λ y. Resolves E true u.key m.made.stars z.base y z.type) one.1 z.res))

  -- NO OTHER THREAD'S OWN CHAIN MEETS IT

  -- a thread that waits for no pair isn't forked
  awake : (z : Standing) (g : GoesOn k z) → two_in z.thread.phase ≡ None → (running_typed k c z g).entry.forked ≡ false
  awake z g none = (running_typed k c z g).forks ∙ ap (λ o. is_some (pair_of o)) (stands_there k c z g) ∙ ap is_some none

  -- a key that is neither a slot of the thread nor at hand there
  abbrev Beside : ℕ → Key → Key → Type 0
  Beside t hand a = ((i : ℕ) → a ≡ slot_k t i → ⊥) × (a ≡ hand → ⊥)

  module _ (z : Standing) (g : GoesOn k z) (none : two_in z.thread.phase ≡ None) where
    abbrev ks : List Kind
    ks = (running_typed k c z g).entry.temps

    abbrev hand : Key
    hand = hand_key z.thread.number ks

    thread : ThreadTyped (slot_k z.thread.number) c.types.typing.rank hand (running_typed k c z g).entry.env E st (hand_kind ks)
    thread = awake_thread k c z g (awake z g none)

    stays_beside : (a : Key) (m : Bool) (u : StorePlace) → Beside z.thread.number hand a → E a ≡ refers m u → Beside z.thread.number hand u.key
    stays_beside a m u h is = (by (thread.alone a m u is h.1), thread.quiet a m u is)
      where
        by : ((i : ℕ) × (i < length (running_typed k c z g).entry.env) × (a ≡ slot_k z.thread.number i)) ⊎ ((y : ℕ) → u.key ≢ slot_k z.thread.number y) → (i : ℕ) → u.key ≡ slot_k z.thread.number i → ⊥
        by (inl q) i e = h.0 q.0 q.2
        by (inr f) i e = f i e

    -- what another thread reads starts at no slot of this one
    pub read_apart : (x : Standing) → x.thread.number ≢ z.thread.number → (o : Bool) (slot d : ℕ) (b : Key) (n : ℕ) (p : Exact) → Resolves E o (slot_k x.thread.number slot) d b n p → (i : ℕ) → b ≡ slot_k z.thread.number i → ⊥
    read_apart x ne o slot d b n p r i e =
        (kept_along (Beside z.thread.number hand) E stays_beside o (slot_k x.thread.number slot) d b n p r
        ((λ j q. ne (slots_differ x.thread.number z.thread.number slot j q)), (λ q. slot_no_hand z.thread.number x.thread.number slot ks q))).0 i e

    -- so nothing in a chain of its slots is read by another thread
    pub chain_apart : (x : Standing) (l : Location) → Reading x l → (i m : ℕ) → below_key st (slot_k z.thread.number i) m ≡ Some (in_store l) → x.thread.number ≡ z.thread.number
    chain_apart x l f i m there =
        eq_cases (λ q. x.thread.number ≡ z.thread.number) x.thread.number z.thread.number (λ same. same)
        (λ ne.
        let one = unique st c.types.state.typed.owner f.base (slot_k z.thread.number i) f.boxes m (in_store l) (read_chain x l f) there in
        absurd (read_apart x ne false f.slot f.stars f.base f.boxes f.type f.resolves i one.0))

  -- NO OTHER THREAD HAS TAKEN ITS OBJECT

  taken_same : (x : Standing) (l : Location) → Reading x l → (z : Standing) → Among z (threads_in (things_of k)) → HasTaken k c z l → x.thread.number ≡ z.thread.number
  taken_same x l f z among h =
      let goes : GoesOn k z = record { among = among; going = ap is_over h.taken } in
      let lt : h.stars < h.place.depth = omega (arith, h.depth) in
      let own = chain_of k c z l (followed_of k c z (instr.BorrowMut h.place) h.place h.stars l goes h.at lends_to lt h.located) in
      chain_apart z goes (ap two_in h.taken) x l f own.slot own.boxes own.leads_there

  -- STALE

  pub fresh_if : (x : Standing) (l : Location) → Reading x l → ((z : Standing) → HasTaken k c z l → z ≡ x → ⊥) → IsStale (sight k) (Some l) → ⊥
  fresh_if x l f own (changed_above r among held ch) = read_unmade x l r f among held
  fresh_if x l f own (stale_above r among held s) = read_unmade x l r f among held
  fresh_if x l f own (taken_above e) =
      let t = taken_among k c (threads_in (things_of k)) l e in
      let z = t.0 in
      let goes : GoesOn k z = record { among = t.1; going = ap is_over t.2.taken } in
      let one = taken_same x l f z t.1 t.2 in
      let same : Some x ≡ Some z = sym (stands_there k c x f.goes) ∙ ap (thread_at ground.threads) one ∙ stands_there k c z goes in
      own z t.2 (sym (some_is same))

  -- its own lent pointer is one that it doesn't follow
  same_lval : {w v : Lval} → Some (instr.BorrowMut w) ≡ Some (instr.BorrowMut v) → w ≡ v
  same_lval e = cc

  lent_after : (x : Standing) (w v : Lval) (n d m : ℕ) (l : Location) → GoesOn k x → MayRead k c.types x w → w ≡ v → w.depth ≡ suc n → v.depth ≡ suc m → d < n → locate ground x.thread.number w.slot d ≡ Some l → locate ground x.thread.number v.slot m ≡ Some l → ⊥
  lent_after x w v n d m l g may same deep deeper lt there later =
      let key = slot_k x.thread.number w.slot in
      let typed = c.types.state.typed in
      let number : m ≡ n = omega (arith, ap (λ (z : Lval). z.depth) same, deep, deeper) in
      let later2 : locate ground x.thread.number w.slot n ≡ Some l = subst (λ z. locate ground x.thread.number w.slot z ≡ Some l) number (subst (λ (z : Lval). locate ground x.thread.number z.slot m ≡ Some l) (sym same) later) in
      let a = shorter E false key (w.depth - d) w.depth d may.base may.boxes may.type (omega (arith, deep, lt)) may.resolves in
      let b = shorter E false key 1 w.depth n may.base may.boxes may.type (omega (arith, deep)) may.resolves in
      let ca = sym (sound c.types.typing.rank E st typed false key d a.base a.boxes a.type a.res) ∙ (leads_in_heap k c x g w.slot d l there).0 in
      let cb = sym (sound c.types.typing.rank E st typed false key n b.base b.boxes b.type b.res) ∙ (leads_in_heap k c x g w.slot n l later2).0 in
      let one = unique st typed.owner b.base a.base b.boxes a.boxes (in_store l) cb ca in
      let b2 = subst (λ z. Resolves E false key n z a.boxes b.type) one.0 (subst (λ z. Resolves E false key n b.base z b.type) one.1 b.res) in
      let sum = add_plus d (n - d) in
      let whole : n ≡ add d (n - d) = omega (arith, sum, lt) in
      let none = more_stars c.types.typing.rank E st typed false false key d (n - d) a.base a.boxes a.type b.type a.res (subst (λ z. Resolves E false key z a.base a.boxes b.type) whole b2) in
      omega (arith, none, lt)

  not_own : (x : Standing) (i : Instr) (w : Lval) (n d : ℕ) (l : Location) → GoesOn k x → instr_of (sight k) x ≡ Some i → Reads i w n → d < n → locate ground x.thread.number w.slot d ≡ Some l → HasTaken k c x l → ⊥
  not_own x _ w n d l g at (copies e) lt there h = let z : Some (instr.Read w false) ≡ Some (instr.BorrowMut h.place) = sym at ∙ h.at in absurd (cc z)
  not_own x _ w n d l g at (shares e) lt there h = let z : Some (instr.Borrow w) ≡ Some (instr.BorrowMut h.place) = sym at ∙ h.at in absurd (cc z)
  not_own x _ w n d l g at (dups e) lt there h = let z : Some (instr.Dup w) ≡ Some (instr.BorrowMut h.place) = sym at ∙ h.at in absurd (cc z)
  not_own x _ w n d l g at (locks e) lt there h = let z : Some (instr.Lock w) ≡ Some (instr.BorrowMut h.place) = sym at ∙ h.at in absurd (cc z)
  not_own x _ w n d l g at (lends e) lt there h =
      lent_after x w h.place n d h.stars l g (may_read_there k c x g (instr.BorrowMut w) w n at (lends e)) (same_lval (sym at ∙ h.at)) e h.depth lt there h.located

  pub within_place : (i : Instr) (w : Lval) (n d : ℕ) → Reads i w n → d < n → w.depth ≡ (w.depth - d) + d
  within_place _ w n d (copies e) lt = omega (arith, e, lt)
  within_place _ w n d (shares e) lt = omega (arith, e, lt)
  within_place _ w n d (lends e) lt = omega (arith, e, lt)
  within_place _ w n d (dups e) lt = omega (arith, e, lt)
  within_place _ w n d (locks e) lt = omega (arith, e, lt)

  pub read_fresh : (x : Standing) (i : Instr) (w : Lval) (n d : ℕ) (l : Location) → GoesOn k x → instr_of (sight k) x ≡ Some i → Reads i w n → d < n → locate ground x.thread.number w.slot d ≡ Some l → IsStale (sight k) (Some l) → ⊥
  read_fresh x i w n d l g at reads lt there =
      fresh_if x l (reading_of x i w n d l g at reads (w.depth - d) (within_place i w n d reads lt) there) (λ z h same. not_own x i w n d l g at reads lt there (subst (λ y. HasTaken k c y l) same h))

pub read_are_fresh : ReadAreFresh
read_are_fresh k c x i w n d l g at reads lt there = read_fresh k c x i w n d l g at reads lt there
