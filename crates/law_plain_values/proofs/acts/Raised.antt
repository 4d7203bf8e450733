-- Temporary values may rank as high as one likes: no type names them.
use Rattle.std.proofs.Common.{◌≡◌, ◌∙◌, ℕ, ◌+◌, ◌<◌, ◌≤◌, Bool, true, false, List, length, Option, Some, refl, sym, ap, arith}
use Rattle.fr_base.specs.declared.name.MutexNo.{MutexNo}
use Rattle.fr_typing.specs.Kinds.{Kind}
use Rattle.fr_typing.specs.Places.{Env}
use Rattle.fr_store.specs.Keys.{Key, slot_k, temp_k, content_k, result_k, hand_k}
use Rattle.fr_store.specs.Store.{Place}
use Rattle.fr_store.specs.Typed.{refers, Typed}
use Rattle.fr_store.specs.Thread.{ThreadTyped, Asleep}
use Rattle.fr_plain.specs.PlainState.{Running, PlainState, place_in}
use Rattle.fr_sound.specs.States.{Typing, RunningTyped, IsThread, hand_key, hand_kind, IsLock, IsBranch}
use Rattle.law_plain_values.specs.acts.Positions.{Position, Knows, temps_of, PositionTypes}
use Rattle.law_plain_values.proofs.acts.OneThread.{store}

abbrev pub raise : ℕ → (Key → ℕ) → Key → ℕ
raise n rank (temp_k t i) = n + rank (temp_k t i)
raise n rank (slot_k t i) = rank (slot_k t i)
raise n rank (content_k h c) = rank (content_k h c)
raise n rank (result_k t) = rank (result_k t)
raise n rank (hand_k t) = rank (hand_k t)

abbrev pub raised_typing : ℕ → Typing → Typing
raised_typing n y = record y { rank = raise n y.rank }

-- no key ranks lower
no_lower : (n : ℕ) (rank : Key → ℕ) (k : Key) → rank k ≤ raise n rank k
no_lower n rank (temp_k t i) = omega arith
no_lower n rank (slot_k t i) = omega arith
no_lower n rank (content_k h c) = omega arith
no_lower n rank (result_k t) = omega arith
no_lower n rank (hand_k t) = omega arith

-- ranks may change where no key ranks lower, what is named ranks as before, and each thread's slots still rise
pub record Reranks (y : Typing) (a : PlainState Position) (rank2 : Key → ℕ) : Type 0 where
  pub higher : (k : Key) → y.rank k ≤ rank2 k
  pub named : (k : Key) (m : Bool) (u : Place) → y.exact k ≡ refers m u → rank2 u.key ≡ y.rank u.key
  pub rising : (t i j : ℕ) → y.rank (slot_k t i) < y.rank (slot_k t j) → i < j → rank2 (slot_k t i) < rank2 (slot_k t j)
  pub slots : (t : ℕ) (x : Running Position) (r : RunningTyped Knows temps_of y (store y a) t (a.pair t) x) (i : ℕ) → place_in (a.thread t) ≡ Some x → i < length r.entry.env → rank2 (slot_k t i) ≡ y.rank (slot_k t i)

abbrev pub ranked_by : (Key → ℕ) → Typing → Typing
ranked_by rank2 y = record y { rank = rank2 }

-- ranks may change where what is named ranks below what names it, each thread's slots still rise, and its hand is above them
pub record Orders (y : Typing) (a : PlainState Position) (rank2 : Key → ℕ) : Type 0 where
  pub below : (k : Key) (m : Bool) (u : Place) → y.exact k ≡ refers m u → rank2 u.key < rank2 k
  pub rising : (t i j : ℕ) → y.rank (slot_k t i) < y.rank (slot_k t j) → i < j → rank2 (slot_k t i) < rank2 (slot_k t j)
  pub over : (t : ℕ) (x : Running Position) (r : RunningTyped Knows temps_of y (store y a) t (a.pair t) x) (i : ℕ) → place_in (a.thread t) ≡ Some x → i < length r.entry.env → rank2 (slot_k t i) < rank2 (hand_key t r.entry.temps)

-- a thread's hand is above its slots
pub over_was : (y : Typing) (a : PlainState Position) (b : Bool) (t : ℕ) (ts : List Kind) (e : Env) (k : Option Kind) → IsThread b (slot_k t) y.rank (hand_key t ts) e y.exact (store y a) k → (i : ℕ) → i < length e → y.rank (slot_k t i) < y.rank (hand_key t ts)
over_was y a true t ts e k z i l = let x : Asleep (slot_k t) y.rank (hand_key t ts) e y.exact k = z in x.over i l
over_was y a false t ts e k z i l = let x : ThreadTyped (slot_k t) y.rank (hand_key t ts) e y.exact (store y a) k = z in x.over i l

module _ (rank2 : Key → ℕ) (y : Typing) (a : PlainState Position) (st : PositionTypes y a) (h : Orders y a rank2) where
  raised_store : Typed rank2 y.exact (store y a)
  raised_store = record { stands = st.typed.stands; below = h.below; once = st.typed.once; owner = st.typed.owner }

  raised_thread : (b : Bool) (t : ℕ) (ts : List Kind) (e : Env) (k : Option Kind) → ((i : ℕ) → i < length e → rank2 (slot_k t i) < rank2 (hand_key t ts)) → IsThread b (slot_k t) y.rank (hand_key t ts) e y.exact (store y a) k → IsThread b (slot_k t) rank2 (hand_key t ts) e y.exact (store y a) k
  raised_thread true t ts e k over z =
      let x : Asleep (slot_k t) y.rank (hand_key t ts) e y.exact k = z in
      record { nested = x.nested; slots = x.slots; above = x.above; temp = x.temp; names = x.names; quiet = x.quiet; over = over }
  raised_thread false t ts e k over z =
      let x : ThreadTyped (slot_k t) y.rank (hand_key t ts) e y.exact (store y a) k = z in
      record { typed = raised_store; nested = x.nested; slots = x.slots; above = x.above; temp = x.temp; names = x.names; quiet = x.quiet; over = over; alone = x.alone }

  raised_lock : {e : Env} {t i : ℕ} {m : MutexNo} → IsLock y (store y a) e t i m → IsLock (ranked_by rank2 y) (store y a) e t i m
  raised_lock l = record { leads = l.leads; unnamed = l.unnamed; content = l.content }

  raised_running : (t : ℕ) (x : Running Position) → place_in (a.thread t) ≡ Some x → RunningTyped Knows temps_of y (store y a) t (a.pair t) x → RunningTyped Knows temps_of (ranked_by rank2 y) (store y a) t (a.pair t) x
  raised_running t x runs r = record {
    entry = r.entry;
    known = r.known;
    gives = r.gives;
    keys = record { differ = r.keys.differ; off = r.keys.off; ranks = λ i j l. h.rising t i j (r.keys.ranks i j l) l };
    thread = raised_thread r.entry.forked t r.entry.temps r.entry.env (hand_kind r.entry.temps) (λ i l. h.over t x r i runs l) r.thread;
    waiting = r.waiting;
    all_slots = r.all_slots;
    all_temps = r.all_temps;
    lower = r.lower;
    forks = r.forks;
    hidden = r.hidden;
    marked = λ i m e. raised_lock (r.marked i m e);
  }

  raised_branch : (p b : ℕ) → IsBranch y a p b → IsBranch (ranked_by rank2 y) a p b
  raised_branch p b z = record { kept = z.kept; gives = z.gives; only = z.only; below = z.below }

  -- KEYS RANK OTHERWISE
  pub reordered : PositionTypes (ranked_by rank2 y) a
  reordered = record {
    typed = raised_store;
    threads = λ t x e. raised_running t x e (st.threads t x e);
    results = st.results;
    near = st.near;
    pairs = λ p b c e. let z = st.pairs p b c e in (z.0, raised_branch p b z.1, raised_branch p c z.2);
    parents = st.parents;
    there = st.there;
    mutexes = λ m z e. let q = st.mutexes m z e in record { given = q.given; shares = q.shares; needed = q.needed; out = q.out; unheld = q.unheld; content = q.content };
    one_task = st.one_task;
    tasks_owed = st.tasks_owed;
    owed_stand = st.owed_stand;
    objects_there = st.objects_there;
    objects_owned = st.objects_owned;
    objects_made = st.objects_made;
  }

pub reranked : (rank2 : Key → ℕ) (y : Typing) (a : PlainState Position) → PositionTypes y a → Reranks y a rank2 → PositionTypes (ranked_by rank2 y) a
reranked rank2 y a st h = reordered rank2 y a st (record {
  below = λ k m u is. let low = st.typed.below k m u is in let up = h.higher k in let same = h.named k m u is in omega (arith, low, up, same);
  rising = h.rising;
  over = λ t x r i runs l. let low = over_was y a r.entry.forked t r.entry.temps r.entry.env (hand_kind r.entry.temps) r.thread i l in let up = h.higher (hand_key t r.entry.temps) in let same = h.slots t x r i runs l in omega (arith, low, up, same);
})

-- TEMPORARY VALUES RANK HIGHER
pub raised : (n : ℕ) (y : Typing) (a : PlainState Position) → PositionTypes y a → PositionTypes (raised_typing n y) a
raised n y a st = reranked (raise n y.rank) y a st (record {
  higher = no_lower n y.rank;
  named = λ k m u is. let w = st.near k m u is in ap (raise n y.rank) w.is ∙ ap y.rank (sym w.is);
  rising = λ t i j l lt. l;
  slots = λ t x r i runs l. refl;
})
