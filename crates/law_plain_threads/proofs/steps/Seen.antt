-- A machine's state, as positions see it.
use Rattle.std.proofs.Common.{◌≡◌, ◌⊎◌, inl, inr, ⊎_elim, ◌∙◌, ℕ, ◌<◌, ◌==◌, Bool, true, false, List, [], ◌∷◌, length, Option, Some, None, refl, sym, ap, ap₂, subst, arith}
use Rattle.std.specs.Prelude.{is_some, if◌then◌else◌}
use Rattle.fr_typing.specs.Kinds.{unit, shared, whole}
use Rattle.fr_typing.specs.Places.{IsNested}
use Rattle.fr_store.specs.Keys.{slot_k}
use Rattle.fr_plain.specs.declared.value.Value.{Value}
use Rattle.fr_plain.specs.Heap.{made_by, cell_at}
use Rattle.fr_plain.specs.MachineThreads.{Life, alive, over, owing, loose, ended, Thread, Whole, mutex_at, mutex_there, pair_of, thread_at, is_over}
use Rattle.fr_plain.specs.PlainState.{Running, place_in, running, running_in, is_over_in, two_of, plain_state}
use Rattle.fr_plain.specs.Alike.{LivesAlike, both_alive, both_owing, both_loose, both_ended, both_over, ThreadsAlike, AllAlike, Alike}
use Rattle.fr_plain.proofs.Alike.{SameFound, same_found}
use Rattle.fr_sound.specs.Entries.{Entry, going}
use Rattle.fr_sound.specs.States.{Typing, hand_key, hand_kind, RunningTyped}
use Rattle.fr_code.specs.Joins.{JoinsTo, alone}
use Rattle.law_plain_values.specs.acts.Positions.{Position, Knows, temps_of, PositionTypes}
use Rattle.law_plain_values.proofs.acts.OneThread.{store, slots_of}
use Rattle.law_plain_threads.specs.steps.Machines.{KnownBy, MachineTypes}
use Rattle.law_plain_threads.proofs.steps.Mirrored.{SameValues, SameLives, none_there, Mirrors, same_running, mirrored, back}
use Rattle.law_plain_threads.proofs.steps.Mirrored as mirror
use Rattle.law_plain_threads.proofs.steps.Rejoined.{rejoined}

-- STATES THAT ARE ALIKE SHOW THE SAME

module _ {P Q : Type 0} (temps : P → List Value) (others : Q → List Value) (R : P → Q → Type 0) (held : (p : P) (q : Q) → R p q → others q ≡ temps p) where
  lives_shown : (vs ws : List Value) → vs ≡ ws → {l : Life P} {k : Life Q} → LivesAlike R l k → SameLives temps others (Some (running vs l)) (Some (running ws k))
  lives_shown vs ws e (both_alive {p = p} {q = q} r) = mirror.both_alive (record { slots = sym e; held = held p q r })
  lives_shown vs ws e (both_owing {p = p} {q = q} r) = mirror.both_owing (record { slots = sym e; held = held p q r })
  lives_shown vs ws e (both_loose {p = p} {q = q} r) = mirror.both_loose (record { slots = sym e; held = held p q r })
  lives_shown vs ws e both_ended = mirror.both_ended
  lives_shown vs ws e both_over = mirror.both_over

  found_shown : (o : Option (Thread P)) (p : Option (Thread Q)) → SameFound R o p → SameLives temps others (running_in o) (running_in p)
  found_shown None None h = none_there
  found_shown (Some x) (Some z) h = lives_shown x.slots z.slots h.slots h.life
  found_shown None (Some z) h = absurd h
  found_shown (Some x) None h = absurd h

  over_lives : {l : Life P} {k : Life Q} → LivesAlike R l k → is_over k ≡ is_over l
  over_lives (both_alive r) = refl
  over_lives (both_owing r) = refl
  over_lives (both_loose r) = refl
  over_lives both_ended = refl
  over_lives both_over = refl

  over_shown : (o : Option (Thread P)) (p : Option (Thread Q)) → SameFound R o p → is_over_in p ≡ is_over_in o
  over_shown None None h = refl
  over_shown (Some x) (Some z) h = over_lives h.life
  over_shown None (Some z) h = absurd h
  over_shown (Some x) None h = absurd h

  pub shown : (s : Whole P) (c : Whole Q) → Alike R s c → Mirrors temps others (plain_state s) (plain_state c)
  shown s c h =
      let f = λ (t : ℕ). same_found R s.threads c.threads h.threads t in
      let ends = λ (t : ℕ). over_shown (thread_at s.threads t) (thread_at c.threads t) (f t) in
      record {
        threads = λ t. found_shown (thread_at s.threads t) (thread_at c.threads t) (f t);
        made = λ t. ap₂ (λ (b : Bool) n. if b then 0 else length (made_by n t)) (ends t) (sym h.heap);
        pairs = λ t. ap₂ (λ (b : Bool) n. if b then None else two_of (pair_of n t)) (ends t) (sym h.pairs);
        objects = λ o. ap (λ n. cell_at n o) (sym h.heap);
        mutexes = λ m. ap (λ n. mutex_there n m) (sym h.mutexes);
        given = λ m. ap (λ n. is_some (mutex_at n m)) (sym h.mutexes);
      }

  related : (p : P) (q : Q) → R p q → (x : Running P) (z : Running Q) (vs ws : List Value) → Some (record { place = p; slots = vs }) ≡ Some x → Some (record { place = q; slots = ws }) ≡ Some z → R x.place z.place
  related p q r x z vs ws e f =
      let d : record { place = p; slots = vs } ≡ x = cc in
      let g : record { place = q; slots = ws } ≡ z = cc in
      subst (λ (a : Running P). R a.place z.place) d (subst (λ (b : Running Q). R p b.place) g r)

  -- where both go on they are related
  lives_placed : (vs ws : List Value) {l : Life P} {k : Life Q} → LivesAlike R l k → (x : Running P) (z : Running Q) → place_in (Some (running vs l)) ≡ Some x → place_in (Some (running ws k)) ≡ Some z → R x.place z.place
  lives_placed vs ws (both_alive {p = p} {q = q} r) x z e f = related p q r x z vs ws e f
  lives_placed vs ws (both_owing {p = p} {q = q} r) x z e f = related p q r x z vs ws e f
  lives_placed vs ws (both_loose {p = p} {q = q} r) x z e f = related p q r x z vs ws e f
  lives_placed vs ws both_ended x z e f = absurd cc
  lives_placed vs ws both_over x z e f = absurd cc

  found_placed : (o : Option (Thread P)) (p : Option (Thread Q)) → SameFound R o p → (x : Running P) (z : Running Q) → place_in (running_in o) ≡ Some x → place_in (running_in p) ≡ Some z → R x.place z.place
  found_placed None None h x z e f = absurd cc
  found_placed (Some y) (Some w) h x z e f = lives_placed y.slots w.slots h.life x z e f
  found_placed None (Some w) h x z e f = absurd h
  found_placed (Some y) None h x z e f = absurd h

  pub placed : (s : Whole P) (c : Whole Q) → Alike R s c → (t : ℕ) (x : Running P) (z : Running Q) → place_in ((plain_state s).thread t) ≡ Some x → place_in ((plain_state c).thread t) ≡ Some z → R x.place z.place
  placed s c h t x z e f = found_placed (thread_at s.threads t) (thread_at c.threads t) (same_found R s.threads c.threads h.threads t) x z e f

-- the other way round
turned_round : {P Q : Type 0} {temps : P → List Value} {others : Q → List Value} (s : Whole P) (c : Whole Q) → Mirrors temps others (plain_state s) (plain_state c) → Mirrors others temps (plain_state c) (plain_state s)
turned_round s c h = record { threads = λ t. back (h.threads t); made = λ t. sym (h.made t); pairs = λ t. sym (h.pairs t); objects = λ o. sym (h.objects o); mutexes = λ m. sym (h.mutexes m); given = λ m. sym (h.given m) }

-- AS POSITIONS SEE IT

-- where nothing is known a position knows this: a slot that names itself, as no thread of a typed state has
abbrev pub nonsense : Entry
nonsense = going (record { name = None; part = whole (shared (record { slot = 0; depth = 0 } ∷ [])) } ∷ []) [] unit

abbrev pub entry_or : Option Entry → Entry
entry_or None = nonsense
entry_or (Some x) = x

module _ {P : Type 0} (entry_of : P → Option Entry) (temps : P → List Value) where
  abbrev pub seen : P → Position
  seen p = record { entry = entry_or (entry_of p); temps = temps p }

  abbrev pub seen_life : Life P → Life Position
  seen_life (alive p) = alive (seen p)
  seen_life over = over
  seen_life (owing p) = owing (seen p)
  seen_life (loose p) = loose (seen p)
  seen_life (ended v) = ended v

  abbrev pub seen_thread : Thread P → Thread Position
  seen_thread x = record { number = x.number; life = seen_life x.life; slots = x.slots }

  abbrev pub seen_all : List (Thread P) → List (Thread Position)
  seen_all [] = []
  seen_all (x ∷ xs) = seen_thread x ∷ seen_all xs

  abbrev pub seen_whole : Whole P → Whole Position
  seen_whole s = record { threads = seen_all s.threads; heap = s.heap; mutexes = s.mutexes; pairs = s.pairs; output = s.output }

  pub seen_at : (xs : List (Thread P)) (t : ℕ) (x : Thread P) → thread_at xs t ≡ Some x → thread_at (seen_all xs) t ≡ Some (seen_thread x)
  seen_at [] t x e = absurd cc
  seen_at (z ∷ xs) t x e = by (z.number == t) e (seen_at xs t x)
    where
      by : (b : Bool) → (if b then Some z else thread_at xs t) ≡ Some x → (thread_at xs t ≡ Some x → thread_at (seen_all xs) t ≡ Some (seen_thread x)) → (if b then Some (seen_thread z) else thread_at (seen_all xs) t) ≡ Some (seen_thread x)
      by true f go = let g : z ≡ x = cc in ap (λ w. Some (seen_thread w)) g
      by false f go = go f

  -- RELATIONS

  -- the position knows what joins to what is known at the place, or nonsense
  pub record Sees (p : P) (q : Position) : Type 0 where
    pub held : q.temps ≡ temps p
    pub known : ((z : Entry) × (entry_of p ≡ Some z) × JoinsTo q.entry z) ⊎ (q.entry ≡ nonsense)

  abbrev pub IsSeen : P → Position → Type 0
  IsSeen p q = q ≡ seen p

  module _ (R : P → Position → Type 0) (here : (p : P) → R p (seen p)) where
    life_alike : (l : Life P) → LivesAlike R l (seen_life l)
    life_alike (alive p) = both_alive (here p)
    life_alike over = both_over
    life_alike (owing p) = both_owing (here p)
    life_alike (loose p) = both_loose (here p)
    life_alike (ended v) = both_ended

    pub thread_alike : (x : Thread P) → ThreadsAlike R x (seen_thread x)
    thread_alike x = record { number = refl; life = life_alike x.life; slots = refl }

    all_alike : (xs : List (Thread P)) → AllAlike R xs (seen_all xs)
    all_alike [] = tt
    all_alike (x ∷ xs) = (thread_alike x, all_alike xs)

    pub whole_alike : (s : Whole P) → Alike R s (seen_whole s)
    whole_alike s = record { threads = all_alike s.threads; heap = refl; mutexes = refl; pairs = refl; output = refl }

  pub sees_seen : (p : P) → Sees p (seen p)
  sees_seen p = by (entry_of p) refl
    where
      by : (o : Option Entry) → entry_of p ≡ o → Sees p (seen p)
      by None e = record { held = refl; known = inr (ap entry_or e) }
      by (Some z) e = record { held = refl; known = inl (z, e, subst (λ o. JoinsTo (entry_or o) z) (sym e) alone) }

  -- TYPES

  -- a typed state is typed as positions see it
  pub seen_types : (y : Typing) (s : Whole P) → MachineTypes entry_of temps y (plain_state s) → PositionTypes y (plain_state (seen_whole s))
  seen_types y s st =
      let al = whole_alike IsSeen (λ p. refl) s in
      mirrored (KnownBy entry_of temps) temps Knows temps_of y (plain_state s) (plain_state (seen_whole s)) (shown temps temps_of IsSeen (λ p q r. ap (λ (w : Position). w.temps) r) s (seen_whole s) al) st
      (λ t x z e f same r. same_running temps temps_of (KnownBy entry_of temps) Knows y _ t _ x z same r (ap (λ (w : Position). w.entry) (placed temps temps_of IsSeen (λ p q w. ap (λ (v : Position). v.temps) w) s (seen_whole s) al t x z e f) ∙ ap entry_or r.known))

  -- no thread of a typed state knows nonsense
  none_nonsense : (y : Typing) (c : Whole Position) (t : ℕ) (pair : Option (ℕ × ℕ)) (w : Running Position) (r : RunningTyped Knows temps_of y (store y (plain_state c)) t pair w) → w.place.entry ≡ nonsense → ⊥
  none_nonsense y c t pair w r e =
      let x = r.entry in
      let same : nonsense ≡ x = sym e ∙ r.known in
      let nested = subst (λ (z : Entry). IsNested z.env) (sym same) (slots_of x.forked (slot_k t) y.rank (hand_key t x.temps) x.env y.exact (store y (plain_state c)) (hand_kind x.temps) r.thread).nested in
      let lt : 0 < 0 = nested.0.0 in
      omega (arith, lt)

  -- and what positions that see a state have typed is typed
  pub types_seen : (y : Typing) (s : Whole P) (c : Whole Position) → Alike Sees s c → PositionTypes y (plain_state c) → MachineTypes entry_of temps y (plain_state s)
  types_seen y s c al st =
      mirrored Knows temps_of (KnownBy entry_of temps) temps y (plain_state c) (plain_state s) (turned_round s c (shown temps temps_of Sees (λ p q r. r.held) s c al)) st
      (λ t w x e f same r. by t w x same r (placed temps temps_of Sees (λ p q v. v.held) s c al t x w f e))
    where
      by : (t : ℕ) (w : Running Position) (x : Running P) → SameValues temps_of temps w x → RunningTyped Knows temps_of y (store y (plain_state c)) t ((plain_state c).pair t) w → Sees x.place w.place → RunningTyped (KnownBy entry_of temps) temps y (store y (plain_state c)) t ((plain_state c).pair t) x
      by t w x same r v = ⊎_elim
          (λ (k : (z : Entry) × (entry_of x.place ≡ Some z) × JoinsTo w.place.entry z). rejoined entry_of temps y (store y (plain_state c)) t ((plain_state c).pair t) w x same r k.0 k.1 (subst (λ a. JoinsTo a k.0) r.known k.2))
          (λ (k : w.place.entry ≡ nonsense). absurd (none_nonsense y c t ((plain_state c).pair t) w r k))
          v.known
