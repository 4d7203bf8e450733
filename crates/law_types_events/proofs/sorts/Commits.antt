-- The plain step of each instruction, as typing knows it, leaves slots that suit the environment afterwards, and a value on top that suits its type.
use Rattle.std.proofs.Common.{◌≡◌, ◌≢◌, ℕ, ℤ, zero, suc, ◌+◌, Bool, true, false, nat_lt, if◌then◌else◌, List, [], ◌∷◌, ◌++◌, length, Option, Some, None, is_some, refl, sym, ap, subst, ◌∙◌, arith}
use Rattle.std.specs.Bool.{⊤}
use Rattle.std.specs.Prelude.{slice_get, option_map, ◌&&◌}
use Rattle.std.specs.List.{list_all}
use Rattle.std.proofs.lemmas.Bool.Decides.{nat_tests}
use Rattle.law_types_still.specs.Below.fr_base.Lists.{last_of}
use Rattle.law_types_still.specs.Below.fr_base.Rooms.{WithRoom}
use Rattle.law_types_still.specs.Below.fr_base.declared.name.MutexNo.{MutexNo}
use Rattle.law_types_still.specs.Below.fr_base.declared.place.Lval.{Lval}
use Rattle.law_types_still.specs.Below.fr_base.declared.step.Fresh.{Fresh}
use Rattle.law_types_still.specs.Below.fr_base.declared.instruction.Instr.{Instr}
use Rattle.law_types_still.specs.Below.fr_base.declared.instruction.Instr.TheVariants as instr
use Rattle.law_types_still.specs.Below.fr_base.declared.instruction.Operand.{Operand}
use Rattle.law_types_still.specs.Below.fr_base.declared.instruction.Operand.TheVariants as operand
use Rattle.law_types_still.specs.Below.fr_terms.Terms.{Text}
use Rattle.law_types_still.specs.Below.fr_typing.Kinds.{Owned as OwnedType, int, box, mutex, task, Kind, own, shared, mutable, view, Piece, whole, gone, copies}
use Rattle.law_types_still.specs.Below.fr_typing.Places.{read_blocked, Slot, Env, found, type_at, put_at, on_path, is_mutable, is_own_path, stars, alike}
use Rattle.law_types_still.specs.Below.fr_typing.Checks.{is_int, is_owned, is_kept_out, set_through, with_lock}
use Rattle.law_types_still.specs.Below.fr_typing.Captures.{by_spawn, by_par}
use Rattle.law_types_still.proofs.Below.fr_typing.PlaceLemmas.{eq_cases}
use Rattle.law_types_still.specs.Below.fr_sound.States.{env_at, owned_kind}
use Rattle.law_types_still.specs.Below.fr_code.CodeTypes.{Entry, Table, wait, Takes, takes_const, takes_unit, takes_pop, HasType, is_variable, SlotsPass, InstrTypes, i_let, i_assign, i_copy, i_move, i_borrow, i_borrow_mut, i_box, i_arith, i_print, i_discard, i_drop, i_spawn, i_join, i_mutex, i_dup, i_lock, i_unlock, i_par, i_par_end}
use Rattle.law_types_still.specs.Below.heap_partition.declared.value.Owned.{Owned}
use Rattle.law_types_still.specs.Below.heap_partition.declared.value.Owned.TheVariants as owned
use Rattle.law_types_still.specs.Below.fr_plain.Acts.{result_of}
use Rattle.law_types_still.specs.Below.mut_borrow.declared.shared.SharedRef.{SharedRef}
use Rattle.law_types_still.specs.Below.mutex_home.Mutexes.{can_make, make, next_mutex}
use Rattle.law_types_still.specs.Below.join_home.Tasks.{can_begin, can_begin_pair}
use Rattle.law_types_still.specs.Below.thread_state.declared.phase.Phase.{Phase}
use Rattle.law_types_still.specs.Below.thread_state.declared.phase.Phase.TheVariants as phase
use Rattle.law_types_still.specs.Below.thread_state.declared.value.Value.{Value}
use Rattle.law_types_still.specs.Below.thread_state.declared.value.Value.TheVariants as value
use Rattle.law_types_still.specs.Below.journal.declared.act.Act.TheVariants as act
use Rattle.law_types_still.specs.Below.server_model.Work.{Hand, Popped, pop, pop_owned, pop_int, pop_temp, pop_slot, taken_as, owned_of, int_of, task_of, then_some, working, with_mutexes, label_all, push_temp}
use Rattle.law_types_still.specs.Below.server_model.NewWords.{issue_placed}
use Rattle.law_types_still.specs.Below.server_model.Places.{Spot, in_slot, on_top, in_cell, in_copy, nowhere, cell_at, value_at, load_at, put_slot, owns_nothing, second_of}
use Rattle.law_types_still.specs.Below.server_model.Start.{next_thread, capture}
use Rattle.law_types_still.specs.Below.server_model.Commit.{next_object, push_box, Committed, done, waits, refused, done_where, go_on, goes_on, waiting, let_slot, label_dropped, replace_slot, store_labels, store_at, replace_at, assign, take_out, read, shared_from, borrow_from, mutable_from, borrow_mut_from, drop_slot, begun, spawn_with, take_gift, join, pair_begun, par_with, par_end, mutex_at, dup, push_content, lock, held_of, unlock, commit}
use Rattle.law_types_still.specs.Below.law_counts_sums.Laws.{Gives}
use Rattle.law_types_still.proofs.Below.law_counts_sums.Results.{then_gives, map_gives, over_gives, bind_gives, test_gives, weaker}
use Rattle.law_types_events.proofs.sorts.Parts.{shared_any, view_seen, Look, a_nothing, another, look_of, suits, suits_named, suits_slot, suits_at, put_suits, put_here}
use Rattle.law_types_events.proofs.sorts.Suited.{Suited, Topped, topped_last, push_suited, pop_suited, pop_length, push_length, set_other, set_suited, to_suited, push_topped, owned_topped, int_topped}
use Rattle.law_types_events.proofs.sorts.Drops.{Fit, drops, Slots, puts_owned, puts_cell}
use Rattle.law_types_events.proofs.sorts.Captures.{captures_fit}
use Rattle.law_types_still.specs.Below.fr_base.declared.name.ObjNo.{ObjNo}

module _ (sees : ObjNo → Bool) where
  -- WHAT IS KNOWN BEFORE

  -- slots and the value on top suit what typing knows, there are as many slots, and what is on top is there
  pub record Before (x : Entry) (h : Hand) : Type 0 where
    pub suited : Suited sees x.env h.thread.slots
    pub topped : Topped sees x.temps h.thread.temps
    pub long : length h.thread.slots ≡ length x.env
    pub filled : (v : Value) → last_of h.thread.temps ≡ Some v → look_of sees v ≢ a_nothing

  -- what is copied suits its type; a move from a variable is from its slot, and one through stars moves an owned value
  pub record Told (x : Entry) (i : Instr) (s : Spot) (h : Hand) : Type 0 where
    pub copied : (w : Lval) (k : Kind) → i ≡ instr.Read w false → copies k ≡ true → x.forked ≡ false → HasType x.env w (found (whole k)) → read_blocked x.env w.slot ≡ false → wait x.temps ≡ true → (v u : Value) → value_at h s ≡ Some v → second_of v ≡ Some u
        → suits (whole k) (look_of sees u) ≡ true
    pub here : (w : Lval) → i ≡ instr.Read w true → w.depth ≡ 0 → s ≡ in_slot w.slot
    pub through : (w : Lval) (n : ℕ) (k : Kind) → i ≡ instr.Read w true → w.depth ≡ suc n → HasType x.env w (found (whole k)) → is_own_path x.env w ≡ true → is_some (owned_kind k) ≡ true

  -- WHAT IS LEFT

  -- the phase of a thread whose step is done, but for the end of the thread
  abbrev pub is_left : Phase → Bool
  is_left phase.Ready = true
  is_left (phase.WaitPar a b) = true
  is_left p = false

  module _ (e : Env) (ts : List Kind) where
    abbrev pub Left : Hand → Type 0
    Left h = Fit sees e ts h × (is_left h.thread.phase ≡ true)

    abbrev pub Ends : Committed → Type 0
    Ends (done names h) = Left h
    Ends (waits h) = ⊤
    Ends refused = ⊤

    done_ends : (names : Fresh) (o : Option Hand) → Gives Left o → Ends (done_where names o)
    done_ends names None g = tt
    done_ends names (Some h) g = g

    goes_ends : (o : Option Hand) → Gives (Fit sees e ts) o → Ends (goes_on o)
    goes_ends None g = tt
    goes_ends (Some h) g = (g, refl)

    names_end : (names : Fresh) (o : Option Hand) → Gives (Fit sees e ts) o → Ends (done_where names (option_map go_on o))
    names_end names None g = tt
    names_end names (Some h) g = (g, refl)

    waits_end : (o : Option Hand) → Ends (waiting o)
    waits_end None = tt
    waits_end (Some h) = tt

  -- OPERANDS

  takes_wait : {o : Operand} {ts us : List Kind} {k : Kind} → Takes o ts k us → wait us ≡ true
  takes_wait (takes_const w) = w
  takes_wait (takes_unit w) = w
  takes_wait (takes_pop w) = w

  and_first : (a b : Bool) → a && b ≡ true → a ≡ true
  and_first true b e = refl
  and_first false b e = absurd cc

  -- any value suits an integer on top
  wait_topped : (us : List Kind) (vs : List Value) → wait us ≡ true → Topped sees us vs
  wait_topped [] vs w = refl
  wait_topped (k ∷ us) vs w = int_topped sees k us vs (and_first (is_int k) (wait us) w)

  owned_topped_all : (us : List Kind) (vs : List Value) → list_all is_owned us ≡ true → Topped sees us vs
  owned_topped_all [] vs w = refl
  owned_topped_all (k ∷ us) vs w = owned_topped sees k us vs (and_first (is_owned k) (list_all is_owned us) w)

  -- an operand's value suits its type
  abbrev Suits : Kind → Hand → Popped Value → Type 0
  Suits k h p = (suits (whole k) (look_of sees p.item) ≡ true) × (p.hand.thread.slots ≡ h.thread.slots)

  pops : {o : Operand} {ts us : List Kind} {k : Kind} → Takes o ts k us → (h : Hand) → Topped sees ts h.thread.temps → Gives (Suits k h) (pop o h)
  pops (takes_const w) h g = (refl, refl)
  pops (takes_unit w) h g = (refl, refl)
  pops {k = k} (takes_pop {ts = us} w) h g = map_gives (Suits k h) (last_of h.thread.temps) _ (λ v q. (topped_last sees k us h.thread.temps v g q, refl))

  -- an owned one is there
  abbrev There : Hand → Popped Owned → Type 0
  There h p = (look_of sees (value.Own p.item) ≡ another) × (p.hand.thread.slots ≡ h.thread.slots)

  there_look : (v : Owned) → look_of sees (value.Own v) ≢ a_nothing → look_of sees (value.Own v) ≡ another
  there_look owned.Nothing ne = absurd (ne refl)
  there_look owned.Unit ne = refl
  there_look (owned.Int i) ne = refl
  there_look (owned.Box p) ne = refl
  there_look (owned.Mutex m) ne = refl
  there_look (owned.Task t) ne = refl

  pops_owned : (o : Operand) (h : Hand) → ((v : Value) → last_of h.thread.temps ≡ Some v → look_of sees v ≢ a_nothing) → Gives (There h) (pop_owned o h)
  pops_owned (operand.Const n) h filled = (refl, refl)
  pops_owned operand.Unit h filled = (refl, refl)
  pops_owned operand.Pop h filled =
      bind_gives (λ (p : Popped Value). (look_of sees p.item ≢ a_nothing) × (p.hand.thread.slots ≡ h.thread.slots)) (There h) (pop_temp h) (taken_as owned_of)
      (map_gives (λ (p : Popped Value). (look_of sees p.item ≢ a_nothing) × (p.hand.thread.slots ≡ h.thread.slots)) (last_of h.thread.temps) _ (λ v q. (filled v q, refl))) (λ p f. by p f p.item refl)
    where
      by : (p : Popped Value) → (look_of sees p.item ≢ a_nothing) × (p.hand.thread.slots ≡ h.thread.slots) → (v : Value) → p.item ≡ v → Gives (There h) (option_map (λ x. record { item = x; hand = p.hand }) (owned_of v))
      by p f (value.Own v) q = (there_look v (subst (λ w. look_of sees w ≢ a_nothing) q f.0), f.1)
      by p f value.Gone q = tt
      by p f (value.SharedSlot i) q = tt
      by p f (value.MutSlot i) q = tt
      by p f (value.Shared r) q = tt
      by p f (value.Mut r) q = tt
      by p f (value.Held m) q = tt

  -- slots stay where an operand goes
  abbrev Same : Hand → {X : Type 0} → Popped X → Type 0
  Same h p = p.hand.thread.slots ≡ h.thread.slots

  stays : (o : Operand) (h : Hand) → Gives (λ (p : Popped Value). Same h p) (pop o h)
  stays (operand.Const n) h = refl
  stays operand.Unit h = refl
  stays operand.Pop h = map_gives (λ (p : Popped Value). Same h p) (last_of h.thread.temps) _ (λ v q. refl)

  stays_as : {X : Type 0} (f : Value → Option X) (o : Operand) (h : Hand) → Gives (λ (p : Popped X). Same h p) (then_some (pop o h) (taken_as f))
  stays_as {X} f o h = bind_gives (λ (p : Popped Value). Same h p) (λ (p : Popped X). Same h p) (pop o h) (taken_as f) (stays o h) (λ p u. map_gives (λ (r : Popped X). Same h r) (f p.item) _ (λ x q. u))

  -- SMALL STEPS

  module _ (e : Env) where
    suited_by : (vs us : List Value) → us ≡ vs → Suited sees e vs → Suited sees e us
    suited_by vs us q g = subst (Suited sees e) (sym q) g

    -- a variable gets a value
    replaces : (ts : List Kind) (w : Lval) (k : Kind) → w.depth ≡ 0 → wait ts ≡ true → (s : Spot) (v : Value) (h : Hand) → suits (whole k) (look_of sees v) ≡ true → Suited sees e h.thread.slots → Gives (Fit sees (put_at e w (whole k)) ts) (replace_slot w.slot s v h)
    replaces ts w k d wa s v h fits g =
        let f = put_at e w (whole k) in
        then_gives (Fit sees f ts) (slice_get h.thread.slots w.slot) _ (λ old q.
        bind_gives (Fit sees f ts) (Fit sees f ts) (put_slot w.slot v (label_dropped old h)) _
        (test_gives (Fit sees f ts) (nat_lt w.slot (length h.thread.slots)) _ (λ on. (
          set_suited sees e f h.thread.slots w.slot v (λ l j here there. put_here e w (whole k) d j l (λ q2. subst (λ x. suits (whole k) x ≡ true) (sym (here q2)) fits) there) g,
          wait_topped ts h.thread.temps wa,
        )))
        (λ h2 u. drops sees f ts s old h2 u))

    -- what a place leads to gets one
    replaces_at : (ts : List Kind) → wait ts ≡ true → (s : Spot) (v : Owned) (h : Hand) → look_of sees (value.Own v) ≡ another → Suited sees e h.thread.slots → Gives (Fit sees e ts) (replace_at s v h)
    replaces_at ts wa s v h look g =
        then_gives (Fit sees e ts) (value_at h s) _ (λ old q.
        bind_gives (Slots sees e) (Fit sees e ts) (store_at s v (label_dropped old h)) _ (puts_owned sees e s v (working (label_all (store_labels (cell_at (label_dropped old h) s) v)) (label_dropped old h)) look g)
        (λ h2 u. drops sees e ts nowhere old h2 (u, wait_topped ts h2.thread.temps wa)))

    -- a value is taken out, through stars
    takes_out : (s : Spot) (h : Hand) → Suited sees e h.thread.slots → Gives (Slots sees e) (take_out s h)
    takes_out (in_slot i) h g = test_gives (Slots sees e) (nat_lt i (length h.thread.slots)) _ (λ on. set_other sees e h.thread.slots i value.Gone refl g)
    takes_out on_top h g = g
    takes_out (in_cell w t) h g = puts_cell sees e w t owned.Nothing (working (label_all (store_labels (cell_at h (in_cell w t)) owned.Nothing)) h) g
    takes_out (in_copy w) h g = tt
    takes_out nowhere h g = tt

  -- KINDS AND PLACES

  no_star : (n : ℕ) → nat_lt 0 (suc n) ≡ false → ⊥
  no_star n e = let z : nat_lt 0 (suc n) ≡ true = grind (arith, nat_tests) in let w : true ≡ false = sym z ∙ e in cc

  kept_in : (k : Kind) (n : ℕ) → is_kept_out k (suc n) ≡ false → is_some (owned_kind k) ≡ true
  kept_in (own o) n e = refl
  kept_in (shared us) n e = absurd (no_star n e)
  kept_in (mutable us) n e = absurd (no_star n e)
  kept_in (view o) n e = absurd (no_star n e)

  -- a variable of that type
  found_same : {p q : Piece} → found p ≡ found q → p ≡ q
  found_same e = cc

  variable_suits : (e : Env) (w : Lval) (k : Kind) → w.depth ≡ 0 → type_at e w ≡ found (whole k) → is_variable e w.slot ≡ true → (l : Look) → suits_at e w.slot l ≡ true → suits (whole k) l ≡ true
  variable_suits [] w k d t named l g = absurd cc
  variable_suits (s ∷ e) w k d t named l g =
      eq_cases (λ b. (if b then stars (alike e) (type_at e) w.depth s.part else type_at e w) ≡ found (whole k) → (if b then is_some s.name else is_variable e w.slot) ≡ true → suits_slot (if b then Some s else env_at e w.slot) l ≡ true → suits (whole k) l ≡ true)
      w.slot (length e)
      (λ q f n h.
      let part : s.part ≡ whole k = found_same (subst (λ m. stars (alike e) (type_at e) m s.part ≡ found (whole k)) d f) in
      subst (λ p. suits p l ≡ true) part (subst (λ b. suits_named b s.part l ≡ true) n h))
      (λ ne f n h. variable_suits e w k d f n l h) t named g

  -- INSTRUCTIONS

  shared_suits : (us : List Lval) (v u : Value) → shared_from v ≡ Some u → suits (whole (shared us)) (look_of sees u) ≡ true
  shared_suits us (value.SharedSlot i) u e = let z : value.SharedSlot i ≡ u = cc in subst (λ x. suits (whole (shared us)) (look_of sees x) ≡ true) z refl
  shared_suits us (value.MutSlot i) u e = let z : value.SharedSlot i ≡ u = cc in subst (λ x. suits (whole (shared us)) (look_of sees x) ≡ true) z refl
  shared_suits us (value.Own (owned.Box p)) u e =
      let z : value.Shared (record { word = p.word; object = p.object; pinned = false }) ≡ u = cc in subst (λ x. suits (whole (shared us)) (look_of sees x) ≡ true) z (shared_any us (sees p.object))
  shared_suits us (value.Shared r) u e =
      let z : value.Shared (record { word = r.word; object = r.object; pinned = false }) ≡ u = cc in subst (λ x. suits (whole (shared us)) (look_of sees x) ≡ true) z (shared_any us (sees r.object))
  shared_suits us (value.Mut r) u e =
      let z : value.Shared (record { word = r.word; object = r.object; pinned = false }) ≡ u = cc in subst (λ x. suits (whole (shared us)) (look_of sees x) ≡ true) z (shared_any us (sees r.object))
  shared_suits us value.Gone u e = absurd cc
  shared_suits us (value.Own owned.Nothing) u e = absurd cc
  shared_suits us (value.Own owned.Unit) u e = absurd cc
  shared_suits us (value.Own (owned.Int i)) u e = absurd cc
  shared_suits us (value.Own (owned.Mutex m)) u e = absurd cc
  shared_suits us (value.Own (owned.Task t)) u e = absurd cc
  shared_suits us (value.Held m) u e = absurd cc

  some_value : {a b : Value} → Some a ≡ Some b → a ≡ b
  some_value e = cc

  mutable_suits : (us : List Lval) (p : Phase) (holder : Lval) (v u : Value) → mutable_from p holder v ≡ Some u → suits (whole (mutable us)) (look_of sees u) ≡ true
  mutable_suits us p holder (value.MutSlot i) u e = let z : value.MutSlot i ≡ u = cc in subst (λ x. suits (whole (mutable us)) (look_of sees x) ≡ true) z refl
  mutable_suits us p holder (value.Own (owned.Box b)) u e = subst (λ x. suits (whole (mutable us)) (look_of sees x) ≡ true) (some_value e) refl
  mutable_suits us p holder (value.Mut r) u e = subst (λ x. suits (whole (mutable us)) (look_of sees x) ≡ true) (some_value e) refl
  mutable_suits us p holder (value.SharedSlot i) u e = absurd cc
  mutable_suits us p holder (value.Shared r) u e = absurd cc
  mutable_suits us p holder value.Gone u e = absurd cc
  mutable_suits us p holder (value.Own owned.Nothing) u e = absurd cc
  mutable_suits us p holder (value.Own owned.Unit) u e = absurd cc
  mutable_suits us p holder (value.Own (owned.Int i)) u e = absurd cc
  mutable_suits us p holder (value.Own (owned.Mutex m)) u e = absurd cc
  mutable_suits us p holder (value.Own (owned.Task t)) u e = absurd cc
  mutable_suits us p holder (value.Held m) u e = absurd cc

  -- a second value is no mutable reference
  own_suits : (q : Kind) (w : Owned) → copies q ≡ true → suits (whole q) (look_of sees (value.Own w)) ≡ true
  own_suits (own o) w c = refl
  own_suits (shared us) owned.Nothing c = refl
  own_suits (shared us) owned.Unit c = refl
  own_suits (shared us) (owned.Int i) c = refl
  own_suits (shared us) (owned.Box i) c = refl
  own_suits (shared us) (owned.Mutex i) c = refl
  own_suits (shared us) (owned.Task i) c = refl
  own_suits (view o) owned.Nothing c = refl
  own_suits (view o) owned.Unit c = refl
  own_suits (view o) (owned.Int i) c = refl
  own_suits (view o) (owned.Box i) c = refl
  own_suits (view o) (owned.Mutex i) c = refl
  own_suits (view o) (owned.Task i) c = refl
  own_suits (mutable us) w c = absurd cc

  pub copy_suits : (q : Kind) (v u : Value) → copies q ≡ true → ((o : OwnedType) (r : SharedRef) → q ≡ view o → v ≡ value.Shared r → sees r.object ≡ true) → second_of v ≡ Some u → suits (whole q) (look_of sees u) ≡ true
  copy_suits (own o) v u twice seen e = refl
  copy_suits (mutable us) v u twice seen e = absurd cc
  copy_suits q (value.Own w) u twice seen e = by (owns_nothing w) e
    where
      by : (b : Bool) → (if b then Some (value.Own w) else None) ≡ Some u → suits (whole q) (look_of sees u) ≡ true
      by true f = subst (λ x. suits (whole q) (look_of sees x) ≡ true) (some_value f) (own_suits q w twice)
      by false f = absurd cc
  copy_suits (shared us) (value.SharedSlot i) u twice seen e = subst (λ x. suits (whole (shared us)) (look_of sees x) ≡ true) (some_value e) refl
  copy_suits (view o) (value.SharedSlot i) u twice seen e = subst (λ x. suits (whole (view o)) (look_of sees x) ≡ true) (some_value e) refl
  copy_suits (shared us) (value.Shared r) u twice seen e = subst (λ x. suits (whole (shared us)) (look_of sees x) ≡ true) (some_value e) (shared_any us (sees r.object))
  copy_suits (view o) (value.Shared r) u twice seen e = subst (λ x. suits (whole (view o)) (look_of sees x) ≡ true) (some_value e) (view_seen o (sees r.object) (seen o r refl refl))
  copy_suits q value.Gone u twice seen e = absurd cc
  copy_suits q (value.MutSlot i) u twice seen e = absurd cc
  copy_suits q (value.Mut r) u twice seen e = absurd cc
  copy_suits q (value.Held m) u twice seen e = absurd cc

  module _ (e : Env) (ts : List Kind) (h : Hand) (suited : Suited sees e h.thread.slots) (topped : Topped sees ts h.thread.temps) (long : length h.thread.slots ≡ length e) where
    -- a new variable
    lets : {o : Operand} {us : List Kind} {k : Kind} (x : Text) → Takes o ts k us → Gives (Fit sees (record { name = Some x; part = whole k } ∷ e) us) (let_slot o h)
    lets {o} {us} {k} x t =
        let s : Slot = record { name = Some x; part = whole k } in
        over_gives (Suits k h) (Fit sees (s ∷ e) us) (pop o h) _ (pops t h topped) (λ p u. (
          subst (λ vs. Suited sees (s ∷ e) (vs ++ p.item ∷ [])) (sym u.1) (push_suited sees s e h.thread.slots p.item long u.0 suited),
          wait_topped us p.hand.thread.temps (takes_wait t),
        ))

    module _ (filled : (v : Value) → last_of h.thread.temps ≡ Some v → look_of sees v ≢ a_nothing) where
      -- an assignment
      assigns : {o : Operand} {us : List Kind} {k : Kind} (w : Lval) (n : ℕ) → w.depth ≡ n → Takes o ts k us → is_kept_out k w.depth ≡ false → (s : Spot) → Gives (Fit sees (set_through e w k) us) (assign w n o s h)
      assigns {o} {us} {k} w zero d t kept s =
          let same : set_through e w k ≡ put_at e w (whole k) = ap (λ m. if on_path is_mutable e w.slot m then e else put_at e w (whole k)) d in
          subst (λ f. Gives (Fit sees f us) (assign w zero o s h)) (sym same)
          (bind_gives (Suits k h) (Fit sees (put_at e w (whole k)) us) (pop o h) _ (pops t h topped) (λ p u.
          replaces e us w k d (takes_wait t) s p.item p.hand u.0 (suited_by e h.thread.slots p.hand.thread.slots u.1 suited)))
      assigns {o} {us} {k} w (suc n) d t kept s =
          bind_gives (There h) (Fit sees (set_through e w k) us) (pop_owned o h) _ (pops_owned o h filled) (λ p u.
          weaker (Fit sees e us) (Fit sees (set_through e w k) us) (replace_at s p.item p.hand) (replaces_at e us (takes_wait t) s p.item p.hand u.0 (suited_by e h.thread.slots p.hand.thread.slots u.1 suited))
          (λ h2 g. (to_suited sees e (set_through e w k) h2.thread.slots (λ j l f. by (on_path is_mutable e w.slot w.depth) j l f) g.0, g.1)))
        where
          owns : is_some (owned_kind k) ≡ true
          owns = kept_in k n (subst (λ m. is_kept_out k m ≡ false) d kept)

          by : (b : Bool) (j : ℕ) (l : Look) → suits_at e j l ≡ true → suits_at (if b then e else put_at e w (whole k)) j l ≡ true
          by true j l f = f
          by false j l f = put_suits e w n (whole k) d owns j l f

    -- a move out of a variable
    moves_here : (w : Lval) (k : Kind) → w.depth ≡ 0 → HasType e w (found (whole k)) → Gives (Fit sees (put_at e w (gone k)) (k ∷ ts)) (read true (in_slot w.slot) h)
    moves_here w k d has =
        let f = put_at e w (gone k) in
        then_gives (Fit sees f (k ∷ ts)) (slice_get h.thread.slots w.slot) _ (λ v q.
        over_gives (Slots sees f) (Fit sees f (k ∷ ts)) (take_out (in_slot w.slot) (load_at (in_slot w.slot) h)) (push_temp v)
        (test_gives (Slots sees f) (nat_lt w.slot (length h.thread.slots)) _ (λ on.
        set_suited sees e f h.thread.slots w.slot value.Gone (λ l j here there. put_here e w (gone k) d j l (λ q2. subst (λ x. suits (gone k) x ≡ true) (sym (here q2)) refl) there) suited))
        (λ h2 u. (u, push_topped sees k ts h2.thread.temps v (variable_suits e w k d has.is has.named (look_of sees v) (suited w.slot v q)))))

    -- and one through stars
    moves_on : (w : Lval) (n : ℕ) (k : Kind) → w.depth ≡ suc n → is_some (owned_kind k) ≡ true → (s : Spot) → Gives (Fit sees (put_at e w (gone k)) (k ∷ ts)) (read true s h)
    moves_on w n k d owns s =
        let f = put_at e w (gone k) in
        then_gives (Fit sees f (k ∷ ts)) (value_at h s) _ (λ v q.
        over_gives (Slots sees e) (Fit sees f (k ∷ ts)) (take_out s (load_at s h)) (push_temp v) (takes_out e s (load_at s h) suited)
        (λ h2 u. (to_suited sees e f h2.thread.slots (λ j l g. put_suits e w n (gone k) d owns j l g) u, push_topped sees k ts h2.thread.temps v (any_owned k (look_of sees v) owns))))
      where
        any_owned : (k : Kind) (l : Look) → is_some (owned_kind k) ≡ true → suits (whole k) l ≡ true
        any_owned (own o) l e = refl
        any_owned (shared us) l e = absurd cc
        any_owned (mutable us) l e = absurd cc
        any_owned (view o) l e = absurd cc

    -- a shared borrow
    borrows : (w : Lval) (n : ℕ) (s : Spot) → Gives (Fit sees e (shared (w ∷ []) ∷ ts)) (borrow_from w n s h)
    borrows w zero s = (suited, push_topped sees (shared (w ∷ [])) ts h.thread.temps (value.SharedSlot w.slot) refl)
    borrows w (suc n) s =
        then_gives (Fit sees e (shared (w ∷ []) ∷ ts)) (value_at h s) _ (λ v q. map_gives (Fit sees e (shared (w ∷ []) ∷ ts)) (shared_from v) _ (λ u f.
        (suited, push_topped sees (shared (w ∷ [])) ts h.thread.temps u (shared_suits (w ∷ []) v u f))))

    -- a mutable one
    lends : (w : Lval) (n : ℕ) (s : Spot) → Gives (Fit sees e (mutable (w ∷ []) ∷ ts)) (borrow_mut_from w n s h)
    lends w zero s = (suited, push_topped sees (mutable (w ∷ [])) ts h.thread.temps (value.MutSlot w.slot) refl)
    lends w (suc n) s =
        then_gives (Fit sees e (mutable (w ∷ []) ∷ ts)) (value_at h s) _ (λ v q. map_gives (Fit sees e (mutable (w ∷ []) ∷ ts)) (mutable_from h.thread.phase (record w { depth = n }) v) _ (λ u f.
        (suited, push_topped sees (mutable (w ∷ [])) ts h.thread.temps u (mutable_suits (w ∷ []) h.thread.phase (record w { depth = n }) v u f))))

    -- a copy
    copies_at : (k : Kind) (s : Spot) → ((v u : Value) → value_at h s ≡ Some v → second_of v ≡ Some u → suits (whole k) (look_of sees u) ≡ true) → Gives (Fit sees e (k ∷ ts)) (read false s h)
    copies_at k s told =
        then_gives (Fit sees e (k ∷ ts)) (value_at h s) _ (λ v q. map_gives (Fit sees e (k ∷ ts)) (second_of v) _ (λ u f. (suited, push_topped sees k ts (load_at s h).thread.temps u (told v u q f))))

    -- a lock with its gift
    locks : (w : Lval) (x : Text) (o : OwnedType) → wait ts ≡ true → (s : Spot) (v : Owned) → Gives (Fit sees (with_lock e w x o) ts) (option_map (push_content v (load_at s (take_gift h))) (mutex_at h s))
    locks w x o wa s v =
        let hidden : Slot = record { name = None; part = whole (shared (w ∷ [])) } in
        let content : Slot = record { name = Some x; part = whole (own o) } in
        map_gives (Fit sees (content ∷ hidden ∷ e) ts) (mutex_at h s) _ (λ m q.
        let below = push_suited sees hidden e h.thread.slots (value.Held m) long refl suited in
        (push_suited sees content (hidden ∷ e) (h.thread.slots ++ value.Held m ∷ []) (value.Own v) (push_length sees h.thread.slots (value.Held m) ∙ ap suc long) refl below, wait_topped ts h.thread.temps wa))

    locks_by : (w : Lval) (x : Text) (o : OwnedType) → wait ts ≡ true → (s : Spot) (g : Option Owned) → Ends (with_lock e w x o) ts (lock s g h)
    locks_by w x o wa s None = waits_end (with_lock e w x o) ts _
    locks_by w x o wa s (Some v) = goes_ends (with_lock e w x o) ts _ (locks w x o wa s v)

    -- a value that is owned comes on top
    tops : (k : Kind) (us : List Kind) → is_owned k ≡ true → (h2 : Hand) → h2.thread.slots ≡ h.thread.slots → Fit sees e (k ∷ us) h2
    tops k us owns h2 same = (suited_by e h.thread.slots h2.thread.slots same suited, owned_topped sees k us h2.thread.temps owns)

    joins : (o : Operand) (k : Kind) (us : List Kind) → is_owned k ≡ true → (g : Option Owned) → Ends e (k ∷ us) (join o g h)
    joins o k us owns None = waits_end e (k ∷ us) _
    joins o k us owns (Some v) = goes_ends e (k ∷ us) _ (over_gives (λ (p : Popped ℕ). Same h p) (Fit sees e (k ∷ us)) (then_some (pop o (take_gift h)) (taken_as task_of)) _ (stays_as task_of o (take_gift h)) (λ p u. tops k us owns (push_temp (value.Own v) p.hand) u))

    dups : (k : Kind) → is_owned k ≡ true → (s : Spot) (g : Option Owned) → Ends e (k ∷ ts) (dup s g h)
    dups k owns s None = waits_end e (k ∷ ts) _
    dups k owns s (Some v) = goes_ends e (k ∷ ts) _ (map_gives (Fit sees e (k ∷ ts)) (mutex_at h s) _ (λ m q. tops k ts owns (push_temp (value.Own v) (load_at s (take_gift h))) refl))

  -- a slot goes
  drops_slot : (x : Slot) (e : Env) (ts : List Kind) (s : Spot) (h : Hand) → Suited sees (x ∷ e) h.thread.slots → Topped sees ts h.thread.temps → length h.thread.slots ≡ suc (length e) → Gives (Fit sees e ts) (drop_slot s h)
  drops_slot x e ts s h suited topped long =
      bind_gives (λ (p : Popped Value). Fit sees e ts p.hand) (Fit sees e ts) (pop_slot h) _ (map_gives (λ (p : Popped Value). Fit sees e ts p.hand) (last_of h.thread.slots) _ (λ v q. (pop_suited sees x e h.thread.slots v long q suited, topped)))
      (λ p u. drops sees e ts s p.item (label_dropped p.item p.hand) u)

  -- a lock ends
  unlocks : (c x : Slot) (e : Env) (ts : List Kind) (h : Hand) → Suited sees (c ∷ x ∷ e) h.thread.slots → list_all is_owned ts ≡ true → length h.thread.slots ≡ suc (suc (length e)) → Gives (Fit sees e ts) (unlock h)
  unlocks c x e ts h suited owns long =
      bind_gives One (Fit sees e ts) (then_some (pop_slot h) (taken_as owned_of)) _
      (bind_gives One_of One (pop_slot h) (taken_as owned_of) (map_gives One_of (last_of h.thread.slots) _ (λ v q. (pop_suited sees c (x ∷ e) h.thread.slots v long q suited, pop_length sees h.thread.slots v (suc (length e)) long q)))
      (λ p u. map_gives One (owned_of p.item) _ (λ v q. u)))
      (λ v u.
      over_gives Two (Fit sees e ts) (then_some (pop_slot v.hand) (taken_as held_of)) _
      (bind_gives Two_of Two (pop_slot v.hand) (taken_as held_of) (map_gives Two_of (last_of v.hand.thread.slots) _ (λ w q. pop_suited sees x e v.hand.thread.slots w u.1 q u.0)) (λ p g. map_gives Two (held_of p.item) _ (λ m q. g)))
      (λ m g. (g, owned_topped_all ts m.hand.thread.temps owns)))
    where
      One : Popped Owned → Type 0
      One p = Suited sees (x ∷ e) p.hand.thread.slots × (length p.hand.thread.slots ≡ suc (length e))

      One_of : Popped Value → Type 0
      One_of p = Suited sees (x ∷ e) p.hand.thread.slots × (length p.hand.thread.slots ≡ suc (length e))

      Two : Popped MutexNo → Type 0
      Two p = Suited sees e p.hand.thread.slots

      Two_of : Popped Value → Type 0
      Two_of p = Suited sees e p.hand.thread.slots

  -- threads start
  spawns : (n : ℕ) (e e1 m : Env) (k : Kind) (ts : List Kind) (cs : WithRoom (ℕ × Bool)) (pc : ℕ) (h : Hand) → is_owned k ≡ true → SlotsPass by_spawn e [] cs.items e1 m → Suited sees e h.thread.slots
      → Gives (Fit sees e1 (k ∷ ts)) (then_some (capture false cs.items h.thread.slots) (spawn_with n pc (next_thread h.work.rest) h))
  spawns n e e1 m k ts cs pc h owns pass suited =
      bind_gives (λ (p : List Value × List Value). Suited sees e1 p.1) (Fit sees e1 (k ∷ ts)) (capture false cs.items h.thread.slots) _ (captures_fit sees by_spawn false e e1 m cs.items pass h.thread.slots suited) (λ two g.
      over_gives (λ (h2 : Hand). ⊤) (Fit sees e1 (k ∷ ts)) (begun h) _ (test_gives (λ (h2 : Hand). ⊤) (can_begin h.work.rest.tasks (next_thread h.work.rest)) _ (λ z. tt)) (λ h2 u. (g, owned_topped sees k ts (h2.thread.temps ++ value.Own (owned.Task (next_thread h.work.rest)) ∷ []) owns)))

  pairs : (n : ℕ) (e e1 e2 m1 m2 : Env) (ts : List Kind) (cs : WithRoom (ℕ × Bool)) (pc : ℕ) (ds : WithRoom (ℕ × Bool)) (other : ℕ) (h : Hand) → wait ts ≡ true → SlotsPass by_par e [] cs.items e1 m1 → SlotsPass by_par e1 [] ds.items e2 m2
      → Suited sees e h.thread.slots
      → Gives (Left e2 ts) (then_some (capture true cs.items h.thread.slots) (λ first. then_some (capture true ds.items first.1) (par_with n pc other (next_thread h.work.rest) (next_thread h.work.rest + 1) h first.0)))
  pairs n e e1 e2 m1 m2 ts cs pc ds other h wa one two suited =
      let u = next_thread h.work.rest in
      bind_gives (λ (p : List Value × List Value). Suited sees e1 p.1) (Left e2 ts) (capture true cs.items h.thread.slots) _ (captures_fit sees by_par true e e1 m1 cs.items one h.thread.slots suited) (λ a g.
      bind_gives (λ (p : List Value × List Value). Suited sees e2 p.1) (Left e2 ts) (capture true ds.items a.1) _ (captures_fit sees by_par true e1 e2 m2 ds.items two a.1 g) (λ b f.
      over_gives (λ (h2 : Hand). h2.thread.temps ≡ h.thread.temps) (Left e2 ts) (pair_begun h u (u + 1)) _ (test_gives (λ (h2 : Hand). h2.thread.temps ≡ h.thread.temps) (can_begin_pair h.work.rest.tasks h.thread.number u (u + 1)) _ (λ z. refl))
      (λ h2 v. ((f, wait_topped ts h2.thread.temps wa), refl))))

  par_goes : (e : Env) (ts : List Kind) (p : Phase) (h : Hand) → Fit sees e ts h → Gives (Fit sees e ts) (par_end p h)
  par_goes e ts (phase.GotPar a b) h g = g
  par_goes e ts _ h g = tt

  -- whatever instruction
  pub step_fits : (table : Table) (x y : Entry) (i : Instr) → InstrTypes table x i y → (n : ℕ) (s : Spot) (h : Hand) → Before x h → Told x i s h → Ends y.env y.temps (commit n i s h)
  step_fits table _ _ _ (i_let {e = e} {ts = ts} {us = us} {k = k} x t new) n s h b told = goes_ends (record { name = Some x; part = whole k } ∷ e) us _ (lets e ts h b.suited b.topped b.long x t)
  step_fits table _ _ _ (i_assign {e = e} {ts = ts} {us = us} {w = w} {k = k} t has may kept shape below) n s h b told = goes_ends (set_through e w k) us _ (assigns e ts h b.suited b.topped b.long b.filled w w.depth refl t kept s)
  step_fits table _ _ _ (i_copy {e = e} {ts = ts} {w = w} {k = k} wa has twice free) n s h b told = goes_ends e (k ∷ ts) _ (copies_at e ts h b.suited b.topped b.long k s (told.copied w k refl twice refl has free wa))
  step_fits table _ _ _ (i_move {e = e} {ts = ts} {w = w} {k = k} wa has once free path) n s h b told = goes_ends (put_at e w (gone k)) (k ∷ ts) _ (by w.depth refl)
    where
      by : (d : ℕ) → w.depth ≡ d → Gives (Fit sees (put_at e w (gone k)) (k ∷ ts)) (read true s h)
      by zero d = subst (λ sp. Gives (Fit sees (put_at e w (gone k)) (k ∷ ts)) (read true sp h)) (sym (told.here w refl d)) (moves_here e ts h b.suited b.topped b.long w k d has)
      by (suc m) d = moves_on e ts h b.suited b.topped b.long w m k d (told.through w m k refl d has path) s
  step_fits table _ _ _ (i_borrow {e = e} {ts = ts} {w = w} wa has free) n s h b told = goes_ends e (shared (w ∷ []) ∷ ts) _ (borrows e ts h b.suited b.topped b.long w w.depth s)
  step_fits table _ _ _ (i_borrow_mut {e = e} {ts = ts} {w = w} wa has may) n s h b told = goes_ends e (mutable (w ∷ []) ∷ ts) _ (lends e ts h b.suited b.topped b.long w w.depth s)
  step_fits table _ _ _ (i_box {e = e} {ts = ts} {us = us} {x = x} {o = o} t full) n s h b told =
      names_end e (own (box x) ∷ us) _ _ (bind_gives (λ (p : Popped Owned). Same h p) (Fit sees e (own (box x) ∷ us)) (pop_owned o h) _ (stays_as owned_of o h) (λ p u.
      map_gives (Fit sees e (own (box x) ∷ us)) (issue_placed (act.Make (next_object p.hand)) (record { object = next_object p.hand; value = p.item }) p.hand.work) (λ m. push_box p.item m p.hand) (λ m q.
      tops e ts h b.suited b.topped b.long (own (box x)) us refl (push_box p.item m p.hand) u)))
  step_fits table _ _ _ (i_arith {e = e} {ts = ts} {vs = vs} {f = f} {a = a} {b = o} t u) n s h b told =
      goes_ends e (own int ∷ vs) _ (bind_gives (λ (p : Popped ℤ). Same h p) (Fit sees e (own int ∷ vs)) (pop_int o h) _ (stays_as int_of o h) (λ y g.
      over_gives (λ (p : Popped ℤ). Same y.hand p) (Fit sees e (own int ∷ vs)) (pop_int a y.hand) _ (stays_as int_of a y.hand) (λ x q. tops e ts h b.suited b.topped b.long (own int) vs refl (push_temp (value.Own (owned.Int (result_of f x.item y.item))) x.hand) (q ∙ g))))
  step_fits table _ _ _ (i_print {e = e} {ts = ts} {us = us} {o = o} t) n s h b told =
      goes_ends e us _ (over_gives (λ (p : Popped ℤ). Same h p) (Fit sees e us) (pop_int o h) _ (stays_as int_of o h) (λ p u. (suited_by e h.thread.slots p.hand.thread.slots u b.suited, wait_topped us p.hand.thread.temps (takes_wait t))))
  step_fits table _ _ _ (i_discard {e = e} {ts = ts} {us = us} {k = k} t) n s h b told =
      goes_ends e us _ (bind_gives (λ (p : Popped Value). Same h p) (Fit sees e us) (pop_temp h) _ (map_gives (λ (p : Popped Value). Same h p) (last_of h.thread.temps) _ (λ v q. refl)) (λ p u.
      drops sees e us s p.item (label_dropped p.item p.hand) (suited_by e h.thread.slots p.hand.thread.slots u b.suited, wait_topped us p.hand.thread.temps (takes_wait t))))
  step_fits table _ _ _ (i_drop {e = e} {ts = ts} {s = x} named locked lives) n s h b told = goes_ends e ts _ (drops_slot x e ts s h b.suited b.topped b.long)
  step_fits table _ _ _ (i_spawn {e = e} {e1 = e1} {n = m} {ts = ts} {x = x} {cs = cs} {body = pc} wa pass body full) n s h b told = names_end e1 (own (task x) ∷ ts) _ _ (spawns n e e1 m (own (task x)) ts cs pc h refl pass b.suited)
  step_fits table _ _ _ (i_join {e = e} {ts = ts} {us = us} {x = x} {o = o} t) n s h b told = joins e ts h b.suited b.topped b.long o (own x) us refl h.thread.gift
  step_fits table _ _ _ (i_mutex {e = e} {ts = ts} {us = us} {x = x} {o = o} t full) n s h b told =
      names_end e (own (mutex x) ∷ us) _ _ (bind_gives (λ (p : Popped Owned). Same h p) (Fit sees e (own (mutex x) ∷ us)) (pop_owned o h) _ (stays_as owned_of o h) (λ p u.
      test_gives (Fit sees e (own (mutex x) ∷ us)) (can_make p.hand.work.rest.mutexes) _ (λ q. tops e ts h b.suited b.topped b.long (own (mutex x)) us refl (push_temp (value.Own (owned.Mutex (next_mutex p.hand.work.rest.mutexes))) (working (with_mutexes (make p.hand.work.rest.mutexes p.item)) p.hand)) u)))
  step_fits table _ _ _ (i_dup {e = e} {ts = ts} {x = x} {w = w} wa has free) n s h b told = dups e ts h b.suited b.topped b.long (own (mutex x)) refl s h.thread.gift
  step_fits table _ _ _ (i_lock {e = e} {ts = ts} {x = x} {w = w} name wa has free new) n s h b told = locks_by e ts h b.suited b.topped b.long w name x wa s h.thread.gift
  step_fits table _ _ _ (i_unlock {e = e} {ts = ts} {x = x} {w = w} {name = name} owns) n s h b told =
      goes_ends e ts _ (unlocks (record { name = Some name; part = whole (own x) }) (record { name = None; part = whole (shared (w ∷ [])) }) e ts h b.suited owns b.long)
  step_fits table _ _ _ (i_par {e = e} {e1 = e1} {e2 = e2} {n = m1} {m = m2} {ts = ts} {cs = cs} {ds = ds} {body = pc} {other = pc2} wa one two at1 at2) n s h b told =
      done_ends e2 ts _ _ (pairs n e e1 e2 m1 m2 ts cs pc ds pc2 h wa one two b.suited)
  step_fits table _ _ _ (i_par_end {e = e} {ts = ts}) n s h b told = goes_ends e ts _ (par_goes e ts h.thread.phase h (b.suited, b.topped))
