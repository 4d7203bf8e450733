-- A lock whose content is in keeps a state typed.
use Rattle.std.proofs.Common.{◌≡◌, ◌≢◌, ◌⊎◌, inl, inr, ⊎_elim, ◌∙◌, ap₂, ℕ, suc, ◌+◌, ◌<◌, ◌≤◌, Bool, true, false, List, [], ◌∷◌, ◌++◌, length, Option, Some, None, refl, sym, ap, subst, arith}
use Rattle.std.specs.Prelude.{◌==◌, if◌then◌else◌}
use Rattle.fr_base.specs.declared.label.Plain.{Plain}
use Rattle.fr_base.specs.declared.label.Label.TheVariants as label
use Rattle.fr_base.specs.declared.name.ObjNo.{ObjNo}
use Rattle.fr_base.specs.declared.name.MutexNo.{MutexNo}
use Rattle.fr_base.specs.declared.place.Lval.{Lval}
use Rattle.fr_base.specs.declared.step.Fresh.TheVariants as fresh
use Rattle.fr_terms.specs.Terms.{Text}
use Rattle.fr_typing.specs.Kinds.{Owned, mutex, Kind, own, shared, whole}
use Rattle.fr_typing.specs.Places.{Env, Slot, found, read_blocked}
use Rattle.fr_typing.specs.Checks.{with_lock}
use Rattle.fr_typing.proofs.PlaceLemmas.{eq_cases}
use Rattle.fr_store.specs.Keys.{Key, slot_k, temp_k, content_k}
use Rattle.fr_store.specs.Store.{Alike, Location, at_key, at_object, Val, box_v, task_v, gone_v, ref_v, Store, value_at, Place, put_value, swap}
use Rattle.fr_store.specs.Changes.{SameButTwo}
use Rattle.fr_store.specs.Typed.{hole, owns, refers, KeyTypes, Unnamed, Unlent}
use Rattle.fr_store.specs.Below.{tree_of}
use Rattle.fr_store.specs.Thread.{ThreadTyped, place_of}
use Rattle.fr_store.proofs.Keys.{decide_number}
use Rattle.fr_store.proofs.Chains.{decide_location}
use Rattle.fr_store.proofs.Rows.{found_place, top_fits, not_to, put_there, put_other}
use Rattle.fr_store.proofs.ThreadKept.{no_temp, unlent_key}
use Rattle.fr_plain.specs.declared.value.Value.{Value}
use Rattle.fr_plain.specs.declared.value.Value.TheVariants.{Own, Held}
use Rattle.fr_plain.specs.MachineActs.{do_lock, unit as unit_value}
use Rattle.fr_plain.specs.State.{slot_at}
use Rattle.fr_plain.specs.MachineThreads.{Now, Move, Life, Thread, Whole as Machine, Shared, with_thread, with_mutex}
use Rattle.fr_plain.specs.Machine.{nameless, at_mutex, where_there, locked, locked_with, act_waits, lock_waits, content_waits, unless_in}
use Rattle.fr_plain.specs.PlainState.{Running, PlainState, place_in, plain_state}
use Rattle.fr_sound.specs.Entries.{Entry, going}
use Rattle.fr_sound.specs.Seen.{owned_val, seen_cell}
use Rattle.fr_sound.specs.States.{Typing, content_val, env_at, part_of, is_hidden, is_held, IsLock, thread_of_key, IsMark, HasOneMark, MutexTyped}
use Rattle.fr_code.specs.CodeTypes.{HasType, wait}
use Rattle.law_plain_values.specs.acts.Positions.{Position, PositionTypes, moves_by, StartsAs}
use Rattle.law_plain_values.specs.acts.ActRows.{Leaves, quiet, left_after, ActRow, r_lock}
use Rattle.law_plain_values.specs.acts.Keeps.{Ready, StepsTyped}
use Rattle.law_plain_values.proofs.acts.Lower.{seen_as, below_object}
use Rattle.law_plain_values.proofs.acts.OneThread.{store, typing_with, touched, differs_by, CarriedOf, Carried, Counted, share_back, as_many}
use Rattle.law_plain_values.proofs.acts.Raised.{raised, raised_typing}
use Rattle.law_plain_values.proofs.acts.Marks.{mark_back, one_mark_to}
use Rattle.law_plain_values.proofs.acts.Moved.{flip, flip_first, flip_second, flip_third, flip_twice}
use Rattle.law_plain_values.proofs.acts.Focus.{top_none, hand_at, focus}
use Rattle.law_plain_values.proofs.acts.AtHand.{mark_off}
use Rattle.law_plain_values.proofs.acts.Hand.{At, Ranked, pushed_others, pushed_here}
use Rattle.law_plain_values.proofs.acts.Done.{runs_here, only_here}
use Rattle.law_plain_values.proofs.acts.Places.{variable_below}
use Rattle.law_plain_values.proofs.acts.SlotTurn.{alike_swap}
use Rattle.law_plain_values.proofs.acts.Slots.{below_new, here_new, slot_below, owned_in, lock_with, content_there}
use Rattle.law_plain_values.proofs.acts.Envs.{same_tree}
use Rattle.law_plain_values.proofs.acts.Sums.{Lone, slot_after, keys_same, Base, Sums, turned}
use Rattle.law_plain_threads.specs.mutexes.MutexActs.{IsLocking}
use Rattle.law_plain_values.specs.acts.Keeps.{KeepsUnlessWaiting}
use Rattle.law_plain_values.proofs.acts.Mutexes.{decide_mutex, mutex_is, there_set, there_off, given_set}
use Rattle.law_plain_threads.proofs.mutexes.Found.{FoundMutex, found_mutex}
use Rattle.law_plain_values.proofs.acts.Done.{step_by}
use Rattle.law_plain_threads.proofs.mutexes.LockTypes.{locked_types, lock_none, locked_refs, locked_same, locked_thread, off_two}

-- RANKS

-- a thread between two acts, with room for two slots
pub record Roomy (y0 : Typing) (a : PlainState Position) (t : ℕ) (x : Running Position) (e : Env) (ts : List Kind) (g : Owned) : Type 0 where
  pub waits : wait ts ≡ true
  pub ranked : Ranked y0 a t x e ts ts None g
  pub high : (i n : ℕ) → i ≤ suc (length e) → ranked.typing.rank (slot_k t i) < ranked.typing.rank (temp_k t n)

pub roomy : (y : Typing) (a : PlainState Position) (t : ℕ) (x : Running Position) (e : Env) (ts : List Kind) (g : Owned) → At y a t x e ts g → wait ts ≡ true → Roomy y a t x e ts g
roomy y a t x e ts g h w =
    let r = h.state.threads t x h.runs in
    let n = suc (y.rank (slot_k t (suc (length e)))) in
    let st = raised n y a h.state in
    let q = st.threads t x h.runs in
    let is : q.entry ≡ going e ts g = sym q.known ∙ h.entry in
    record {
      waits = w;
      ranked = record {
        typing = raised_typing n y;
        names = refl;
        refs = λ k u q. q;
        at = record { state = st; runs = h.runs; entry = h.entry };
        focus = focus (raised_typing n y) a t x e ts g st h.runs h.entry (λ i m le. big r.keys.ranks i m (omega (arith, le))) ts None top_none (λ z. w);
        running = q;
        gives = ap (λ (z : Entry). z.gives) (sym is) ∙ q.gives;
        long = q.all_temps ∙ ap (λ (z : Entry). length z.temps) is;
      };
      high = λ i m le. big r.keys.ranks i m le;
    }
  where
    big : ((i j : ℕ) → i < j → y.rank (slot_k t i) < y.rank (slot_k t j)) → (i n : ℕ) → i ≤ suc (length e) → y.rank (slot_k t i) < suc (y.rank (slot_k t (suc (length e)))) + y.rank (temp_k t n)
    big ranks i n le = by (decide_number i (suc (length e)))
      where
        by : (i ≡ suc (length e)) ⊎ (i ≢ suc (length e)) → y.rank (slot_k t i) < suc (y.rank (slot_k t (suc (length e)))) + y.rank (temp_k t n)
        by (inl same) = let f = ap (λ j. y.rank (slot_k t j)) same in omega (arith, f)
        by (inr ne) = let f = ranks i (suc (length e)) (omega (arith, le, ne)) in omega (arith, f)

-- MARKS

-- the mark of thread t in slot i leads there; the others lead where they led
abbrev pub marks_with : (ℕ → ℕ → Location) → ℕ → ℕ → Location → ℕ → ℕ → Location
marks_with M t i l u j = if u == t then (if j == i then l else M u j) else M u j

marks_there : (M : ℕ → ℕ → Location) (t i : ℕ) (l : Location) → marks_with M t i l t i ≡ l
marks_there M t i l = eq_cases (λ b. (if b then (if i == i then l else M t i) else M t i) ≡ l) t t (λ q. eq_cases (λ b. (if b then l else M t i) ≡ l) i i (λ r. refl) (λ ne. absurd (ne refl))) (λ ne. absurd (ne refl))

marks_off : (M : ℕ → ℕ → Location) (t i : ℕ) (l : Location) (u j : ℕ) → (u ≡ t → j ≢ i) → marks_with M t i l u j ≡ M u j
marks_off M t i l u j ne = eq_cases (λ b. (if b then (if j == i then l else M u j) else M u j) ≡ M u j) u t (λ q. eq_cases (λ b. (if b then l else M u j) ≡ M u j) j i (λ r. absurd (ne q r)) (λ r. refl)) (λ q. refl)

-- THE STATE

module _ {y0 : Typing} (s : Machine Position) (t : Thread Position) (p : Position) (e : Env) (ts : List Kind) (g x : Owned) (w : Lval) (name : Text) (r : Roomy y0 (plain_state s) t.number (record { place = p; slots = t.slots }) e ts g) (f : FoundMutex r.ranked.typing s t w x) (is : HasType e w (found (whole (own (mutex x))))) (free : read_blocked e w.slot ≡ false)
    (v : Plain) (inside : f.shared.content ≡ Some v) (a2 : PlainState Position) where
  abbrev n : ℕ
  n = t.number

  abbrev y : Typing
  y = r.ranked.typing

  abbrev a : PlainState Position
  a = plain_state s

  abbrev h : Key
  h = hand_at t.number ts

  abbrev b : Key
  b = slot_k t.number (length e)

  abbrev c : Key
  c = slot_k t.number (suc (length e))

  abbrev k : Key
  k = content_k f.number.home f.number.count

  abbrev x1 : Running Position
  x1 = record { place = p; slots = t.slots }

  abbrev x2 : Running Position
  x2 = record { place = record { entry = going (with_lock e w name x) ts g; temps = p.temps }; slots = Own v ∷ Held f.number ∷ t.slots }

  abbrev E2 : KeyTypes
  E2 = locked_types y.exact b c k (place_of (slot_k t.number) w) (tree_of x)

  abbrev M2 : ℕ → ℕ → Location
  M2 = marks_with y.marks t.number (length e) f.loc

  abbrev s1 : Store
  s1 = store y (plain_state s)

  abbrev sm : Store
  sm = put_value s1 (at_key b) (ref_v f.loc)

  abbrev s2 : Store
  s2 = store (typing_with y E2 M2) a2

  -- its content is out
  abbrev out : Shared
  out = record { content = None; shares = f.shared.shares }

  module _ (lone : Lone (plain_state s) a2 t.number x2) (objects : (o : ObjNo) → a2.object o ≡ (plain_state s).object o) (made : (u : ℕ) → (plain_state s).made u ≤ a2.made u) (now_out : a2.mutex f.number ≡ Some out) (others : (m : MutexNo) → m ≢ f.number → a2.mutex m ≡ (plain_state s).mutex m) (given : (m : MutexNo) → a2.is_given m ≡ (plain_state s).is_given m) where
    long : length t.slots ≡ length e
    long = r.ranked.running.all_slots ∙ ap (λ (z : Entry). length z.env) (sym r.ranked.running.known ∙ r.ranked.at.entry)

    lt : w.slot < length e
    lt = variable_below e w.slot is.named

    d : MutexTyped y (plain_state s) s1 f.number f.shared
    d = r.ranked.at.state.mutexes f.number f.shared f.there

    full : y.exact k ≡ owns (tree_of x)
    full = d.content v inside ∙ ap owns f.tree

    unnamed_k : Unnamed y.exact k
    unnamed_k j m u q z = let i = r.ranked.at.state.near j m u q in let l : slot_k i.owner i.slot ≡ k = sym i.is ∙ z in cc

    free_slot : (i : ℕ) → length e ≤ i → Unnamed y.exact (slot_k t.number i)
    free_slot i le = Rattle.fr_store.proofs.ThreadKept.last_unnamed (slot_k t.number) y.rank h e y.exact s1 None (length e) i r.ranked.focus.keys r.ranked.focus.thread tt le (omega (arith, le))

    -- the mutex stands at none of the three keys
    loc_off : (j : Key) → Unnamed y.exact j → slot_k t.number w.slot ≢ j → f.loc ≢ at_key j
    loc_off j fj ne q =
        let z = found_place y.rank y.exact s1 false (place_of (slot_k t.number) w) f.base f.boxes (owns (tree_of (mutex x))) r.ranked.at.state.typed f.res in
        let same : z.loc ≡ f.loc = let u : Some z.loc ≡ Some f.loc = sym z.at ∙ f.at in cc in
        not_to y.exact j fj false (slot_k t.number w.slot) w.depth f.base f.boxes (owns (tree_of (mutex x))) f.res ne (below_object s1 f.base j f.boxes (z.chain ∙ ap Some (same ∙ q)))

    -- WHAT STANDS WHERE

    abbrev Off : Key → Type 0
    Off j = (j ≢ b) × (j ≢ c) × (j ≢ k)

    marks : (u i : ℕ) → u ≢ t.number → M2 u i ≡ y.marks u i
    marks u i ne = marks_off y.marks t.number (length e) f.loc u i (λ q. absurd (ne q))

    slot_same : (i : ℕ) → i ≢ length e → i ≢ suc (length e) → slot_at (Own v ∷ Held f.number ∷ t.slots) i ≡ slot_at t.slots i
    slot_same i nb nc = pushed_others (Own v) (Held f.number ∷ t.slots) i (suc (length e)) (ap suc (sym long)) nc ∙ pushed_others (Held f.number) t.slots i (length e) (sym long) nb

    slot_mark : (i : ℕ) → i ≡ length e → slot_at (Own v ∷ Held f.number ∷ t.slots) i ≡ Some (Held f.number)
    slot_mark i q = pushed_others (Own v) (Held f.number ∷ t.slots) i (suc (length e)) (ap suc (sym long)) (λ z. omega (arith, q, z)) ∙ pushed_here (Held f.number) t.slots i (q ∙ sym long)

    slot_content : (i : ℕ) → i ≡ suc (length e) → slot_at (Own v ∷ Held f.number ∷ t.slots) i ≡ Some (Own v)
    slot_content i q = pushed_here (Own v) (Held f.number ∷ t.slots) i (q ∙ ap suc (sym long))

    three : (j : Key) → Off j → s2.at j ≡ s1.at j
    three = keys_same y (plain_state s) a2 t.number x1 x2 E2 M2 r.ranked.at.runs lone marks Off
        (λ i q. let nb : i ≢ length e = λ z. q.0 (ap (slot_k t.number) z) in let nc : i ≢ suc (length e) = λ z. q.1 (ap (slot_k t.number) z) in ap₂ (λ l o. seen_as y.gives t.number (ref_v l) o) (marks_off y.marks t.number (length e) f.loc t.number i (λ z. nb)) (slot_same i nb nc))
        (λ i q. refl)
        (λ hm cn q. ap (content_val y.gives) (others (record { home = hm; count = cn }) (λ z. q.2 (ap (λ (m : MutexNo). content_k m.home m.count) z))))

    at_b : s2.at b ≡ ref_v f.loc
    at_b = slot_after y (plain_state s) a2 t.number x1 x2 E2 M2 r.ranked.at.runs lone marks (length e) ∙ ap₂ (λ l o. seen_as y.gives t.number (ref_v l) o) (marks_there y.marks t.number (length e) f.loc) (slot_mark (length e) refl)

    at_c : s2.at c ≡ owned_val y.gives v
    at_c = slot_after y (plain_state s) a2 t.number x1 x2 E2 M2 r.ranked.at.runs lone marks (suc (length e)) ∙ ap (seen_as y.gives t.number (ref_v (M2 t.number (suc (length e))))) (slot_content (suc (length e)) refl)

    at_k : s2.at k ≡ gone_v
    at_k = ap (content_val y.gives) now_out

    was_k : s1.at k ≡ owned_val y.gives v
    was_k = ap (content_val y.gives) f.there ∙ ap (λ z. content_val y.gives (Some (record { content = z; shares = f.shared.shares }))) inside

    was_b : s1.at b ≡ gone_v
    was_b = top_fits y.rank y.exact s1 r.ranked.at.state.typed b hole (r.ranked.focus.thread.above (length e) (omega arith))

    was_c : s1.at c ≡ gone_v
    was_c = top_fits y.rank y.exact s1 r.ranked.at.state.typed c hole (r.ranked.focus.thread.above (suc (length e)) (omega arith))

    bc : b ≢ c
    bc q = let i : length e ≡ suc (length e) = cc in omega (arith, i)

    everywhere : (q : Location) → q ≢ at_key b → q ≢ at_key c → q ≢ at_key k → value_at s2 q ≡ value_at s1 q
    everywhere (at_object o) nb nc nk = ap (seen_cell y.gives) (objects o)
    everywhere (at_key j) nb nc nk = ap Some (three j ((λ z. nb (ap at_key z)), (λ z. nc (ap at_key z)), (λ z. nk (ap at_key z))))

    two : SameButTwo (at_key c) (at_key k) sm s2
    two q nc nk = ⊎_elim (λ (z : q ≡ at_key b). ap (value_at s2) z ∙ ap Some at_b ∙ sym (put_there s1 (at_key b) (ref_v f.loc)) ∙ ap (value_at sm) (sym z)) (λ (z : q ≢ at_key b). everywhere q z nc nk ∙ sym (put_other s1 (at_key b) (ref_v f.loc) q z)) (decide_location q (at_key b))

    sm_c : sm.at c ≡ gone_v
    sm_c = let z : Some (sm.at c) ≡ Some (s1.at c) = put_other s1 (at_key b) (ref_v f.loc) (at_key c) (λ q. bc (let i : c ≡ b = cc in sym i)) in let i : sm.at c ≡ s1.at c = cc in i ∙ was_c

    alike : Alike (swap sm c (at_key k)) s2
    alike = alike_swap sm s2 c (at_key k) (owned_val y.gives v) (λ q. cc) (put_other s1 (at_key b) (ref_v f.loc) (at_key k) (λ q. cc) ∙ ap Some was_k) two (ap Some (at_k ∙ sym sm_c)) at_c

    -- THE THREAD

    lent : Unlent y.exact (slot_k t.number w.slot)
    lent = unlent_key (slot_k t.number) y.rank h e y.exact s1 None r.ranked.focus.keys r.ranked.focus.thread w.slot free (λ u q. absurd (no_temp y.exact h true u r.ranked.focus.thread.temp q))

    high : (i : ℕ) → i ≤ suc (length e) → y.rank (slot_k t.number i) < y.rank h
    high i le = r.high i (length ts) le

    thread : ThreadTyped (slot_k t.number) y.rank h (with_lock e w name x) E2 s2 None
    thread = locked_thread (slot_k t.number) y.rank h k e y.exact s1 s2 w x name r.ranked.focus.keys r.ranked.focus.thread lt high lent f.loc f.base f.boxes f.res f.at (λ i q. cc) (λ q. cc) unnamed_k full alike

    refs : (j : Key) (m : Bool) (u : Place) → E2 j ≡ refers m u → ((j ≡ b) × (refers m u ≡ refers false (place_of (slot_k t.number) w))) ⊎ (y.exact j ≡ refers m u)
    refs = locked_refs (slot_k t.number) y.rank h k e y.exact s1 s2 w x name r.ranked.focus.keys r.ranked.focus.thread lt high lent f.loc f.base f.boxes f.res f.at (λ i q. cc) (λ q. cc) unnamed_k full alike

    same_type : (j : Key) → Off j → E2 j ≡ y.exact j
    same_type j q = locked_same (slot_k t.number) y.rank h k e y.exact s1 s2 w x name r.ranked.focus.keys r.ranked.focus.thread lt high lent f.loc f.base f.boxes f.res f.at (λ i q. cc) (λ q. cc) unnamed_k full alike j q.0 q.1 q.2

    still_free : (i : Key) → slot_k t.number w.slot ≢ i → Unnamed y.exact i → Unnamed E2 i
    still_free = off_two (slot_k t.number) y.rank h k e y.exact s1 s2 w x name r.ranked.focus.keys r.ranked.focus.thread lt high lent f.loc f.base f.boxes f.res f.at (λ i q. cc) (λ q. cc) unnamed_k full alike

    w_off : (i : ℕ) → length e ≤ i → slot_k t.number w.slot ≢ slot_k t.number i
    w_off i le q = let z : w.slot ≡ i = cc in omega (arith, lt, le, z)

    -- a mark leads to none of the three keys
    held : (u i : ℕ) (m : MutexNo) (z : Running Position) → place_in ((plain_state s).thread u) ≡ Some z → slot_at z.slots i ≡ Some (Held m) → value_at s2 (y.marks u i) ≡ value_at s1 (y.marks u i)
    held u i m z runs mark =
        everywhere (y.marks u i) (mark_off y (plain_state s) u i m z b r.ranked.at.state runs mark (free_slot (length e) (omega arith))) (mark_off y (plain_state s) u i m z c r.ranked.at.state runs mark (free_slot (suc (length e)) (omega arith)))
        (mark_off y (plain_state s) u i m z k r.ranked.at.state runs mark unnamed_k)

    e_is : r.ranked.running.entry ≡ going e ts g
    e_is = sym r.ranked.running.known ∙ r.ranked.at.entry

    content_is : x ≡ y.gives.mutex f.number
    content_is = same_tree x (y.gives.mutex f.number) (sym f.tree)

    abbrev content_slot : Slot
    content_slot = record { name = Some name; part = whole (own x) }

    abbrev mark_slot : Slot
    mark_slot = record { name = None; part = whole (shared (w ∷ [])) }

    below_two : (i : ℕ) → i ≢ length e → i ≢ suc (length e) → env_at (with_lock e w name x) i ≡ env_at e i
    below_two i nb nc = below_new content_slot (mark_slot ∷ e) i nc ∙ below_new mark_slot e i nb

    new_lock : IsLock (typing_with y E2 M2) s2 (with_lock e w name x) t.number (length e) f.number
    new_lock = record {
      leads = ap (value_at s2) (marks_there y.marks t.number (length e) f.loc) ∙ everywhere f.loc (loc_off b (free_slot (length e) (omega arith)) (w_off (length e) (omega arith))) (loc_off c (free_slot (suc (length e)) (omega arith)) (w_off (suc (length e)) (omega arith))) (loc_off k unnamed_k (λ q. cc)) ∙ f.value;
      unnamed = still_free b (w_off (length e) (omega arith)) (free_slot (length e) (omega arith));
      content = ap (λ q. owned_in (part_of q)) (here_new content_slot (mark_slot ∷ e) (suc (length e)) refl) ∙ ap Some content_is;
    }

    old_lock : (i : ℕ) (m : MutexNo) → i ≢ length e → slot_at t.slots i ≡ Some (Held m) → IsLock (typing_with y E2 M2) s2 (with_lock e w name x) t.number i m
    old_lock i m ne q =
        let l = subst (λ (z : Entry). IsLock y s1 z.env t.number i m) e_is (r.ranked.running.marked i m q) in
        let below = content_there l in
        let kept = lock_with {e2 = with_lock e w name x} (ap (λ z. owned_in (part_of z)) (below_two (suc i) (λ z. omega (arith, below, z)) (λ z. omega (arith, below, z)))) l in
        record {
          leads = ap (value_at s2) (marks_off y.marks t.number (length e) f.loc t.number i (λ z. ne)) ∙ held t.number i m x1 r.ranked.at.runs q ∙ l.leads;
          unnamed = still_free (slot_k t.number i) (not_w i m q) l.unnamed;
          content = kept.content;
        }
      where
        -- the variable is no mark
        not_w : (i : ℕ) (m : MutexNo) → slot_at t.slots i ≡ Some (Held m) → slot_k t.number w.slot ≢ slot_k t.number i
        not_w i m q z =
            let same : w.slot ≡ i = cc in
            let clear = Rattle.law_plain_values.proofs.acts.Borrows.variable_clear r.ranked w.slot (Rattle.law_plain_values.proofs.acts.Places.variable_seen e w.slot is.named) in
            let u : true ≡ false = sym (ap is_held q) ∙ ap (λ l. is_held (slot_at t.slots l)) (sym same) ∙ clear in
            cc

    locks : (i : ℕ) (m : MutexNo) → slot_at (Own v ∷ Held f.number ∷ t.slots) i ≡ Some (Held m) → IsLock (typing_with y E2 M2) s2 (with_lock e w name x) t.number i m
    locks i m q =
        ⊎_elim (λ (z : i ≡ length e). let u : Some (Held f.number) ≡ Some (Held m) = sym (slot_mark i z) ∙ q in let same : f.number ≡ m = cc in subst (λ l. IsLock (typing_with y E2 M2) s2 (with_lock e w name x) t.number l m) (sym z) (subst (IsLock (typing_with y E2 M2) s2 (with_lock e w name x) t.number (length e)) same new_lock))
        (λ (nb : i ≢ length e). ⊎_elim (λ (z : i ≡ suc (length e)). let u : Some (Own v) ≡ Some (Held m) = sym (slot_content i z) ∙ q in cc) (λ (nc : i ≢ suc (length e)). old_lock i m nb (sym (slot_same i nb nc) ∙ q)) (decide_number i (suc (length e))))
        (decide_number i (length e))

    hidden : (i : ℕ) → is_hidden (env_at (with_lock e w name x) i) ≡ is_held (slot_at (Own v ∷ Held f.number ∷ t.slots) i)
    hidden i =
        ⊎_elim (λ (z : i ≡ length e). ap is_hidden (below_new content_slot (mark_slot ∷ e) i (λ q. omega (arith, z, q)) ∙ here_new mark_slot e i z) ∙ sym (ap is_held (slot_mark i z)))
        (λ (nb : i ≢ length e). ⊎_elim (λ (z : i ≡ suc (length e)). ap is_hidden (here_new content_slot (mark_slot ∷ e) i z) ∙ sym (ap is_held (slot_content i z)))
        (λ (nc : i ≢ suc (length e)). ap is_hidden (below_two i nb nc) ∙ ap (λ (z : Entry). is_hidden (env_at z.env i)) (sym e_is) ∙ r.ranked.running.hidden i ∙ sym (ap is_held (slot_same i nb nc))) (decide_number i (suc (length e))))
        (decide_number i (length e))

    off_other : (j : Key) → touched t.number j ≡ false → Off j
    off_other j q = ((λ z. mine (length e) (sym (ap (touched t.number) z) ∙ q)), (λ z. mine (suc (length e)) (sym (ap (touched t.number) z) ∙ q)), (λ z. let u : true ≡ false = sym (ap (touched t.number) z) ∙ q in cc))
      where
        mine : (i : ℕ) → touched t.number (slot_k t.number i) ≡ false → ⊥
        mine i q = let u = Rattle.law_plain_values.proofs.acts.OneThread.other_by t.number t.number q in u refl

    base : Base y (plain_state s) a2 t.number x1 x2 e (with_lock e w name x) ts ts None g E2 M2
    base = record {
      lone = lone;
      tops = top_none;
      idle = λ q. r.waits;
      entry = refl;
      temps = r.ranked.long;
      slots = ap (λ i. suc (suc i)) long;
      over = λ i il m. r.high i m (omega (arith, il));
      thread = thread;
      same = λ j q. same_type j (off_other j q);
      waits = λ i il. same_type (temp_k t.number i) ((λ q. cc), (λ q. cc), (λ q. cc));
      named = λ j m u q. ⊎_elim (λ (z : (j ≡ b) × (refers m u ≡ refers false (place_of (slot_k t.number) w))). inl (w.slot, (let i = z.1 in let same : u ≡ place_of (slot_k t.number) w = cc in ap (λ (l : Place). l.key) same))) (λ (z : y.exact j ≡ refers m u). inr (j, (λ i. i), z)) (refs j m u q);
      still = λ j m u ne q. ⊎_elim (λ (z : (j ≡ b) × (refers m u ≡ refers false (place_of (slot_k t.number) w))). absurd (ne (ap thread_of_key z.0))) (λ (z : y.exact j ≡ refers m u). z) (refs j m u q);
      hidden = hidden;
      locks = locks;
      marks = marks;
      held = λ u i m z ne runs mark. held u i m z runs mark;
    }

    -- THE SUMS

    -- a value that is counted stood at a key that it left, or stands where it stood
    carried : Carried s1 s2
    carried = record {
      to = flip (at_key c) (at_key k);
      from = flip (at_key c) (at_key k);
      from_to = flip_twice (at_key c) (at_key k);
      to_from = flip_twice (at_key c) (at_key k);
      there = λ l u q i. there l u q i (decide_location l (at_key c)) (decide_location l (at_key k)) (decide_location l (at_key b));
      back = λ l u q i. back l u q i (decide_location l (at_key c)) (decide_location l (at_key k)) (decide_location l (at_key b));
    }
      where
        gone_not : (l : Location) (u : Val) (st : Store) (j : Key) → l ≡ at_key j → st.at j ≡ gone_v → value_at st l ≡ Some u → Counted u → ⊥
        gone_not l u st j q z i m = let d : Some u ≡ Some gone_v = sym i ∙ ap (value_at st) q ∙ ap Some z in let o : u ≡ gone_v = cc in subst Counted o m

        there : (l : Location) (u : Val) → Counted u → value_at s1 l ≡ Some u → (l ≡ at_key c) ⊎ (l ≢ at_key c) → (l ≡ at_key k) ⊎ (l ≢ at_key k) → (l ≡ at_key b) ⊎ (l ≢ at_key b) → value_at s2 (flip (at_key c) (at_key k) l) ≡ Some u
        there l u q i (inl z) nk nb = absurd (gone_not l u s1 c z was_c i q)
        there l u q i (inr nc) (inl z) nb = ap (λ o. value_at s2 (flip (at_key c) (at_key k) o)) z ∙ ap (value_at s2) (flip_second (at_key c) (at_key k)) ∙ ap Some (at_c ∙ sym was_k) ∙ sym (ap (value_at s1) z) ∙ i
        there l u q i (inr nc) (inr nk) (inl z) = absurd (gone_not l u s1 b z was_b i q)
        there l u q i (inr nc) (inr nk) (inr nb) = ap (value_at s2) (flip_third (at_key c) (at_key k) l nc nk) ∙ everywhere l nb nc nk ∙ i

        back : (l : Location) (u : Val) → Counted u → value_at s2 l ≡ Some u → (l ≡ at_key c) ⊎ (l ≢ at_key c) → (l ≡ at_key k) ⊎ (l ≢ at_key k) → (l ≡ at_key b) ⊎ (l ≢ at_key b) → value_at s1 (flip (at_key c) (at_key k) l) ≡ Some u
        back l u q i (inl z) nk nb = ap (λ o. value_at s1 (flip (at_key c) (at_key k) o)) z ∙ ap (value_at s1) (flip_first (at_key c) (at_key k)) ∙ ap Some (was_k ∙ sym at_c) ∙ sym (ap (value_at s2) z) ∙ i
        back l u q i (inr nc) (inl z) nb = absurd (gone_not l u s2 k z at_k i q)
        back l u q i (inr nc) (inr nk) (inl z) = let d : Some u ≡ Some (ref_v f.loc) = sym i ∙ ap (value_at s2) z ∙ ap Some at_b in let o : u ≡ ref_v f.loc = cc in absurd (subst Counted o q)
        back l u q i (inr nc) (inr nk) (inr nb) = ap (value_at s1) (flip_third (at_key c) (at_key k) l nc nk) ∙ sym (everywhere l nb nc nk) ∙ i

    runs_two : place_in (a2.thread t.number) ≡ Some x2
    runs_two = ap place_in lone.now ∙ Rattle.law_plain_values.proofs.acts.OneThread.runs_still ((plain_state s).thread t.number) x1 x2 r.ranked.at.runs

    went_on : (u : ℕ) (z : Running Position) → place_in (a2.thread u) ≡ Some z → (o : Running Position) × (place_in ((plain_state s).thread u) ≡ Some o)
    went_on u z q = ⊎_elim (λ (i : u ≡ t.number). (x1, ap (λ o. place_in ((plain_state s).thread o)) i ∙ r.ranked.at.runs)) (λ (ne : u ≢ t.number). (z, sym (ap place_in (lone.others u ne)) ∙ q)) (decide_number u t.number)

    -- the slots of the thread that are marks of this mutex, below the new one
    mark_below : (m : MutexNo) (i : ℕ) → i ≢ length e → slot_at (Own v ∷ Held f.number ∷ t.slots) i ≡ Some (Held m) → slot_at t.slots i ≡ Some (Held m)
    mark_below m i nb q = ⊎_elim (λ (z : i ≡ suc (length e)). let u : Some (Own v) ≡ Some (Held m) = sym (slot_content i z) ∙ q in cc) (λ (nc : i ≢ suc (length e)). sym (slot_same i nb nc) ∙ q) (decide_number i (suc (length e)))

    mark_still : (m : MutexNo) (i : ℕ) → slot_at t.slots i ≡ Some (Held m) → slot_at (Own v ∷ Held f.number ∷ t.slots) i ≡ Some (Held m)
    mark_still m i q = let low = slot_below t.slots i (Held m) q in slot_same i (λ z. omega (arith, low, z, long)) (λ z. omega (arith, low, z, long)) ∙ q

    -- the mutex has the new mark alone
    only_mark : HasOneMark a2 f.number
    only_mark = record {
      thread = t.number;
      slot = length e;
      is = record { thread = x2; goes_on = runs_two; mark = slot_mark (length e) refl };
      only = λ u i m. ⊎_elim (λ (z : u ≡ t.number). (z, mine u i m z)) (λ (ne : u ≢ t.number). absurd (d.unheld v inside u i (record { thread = m.thread; goes_on = sym (ap place_in (lone.others u ne)) ∙ m.goes_on; mark = m.mark }))) (decide_number u t.number);
    }
      where
        mine : (u i : ℕ) → IsMark a2 f.number u i → u ≡ t.number → i ≡ length e
        mine u i m z =
            let o : Some x2 ≡ Some m.thread = sym runs_two ∙ ap (λ l. place_in (a2.thread l)) (sym z) ∙ m.goes_on in
            let same : m.thread ≡ x2 = cc in
            let q : slot_at (Own v ∷ Held f.number ∷ t.slots) i ≡ Some (Held f.number) = ap (λ (l : Running Position). slot_at l.slots i) (sym same) ∙ m.mark in
            ⊎_elim (λ (j : i ≡ length e). j) (λ (nb : i ≢ length e). absurd (d.unheld v inside t.number i (record { thread = x1; goes_on = r.ranked.at.runs; mark = mark_below f.number i nb q }))) (decide_number i (length e))

    mutexes : (m : MutexNo) (z : Shared) → a2.mutex m ≡ Some z → MutexTyped (typing_with y E2 M2) a2 s2 m z
    mutexes m z q = ⊎_elim same other (decide_mutex m f.number)
      where
        same : m ≡ f.number → MutexTyped (typing_with y E2 M2) a2 s2 m z
        same i =
            let o : Some out ≡ Some z = sym now_out ∙ ap a2.mutex (sym i) ∙ q in
            let is_out : out ≡ z = cc in
            subst (λ l. MutexTyped (typing_with y E2 M2) a2 s2 l z) (sym i) (subst (MutexTyped (typing_with y E2 M2) a2 s2 f.number) is_out (record {
              given = given f.number ∙ d.given;
              shares = as_many Counted s1 s2 carried f.number (λ u. tt) f.shared.shares d.shares;
              needed = d.needed;
              out = λ u. only_mark;
              unheld = λ u l. absurd cc;
              content = λ u l. absurd cc;
            }))

        other : m ≢ f.number → MutexTyped (typing_with y E2 M2) a2 s2 m z
        other ne =
            let o = r.ranked.at.state.mutexes m z (sym (others m ne) ∙ q) in
            let marked = λ (i : ℕ) (l : slot_at (Own v ∷ Held f.number ∷ t.slots) i ≡ Some (Held m)). mark_below m i (λ j. let u : Some (Held f.number) ≡ Some (Held m) = sym (slot_mark i j) ∙ l in ne cc) l in
            record {
              given = given m ∙ o.given;
              shares = as_many Counted s1 s2 carried m (λ u. tt) z.shares o.shares;
              needed = o.needed;
              out = λ u. one_mark_to (plain_state s) a2 t.number x1 x2 r.ranked.at.runs lone.now lone.others m (mark_still m) marked (o.out u);
              unheld = λ u l j i mark. o.unheld u l j i (mark_back (plain_state s) a2 t.number x1 x2 r.ranked.at.runs lone.now lone.others m (mark_still m) marked j i mark);
              content = λ u l. same_type (content_k m.home m.count) ((λ j. cc), (λ j. cc), (λ j. ne (mutex_is m f.number j))) ∙ o.content u l;
            }

    sums : Sums y (plain_state s) a2 E2 M2
    sums = record {
      there = λ q m z. ⊎_elim (λ (i : m ≡ f.number). (out, ap a2.mutex i ∙ now_out)) (λ (ne : m ≢ f.number). let o = r.ranked.at.state.there (carried.from q) m (share_back Counted s1 s2 carried m (λ u. tt) q z) in (o.0, others m ne ∙ o.1)) (decide_mutex m f.number);
      mutexes = mutexes;
      one_task = λ q l u i j o z. sym (carried.to_from q) ∙ ap carried.to (r.ranked.at.state.one_task (carried.from q) (carried.from l) u i j (carried.back q (task_v u i) tt o) (carried.back l (task_v u j) tt z)) ∙ carried.to_from l;
      task_from = λ q u l o. (carried.from q, carried.back q (task_v u l) tt o);
      task_to = λ q u l o. (carried.to q, l, carried.there q (task_v u l) tt o);
      objects_there = λ q o l. let i = r.ranked.at.state.objects_there (carried.from q) o (carried.back q (box_v o) tt l) in (i.0, objects o ∙ i.1);
      objects_owned = λ o u l. let i = r.ranked.at.state.objects_owned o u (sym (objects o) ∙ l) in (carried.to i.0, carried.there i.0 (box_v o) tt i.1);
      objects_made = λ o u z l runs. let i = went_on o.thread z runs in let j = r.ranked.at.state.objects_made o u i.0 (sym (objects o) ∙ l) i.1 in let m = made o.thread in omega (arith, j, m);
    }

    pub lock_typed : PositionTypes (typing_with y E2 M2) a2
    lock_typed = turned r.ranked.at r.ranked.focus base sums

-- THE ACT

record LockRow (x : Entry) (vs : List Value) (w : Lval) (l : Leaves) (z : Entry) : Type 0 where
  env : Env
  temps : List Kind
  result : Owned
  content : Owned
  name : Text
  waits : wait temps ≡ true
  is : HasType env w (found (whole (own (mutex content))))
  free : read_blocked env w.slot ≡ false
  entry : x ≡ going env temps result
  leaves : l ≡ quiet vs
  comes : z ≡ going (with_lock env w name content) temps result

lock_row : {x z : Entry} {vs : List Value} {w : Lval} {l : Leaves} → ActRow StartsAs x vs (do_lock w) l z → LockRow x vs w l z
lock_row (r_lock {e = e} {ts = ts} {g = g} {x = x} name q h b i) = record { env = e; temps = ts; result = g; content = x; name = name; waits = q; is = h; free = b; entry = refl; leaves = refl; comes = refl }

-- where a lock doesn't wait, the content is in
content_in : (z : Shared) (m : MutexNo) → unless_in z.content m ≡ None → (v : Plain) × (z.content ≡ Some v)
content_in z m q = by z.content q
  where
    by : (o : Option Plain) → unless_in o m ≡ None → (v : Plain) × (o ≡ Some v)
    by None i = cc
    by (Some v) i = (v, refl)

module _ (now : Position → Now) (move : Position → Option (Move Position Position)) (y : Typing) (s : Machine Position) (t : Thread Position) (p : Position) (wrap : Position → Life Position) (plug : Value → Position) where
  lock_steps : (w : Lval) → act_waits s t (do_lock w) ≡ None → Ready y s t p wrap (do_lock w) plug → StepsTyped y (moves_by now move) s t fresh.None (record { act = do_lock w; plug = λ z. wrap (plug z) })
  lock_steps w enabled r =
      let i = lock_row r.row in
      let x : Running Position = record { place = p; slots = t.slots } in
      let n = t.number in
      let h : At y (plain_state s) n x i.env i.temps i.result = record { state = r.state; runs = runs_here s t p wrap r.goes_on r.found r.at; entry = i.entry } in
      let z = roomy y (plain_state s) n x i.env i.temps i.result h i.waits in
      let f = found_mutex s t p i.env i.temps i.temps None i.result i.content w z.ranked i.is in
      let v = content_in f.shared f.number (sym (ap (lock_waits s) f.behind ∙ ap (λ o. content_waits o f.number) f.there) ∙ enabled) in
      let q : Position = record { entry = going (with_lock i.env w i.name i.content) i.temps i.result; temps = p.temps } in
      let out : Shared = record { content = None; shares = f.shared.shares } in
      let ms = with_mutex s.mutexes f.number (Some out) in
      let slots = Own v.0 ∷ Held f.number ∷ t.slots in
      let a2 = plain_state (record s { threads = with_thread s.threads (record { number = t.number; life = wrap q; slots = slots }); mutexes = ms }) in
      let only = only_here s t p wrap r.goes_on r.found r.at q slots s.heap s.output (λ u. omega arith) in
      let st = lock_typed s t p i.env i.temps i.result i.content w i.name z f i.is i.free v.0 v.1 a2 (record { now = only.now; others = only.others; pairs = only.pairs }) (λ o. refl) only.made (there_set s.mutexes f.number (Some out) f.shared f.there)
      (λ k ne. there_off s.mutexes f.number (Some out) k ne) (λ k. given_set s.mutexes f.number (Some out) k) in
      step_by now move s t wrap (record { act = do_lock w; plug = λ u. wrap (plug u) }) plug unit_value q (λ l. record s { threads = with_thread s.threads (record { number = t.number; life = l; slots = slots }); mutexes = ms }) (f.labels ++ label.Lock f.number ∷ []) y _ r.goes_on
      (r.comes unit_value ∙ ap₂ (λ b k. record { entry = b; temps = left_after k unit_value }) i.comes i.leaves)
      (ap (λ o. nameless fresh.None (at_mutex (moves_by now move) s o (locked (moves_by now move) s t (record { act = do_lock w; plug = λ u. wrap (plug u) })))) f.behind
      ∙ ap (λ o. nameless fresh.None (where_there (moves_by now move) o (locked (moves_by now move) s t (record { act = do_lock w; plug = λ u. wrap (plug u) }) f.number f.labels))) f.there
      ∙ ap (λ o. nameless fresh.None (locked_with (moves_by now move) s t (record { act = do_lock w; plug = λ u. wrap (plug u) }) f.number f.labels f.shared o)) v.1)
      st
      z.ranked.names
      (λ j u e. z.ranked.refs j u (lock_none z.ranked.typing.exact (slot_k n (length i.env)) (slot_k n (suc (length i.env))) (content_k f.number.home f.number.count) (place_of (slot_k n) w) (tree_of i.content) j u e))

pub lock_keeps : KeepsUnlessWaiting IsLocking
lock_keeps now move y s t p wrap act plug h e r =
    subst (λ a. StepsTyped y (moves_by now move) s t fresh.None (record { act = a; plug = λ z. wrap (plug z) })) (sym h.1)
    (lock_steps now move y s t p wrap plug h.0 (subst (λ a. act_waits s t a ≡ None) h.1 e) (subst (λ a. Ready y s t p wrap a plug) h.1 r))
