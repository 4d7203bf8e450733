-- The captures of a par, one by one, while the thread that starts both waits.
use Rattle.std.proofs.Common.{◌≡◌, ◌≢◌, ◌⊎◌, inl, inr, ◌∙◌, ℕ, suc, ◌<◌, Bool, true, false, List, [], ◌∷◌, length, Option, Some, None, refl, sym, ap, subst, arith}
use Rattle.std.specs.Prelude.{not, if◌then◌else◌, is_some}
use Rattle.fr_base.specs.declared.label.Plain.{Plain}
use Rattle.fr_base.specs.declared.label.Plain.TheVariants as plain
use Rattle.fr_base.specs.declared.name.ObjNo.{ObjNo}
use Rattle.fr_base.specs.declared.name.MutexNo.{MutexNo}
use Rattle.fr_terms.specs.Terms.{Text, Captured}
use Rattle.fr_typing.specs.Kinds.{Owned, unit, Kind, own, shared, mutable, view, whole, gone, copies, map_some}
use Rattle.fr_typing.specs.Places.{Slot, Env, found, type_at, same_name, read_blocked, write_blocked, heap_type, put_at, slot_of}
use Rattle.fr_typing.specs.Captures.{by_par, captured_kind, captured_slot, MayPass}
use Rattle.fr_typing.proofs.PlaceLemmas.{eq_cases}
use Rattle.fr_store.specs.Keys.{slot_k, temp_k}
use Rattle.fr_store.specs.Typed.{Exact, owns, refers, KeyTypes}
use Rattle.fr_store.specs.Below.{tree_of}
use Rattle.fr_store.specs.Thread.{ThreadKeys}
use Rattle.fr_plain.specs.declared.value.Value.{Value}
use Rattle.fr_plain.specs.declared.value.Value.TheVariants.{Own, ToObject}
use Rattle.fr_plain.specs.State.{slot_at, with_slot}
use Rattle.fr_plain.specs.PlainState.{Running, PlainState, place_in}
use Rattle.fr_sound.specs.Entries.{going, forked_at}
use Rattle.fr_sound.specs.Seen.{Gives}
use Rattle.fr_sound.specs.States.{Typing, env_at, is_hidden}
use Rattle.law_plain_values.specs.acts.Positions.{Position, PositionTypes}
use Rattle.law_plain_values.proofs.acts.OneThread.{with_running}
use Rattle.law_plain_values.proofs.acts.Refs.{NoneNew, none_with}
use Rattle.law_plain_values.proofs.acts.Raised.{raised, raised_typing}
use Rattle.law_plain_values.proofs.acts.Focus.{top_none, Focus, focus}
use Rattle.law_plain_values.proofs.acts.Hand.{room, pushed_others}
use Rattle.law_plain_values.proofs.acts.Written.{slot_unwritten}
use Rattle.law_plain_threads.proofs.threads.Passed.{Passes}
use Rattle.law_plain_threads.proofs.threads.AllPass.{named_below, Copied, Moved, Passing}
use Rattle.law_plain_threads.proofs.threads.Forked.{Forked, parent_hidden, parent_free, forked_giver, caught}
use Rattle.law_plain_threads.proofs.threads.GivenCopy.{Copies, copy_given}
use Rattle.law_plain_threads.proofs.threads.GivenMove.{move_given, move_refs}
use Rattle.law_plain_threads.proofs.threads.GivenValues.{owned_type, owned_there, owned_copies}
use Rattle.law_plain_threads.proofs.threads.ForkedViews.{view_there, view_copies}
use Rattle.law_plain_threads.proofs.threads.Given.{new_many}
use Rattle.fr_store.specs.Store.{Place}

-- RANKS

-- temporary values of both children rank above their slots
pub record HasRoom (gs : Gives) (E0 : KeyTypes) (a : PlainState Position) (t u w : ℕ) (x xu xw : Running Position) (e n m : Env) (ts : List Kind) (g : Owned) : Type 0 where
  pub typing : Typing
  pub names : typing.gives ≡ gs
  pub refs : NoneNew E0 typing.exact
  pub forked : Forked typing a t u w x xu xw e n m ts g
  pub focus : Focus typing a u n [] None
  pub focus_other : Focus typing a w m [] None

pub has_room : {gs : Gives} {E0 : KeyTypes} (y : Typing) (a : PlainState Position) (t u w : ℕ) (x xu xw : Running Position) (e n m : Env) (ts : List Kind) (g : Owned) → Forked y a t u w x xu xw e n m ts g → y.gives ≡ gs → NoneNew E0 y.exact → HasRoom gs E0 a t u w x xu xw e n m ts g
has_room y a t u w x xu xw e n m ts g f same none = record {
  typing = y2;
  names = same;
  refs = none;
  forked = record {
    state = state;
    runs = f.runs;
    entry = f.entry;
    idle = f.idle;
    first = record { state = state; runs = f.first.runs; entry = f.first.entry };
    second = record { state = state; runs = f.second.runs; entry = f.second.entry };
    differ = f.differ;
    other = f.other;
    apart = f.apart;
    waits = f.waits;
    waits_other = f.waits_other;
    only = f.only;
    foreign = f.foreign;
    low = f.low;
    low_other = f.low_other;
  };
  focus = focus y2 a u xu n [] unit state f.first.runs f.first.entry (λ i k le. let r = room y u n keys_one i k le in omega (arith, r)) [] None top_none (λ q. refl);
  focus_other = focus y2 a w xw m [] unit state f.second.runs f.second.entry (room y1 w m keys_two) [] None top_none (λ q. refl);
}
  where
    y1 : Typing
    y1 = raised_typing (suc (y.rank (slot_k u (length n)))) y

    y2 : Typing
    y2 = raised_typing (suc (y1.rank (slot_k w (length m)))) y1

    state : PositionTypes y2 a
    state = raised (suc (y1.rank (slot_k w (length m)))) y1 a (raised (suc (y.rank (slot_k u (length n)))) y a f.state)

    keys_one : ThreadKeys (slot_k u) y.rank (temp_k u 0)
    keys_one = let r = (f.state.threads u xu f.first.runs).keys in record { differ = r.differ; off = λ i q. absurd cc; ranks = r.ranks }

    keys_two : ThreadKeys (slot_k w) y1.rank (temp_k w 0)
    keys_two = let r = (f.state.threads w xw f.second.runs).keys in record { differ = r.differ; off = λ i q. absurd cc; ranks = λ i j l. r.ranks i j l }

-- the two change places
pub swapped : {y : Typing} {a : PlainState Position} {t u w : ℕ} {x xu xw : Running Position} {e n m : Env} {ts : List Kind} {g : Owned} → Forked y a t u w x xu xw e n m ts g → Forked y a t w u x xw xu e m n ts g
swapped f = record {
  state = f.state;
  runs = f.runs;
  entry = f.entry;
  idle = f.idle;
  first = f.second;
  second = f.first;
  differ = f.other;
  other = f.differ;
  apart = λ q. f.apart (sym q);
  waits = f.waits_other;
  waits_other = f.waits;
  only = λ v h. turn (f.only v h);
  foreign = f.foreign;
  low = f.low_other;
  low_other = f.low;
}
  where
    turn : {A B : Type 0} → A ⊎ B → B ⊎ A
    turn (inl p) = inr p
    turn (inr p) = inl p

-- KINDS

-- what par makes of a captured type
par_kind : (e : Env) (k l : Kind) → captured_kind by_par e k ≡ Some l → ((o : Owned) × (k ≡ own o) × (l ≡ own o)) ⊎ ((o : Owned) × (l ≡ view o))
par_kind e (own o) l h = let f : own o ≡ l = cc in inl (o, refl, sym f)
par_kind e (view o) l h = let f : view o ≡ l = cc in inr (o, sym f)
par_kind e (shared us) l h = by (heap_type e us) h
  where
    by : (q : Option Owned) → map_some view q ≡ Some l → ((o : Owned) × (shared us ≡ own o) × (l ≡ own o)) ⊎ ((o : Owned) × (l ≡ view o))
    by None h = cc
    by (Some o) h = let f : view o ≡ l = cc in inr (o, sym f)
par_kind e (mutable us) l h = cc

-- what moves is owned
par_moves : (e : Env) (k l : Kind) → captured_kind by_par e k ≡ Some l → copies k ≡ false → (o : Owned) × (k ≡ own o) × (l ≡ own o)
par_moves e (own o) l h c = let f : own o ≡ l = cc in (o, refl, sym f)
par_moves e (view o) l h c = cc
par_moves e (shared us) l h c = cc
par_moves e (mutable us) l h c = cc

-- a slot that a name has is no mark
shown_if : (b : Bool) (s : Slot) (below : Env) (x : Text) (i : ℕ) → same_name s.name x ≡ b → (slot_of below x ≡ Some i → is_hidden (env_at below i) ≡ false) → (slot_of below x ≡ Some i → i < length below) → (if b then Some (length below) else slot_of below x) ≡ Some i → is_hidden (env_at (s ∷ below) i) ≡ false
shown_if true s below x i named go low h =
    let e : length below ≡ i = cc in
    eq_cases (λ b. is_hidden (if b then Some s else env_at below i) ≡ false) i (length below) (λ q. by s.name named) (λ ne. absurd (ne (sym e)))
  where
    by : (q : Option Text) → same_name q x ≡ true → not (is_some q) ≡ false
    by None h = cc
    by (Some z) h = refl
shown_if false s below x i named go low h = eq_cases (λ b. is_hidden (if b then Some s else env_at below i) ≡ false) i (length below) (λ q. let l = low h in absurd (omega (arith, l, q))) (λ ne. go h)

shown : (e : Env) (x : Text) (i : ℕ) → slot_of e x ≡ Some i → is_hidden (env_at e i) ≡ false
shown [] x i h = cc
shown (s ∷ below) x i h = shown_if (same_name s.name x) s below x i refl (shown below x i) (named_below below x i) h

-- STATES THAT DIFFER IN THE SLOTS OF TWO

-- states of which the parent and one child have these slots and environments
pub record Family (t u : ℕ) (ts : List Kind) (g : Owned) (temps : List Value) (state : Env → List Value → Env → List Value → PlainState Position) : Type 0 where
  pub now : (e e2 : Env) (sl sl2 : List Value) (n n2 : Env) (new new2 : List Value) → (state e2 sl2 n2 new2).thread t ≡ with_running ((state e sl n new).thread t) (record { place = record { entry = forked_at e2 ts g; temps = temps }; slots = sl2 })
  pub now_new : (e e2 : Env) (sl sl2 : List Value) (n n2 : Env) (new new2 : List Value) → (state e2 sl2 n2 new2).thread u ≡ with_running ((state e sl n new).thread u) (record { place = record { entry = going n2 [] unit; temps = [] }; slots = new2 })
  pub others : (e e2 : Env) (sl sl2 : List Value) (n n2 : Env) (new new2 : List Value) (w : ℕ) → w ≢ t → w ≢ u → (state e2 sl2 n2 new2).thread w ≡ (state e sl n new).thread w
  pub pairs : (e e2 : Env) (sl sl2 : List Value) (n n2 : Env) (new new2 : List Value) (w : ℕ) → (state e2 sl2 n2 new2).pair w ≡ (state e sl n new).pair w
  pub mutexes : (e e2 : Env) (sl sl2 : List Value) (n n2 : Env) (new new2 : List Value) (q : MutexNo) → (state e2 sl2 n2 new2).mutex q ≡ (state e sl n new).mutex q
  pub given : (e e2 : Env) (sl sl2 : List Value) (n n2 : Env) (new new2 : List Value) (q : MutexNo) → (state e2 sl2 n2 new2).is_given q ≡ (state e sl n new).is_given q
  pub objects : (e e2 : Env) (sl sl2 : List Value) (n n2 : Env) (new new2 : List Value) (o : ObjNo) → (state e2 sl2 n2 new2).object o ≡ (state e sl n new).object o
  pub made : (e : Env) (sl : List Value) (n : Env) (new : List Value) (o : ObjNo) (v : Plain) (w : Running Position) → (state e sl n new).object o ≡ Some v → place_in ((state e sl n new).thread o.thread) ≡ Some w → o.count < (state e sl n new).made o.thread

module _ {t u : ℕ} {ts : List Kind} {g : Owned} {temps : List Value} {state : Env → List Value → Env → List Value → PlainState Position} (family : Family t u ts g temps state) (w : ℕ) (xw : Running Position) (m : Env) (gs : Gives) (E0 : KeyTypes) where
  abbrev pub parent : Env → List Value → Running Position
  parent e sl = record { place = record { entry = forked_at e ts g; temps = temps }; slots = sl }

  abbrev pub child : Env → List Value → Running Position
  child n new = record { place = record { entry = going n [] unit; temps = [] }; slots = new }

  -- the state is typed, and the thread waits for its two
  abbrev pub IsForked : Env → List Value → Env → List Value → Type 0
  IsForked e sl n new = (y : Typing) × Forked y (state e sl n new) t u w (record { place = record { entry = forked_at e ts g; temps = temps }; slots = sl }) (record { place = record { entry = going n [] unit; temps = [] }; slots = new }) xw e n m ts g × (y.gives ≡ gs) × NoneNew E0 y.exact

  passing : (e e2 : Env) (sl sl2 : List Value) (n : Env) (s : Slot) (new : List Value) (v : Value) (i : ℕ) {y : Typing} → Forked y (state e sl n new) t u w (parent e sl) (child n new) xw e n m ts g → length new ≡ length n → ((b : ℕ) → b ≢ i → slot_at sl2 b ≡ slot_at sl b)
      → Passes (state e sl n new) (state e2 sl2 (s ∷ n) (v ∷ new)) t u (parent e sl) (parent e2 sl2) (child n new) (child (s ∷ n) (v ∷ new)) i (length n)
  passing e e2 sl sl2 n s new v i f many same = record {
    runs = f.runs;
    runs_new = f.first.runs;
    now = family.now e e2 sl sl2 n (s ∷ n) new (v ∷ new);
    now_new = family.now_new e e2 sl sl2 n (s ∷ n) new (v ∷ new);
    others = family.others e e2 sl sl2 n (s ∷ n) new (v ∷ new);
    pairs = family.pairs e e2 sl sl2 n (s ∷ n) new (v ∷ new);
    mutexes = family.mutexes e e2 sl sl2 n (s ∷ n) new (v ∷ new);
    given = family.given e e2 sl sl2 n (s ∷ n) new (v ∷ new);
    objects = family.objects e e2 sl sl2 n (s ∷ n) new (v ∷ new);
    made = family.made e2 sl2 (s ∷ n) (v ∷ new);
    temps = refl;
    temps_new = refl;
    slots = same;
    slots_new = λ b ne. pushed_others v new b (length n) (sym many) ne;
  }

  -- a copy, or a view
  put : (e n : Env) (sl new : List Value) (name : Text) (l : Kind) (v : Value) (i : ℕ) (p : Exact) → ((b : Place) → p ≡ refers true b → ⊥) → (r : HasRoom gs E0 (state e sl n new) t u w (parent e sl) (child n new) xw e n m ts g) → Copies r.typing (state e sl n new) t u (parent e sl) n l v i p
      → IsForked e sl (record { name = Some name; part = whole l } ∷ n) (v ∷ new)
  put e n sl new name l v i p light r c =
      let f = forked_giver r.forked r.focus in
      let q = passing e e sl sl n (record { name = Some name; part = whole l }) new v i r.forked (new_many f) (λ b ne. refl) in
      (_, caught r.forked r.focus r.focus_other q (copy_given f name c q refl refl), r.names, λ j b e2. r.refs j b (none_with r.typing.exact (slot_k u (length n)) p light j b e2))

  copy : (e n : Env) (sl new : List Value) (c : Captured) (i : ℕ) (k l : Kind) → IsForked e sl n new → MayPass by_par e c i k l → copies k ≡ true → read_blocked e i ≡ false → Copied by_par IsForked e sl n new c i l
  copy e n sl new c i k l st may copied free = by (par_kind e k l may.becomes)
    where
      r : HasRoom gs E0 (state e sl n new) t u w (parent e sl) (child n new) xw e n m ts g
      r = has_room st.0 (state e sl n new) t u w (parent e sl) (child n new) xw e n m ts g st.1 st.2 st.3

      lt : i < length e
      lt = named_below e c.name i may.is.named

      by : ((o : Owned) × (k ≡ own o) × (l ≡ own o)) ⊎ ((o : Owned) × (l ≡ view o)) → Copied by_par IsForked e sl n new c i l
      by (inl o) =
          let type : type_at e (record { slot = i; depth = 0 }) ≡ found (whole (own o.0)) = may.is.is ∙ ap (λ b. found (whole b)) o.1 in
          let f = forked_giver r.forked r.focus in
          let v = owned_there f i lt o.0 type in
          let q = owned_copies f i lt o.0 type (ap copies (sym o.1) ∙ copied) v.0 v.1 in
          record { value = Own v.0; is = v.1; stays = ap copies (o.2 ∙ sym o.1) ∙ copied; kept = put e n sl new c.name l (Own v.0) i (owns (tree_of o.0)) (λ b f. cc) r (subst (λ b. Copies r.typing (state e sl n new) t u (parent e sl) n b (Own v.0) i (owns (tree_of o.0))) (sym o.2) q) }
      by (inr o) =
          let hidden = sym (parent_hidden r.forked i) ∙ shown e c.name i may.is.named in
          let becomes = may.becomes ∙ ap Some o.1 in
          let v = view_there r.forked r.focus i lt k o.0 may.is.is becomes hidden in
          let q = view_copies r.forked r.focus i lt k o.0 may.is.is becomes hidden free v.0 v.1 in
          record {
            value = ToObject v.0;
            is = v.1;
            stays = ap copies o.1;
            kept = put e n sl new c.name l (ToObject v.0) i (refers false (record { key = slot_k t i; depth = 1 })) (λ b f. cc) r (subst (λ b. Copies r.typing (state e sl n new) t u (parent e sl) n b (ToObject v.0) i (refers false (record { key = slot_k t i; depth = 1 }))) (sym o.1) q);
          }

  move : (e n : Env) (sl new : List Value) (c : Captured) (i : ℕ) (k l : Kind) → IsForked e sl n new → MayPass by_par e c i k l → copies k ≡ false → write_blocked e i ≡ false → Moved by_par IsForked e sl n new c i k l
  move e n sl new c i k l st may moves free =
      let r = has_room st.0 (state e sl n new) t u w (parent e sl) (child n new) xw e n m ts g st.1 st.2 st.3 in
      let o = par_moves e k l may.becomes moves in
      let type : type_at e (record { slot = i; depth = 0 }) ≡ found (whole (own o.0)) = may.is.is ∙ ap (λ b. found (whole b)) o.1 in
      let lt = named_below e c.name i may.is.named in
      let f = forked_giver r.forked r.focus in
      let v = owned_there f i lt o.0 type in
      let open_to = parent_free r.forked i (tree_of o.0) (owned_type f i lt o.0 type) free in
      let step = passing e (put_at e (record { slot = i; depth = 0 }) (gone (own o.0))) sl (with_slot sl i (Own plain.Nothing)) n (captured_slot c (own o.0)) new (Own v.0) i r.forked (new_many f) (λ b ne. slot_unwritten sl i b (Own plain.Nothing) ne) in
      let d : IsForked (put_at e (record { slot = i; depth = 0 }) (gone (own o.0))) (with_slot sl i (Own plain.Nothing)) (captured_slot c (own o.0) ∷ n) (Own v.0 ∷ new) = (_, caught r.forked r.focus r.focus_other step (move_given f c.name i o.0 v.0 type open_to v.1 step refl refl), r.names, λ j b f2. r.refs j b (move_refs f c.name i o.0 v.0 type open_to v.1 step refl refl j true b f2)) in
      record {
        value = Own v.0;
        is = v.1;
        goes = ap copies (o.2 ∙ sym o.1) ∙ moves;
        kept = subst (λ b. IsForked (put_at e (record { slot = i; depth = 0 }) (gone b)) (with_slot sl i (Own plain.Nothing)) (captured_slot c l ∷ n) (Own v.0 ∷ new)) (sym o.1)
            (subst (λ b. IsForked (put_at e (record { slot = i; depth = 0 }) (gone (own o.0))) (with_slot sl i (Own plain.Nothing)) (captured_slot c b ∷ n) (Own v.0 ∷ new)) (sym o.2) d);
      }

  pub forked_passing : Passing by_par IsForked
  forked_passing = record { copy = copy; move = move }
