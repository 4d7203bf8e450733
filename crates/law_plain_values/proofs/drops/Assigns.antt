-- An assignment of an owned value keeps a state typed.
use Rattle.std.proofs.Common.{◌≡◌, ◌∙◌, ap₂, ℕ, zero, suc, ◌<◌, Bool, true, false, List, ◌∷◌, ◌++◌, length, Option, Some, refl, sym, ap, subst, arith, inl}
use Rattle.std.specs.Prelude.{◌||◌, not, if◌then◌else◌}
use Rattle.fr_base.specs.declared.label.Plain.{Plain}
use Rattle.fr_base.specs.declared.place.Lval.{Lval}
use Rattle.fr_base.specs.declared.step.Fresh.TheVariants as fresh
use Rattle.fr_typing.specs.Kinds.{Owned, Kind, own, shared, mutable, view, Piece, whole}
use Rattle.fr_typing.specs.Places.{Env, found, on_path, is_lent, is_mutable, is_writable, is_own_path, owned_shape, piece_shape, shape_at, type_at, put_at}
use Rattle.fr_typing.specs.Checks.{is_kept_out, has_shape_of, names_from, set_through}
use Rattle.fr_typing.specs.Finding.{IsOpen}
use Rattle.fr_store.specs.Keys.{slot_k}
use Rattle.fr_store.specs.Typed.{Tree}
use Rattle.fr_store.specs.Below.{TreeOf}
use Rattle.fr_plain.specs.declared.value.Value.{Value}
use Rattle.fr_plain.specs.declared.value.Value.TheVariants.{Own}
use Rattle.fr_plain.specs.State.{drops, in_slot, slot_at, stores, with_slot, with_value, then_reached}
use Rattle.fr_plain.specs.State as machine
use Rattle.fr_plain.specs.MachineActs.{do_assign, assign_did, end_of_some, where_reached, unit as unit_value}
use Rattle.fr_plain.specs.MachineThreads.{Now, Move, Life, Thread, Whole as Machine, state_of, with_thread, dropped}
use Rattle.fr_plain.specs.Machine.{prints, nameless, then_released, stepped}
use Rattle.fr_plain.specs.PlainState.{Running, plain_state}
use Rattle.fr_plain.proofs.ByName.{put_in, put_at as put_thread}
use Rattle.fr_sound.specs.Entries.{Entry, going}
use Rattle.fr_sound.specs.States.{Typing}
use Rattle.fr_code.specs.CodeTypes.{HasType}
use Rattle.law_plain_values.specs.acts.Positions.{Position, moves_by, StartsAs}
use Rattle.law_plain_values.specs.acts.ActRows.{Leaves, quiet, left_after, Pops, ActRow, r_assign}
use Rattle.law_plain_values.specs.acts.Keeps.{Ready, StepsTyped}
use Rattle.law_plain_values.proofs.acts.Raised.{raised_typing}
use Rattle.law_plain_values.proofs.acts.Focus.{top_some}
use Rattle.law_plain_values.proofs.acts.Hand.{At, ranked}
use Rattle.law_plain_values.proofs.acts.Operands.{Loaded, load}
use Rattle.law_plain_values.proofs.acts.Places.{variable_below}
use Rattle.law_plain_values.proofs.acts.Done.{runs_here, only_here, step_by}
use Rattle.law_plain_values.specs.drops.Drops.{with_carrier}
use Rattle.law_plain_values.proofs.drops.Prepared.{name_for}
use Rattle.law_plain_values.proofs.drops.HandGoes.{hand_tree}
use Rattle.law_plain_values.proofs.drops.Discards.{carried}
use Rattle.law_plain_values.proofs.drops.Dropped.{Dropping, drop_typed}
use Rattle.law_plain_values.proofs.drops.Parts.{shape_is}
use Rattle.law_plain_values.proofs.drops.Puts.{Target, before, at_before, focus_before, carries_before, differ_before, standing, put_down}
use Rattle.law_plain_values.proofs.drops.Targets.{own_target, lent_target}
use Rattle.law_plain_values.proofs.acts.Refs.{NoneNew}

pub record AssignRow (x : Entry) (vs : List Value) (w : Lval) (v : Value) (l : Leaves) (z : Entry) : Type 0 where
  pub env : Env
  pub temps : List Kind
  pub after : List Kind
  pub left : List Value
  pub result : Owned
  pub kind : Kind
  pub piece : Piece
  pub pops : Pops temps vs v kind after left
  pub is : HasType env w (found piece)
  pub open_place : IsOpen env w
  pub kept : is_kept_out kind w.depth ≡ false
  pub shape : has_shape_of env piece kind ≡ true
  pub names : names_from w.slot kind ≡ false
  pub entry : x ≡ going env temps result
  pub leaves : l ≡ quiet left
  pub comes : z ≡ going (set_through env w kind) after result

pub assign_row : {x z : Entry} {vs : List Value} {w : Lval} {v : Value} {l : Leaves} → ActRow StartsAs x vs (do_assign w v) l z → AssignRow x vs w v l z
assign_row (r_assign {e = e} {ts = ts} {us = us} {ws = ws} {g = g} {k = k} {p = p} pops h o kept shape names) = record { env = e; temps = ts; after = us; left = ws; result = g; kind = k; piece = p; pops = pops; is = h; open_place = o; kept = kept; shape = shape; names = names; entry = refl; leaves = refl; comes = refl }

-- PATHS

both_or : (a b c d : Bool) → ((a || b) || (c || d)) ≡ ((a || c) || (b || d))
both_or true b c d = refl
both_or false true true d = refl
both_or false true false d = refl
both_or false false true d = refl
both_or false false false d = refl

-- what is lent or mutable on the path
on_path_or : (e : Env) (x d : ℕ) → on_path (λ f. is_lent f || is_mutable f) e x d ≡ (on_path is_lent e x d || on_path is_mutable e x d)
on_path_or e x zero = refl
on_path_or e x (suc d) =
    let f = type_at e (record { slot = x; depth = d }) in
    ap (λ b. b || (is_lent f || is_mutable f)) (on_path_or e x d) ∙ both_or (on_path is_lent e x d) (on_path is_mutable e x d) (is_lent f) (is_mutable f)

-- a path with no shared reference and no mutable one is over boxes alone
own_by : (e : Env) (w : Lval) → is_writable e w ≡ true → on_path is_mutable e w.slot w.depth ≡ false → is_own_path e w ≡ true
own_by e w h m = ap not (on_path_or e w.slot w.depth ∙ ap (λ b. on_path is_lent e w.slot w.depth || b) m) ∙ by (on_path is_lent e w.slot w.depth) h
  where
    by : (b : Bool) → not b ≡ true → not (b || false) ≡ true
    by true h = h
    by false h = refl

module _ (now : Position → Now) (move : Position → Option (Move Position Position)) (y : Typing) (s : Machine Position) (t : Thread Position) (p : Position) (wrap : Position → Life Position) (plug : Value → Position) (w : Lval) (v : Plain) (r : Ready y s t p wrap (do_assign w (Own v)) plug) (i : AssignRow p.entry p.temps w (Own v) r.leaves r.after) where
  abbrev x : Running Position
  x = record { place = p; slots = t.slots }

  abbrev m : Move Position (Life Position)
  m = record { act = do_assign w (Own v); plug = λ z. wrap (plug z) }

  here : At y (plain_state s) t.number x i.env i.temps i.result
  here = record { state = r.state; runs = runs_here s t p wrap r.goes_on r.found r.at; entry = i.entry }

  loaded : Loaded y (plain_state s) t.number x i.env i.after i.result i.kind (Own v) i.left
  loaded = load y (plain_state s) t.number x i.env i.result here refl i.pops

  -- where the value goes to a place of that type
  module _ (o : Owned) (l : Loaded y (plain_state s) t.number x i.env i.after i.result (own o) (Own v) i.left) (e2 : Env) (comes : plug unit_value ≡ record { entry = going e2 i.after i.result; temps = i.left }) where
    abbrev s1 : Machine Position
    s1 = before s t p wrap r.goes_on r.found r.at i.env e2 i.after i.result i.left l.waits s.output

    abbrev q1 : Position
    q1 = record { entry = going i.env i.after i.result; temps = i.left }

    abbrev t1 : Thread Position
    t1 = record { number = t.number; life = wrap q1; slots = t.slots }

    moved : (z : Typing) × Dropping (name_for s1) s1 z (whole (own o)) v × (z.gives ≡ y.gives) × NoneNew y.exact z.exact
    moved = carried l s1 (only_here s t p wrap r.goes_on r.found r.at q1 t.slots s.heap s.output (λ z. omega arith)) (λ b. refl) t1 (put_thread s.threads t1 t.number refl ∙ ap (put_in t1) r.found)

    module _ (target : Target (raised_typing (suc (moved.0.rank (slot_k t.number (length i.env)))) moved.0) (plain_state (with_carrier s1 (name_for s1) (whole (own o)) (moved.0.gives.result (name_for s1)) v)) t.number (name_for s1) i.env e2 w) where
      put_steps : StepsTyped y (moves_by now move) s t fresh.None (record { act = do_assign w (Own v); plug = λ z. wrap (plug z) })
      put_steps =
          let b = standing s t p wrap r.goes_on r.found r.at i.env e2 i.after i.result i.left l.waits s.output moved.1 w i.is.named target in
          let labels = b.reached.passed ++ drops (Own b.old) ++ stores b.reached.spot (Own v) in
          let d = put_down s t p wrap r.goes_on r.found r.at i.env e2 i.after i.result i.left l.waits s.output moved.1 w i.is.named target (s.output ++ prints labels) in
          let st2 = with_value (state_of s t) b.reached.spot (Own v) in
          let done = drop_typed (name_for s1) (record s { threads = with_thread s.threads (record { number = t.number; life = wrap (record { entry = going e2 i.after i.result; temps = i.left }); slots = st2.slots }); heap = st2.heap; output = s.output ++ prints labels }) _ target.part b.old d in
          step_by now move s t wrap m plug unit_value (record { entry = going e2 i.after i.result; temps = i.left })
          (λ life. dropped (record s { threads = with_thread s.threads (record { number = t.number; life = life; slots = st2.slots }); heap = st2.heap; output = s.output ++ prints labels }) b.old) labels y done.0 r.goes_on comes
          (ap (λ o. nameless fresh.None (then_released (where_reached o (λ k. end_of_some (with_value (state_of s t) k.spot (Own v)).heap (machine.value_at (state_of s t) k.spot))) (stepped (moves_by now move) s t m (then_reached o (λ k. assign_did (state_of s t) (Own v) k (machine.value_at (state_of s t) k.spot)))))) b.is
          ∙ ap (λ o. nameless fresh.None (then_released (end_of_some st2.heap o) (stepped (moves_by now move) s t m (assign_did (state_of s t) (Own v) b.reached o)))) b.stands)
          done.1
          (done.2 ∙ moved.2)
          (λ j b f. let g = done.3 j b f in inl (moved.3 j b (target.refs j true b g), λ flat at. target.kept b flat (ap target.types (sym at) ∙ g)))

  -- by the path
  owned_by : (o : Owned) → i.kind ≡ own o → StepsTyped y (moves_by now move) s t fresh.None (record { act = do_assign w (Own v); plug = λ z. wrap (plug z) })
  owned_by o e = by (on_path is_mutable i.env w.slot w.depth) refl
    where
      l : Loaded y (plain_state s) t.number x i.env i.after i.result (own o) (Own v) i.left
      l = subst (λ k. Loaded y (plain_state s) t.number x i.env i.after i.result k (Own v) i.left) e loaded

      shape : piece_shape (shape_at i.env) i.piece ≡ Some (owned_shape o)
      shape = shape_is (piece_shape (shape_at i.env) i.piece) o (ap (has_shape_of i.env i.piece) (sym e) ∙ i.shape)

      lt : w.slot < length i.env
      lt = variable_below i.env w.slot i.is.named

      comes : (e2 : Env) → set_through i.env w (own o) ≡ e2 → plug unit_value ≡ record { entry = going e2 i.after i.result; temps = i.left }
      comes e2 f = r.comes unit_value ∙ ap₂ (λ a b. record { entry = a; temps = left_after b unit_value }) (i.comes ∙ ap (λ d. going d i.after i.result) (ap (set_through i.env w) e ∙ f)) i.leaves

      by : (b : Bool) → on_path is_mutable i.env w.slot w.depth ≡ b → StepsTyped y (moves_by now move) s t fresh.None (record { act = do_assign w (Own v); plug = λ z. wrap (plug z) })
      by false f =
          let e2 = put_at i.env w (whole (own o)) in
          let c = comes e2 (ap (λ d. if d then i.env else e2) f) in
          let d = moved o l e2 c in
          put_steps o l e2 c
          (own_target (at_before s t p wrap r.goes_on r.found r.at i.env e2 i.after i.result i.left l.waits s.output d.1) (focus_before s t p wrap r.goes_on r.found r.at i.env e2 i.after i.result i.left l.waits s.output d.1)
          (carries_before s t p wrap r.goes_on r.found r.at i.env e2 i.after i.result i.left l.waits s.output d.1) (differ_before s t p wrap r.goes_on r.found r.at i.env e2 i.after i.result i.left l.waits s.output d.1) w i.piece lt i.is.is shape i.open_place.free (own_by i.env w i.open_place.path f))
      by true f =
          let c = comes i.env (ap (λ d. if d then i.env else put_at i.env w (whole (own o))) f) in
          let d = moved o l i.env c in
          put_steps o l i.env c
          (lent_target (at_before s t p wrap r.goes_on r.found r.at i.env i.env i.after i.result i.left l.waits s.output d.1) (focus_before s t p wrap r.goes_on r.found r.at i.env i.env i.after i.result i.left l.waits s.output d.1)
          (carries_before s t p wrap r.goes_on r.found r.at i.env i.env i.after i.result i.left l.waits s.output d.1) (differ_before s t p wrap r.goes_on r.found r.at i.env i.env i.after i.result i.left l.waits s.output d.1) w i.piece lt i.is.is shape i.open_place.free i.is.named i.open_place.path f)

  -- an owned value has an owned type
  pub assign_steps : StepsTyped y (moves_by now move) s t fresh.None (record { act = do_assign w (Own v); plug = λ z. wrap (plug z) })
  assign_steps =
      let z = ranked loaded.typing loaded.state t.number loaded.running i.env (i.kind ∷ i.after) i.after (Some i.kind) i.result loaded.at top_some loaded.waits in
      let tree = hand_tree z.at z.focus loaded.waits v i.left loaded.temps in
      by tree.0 i.kind refl tree.2
    where
      by : (tr : Tree) (k : Kind) → i.kind ≡ k → TreeOf (whole k) tr → StepsTyped y (moves_by now move) s t fresh.None (record { act = do_assign w (Own v); plug = λ z. wrap (plug z) })
      by tr (own o) f h = owned_by o f
      by tr (shared us) f h = absurd h
      by tr (mutable us) f h = absurd h
      by tr (view o) f h = absurd h
