-- The places to which an owned value may be assigned: over boxes alone, and through mutable references.
use Rattle.std.proofs.Common.{◌≡◌, ◌≢◌, ◌∙◌, ℕ, ◌<◌, true, false, List, length, Some, None, refl, sym, ap, subst}
use Rattle.fr_base.specs.declared.label.Plain.{Plain}
use Rattle.fr_base.specs.declared.name.MutexNo.{MutexNo}
use Rattle.fr_base.specs.declared.place.Lval.{Lval}
use Rattle.fr_typing.specs.Kinds.{Owned, unit, int, box, mutex, task, Kind, own, Piece, whole}
use Rattle.fr_typing.specs.Places.{Env, owned_shape, piece_shape, shape_at, found, type_at, write_blocked, on_path, is_mutable, is_writable, is_own_path, put_at}
use Rattle.fr_store.specs.Keys.{slot_k}
use Rattle.fr_store.specs.Store.{gone_v, ref_v}
use Rattle.fr_store.specs.Typed.{TopFits, owns, refers}
use Rattle.fr_store.specs.Below.{tree_of}
use Rattle.fr_store.specs.Thread.{place_of}
use Rattle.fr_store.proofs.Rows.{found_place, swap_through, not_to, sole}
use Rattle.fr_store.proofs.PutAt.{length_put}
use Rattle.fr_store.proofs.ThreadKept.{no_temp, unnamed_key}
use Rattle.fr_plain.specs.declared.value.Value.TheVariants.{Held}
use Rattle.fr_plain.specs.State.{slot_at}
use Rattle.fr_plain.specs.PlainState.{Running, PlainState, place_in}
use Rattle.fr_sound.specs.Entries.{Entry}
use Rattle.fr_sound.specs.States.{Typing, slot_val, env_at, is_hidden, is_held}
use Rattle.fr_code.specs.CodeTypes.{is_variable}
use Rattle.law_plain_values.specs.acts.Positions.{Position, temps_of}
use Rattle.law_plain_values.proofs.acts.Lower.{seen_as, seen_is, below_object}
use Rattle.law_plain_values.proofs.acts.OneThread.{store}
use Rattle.law_plain_values.proofs.acts.Focus.{hand_at, Focus}
use Rattle.law_plain_values.proofs.acts.Hand.{At}
use Rattle.law_plain_values.proofs.acts.Envs.{hidden_put}
use Rattle.law_plain_values.proofs.acts.Places.{variable_seen}
use Rattle.law_plain_values.proofs.acts.OwnPaths.{swapped_types, swapped_refs}
use Rattle.law_plain_values.proofs.drops.Carrier.{Carries, carrier_tree, carrier_free}
use Rattle.law_plain_values.proofs.drops.Handed.{own_part}
use Rattle.law_plain_values.proofs.drops.Placed.{stood, place, placed_typed, placed_full, placed_off, placed_nested, placed_below, placed_above, placed_parts, placed_away}
use Rattle.law_plain_values.proofs.drops.Puts.{Target}
use Rattle.law_plain_values.proofs.drops.Lent.{lent_to, loaned_self}
use Rattle.fr_store.specs.Rows.{with_type}
use Rattle.fr_store.specs.Changes.{put_tree}
use Rattle.fr_store.proofs.Keys.{key_same, key_other}

some_there : (x : Owned) → TopFits (tree_of x) gone_v → ⊥
some_there unit f = cc
some_there int f = let g = f.1 in cc
some_there (box o) f = let g = f.1 in cc
some_there (mutex o) f = let g = f.1 in cc
some_there (task o) f = let g = f.1 in cc

module _ {y : Typing} {a : PlainState Position} {t : ℕ} {r : Running Position} {e : Env} {us : List Kind} {g : Owned} {u : ℕ} {x : Owned} {v : Plain} (at : At y a t r e us g) (fc : Focus y a t e us None) (k : Carries y a u (whole (own x)) v) (differ : t ≢ u) (w : Lval) (p : Piece) (lt : w.slot < length e)
    (is : type_at e w ≡ found p) (shape : piece_shape (shape_at e) p ≡ Some (owned_shape x)) (free : write_blocked e w.slot ≡ false) where
  apart : slot_k t w.slot ≢ slot_k u 0
  apart z = let f : t ≡ u = cc in differ f

  -- OVER BOXES ALONE
  pub own_target : is_own_path e w ≡ true → Target y a t u e (put_at e w (whole (own x))) w
  own_target mine =
      let b = stood at fc k differ w p lt is shape free mine in
      let l = place at fc k differ w p lt is shape free mine b.0 b.1 b.2 b.3 b.4 in
      let q = own_part p b.0 b.1 in
      record {
        loc = l.loc;
        value = l.value;
        tree = b.0;
        part = q.0;
        types = swapped_types y.exact (slot_k u 0) (slot_k t w.slot) w.depth (tree_of x) b.2 b.0;
        at = l.at;
        there = l.there;
        fits = l.fits;
        of = q.1;
        low = q.2;
        apart = λ z. apart (below_object (store y a) (slot_k t w.slot) (slot_k u 0) w.depth (l.chain ∙ ap Some z));
        stands = λ i z h. let f = below_object (store y a) (slot_k t w.slot) (slot_k t i) w.depth (l.chain ∙ ap Some z) in let s : w.slot ≡ i = cc in subst (λ n. n < length e) s lt;
        typed = placed_typed at fc k differ w p lt is shape free mine b.0 b.1 b.2 b.3 b.4;
        full = placed_full at fc k differ w p lt is shape free mine b.0 b.1 b.2 b.3 b.4;
        refs = swapped_refs y.exact (slot_k u 0) (slot_k t w.slot) w.depth (tree_of x) b.2 b.0;
        kept = λ z flat h.
            let q = owns (put_tree w.depth (tree_of x) b.2) in
            let f : q ≡ refers true z = sym (key_same (slot_k t w.slot) q (y.exact (slot_k t w.slot))) ∙ sym (key_other (slot_k t w.slot) (slot_k u 0) (owns b.0) (with_type y.exact (slot_k t w.slot) q (slot_k t w.slot)) apart) ∙ h in
            cc;
        off = placed_off at fc k differ w p lt is shape free mine b.0 b.1 b.2 b.3 b.4;
        nested = placed_nested at fc k differ w p lt is shape free mine b.0 b.1 b.2 b.3 b.4;
        below = placed_below at fc k differ w p lt is shape free mine b.0 b.1 b.2 b.3 b.4;
        above = placed_above at fc k differ w p lt is shape free mine b.0 b.1 b.2 b.3 b.4;
        long = length_put e w (whole (own x));
        hidden = hidden_put e w (whole (own x));
        parts = placed_parts at fc k differ w p lt is shape free mine b.0 b.1 b.2 b.3 b.4;
        away = placed_away at fc k differ w p lt is shape free mine b.0 b.1 b.2 b.3 b.4;
      }

  -- THROUGH MUTABLE REFERENCES
  pub lent_target : is_variable e w.slot ≡ true → is_writable e w ≡ true → on_path is_mutable e w.slot w.depth ≡ true → Target y a t u e e w
  lent_target named path lent =
      let b = lent_to fc w p x lt is shape path lent in
      let l = found_place y.rank y.exact (store y a) true (place_of (slot_k t) w) b.0 b.1 (owns (tree_of x)) fc.thread.typed b.2 in
      let c = carrier_tree k in
      let unnamed = unnamed_key (slot_k t) y.rank (hand_at t us) e y.exact (store y a) None fc.keys fc.thread w.slot free (λ m z q. absurd (no_temp y.exact (hand_at t us) m z fc.thread.temp q)) in
      let full = c.1 ∙ ap owns c.2 in
      record {
        loc = l.loc;
        value = l.value;
        tree = tree_of x;
        part = whole (own x);
        types = y.exact;
        at = l.at;
        there = l.there;
        fits = l.fits;
        of = refl;
        low = tt;
        apart = λ z. not_to y.exact (slot_k u 0) (carrier_free k) true (slot_k t w.slot) w.depth b.0 b.1 (owns (tree_of x)) b.2 apart (below_object (store y a) b.0 (slot_k u 0) b.1 (l.chain ∙ ap Some z));
        stands = λ i z h. absurd (some_there x (subst (TopFits (tree_of x)) h l.fits));
        typed = swap_through y.rank y.exact (store y a) (slot_k u 0) (place_of (slot_k t) w) b.0 b.1 (tree_of x) l.loc fc.thread.typed (carrier_free k) (λ z. apart (sym z)) full unnamed b.2 l.at;
        full = full;
        refs = λ j m z h. h;
        kept = λ z flat h. let f : true ≡ false = sym lent ∙ ap (on_path is_mutable e w.slot) flat in cc;
        off = λ j nh ns. refl;
        nested = fc.thread.nested;
        below = fc.thread.slots;
        above = fc.thread.above;
        long = refl;
        hidden = λ i. refl;
        parts = λ i. refl;
        away = λ n i m z runs mark f.
            let value : (store y a).at (slot_k n i) ≡ ref_v (y.marks n i) = ap (slot_val temps_of y n i) runs ∙ seen_is temps_of y n i z ∙ ap (seen_as y.gives n (ref_v (y.marks n i))) mark in
            let s = sole y.rank y.exact (store y a) (place_of (slot_k t) w) b.0 b.1 b.1 (owns (tree_of x)) (slot_k n i) l.loc fc.thread.typed unnamed b.2 (value ∙ ap ref_v f) l.chain in
            marked_other n i m z runs mark (loaned_self y.exact (slot_k t w.slot) (slot_k n i) ((at.state.threads n z runs).marked i m mark).unnamed s.1);
      }
    where
      -- the variable is no mark
      marked_other : (n i : ℕ) (m : MutexNo) (z : Running Position) → place_in (a.thread n) ≡ Some z → slot_at z.slots i ≡ Some (Held m) → slot_k n i ≡ slot_k t w.slot → ⊥
      marked_other n i m z runs mark f =
          let same : n ≡ t = cc in
          let slot : i ≡ w.slot = cc in
          let again : Some r ≡ Some z = sym at.runs ∙ ap (λ d. place_in (a.thread d)) (sym same) ∙ runs in
          let is_r : z ≡ r = cc in
          let run = at.state.threads t r at.runs in
          let h : true ≡ false = sym (ap is_held (ap (λ (d : Running Position). slot_at d.slots i) (sym is_r) ∙ mark)) ∙ ap (λ d. is_held (slot_at r.slots d)) slot ∙ sym (run.hidden w.slot) ∙ ap (λ (d : Entry). is_hidden (env_at d.env w.slot)) (sym run.known ∙ at.entry) ∙ variable_seen e w.slot named in
          cc
